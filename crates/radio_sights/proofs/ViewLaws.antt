-- What each return of the view asks, and that its parts lie in the store.
use Prim.Native.Nat.{ℕ, ◌+◌, ◌-◌, ◌≤◌, ◌<◌}
use mathlib.Core.Path.{◌≡◌, refl, sym, ap, ◌∙◌}
use mathlib.Core.Bool.{Bool, true, false}
use mathlib.Core.List.{List}
use native.Mathlib.Omega.{arith}
use lib.ListN.{length, take, drop, get_or}
use denote.Ref.{Bor}
use lib.Dec.{eqb, ltb, leb}
use borrow.Author.Tests.{lt-ltb, le-ltb, eqb-true, ltb-true, leb-true}
use Rattle.bytes_base.specs.Choice.{pick}
use Rattle.state_places.specs.Sizes.{store_size, data_size, response_at, most_reports}
use Rattle.lists.proofs.ScanLaws.{all-at}
use Rattle.adv_data.specs.Body.{listed_body, listed_at}
use Rattle.state.specs.Central.{Central}
use Rattle.state.specs.declared.Reports.{Reports}
use Rattle.state_rules.specs.Facts.{Fit}
use Rattle.state_rules.specs.Gate.{gate_reader}
use Rattle.state_rules.specs.Fit.{fits}
use Rattle.state_rules.proofs.GateLaws.{PassedReader, passed-reader}
use Rattle.state_rules.proofs.PastGate.{refuses-by, tells-by, refusal-by}
use Rattle.state_refusals.specs.declared.Refusal.{Refusal}
use Rattle.state_refusals.specs.Refusals.{accepted, number}
use Rattle.state_refusals.specs.Refused.{refused, refusal_number}
use Rattle.std.specs.Prelude.{Option, None, Some, Result, Ok, Err}
use Rattle.bytes_bounds.specs.declared.Span.{Span}
use Rattle.radio_sights.specs.declared.AdvReport.{AdvReport}
use Rattle.radio_sights.specs.View.{span, response_in, report_of, view, data_in, span_of, answer_in, part, part_at, body_seen, body_seen_at}

abbrev Seen : Type 0
Seen = Result (Option AdvReport) Refusal

-- ---- the ways to an answer

module _ (c : Central) (store i : ℕ) where
  pub view-refused : (why : Refusal) → number why ≡ gate_reader c store → Err why ≡ view c store i
  unfolding view
  view-refused why e = refuses-by (gate_reader c store) (pick (ltb i c.reports.count) (Some (report_of c.reports i)) None) why e

  module _ (e : accepted ≡ gate_reader c store) (r : Reports) (f : r ≡ c.reports) where
    pub view-passed : PassedReader c store
    view-passed = passed-reader c store (sym e)

    pub view-few : r.count ≤ most_reports
    view-few = let n : r.count ≡ c.reports.count = ap (λ (x : Reports). x.count) f in omega (arith, view-passed.fit.head.reports)

    pub view-nothing : r.count ≤ i → Ok None ≡ view c store i
    unfolding view
    view-nothing h =
        let m : c.reports.count ≤ i = rw f at h in
        tells-by (gate_reader c store) (pick (ltb i c.reports.count) (Some (report_of c.reports i)) None) None e (rw (le-ltb i c.reports.count m))

    pub view-seen : (x : AdvReport) → i < r.count → x ≡ report_of r i → Ok (Some x) ≡ view c store i
    unfolding view
    view-seen x h g =
        let m : i < c.reports.count = rw f at h in
        tells-by (gate_reader c store) (pick (ltb i c.reports.count) (Some (report_of c.reports i)) None) (Some x) e (rw (lt-ltb i c.reports.count m, g, f))

-- ---- what is seen lies in the store

pub record Inside (x : Seen) (n : ℕ) : Type 0 where
  pub bytes : (data_in x).at + (data_in x).len ≤ n
  pub answer : (answer_in x).at + (answer_in x).len ≤ n

data-short : (r : Reports) (i : ℕ) (c : Central) → c.reports ≡ r → Fit c → length r.heard.len ≡ 64 → i < r.count → get_or r.heard.len i 0 ≤ data_size
data-short r i c e f l h =
    let n : c.reports.count ≡ r.count = ap (λ (x : Reports). x.count) e in
    leb-true (get_or r.heard.len i 0) data_size
    (all-at (λ (k : ℕ). leb k data_size) r.heard.len r.count i 0 h (omega (arith, f.head.reports)) (rw e at f.lengths))

answer-inside : (i n : ℕ) → i < 64 → (span_of (response_in i n)).at + (span_of (response_in i n)).len ≤ store_size
answer-inside i n h = go (leb n data_size) refl
  where
    go : (b : Bool) → leb n data_size ≡ b → (span_of (pick b (Some (span (response_at i) n)) None)).at + (span_of (pick b (Some (span (response_at i) n)) None)).len ≤ store_size
    go true e = omega (arith, leb-true n data_size e)
    go false e = omega arith

pub view-inside : (c : Central) (store i : ℕ) → length c.reports.heard.len ≡ 64 → Inside (view c store i) store
unfolding view
view-inside c store i l = go (eqb (gate_reader c store) 0) refl (ltb i c.reports.count) refl
  where
    go : (a : Bool) → eqb (gate_reader c store) 0 ≡ a → (b : Bool) → ltb i c.reports.count ≡ b
        → Inside (pick a (Ok (pick b (Some (report_of c.reports i)) None)) (refused (gate_reader c store))) store
    go true ea true eb =
        let p = passed-reader c store (eqb-true (gate_reader c store) 0 ea) in
        let h = ltb-true i c.reports.count eb in
        let d = data-short c.reports i c refl p.fit l h in
        let k : i < 64 = omega (arith, p.fit.head.reports) in
        record { bytes = omega (arith, p.store); answer = omega (arith, p.store, answer-inside i (get_or c.reports.heard.response i 0) k) }
    go true ea false eb = record { bytes = omega arith; answer = omega arith }
    go false ea b eb = record { bytes = omega arith; answer = omega arith }

-- ---- what the code puts together

module _ (c : Central) (store i : ℕ) (l : length c.reports.heard.len ≡ 64) (x : Seen) (d : Span) (e : x ≡ view c store i) where
  pub data-fits : d ≡ data_in x → d.at + d.len ≤ store
  data-fits f = rw (f, e) (view-inside c store i l).bytes

  pub answer-fits : d ≡ answer_in x → d.at + d.len ≤ store
  answer-fits f = rw (f, e) (view-inside c store i l).answer

pub part-told : (s : List ℕ) (p : ℕ × ℕ) (d e : Span) → d ≡ e → (take (d.at + d.len - d.at) (drop d.at s) ≡ part s e) × ((p.0, d.at + p.1) ≡ part_at p e)
part-told s p d e f =
    let k : d.at + d.len - d.at ≡ d.len = omega arith in
    (ap (λ (n : ℕ). take n (drop d.at s)) k ∙ ap (part s) f, ap (part_at p) f)

pub body-told : (u : ℕ) (s : List ℕ) (p : ℕ × ℕ) (x : Seen) (d r : Bor (List ℕ)) → d.now ≡ part s (data_in x) → d.ref_ptr ≡ part_at p (data_in x) → r.now ≡ part s (answer_in x) → r.ref_ptr ≡ part_at p (answer_in x)
    → (b : List ℕ) (q : ℕ × ℕ) → b ≡ listed_body u d.now r.now → q ≡ listed_at u d r → (b ≡ body_seen u s x) × (q ≡ body_seen_at u s p x)
body-told u s p x d r e₁ e₂ e₃ e₄ b q f g = (f ∙ rw (e₁, e₃), g ∙ rw (e₁, e₂, e₃, e₄))

-- ---- the refusal of what is seen is the gate's

pub view-refusal : (c : Central) (store i : ℕ) → refusal_number (view c store i) ≡ gate_reader c store
unfolding view
view-refusal c store i = refusal-by (pick (ltb i c.reports.count) (Some (report_of c.reports i)) None) (fits c) (eqb store store_size) true
