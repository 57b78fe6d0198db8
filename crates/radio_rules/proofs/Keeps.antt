-- Fit goes to fit; the arrays and the store keep their sizes.
use Prim.Native.Nat.{ℕ, zero, suc, ◌+◌, ◌≤◌, min}
use mathlib.Core.Path.{◌≡◌, refl, ap, ◌∙◌}
use mathlib.Core.Bool.{Bool, true, false, ◌&&◌}
use mathlib.Core.List.{List, [], ◌∷◌}
use native.Mathlib.Omega.{arith}
use lib.ListN.{length, take, set, length-set}
use lib.Seq.{length-take-le}
use lib.Dec.{eqb, ltb, leb}
use borrow.Author.Tests.{le-leb, eqb-true, eqb-false}
use Rattle.bytes_base.specs.Choice.{pick}
use Rattle.bytes_base.proofs.SpliceLaws.{length-splice}
use Rattle.state_places.specs.Sizes.{most_keys, data_size, report_at, response_at}
use Rattle.lists.specs.Queue.{all, pushed}
use Rattle.lists.proofs.QueueLaws.{length-pushed, pushed-within, take-onto, length-onto, all-pushed}
use Rattle.lists.proofs.ScanLaws.{all_head, all_tail, all_cons}
use Rattle.lists.proofs.BlockLaws.{length-stored}
use Rattle.time.specs.declared.Micros.{Micros}
use Rattle.state.specs.Central.{Central, with_reports}
use Rattle.state.specs.declared.Address.{Address}
use Rattle.state.specs.declared.Reports.{Reports}
use Rattle.state_rules.specs.Fit.{lengths_fit, data_lengths, response_lengths}
use Rattle.state_rules.specs.Facts.{Fit}
use Rattle.state_rules.proofs.FitLaws.{fit-reports, fit-keys}
use Rattle.state_rules.specs.Gate.{gate_quiet}
use Rattle.adv_reports.specs.Reports.{report_part, no_response, Line, heard_again, again_store, behind, heard_first, first_store, responded, asked_too, place_of, last_place}
use Rattle.adv_reports.specs.Whole.{Whole}
use Rattle.adv_reports.specs.Key.{key}
use Rattle.radio_match.specs.Matching.{listens}
use Rattle.radio_rules.specs.Hearing.{Outcome, unchanged, then_data, Adv, line, due, refusal, requested, weighed, acted, heard, advertised, response_refusal, answered, scan_responded}
use Rattle.radio_rules.proofs.HearingLaws.{passed}

-- ---- lengths in an array

-- one of an array replaced
all_set : {A : Type 0} (f : A → Bool) (n i : ℕ) (l : List A) (x : A) → all f (take n l) ≡ true → f x ≡ true → all f (take n (set l i x)) ≡ true
all_set f n i [] x e g = e
all_set f zero zero (y ∷ l) x e g = e
all_set f zero (suc i) (y ∷ l) x e g = e
all_set f (suc n) zero (y ∷ l) x e g = all_cons f x (take n l) g (all_tail f y (take n l) e)
all_set f (suc n) (suc i) (y ∷ l) x e g =
    all_cons f y (take n (set l i x)) (all_head f y (take n l) e) (all_set f n i l x (all_tail f y (take n l) e) g)

within-set : (most n i : ℕ) (l : List ℕ) (x : ℕ) → lengths_fit most (take n l) ≡ true → x ≤ most → lengths_fit most (take n (set l i x)) ≡ true
within-set most n i l x e h = all_set (λ (k : ℕ). leb k most) n i l x e (le-leb x most h)

-- one behind the others
live-behind : (count : ℕ) (a : List ℕ) (x : ℕ) → length a ≡ 64 → count ≤ 64 → take (min (count + 1) 64) (behind count a x) ≡ pushed 64 (take count a) x
live-behind count a x e h =
    let n : min (count + 1) 64 ≡ length (pushed 64 (take count a) x) = omega (arith, length-pushed 64 (take count a) x, length-take-le count a (omega arith)) in
    ap (λ (k : ℕ). take k (behind count a x)) n ∙ take-onto a (pushed 64 (take count a) x)

within-behind : (most count : ℕ) (a : List ℕ) (x : ℕ) → length a ≡ 64 → count ≤ 64 → lengths_fit most (take count a) ≡ true → x ≤ most → lengths_fit most (take (min (count + 1) 64) (behind count a x)) ≡ true
within-behind most count a x e h f g =
    rw (live-behind count a x e h) (all-pushed (λ (k : ℕ). leb k most) 64 (take count a) x f (le-leb x most g))

length-behind : {A : Type 0} (count : ℕ) (a : List A) (x : A) → length a ≡ 64 → length (behind count a x) ≡ 64
length-behind count a x e = length-onto a (pushed 64 (take count a) x) (omega (arith, pushed-within 64 (take count a) x)) ∙ e

-- ---- reports

-- reports of a fit state, in arrays of their size
record Kept (r : Reports) : Type 0 where
  few : r.count ≤ 64
  lengths : lengths_fit data_size (data_lengths r) ≡ true
  responses : lengths_fit no_response (response_lengths r) ≡ true
  whole : Whole r

keeps-again : (r : Reports) (i : ℕ) (l : Line) → Kept r → l.len ≤ data_size → Kept (heard_again r i l)
keeps-again r i l k h =
    record {
      few = k.few;
      lengths = within-set data_size r.count i r.heard.len l.len k.lengths h;
      responses = k.responses;
      whole = record {
        who = k.whole.who;
        at = length-set r.heard.at i l.at ∙ k.whole.at;
        channel = length-set r.heard.channel i l.channel ∙ k.whole.channel;
        pdu = length-set r.heard.pdu i l.pdu ∙ k.whole.pdu;
        len = length-set r.heard.len i l.len ∙ k.whole.len;
        response = k.whole.response;
      };
    }

keeps-first : (r : Reports) (l : Line) → Kept r → l.len ≤ data_size → Kept (heard_first r l)
unfolding heard_first
keeps-first r l k h =
    record {
      few = omega arith;
      lengths = within-behind data_size r.count r.heard.len l.len k.whole.len k.few k.lengths h;
      responses = within-behind no_response r.count r.heard.response no_response k.whole.response k.few k.responses (omega arith);
      whole = record {
        who = length-behind r.count r.who l.who k.whole.who;
        at = length-behind r.count r.heard.at l.at k.whole.at;
        channel = length-behind r.count r.heard.channel l.channel k.whole.channel;
        pdu = length-behind r.count r.heard.pdu l.pdu k.whole.pdu;
        len = length-behind r.count r.heard.len l.len k.whole.len;
        response = length-behind r.count r.heard.response no_response k.whole.response;
      };
    }

keeps-response : (r : Reports) (i : ℕ) (at : Micros) (n : ℕ) → Kept r → n ≤ data_size → Kept (responded r i at n)
keeps-response r i at n k h =
    record {
      few = k.few;
      lengths = k.lengths;
      responses = within-set no_response r.count i r.heard.response n k.responses (omega arith);
      whole = record {
        who = k.whole.who;
        at = length-set r.heard.at i at ∙ k.whole.at;
        channel = k.whole.channel;
        pdu = k.whole.pdu;
        len = k.whole.len;
        response = length-set r.heard.response i n ∙ k.whole.response;
      };
    }

-- ---- outcomes

-- what a call leaves is fit, and its arrays and the n bytes of its store have their sizes
pub record Sound (n : ℕ) (x : Outcome) : Type 0 where
  pub fit : Fit x.state
  pub whole : Whole x.state.reports
  pub keys : length x.state.keys.kept ≡ 128
  pub store : length x.store ≡ n

kept_of : (c : Central) → Fit c → Whole c.reports → Kept c.reports
kept_of c f w = record { few = f.head.reports; lengths = f.lengths; responses = f.responses; whole = w }

with-kept : (c : Central) (r : Reports) → Fit c → Kept r → Fit (with_reports c r)
with-kept c r f k = fit-reports c r f k.few k.lengths k.responses

-- what a refusal of 0 has shown
refusal-none : (c : Central) (n : ℕ) (v : Adv) → refusal c n v ≡ 0
    → (then_data (gate_quiet c n v.at) (length v.bytes) ≡ 0) × ((due c v && eqb c.keys.count most_keys) ≡ false)
unfolding refusal
refusal-none c n v e = go (then_data (gate_quiet c n v.at) (length v.bytes)) (eqb (then_data (gate_quiet c n v.at) (length v.bytes)) 0) refl (due c v && eqb c.keys.count most_keys) e
  where
    go : (why : ℕ) (x : Bool) → eqb why 0 ≡ x → (y : Bool) → ◌≡◌ {A = ℕ} (pick x (pick y 8 0) why) 0 → (why ≡ 0) × (y ≡ false)
    go why true ex true h = absurd (omega arith)
    go why true ex false h = (eqb-true why 0 ex, refl)
    go why false ex y h = absurd (eqb-false why 0 ex h)

module _ (c : Central) (s : List ℕ) (f : Fit c) (w : Whole c.reports) (l : length c.keys.kept ≡ 128) where
  acted-sound : (v : Adv) (r : Reports) (s' : List ℕ) (i : ℕ) → Kept r → length s' ≡ length s → (due c v && eqb c.keys.count most_keys) ≡ false → Sound (length s) (acted c v r s' i)
  unfolding acted
  acted-sound v r s' i k e h = go (due c v) h
    where
      go : (b : Bool) → (b && eqb c.keys.count most_keys) ≡ false → Sound (length s) (pick b (requested c v r s') (weighed c v r s' i))
      go true z =
          let n = eqb-false c.keys.count most_keys z in
          record { fit = fit-keys (with_reports c r) (asked_too c.keys (key v.address)) (with-kept c r f k) (omega (arith, n, f.head.keys)); whole = k.whole; keys = length-set c.keys.kept c.keys.count (key v.address) ∙ l; store = e }
      go false z = record { fit = with-kept c r f k; whole = k.whole; keys = l; store = e }

  heard-sound : (v : Adv) → length v.bytes ≤ data_size → (due c v && eqb c.keys.count most_keys) ≡ false → Sound (length s) (heard c s v)
  unfolding heard
  heard-sound v h d = go (place_of c.reports (key v.address)) (ltb (place_of c.reports (key v.address)) c.reports.count)
    where
      go : (i : ℕ) (b : Bool)
          → Sound (length s)
          (pick b (acted c v (heard_again c.reports i (line v)) (again_store i v.bytes s) i)
          (acted c v (heard_first c.reports (line v)) (first_store c.reports.count v.bytes s) (last_place c.reports.count)))
      go i true =
          acted-sound v (heard_again c.reports i (line v)) (again_store i v.bytes s) i (keeps-again c.reports i (line v) (kept_of c f w) h)
          (length-splice s (report_at i) v.bytes 0 (length v.bytes)) d
      go i false =
          acted-sound v (heard_first c.reports (line v)) (first_store c.reports.count v.bytes s) (last_place c.reports.count) (keeps-first c.reports (line v) (kept_of c f w) h)
          (length-stored report_part c.reports.count v.bytes 0 (length v.bytes) s) d

  -- an advertisement
  pub advertised-sound : (v : Adv) → Sound (length s) (advertised c s v)
  unfolding advertised
  advertised-sound v = go (eqb (refusal c (length s) v) 0) refl (listens c.running)
    where
      go : (b : Bool) → eqb (refusal c (length s) v) 0 ≡ b → (k : Bool)
          → Sound (length s) (pick b (pick k (heard c s v) (unchanged c s 0)) (unchanged c s (refusal c (length s) v)))
      go true e true =
          let r = refusal-none c (length s) v (eqb-true (refusal c (length s) v) 0 e) in
          heard-sound v (passed c (length s) v.at (length v.bytes) r.0).short r.1
      go true e false = record { fit = f; whole = w; keys = l; store = refl }
      go false e k = record { fit = f; whole = w; keys = l; store = refl }

  -- a scan response
  pub responded-sound : (at : Micros) (a : Address) (d : List ℕ) → Sound (length s) (scan_responded c s at a d)
  unfolding scan_responded
  responded-sound at a d = go (place_of c.reports (key a)) (eqb (response_refusal c (length s) at (length d)) 0) refl (ltb (place_of c.reports (key a)) c.reports.count)
    where
      go : (i : ℕ) (b : Bool) → eqb (response_refusal c (length s) at (length d)) 0 ≡ b → (k : Bool)
          → Sound (length s) (pick b (pick k (answered c s at d i) (unchanged c s 0)) (unchanged c s (response_refusal c (length s) at (length d))))
      go i true e true =
          let p = passed c (length s) at (length d) (eqb-true (response_refusal c (length s) at (length d)) 0 e) in
          let k = keeps-response c.reports i at (length d) (kept_of c f w) p.short in
          record { fit = with-kept c (responded c.reports i at (length d)) f k; whole = k.whole; keys = l; store = length-splice s (response_at i) d 0 (length d) }
      go i true e false = record { fit = f; whole = w; keys = l; store = refl }
      go i false e k = record { fit = f; whole = w; keys = l; store = refl }
