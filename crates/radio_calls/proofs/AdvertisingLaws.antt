-- What each return of an advertisement asks, over plain variables.
use Prim.Native.Nat.{ℕ, ◌+◌, ◌≤◌, ◌<◌}
use mathlib.Core.Path.{◌≡◌, refl, sym, ap, ◌∙◌}
use mathlib.Core.Bool.{Bool, true, false, not, ◌&&◌, ◌||◌, true≢false}
use mathlib.Core.List.{List}
use Rattle.std.specs.Prelude.{Option, None}
use native.Mathlib.Omega.{arith}
use lib.ListN.{length, get_or, set}
use lib.Dec.{eqb, ltb}
use borrow.Author.Tests.{ne_eqb, eqb-false}
use Rattle.bytes_base.specs.Choice.{pick}
use Rattle.bytes_base.proofs.SpliceLaws.{length-splice}
use Rattle.state_places.specs.Sizes.{store_size, most_keys, report_at}
use Rattle.lists.proofs.BlockLaws.{length-stored}
use Rattle.state.specs.Central.{Central}
use Rattle.state.specs.Central as parts
use Rattle.state.specs.declared.Reports.{Reports}
use Rattle.state.specs.declared.Running.{Running}
use Rattle.state_kinds.specs.Kinds.{is_scan, is_connect}
use Rattle.state_rules.specs.Gate.{gate_quiet}
use Rattle.adv_reports.specs.Key.{key, among}
use Rattle.adv_reports.specs.Reports.{report_part, asked, place_of, heard_again, again_store, heard_first, first_store, last_place, response_bytes, asked_too}
use Rattle.radio_match.specs.Matching.{scannable, listens, asks, chosen}
use Rattle.radio_match.specs.declared.AdvAction.{AdvAction}
use Rattle.radio_match.specs.declared.AdvAction.TheVariants as action
use Rattle.radio_rules.specs.Hearing.{Outcome, unchanged, then_data, Adv, line, due, refusal, acted, heard, advertised}
use Rattle.radio_rules.proofs.HearingLaws.{Passed, passed}
use Rattle.words.specs.Tables.{Tables, tables, with_reports, with_keys, who_in, heard_in, keys_in}
use Rattle.state_core.specs.declared.Core.{Core}
use Rattle.state_refusals.specs.declared.Refusal.{Refusal}
use Rattle.state_refusals.specs.Refusals.{told_number}
use Rattle.state_refusals.proofs.RefusalLaws.{same-told}
use Rattle.state_core.specs.Reading.{central_of, central}
use Rattle.central_answers.specs.declared.Answer.{Answer}
use Rattle.central_answers.specs.Answers.{Leaves}
use Rattle.radio_calls.specs.Kept.{reports_in, heard_line, kept_reports, kept_store, kept_place, Keeps}
use Rattle.radio_calls.specs.Outcomes.{outcome}

-- ---- an answer that leaves all as it is

pub told : (core : Core) (w s : List ℕ) (r : Answer Core AdvAction) (z : Option Refusal) (x : Outcome)
    → r ≡ record { state = core; refusal = z; gives = action.Nothing } → unchanged (central core w) s (told_number z) ≡ x
    → (outcome r w s ≡ x) × Leaves (told_number r.refusal) core r.state w w s s
told core w s r z x e f =
    (ap (λ (y : Answer Core AdvAction). outcome y w s) e ∙ f, λ m. (ap (λ (y : Answer Core AdvAction). y.state) e, refl, refl))

-- ---- an answer of a call that is done

pub gave : (core left : Core) (w v s t : List ℕ) (r : Answer Core AdvAction) (act : AdvAction) (x : Outcome)
    → r ≡ record { state = left; refusal = None; gives = act } → record { state = central left v; refusal = 0; action = act; store = t } ≡ x
    → (outcome r v t ≡ x) × Leaves (told_number r.refusal) core r.state w v s t
gave core left w v s t r act x e f =
    (ap (λ (y : Answer Core AdvAction). outcome y v t) e ∙ f, λ m. absurd (m (ap (λ (y : Answer Core AdvAction). told_number y.refusal) e)))

-- ---- refusals

-- where no advertisement is heard, nobody is asked
quiet : (r : Running) (pdu : ℕ) → listens r ≡ false → asks r pdu ≡ false
unfolding listens asks
quiet r pdu e = go r.active (is_scan r.step) (is_connect r.step) (scannable pdu) e
  where
    go : (a s k p : Bool) → (a && (s || k)) ≡ false → (a && s && p) ≡ false
    go true true k p e = absurd (true≢false e)
    go true false k p e = refl
    go false s k p e = refl

not-due : (c : Central) (v : Adv) → listens c.running ≡ false → (due c v && eqb c.keys.count most_keys) ≡ false
not-due c v l = rw (quiet c.running v.pdu l)

-- a call that goes on
pub record Going (c : Central) (s : List ℕ) (v : Adv) (who : ℕ) (new : Bool) : Type 0 where
  pub clear : then_data (gate_quiet c (length s) v.at) (length v.bytes) ≡ 0
  pub listening : listens c.running ≡ true
  pub keyed : who ≡ key v.address
  pub news : new ≡ due c v
  pub room : (new && eqb c.keys.count most_keys) ≡ false

module _ (c : Central) (s : List ℕ) (v : Adv) where
  pub going_of : (g why who : ℕ) (hears asking new full : Bool)
      → g ≡ gate_quiet c (length s) v.at → why ≡ then_data g (length v.bytes) → why ≡ 0
      → hears ≡ listens c.running → hears ≡ true → who ≡ key v.address
      → asking ≡ asks c.running v.pdu → new ≡ (asking && not (among who (asked c.keys)))
      → full ≡ (new && eqb c.keys.count most_keys) → full ≡ false
      → Going c s v who new
  going_of g why who hears asking new full gate then z l h k q d f n =
      record {
        clear = sym (then ∙ rw gate) ∙ z;
        listening = sym l ∙ h;
        keyed = k;
        news = d ∙ rw (q, k);
        room = sym f ∙ n;
      }

  -- what the code finds
  module _ (g why : ℕ) (gate : g ≡ gate_quiet c (length s) v.at) (then : why ≡ then_data g (length v.bytes)) where
    why-is : why ≡ then_data (gate_quiet c (length s) v.at) (length v.bytes)
    why-is = then ∙ rw gate

    pub refused-law : (why ≡ 0 → ⊥) → unchanged c s why ≡ advertised c s v
    unfolding advertised refusal
    refused-law n = rw (← why-is, ne_eqb why 0 n, ne_eqb why 0 n)

    pub open-law : why ≡ 0 → then_data (gate_quiet c (length s) v.at) (length v.bytes) ≡ 0
    open-law z = sym why-is ∙ z

  module _ (clear : then_data (gate_quiet c (length s) v.at) (length v.bytes) ≡ 0) where
    pub open-passed : Passed c (length s) v.at (length v.bytes)
    open-passed = passed c (length s) v.at (length v.bytes) clear

    -- refusal 8 alone is left
    open-refusal : (due c v && eqb c.keys.count most_keys) ≡ false → refusal c (length s) v ≡ 0
    unfolding refusal
    open-refusal f = rw (clear, f)

    pub quiet-law : (hears : Bool) → hears ≡ listens c.running → hears ≡ false → unchanged c s 0 ≡ advertised c s v
    unfolding advertised
    quiet-law hears e h = let l : listens c.running ≡ false = sym e ∙ h in rw (open-refusal (not-due c v l), l)

    pub full-law : (who : ℕ) (asking new full : Bool) → who ≡ key v.address
        → asking ≡ asks c.running v.pdu → new ≡ (asking && not (among who (asked c.keys)))
        → full ≡ (new && eqb c.keys.count most_keys) → full ≡ true → unchanged c s 8 ≡ advertised c s v
    unfolding advertised refusal
    full-law who asking new full k q d f z =
        let e : new ≡ due c v = d ∙ rw (q, k) in
        let g : (due c v && eqb c.keys.count most_keys) ≡ true = rw e at (sym f ∙ z) in
        rw (clear, g)

  heard-law : (who : ℕ) (new : Bool) → Going c s v who new → (x : Outcome) → x ≡ heard c s v → x ≡ advertised c s v
  unfolding advertised
  heard-law who new g x h =
      let f : (due c v && eqb c.keys.count most_keys) ≡ false = rw g.news at g.room in
      h ∙ rw (open-refusal g.clear f, g.listening)

-- a place for a new key
pub key-place : (c : Central) (s : List ℕ) (v : Adv) (who : ℕ) (new : Bool) → Going c s v who new → new ≡ true → c.keys.count ≤ most_keys → c.keys.count < most_keys
key-place c s v who new g z h =
    let n = eqb-false c.keys.count most_keys (rw z at g.room) in
    omega (arith, n)

-- ---- what is done with a report

module _ (c : Central) (v : Adv) (r : Reports) (s : List ℕ) (i who : ℕ) (new : Bool) (news : new ≡ due c v) (keyed : who ≡ key v.address) where
  asked-law : new ≡ true
      → record { state = parts.with_keys (parts.with_reports c r) (asked_too c.keys who); refusal = 0; action = action.ScanRequest; store = s } ≡ acted c v r s i
  unfolding acted
  asked-law z = rw (sym news ∙ z, keyed)

  chosen-law : (len : ℕ) (act : AdvAction) → new ≡ false → len ≡ get_or r.heard.response i 0
      → act ≡ chosen c.running.step who v.bytes (response_bytes s i len) v.pdu v.us
      → record { state = parts.with_reports c r; refusal = 0; action = act; store = s } ≡ acted c v r s i
  unfolding acted
  chosen-law len act z l e = rw (sym news ∙ z, e, keyed, l)

-- the report is kept, and then
kept-heard : (c : Central) (s : List ℕ) (v : Adv)
    → acted c v (kept_reports c.reports (line v)) (kept_store c.reports (key v.address) v.bytes s) (kept_place c.reports (key v.address)) ≡ heard c s v
unfolding kept_reports kept_store kept_place heard
kept-heard c s v = go (place_of c.reports (key v.address)) (ltb (place_of c.reports (key v.address)) c.reports.count)
  where
    go : (i : ℕ) (b : Bool)
        → acted c v (pick b (heard_again c.reports i (line v)) (heard_first c.reports (line v)))
        (pick b (again_store i v.bytes s) (first_store c.reports.count v.bytes s)) (pick b i (last_place c.reports.count))
        ≡ pick b (acted c v (heard_again c.reports i (line v)) (again_store i v.bytes s) i)
        (acted c v (heard_first c.reports (line v)) (first_store c.reports.count v.bytes s) (last_place c.reports.count))
    go i true = refl
    go i false = refl

acted-same : (c : Central) (v : Adv) (r r' : Reports) (s s' : List ℕ) (i i' : ℕ) → r ≡ r' → s ≡ s' → i ≡ i' → acted c v r s i ≡ acted c v r' s' i'
acted-same c v r r' s s' i i' e f g = rw (e, f, g)

-- ---- the report is kept in the words, and then

abbrev pub with_count : Core → ℕ → Core
with_count c n =
    record { running = c.running; bearer = c.bearer; counters = c.counters; counts = c.counts; reports = n; key_count = c.key_count; options = c.options }

abbrev pub with_asked : Core → ℕ → ℕ → Core
with_asked c n k =
    record { running = c.running; bearer = c.bearer; counters = c.counters; counts = c.counts; reports = n; key_count = k; options = c.options }

module _ (core : Core) (w v s s' : List ℕ) (a : Adv) (who : ℕ) (new : Bool) (g : Going (central core w) s a who new) (n place response : ℕ)
    (p : Keeps w v s s' a.bytes core.reports (heard_line who a.at a.channel a.pdu a.bytes) n place response) where
  put : acted (central core w) a (reports_in v n) s' place ≡ heard (central core w) s a
  put =
      acted-same (central core w) a _ _ _ _ _ _
      (p.reports ∙ ap (λ (k : ℕ). kept_reports (reports_in w core.reports) (heard_line k a.at a.channel a.pdu a.bytes)) g.keyed)
      (p.bytes ∙ ap (λ (k : ℕ). kept_store (reports_in w core.reports) k a.bytes s) g.keyed)
      (p.placed ∙ ap (kept_place (reports_in w core.reports)) g.keyed)
      ∙ kept-heard (central core w) s a

  same_keys : keys_in v ≡ keys_in w
  same_keys = ap (λ (t : Tables). t.keys) p.others

  with-key : (u : List ℕ) → tables u ≡ with_keys (tables v) (set (keys_in v) core.key_count who)
      → tables u ≡ with_keys (with_reports (tables w) (who_in v) (heard_in v)) (set (keys_in w) core.key_count who)
  with-key u e =
      e
      ∙ ap (λ (t : Tables). with_keys t (set (keys_in v) core.key_count who)) p.others
      ∙ ap (λ (l : List ℕ). with_keys (with_reports (tables w) (who_in v) (heard_in v)) (set l core.key_count who)) same_keys

  pub put-asked : (u : List ℕ) → new ≡ true → tables u ≡ with_keys (tables v) (set (keys_in v) core.key_count who)
      → record { state = central (with_asked core n (core.key_count + 1)) u; refusal = 0; action = action.ScanRequest; store = s' } ≡ advertised (central core w) s a
  put-asked u z e =
      let c : Central = central core w in
      heard-law c s a who new g _
      (ap (λ (t : Tables). record { state = central_of (with_asked core n (core.key_count + 1)) t; refusal = 0; action = action.ScanRequest; store = s' }) (with-key u e)
      ∙ asked-law c a (reports_in v n) s' place who new g.news g.keyed z
      ∙ put)

  pub put-chosen : (act : AdvAction) → new ≡ false
      → act ≡ chosen core.running.step who a.bytes (response_bytes s' place response) a.pdu a.us
      → record { state = central (with_count core n) v; refusal = 0; action = act; store = s' } ≡ advertised (central core w) s a
  put-chosen act z e =
      let c : Central = central core w in
      heard-law c s a who new g _
      (ap (λ (t : Tables). record { state = central_of (with_count core n) t; refusal = 0; action = act; store = s' }) p.others
      ∙ chosen-law c a (reports_in v n) s' place who new g.news g.keyed response act z p.answer e
      ∙ put)

-- ---- lengths

pub store_length : (r : Reports) (who : ℕ) (d s t : List ℕ) → t ≡ kept_store r who d s → length s ≡ store_size → length t ≡ store_size
unfolding kept_store
store_length r who d s t e h = ap length e ∙ go (ltb (place_of r who) r.count) ∙ h
  where
    go : (b : Bool) → length (pick b (again_store (place_of r who) d s) (first_store r.count d s)) ≡ length s
    go true = length-splice s (report_at (place_of r who)) d 0 (length d)
    go false = length-stored report_part r.count d 0 (length d) s

-- ---- the contract leaves no second outcome

core_of : Central → Core
core_of c =
    record {
      running = c.running;
      bearer = c.bearer;
      counters = c.counters;
      counts = record {
        waiting = c.queue.count;
        results = c.results.count;
        services = c.services.count;
        characteristics = c.characteristics.count;
        notifications = c.notifications.count;
      };
      reports = c.reports.count;
      key_count = c.keys.count;
      options = c.options;
    }

pub one-advertised : (a b : Answer Core AdvAction) (w v s t : List ℕ) (x : Outcome) → outcome a w s ≡ x → outcome b v t ≡ x → (a ≡ b) × (s ≡ t)
unfolding core_of
one-advertised a b w v s t x e f =
    let same : outcome a w s ≡ outcome b v t = e ∙ sym f in (
      λ i. record {
        state = ap (λ (y : Outcome). core_of y.state) same i;
        refusal = same-told a.refusal b.refusal (ap (λ (y : Outcome). y.refusal) same) i;
        gives = ap (λ (y : Outcome). y.action) same i;
      },
      ap (λ (y : Outcome). y.store) same,
    )
