-- An advertisement and a scan response, heard with states that differ in dead places alone.
use Prim.Native.Nat.{ℕ, ◌≤◌, ◌<◌}
use mathlib.Core.Path.{◌≡◌, refl, sym, ap, ◌∙◌}
use mathlib.Core.Bool.{Bool, true, false, not, ◌&&◌}
use mathlib.Core.List.{List}
use native.Mathlib.Omega.{arith}
use lib.ListN.{length}
use lib.Dec.{eqb, ltb}
use borrow.Author.Tests.{eqb-true, eqb-false, ltb-true}
use Rattle.bytes_base.specs.Choice.{pick}
use Rattle.state_places.specs.Sizes.{store_size, most_keys}
use Rattle.time.specs.declared.Micros.{Micros}
use Rattle.time.specs.Clock.{too_late}
use Rattle.state.specs.Central.{Central, with_reports, with_keys}
use Rattle.state.specs.declared.Address.{Address}
use Rattle.state.specs.declared.Reports.{Reports}
use Rattle.state_rules.specs.Gate.{first_refusal, gate_quiet}
use Rattle.state_rules.specs.Refusals.{accepted, keys_full}
use Rattle.adv_reports.specs.Key.{key, among, seek}
use Rattle.adv_reports.specs.Reports.{place_of, heard_again, again_store, heard_first, first_store, last_place, response_store, response_of}
use Rattle.radio_match.specs.Matching.{listens, asks, chosen}
use Rattle.radio_match.specs.declared.AdvAction.TheVariants as action
use Rattle.radio_rules.specs.Hearing.{Outcome, unchanged, then_data, Adv, line, no_key, due, refusal, requested, weighed, acted, heard, advertised, response_refusal, answered, scan_responded}
use Rattle.radio_rules.proofs.HearingLaws.{passed}
use Rattle.thm_reading.specs.Live.{live_reports, live, Alike}
use Rattle.thm_reading.specs.Dead.{Sized}
use Rattle.thm_reading.proofs.Tables.{cut_twice, live-twice}
use Rattle.thm_reading.proofs.Blind.{pick-if, pick-both}
use Rattle.thm_reading.proofs.Gates.{fits-blind}
use Rattle.thm_reading.proofs.Reports.{again_cut, again-response, first-cut, first-response, responded-cut, also, asked-cut}

abbrev pub live_heard : Outcome → Outcome
live_heard o = record { state = live o.state; refusal = o.refusal; action = o.action; store = o.store }

unchanged-blind : (c : Central) (s : List ℕ) (n : ℕ) → live_heard (unchanged c s n) ≡ live_heard (unchanged (live c) s n)
unchanged-blind c s n = λ i. record { state = sym (live-twice c) i; refusal = n; action = action.Nothing; store = s }

by_place : {X : Type 0} (f : ℕ → X) (r : Reports) (who : ℕ) → f (place_of r who) ≡ f (place_of (live_reports r) who)
by_place f r who = ap (λ (l : List ℕ). f (seek who l)) (sym (cut_twice r.count r.who))

-- refusals 1 to 3, by whether the state is fit
quiet-gate-blind : (c : Central) (store : ℕ) (at : Micros) → gate_quiet c store at ≡ gate_quiet (live c) store at
quiet-gate-blind c store at = ap (λ (f : Bool). first_refusal f (eqb store store_size) (not (too_late at))) (fits-blind c)

-- ---- an advertisement

module _ (v : Adv) where
  due-blind : (c : Central) → due c v ≡ due (live c) v
  due-blind c = ap (λ (l : List ℕ). asks c.running v.pdu && not (among (key v.address) l)) (sym (cut_twice c.keys.count c.keys.kept))

  refusal-blind : (c : Central) (n : ℕ) → refusal c n v ≡ refusal (live c) n v
  unfolding refusal
  refusal-blind c n = λ i. from (quiet-gate-blind c n v.at i) (due-blind c i)
    where
      from : ℕ → Bool → ℕ
      from g new =
          let why = then_data g (length v.bytes) in
          pick (eqb why accepted) (pick (no_key new c.keys.count) keys_full accepted) why

  -- what is left, where there is a place for one key more
  abbrev requested-also : Central → Reports → List ℕ → Outcome
  requested-also c r s =
      record { state = with_keys (with_reports c r) (also c.keys (key v.address)); refusal = accepted; action = action.ScanRequest; store = s }

  abbrev acted-also : Central → Reports → List ℕ → ℕ → Outcome
  acted-also c r s i = pick (due c v) (requested-also c r s) (weighed c v r s i)

  abbrev heard-also : Central → List ℕ → ℕ → Outcome
  heard-also c s i =
      let r = c.reports in
      pick (ltb i r.count)
      (acted-also c (heard_again r i (line v)) (again_store i v.bytes s) i)
      (acted-also c (heard_first r (line v)) (first_store r.count v.bytes s) (last_place r.count))

  module _ (c : Central) (room : due c v ≡ true → c.keys.count < length c.keys.kept) where
    acted-cut : (r q : Reports) (s : List ℕ) (i : ℕ) → live_reports r ≡ live_reports q → response_of r s i ≡ response_of q s i
        → live_heard (acted c v r s i) ≡ live_heard (acted-also (live c) q s i)
    unfolding acted
    acted-cut r q s i e f =
        pick-if live_heard (due c v) (due (live c) v)
        (requested c v r s) (weighed c v r s i) (requested-also (live c) q s) (weighed (live c) v q s i)
        (due-blind c)
        (λ h k.
        record {
          state = with_keys (with_reports (sym (live-twice c) k) (e k)) (asked-cut c.keys (key v.address) (room h) k);
          refusal = accepted;
          action = action.ScanRequest;
          store = s;
        })
        (λ k.
        record {
          state = with_reports (sym (live-twice c) k) (e k);
          refusal = accepted;
          action = chosen c.running.step (key v.address) v.bytes (f k) v.pdu v.us;
          store = s;
        })

    heard-cut : (s : List ℕ) → live_heard (heard c s v) ≡ live_heard (heard-also (live c) s (place_of (live c).reports (key v.address)))
    unfolding heard
    heard-cut s =
        let r : Reports = c.reports in
        let q : Reports = live_reports r in
        let i : ℕ = place_of r (key v.address) in
        let t : List ℕ = again_store i v.bytes s in
        let u : List ℕ = first_store r.count v.bytes s in
        let last : ℕ = last_place r.count in
        pick-if live_heard (ltb i r.count) (ltb i r.count)
        (acted c v (heard_again r i (line v)) t i) (acted c v (heard_first r (line v)) u last)
        (acted-also (live c) (heard_again q i (line v)) t i) (acted-also (live c) (heard_first q (line v)) u last)
        refl
        (λ h. acted-cut (heard_again r i (line v)) (heard_again q i (line v)) t i (again_cut r i (line v)) (again-response r i (line v) t (ltb-true i r.count h)))
        (acted-cut (heard_first r (line v)) (heard_first q (line v)) u last (first-cut r (line v)) (first-response r (line v) u))
        ∙ by_place (λ j. live_heard (heard-also (live c) s j)) r (key v.address)

  -- an advertisement that is not refused finds a place
  room : (c : Central) (n : ℕ) → Sized c → refusal c n v ≡ accepted → due c v ≡ true → c.keys.count < length c.keys.kept
  unfolding refusal
  room c n sized e h =
      let g : ℕ = gate_quiet c n v.at in
      let why : ℕ = then_data g (length v.bytes) in
      let p : (why ≡ accepted) × (no_key (due c v) c.keys.count ≡ false) = neither why (eqb why accepted) refl (no_key (due c v) c.keys.count) e in
      let most : c.keys.count ≤ most_keys = (passed c n v.at (length v.bytes) p.0).gate.fit.head.keys in
      let free : eqb c.keys.count most_keys ≡ false = sym (ap (λ (b : Bool). b && eqb c.keys.count most_keys) h) ∙ p.1 in
      below c.keys.count most_keys (length c.keys.kept) most (eqb-false c.keys.count most_keys free) sized
    where
      neither : (why : ℕ) (x : Bool) → eqb why accepted ≡ x → (y : Bool) → ◌≡◌ {A = ℕ} (pick x (pick y keys_full accepted) why) accepted → (why ≡ accepted) × (y ≡ false)
      neither why true ex true z = absurd (omega arith)
      neither why true ex false z = (eqb-true why accepted ex, refl)
      neither why false ex y z = absurd (eqb-false why accepted ex z)

      below : (k m l : ℕ) → k ≤ m → (k ≡ m → ⊥) → l ≡ m → k < l
      below k m l few other e = omega (arith, other)

  module _ (c d : Central) (p : Sized c) (q : Sized d) (alike : Alike c d) (s : List ℕ) where
    same-refusal : refusal c (length s) v ≡ refusal d (length s) v
    same-refusal = refusal-blind c (length s) ∙ ap (λ (x : Central). refusal x (length s) v) alike ∙ sym (refusal-blind d (length s))

    -- it is heard
    heard-alike : refusal c (length s) v ≡ accepted → live_heard (heard c s v) ≡ live_heard (heard d s v)
    heard-alike e =
        heard-cut c (room c (length s) p e) s
        ∙ ap (λ (x : Central). live_heard (heard-also x s (place_of x.reports (key v.address)))) alike
        ∙ sym (heard-cut d (room d (length s) q (sym same-refusal ∙ e)) s)

    unchanged-alike : (n m : ℕ) → n ≡ m → live_heard (unchanged c s n) ≡ live_heard (unchanged d s m)
    unchanged-alike n m e = λ i. record { state = alike i; refusal = e i; action = action.Nothing; store = s }

    pub advertised-alike : live_heard (advertised c s v) ≡ live_heard (advertised d s v)
    unfolding advertised
    advertised-alike =
        pick-if live_heard (eqb (refusal c (length s) v) accepted) (eqb (refusal d (length s) v) accepted)
        (pick (listens c.running) (heard c s v) (unchanged c s accepted)) (unchanged c s (refusal c (length s) v))
        (pick (listens d.running) (heard d s v) (unchanged d s accepted)) (unchanged d s (refusal d (length s) v))
        (ap (λ (n : ℕ). eqb n accepted) same-refusal)
        (λ h. pick-if live_heard (listens c.running) (listens d.running)
        (heard c s v) (unchanged c s accepted) (heard d s v) (unchanged d s accepted)
        (ap (λ (x : Central). listens x.running) alike)
        (λ l. heard-alike (eqb-true (refusal c (length s) v) accepted h))
        (unchanged-alike accepted accepted refl))
        (unchanged-alike (refusal c (length s) v) (refusal d (length s) v) same-refusal)

-- ---- a scan response

module _ (s : List ℕ) (at : Micros) (a : Address) (bytes : List ℕ) where
  answered-blind : (c : Central) (i : ℕ) → live_heard (answered c s at bytes i) ≡ live_heard (answered (live c) s at bytes i)
  answered-blind c i = λ k.
      record {
        state = with_reports (sym (live-twice c) k) (responded-cut c.reports i at (length bytes) k);
        refusal = accepted;
        action = action.Nothing;
        store = response_store i bytes s;
      }

  pub responded-blind : (c : Central) → live_heard (scan_responded c s at a bytes) ≡ live_heard (scan_responded (live c) s at a bytes)
  unfolding scan_responded
  responded-blind c =
      let r : Reports = c.reports in
      let why : Central → ℕ = λ x. response_refusal x (length s) at (length bytes) in
      let same : why c ≡ why (live c) = ap (λ (g : ℕ). then_data g (length bytes)) (quiet-gate-blind c (length s) at) in
      let takes : Central → ℕ → Outcome = λ x i. pick (ltb i x.reports.count) (answered x s at bytes i) (unchanged x s accepted) in
      pick-if live_heard (eqb (why c) accepted) (eqb (why (live c)) accepted)
      (takes c (place_of r (key a))) (unchanged c s (why c))
      (takes (live c) (place_of (live_reports r) (key a))) (unchanged (live c) s (why (live c)))
      (ap (λ (n : ℕ). eqb n accepted) same)
      (λ h. pick-both live_heard (ltb (place_of r (key a)) r.count)
      (answered c s at bytes (place_of r (key a))) (unchanged c s accepted)
      (answered (live c) s at bytes (place_of r (key a))) (unchanged (live c) s accepted)
      (answered-blind c (place_of r (key a))) (unchanged-blind c s accepted)
      ∙ by_place (λ i. live_heard (takes (live c) i)) r (key a))
      (unchanged-blind c s (why c) ∙ ap (λ (n : ℕ). live_heard (unchanged (live c) s n)) same)
