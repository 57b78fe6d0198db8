-- Refusal 8 is given: a scan hears 128 advertisers, and then one more. What an advertisement leaves of the state does not depend on the
-- store's bytes, so the states are computed without them.
use Rattle.std.specs.Prelude.{ℕ, zero, suc, ◌≡◌, refl, Bool, true, false, List, [], length, eqb, ltb}
use Rattle.std.proofs.Common.{ap, ◌∙◌}
use Rattle.bytes_base.specs.Choice.{pick}
use Rattle.bytes_base.proofs.SpliceLaws.{length-splice}
use Rattle.lists.proofs.BlockLaws.{length-stored}
use Rattle.state_places.specs.Sizes.{store_size, report_at}
use Rattle.state.specs.Central.{Central}
use Rattle.state.specs.declared.Step.TheVariants.{Scan}
use Rattle.state_rules.specs.Refusals.{accepted}
use Rattle.adv_reports.specs.Reports.{report_part, place_of, again_store, first_store, heard_again, heard_first, last_place}
use Rattle.adv_reports.specs.Key.{key}
use Rattle.radio_match.specs.Matching.{listens}
use Rattle.radio_rules.specs.Hearing as radio
use Rattle.script_rules.specs.World.{Held}
use Rattle.thm_trail.specs.Calls.{does, left, run}
use Rattle.promises.specs.Fitness.{refusal_is}
use Rattle.promises_shown.specs.Sequences.{fresh, store, ms, step, said, heard, hearing, scanning}
use Rattle.promises_shown.specs.Opened.{opened}

-- ---- the state alone

abbrev pub leaves : Central → radio.Adv → Central
leaves c v = pick (eqb (radio.refusal c store_size v) accepted) (pick (listens c.running) (radio.heard c [] v).state c) c

abbrev pub leaves_all : Central → ℕ → ℕ → Central
leaves_all c n zero = c
leaves_all c n (suc k) = leaves_all (leaves c (said n [])) (suc n) k

-- with any store of its size
record Left (c : Central) (s : List ℕ) (d : Central) (t : List ℕ) : Type 0 where
  state : d ≡ c
  size : length t ≡ length s

heard-left : (c : Central) (s : List ℕ) (v : radio.Adv) → Left (radio.heard c [] v).state s (radio.heard c s v).state (radio.heard c s v).store
unfolding radio.heard radio.acted
heard-left c s v = go (ltb i c.reports.count) (radio.due c v)
  where
    i : ℕ
    i = place_of c.reports (key v.address)

    again : Bool → List ℕ → radio.Outcome
    again d z =
        let r = heard_again c.reports i (radio.line v) in
        let t = again_store i v.bytes z in
        pick d (radio.requested c v r t) (radio.weighed c v r t i)

    first : Bool → List ℕ → radio.Outcome
    first d z =
        let r = heard_first c.reports (radio.line v) in
        let t = first_store c.reports.count v.bytes z in
        pick d (radio.requested c v r t) (radio.weighed c v r t (last_place c.reports.count))

    go : (a d : Bool) → Left (pick a (again d []) (first d [])).state s (pick a (again d s) (first d s)).state (pick a (again d s) (first d s)).store
    go true true = record { state = refl; size = length-splice s (report_at i) v.bytes 0 (length v.bytes) }
    go true false = record { state = refl; size = length-splice s (report_at i) v.bytes 0 (length v.bytes) }
    go false true = record { state = refl; size = length-stored report_part c.reports.count v.bytes 0 (length v.bytes) s }
    go false false = record { state = refl; size = length-stored report_part c.reports.count v.bytes 0 (length v.bytes) s }

advertised-left : (c : Central) (s : List ℕ) (v : radio.Adv) → length s ≡ store_size → Left (leaves c v) s (radio.advertised c s v).state (radio.advertised c s v).store
unfolding radio.advertised
advertised-left c s v e =
    let x = go (eqb (radio.refusal c (length s) v) accepted) (listens c.running) in
    record { state = x.state ∙ ap (λ (n : ℕ). pick (eqb (radio.refusal c n v) accepted) (pick (listens c.running) (radio.heard c [] v).state c) c) e; size = x.size }
  where
    told : Bool → Bool → radio.Outcome
    told a l = pick a (pick l (radio.heard c s v) (radio.unchanged c s accepted)) (radio.unchanged c s (radio.refusal c (length s) v))

    go : (a l : Bool) → Left (pick a (pick l (radio.heard c [] v).state c) c) s (told a l).state (told a l).store
    go true true = heard-left c s v
    go true false = record { state = refl; size = refl }
    go false l = record { state = refl; size = refl }

all_left : (h : Held) → length h.store ≡ store_size → (n k : ℕ) → Left (leaves_all h.state n k) h.store (run h (hearing n k)).state (run h (hearing n k)).store
all_left h e n zero = record { state = refl; size = refl }
all_left h e n (suc k) =
    let v = said n [] in
    let x = advertised-left h.state h.store v e in
    let y = all_left (left (does h (heard n []))) (x.size ∙ e) (suc n) k in
    record { state = y.state ∙ ap (λ (c : Central). leaves_all c (suc n) k) x.state; size = y.size ∙ x.size }

-- ---- the scan

abbrev begun : Held
begun = left (does (fresh store) (step 1 (Scan (ms 1000))))

begun-size : length begun.store ≡ store_size
unfolding opened
begun-size = refl

full : radio.refusal (leaves_all begun.state 0 128) store_size (said 128 []) ≡ 8
unfolding opened
full = refl

pub eight : (does (run (fresh store) (scanning 128)) (heard 128 [])).refusal ≡ 8
eight =
    let x = all_left begun begun-size 0 128 in
    refusal_is (run (fresh store) (scanning 128)) (heard 128 [])
    ∙ ap (λ (n : ℕ). radio.refusal (run begun (hearing 0 128)).state n (said 128 [])) (x.size ∙ begun-size)
    ∙ ap (λ (c : Central). radio.refusal c store_size (said 128 [])) x.state
    ∙ full
