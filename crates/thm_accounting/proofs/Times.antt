-- A result's time is the time of the call that ended its step.
use Prim.Native.Nat.{ℕ, zero, suc, ◌<◌}
use mathlib.Core.Path.{◌≡◌, refl, sym, ◌∙◌, subst}
use mathlib.Core.Bool.{Bool, true, false}
use mathlib.Core.List.{List, [], ◌∷◌, ◌++◌}
use native.Mathlib.Omega.{arith}
use lib.ListN.{length, get_or}
use Rattle.bytes_base.specs.Choice.{pick}
use Rattle.lists.specs.Blocks.{Valued}
use Rattle.time.specs.declared.Micros.{Micros}
use Rattle.state.specs.declared.Options.{Options}
use Rattle.state.specs.declared.Queued.{Queued}
use Rattle.state.specs.declared.StepResult.{StepResult}
use Rattle.script_rules.specs.World.{Held, World, on_held}
use Rattle.script_rules.specs.Waiting.{take_step}
use Rattle.script_rules.specs.Start.{ends}
use Rattle.script_rules.specs.Sound.{Sound}
use Rattle.script_rules.specs.Script.{can_go, step_once}
use Rattle.script_rules.proofs.AdvanceLaws.{goes_on_lem}
use Rattle.link_rules.specs.Channel.{on_channel}
use Rattle.thm_trail.specs.Calls.{Call, time_of, fresh, run, done?}
use Rattle.thm_trail.specs.Trail.{Pass, begins, goes, met, parted}
use Rattle.thm_trail.specs.Log.{kept_results, no_valued, up_to, newer, gave, given_in, given_by, room_for, log, taken}
use Rattle.thm_trail.proofs.Hops.{Hop, ended, began, meets, parts, still, acted, At, Hops, none, more, AllAt, still-values}
use Rattle.thm_trail.proofs.Goes.{good}
use Rattle.thm_accounting.proofs.Gives.{Whole, Gives, nothing, one, kept-values}
use Rattle.thm_accounting.proofs.Starts.{gives-ends, gives-start}
use Rattle.thm_accounting.proofs.Channels.{gives-channel}
use Rattle.thm_accounting.proofs.Books.{Books, none-gave, gave-pushed, whole, whole_take, kept-take, books-take, sound-hop, books-hop}
use Rattle.thm_accounting.proofs.Accounting.{books, books-begins}

-- every result of a list has this time
abbrev pub Stamped : Micros → List (Valued StepResult) → Type 0
Stamped at [] = Unit {0}
Stamped at (x ∷ l) = (x.entry.at ≡ at) × Stamped at l

stamped-append : (at : Micros) (l m : List (Valued StepResult)) → Stamped at l → Stamped at m → Stamped at (l ++ m)
stamped-append at [] m a b = b
stamped-append at (x ∷ l) m a b = (a.0, stamped-append at l m a.1 b)

stamped-at : (at : Micros) (l : List (Valued StepResult)) (i : ℕ) → Stamped at l → i < length l → (get_or l i no_valued).entry.at ≡ at
stamped-at at [] i s h = absurd (omega arith)
stamped-at at (x ∷ l) zero s h = s.0
stamped-at at (x ∷ l) (suc i) s h = stamped-at at l i s.1 (omega arith)

-- ---- hops

stamped-none : (at : Micros) (m : List (Valued StepResult)) → m ≡ [] → Stamped at m
stamped-none at m e = subst (λ (t : List (Valued StepResult)). Stamped at t) (sym e) tt

stamped-gives : (at : Micros) (l : List (Valued StepResult)) (q : List Queued) (h g : Held) → Books l q h → Gives at h g → Stamped at (gave h g)
stamped-gives at l q h g b (nothing r) = stamped-none at (gave h g) (none-gave l q h g b r.results)
stamped-gives at l q h g b (one e) =
    subst (λ (t : List (Valued StepResult)). Stamped at t) (sym (gave-pushed l q h g e.new b (e.index ∙ b.number e.was) e.results)) (e.time, tt)

stamped-began : (l : List (Valued StepResult)) (q : List Queued) (w : World) (at : Micros) → Sound 65 w → can_go w.held.state ≡ true → Books l q w.held → Stamped at (gave w.held (step_once w at).held)
stamped-began l q w at s g b =
    let k : Whole w.held = whole w s b.sizes in
    let u = on_held w (take_step w.held) in
    let few = s.nearly.waits.few in
    subst (λ (t : List (Valued StepResult)). Stamped at (newer (up_to t) (kept_results (step_once w at).held))) (kept-take w.held k few)
    (stamped-gives at l q u.held (step_once w at).held (books-take l q w.held k few (goes_on_lem w.held.state g) b) (gives-start u at (whole_take w.held k)))

stamped-hop : (at : Micros) (l : List (Valued StepResult)) (q : List Queued) {w : World} {p : Pass} (x : Hop w p) → At at x → Sound 65 w → Books l q w.held → Stamped at (gave w.held p.to.held)
stamped-hop at l q (ended w t st n) e s b =
    subst (λ (i : Micros). Stamped i (gave w.held (ends w.held t st))) e (stamped-gives t l q w.held (ends w.held t st) b (gives-ends w.held t st (whole w s b.sizes)))
stamped-hop at l q (began w t k g) e s b = subst (λ (i : Micros). Stamped i (gave w.held (step_once w t).held)) e (stamped-began l q w t s g b)
stamped-hop at l q (meets w handle few) e s b = stamped-none at _ (none-gave l q w.held (met w handle).held b refl)
stamped-hop at l q (parts w) e s b = stamped-none at _ (none-gave l q w.held (parted w).held b refl)
stamped-hop at l q (still w g t) e s b = stamped-none at _ (none-gave l q w.held g b (kept-values w.held g (whole w s b.sizes) t.results (still-values t)))
stamped-hop at l q (acted w t channel n o k) e s b =
    subst (λ (i : Micros). Stamped i (gave w.held (on_channel w t channel n).held)) e
    (stamped-gives t l q w.held (on_channel w t channel n).held b (gives-channel w t channel n o.short (whole w s b.sizes)))

stamped-hops : (at : Micros) (l : List (Valued StepResult)) (q : List Queued) {w : World} {ps : List Pass} (xs : Hops w ps) → AllAt at xs → Sound 65 w → Books l q w.held → Stamped at (given_in w ps)
stamped-hops at l q none e s b = tt
stamped-hops at l q (more {w} {p} {ps} x xs) e s b =
    stamped-append at (gave w.held p.to.held) (given_in p.to ps) (stamped-hop at l q x e.0 s b)
    (stamped-hops at (l ++ gave w.held p.to.held) q xs e.1 (sound-hop x s) (books-hop l q x s b))

-- ---- calls

stamped-call : (l : List (Valued StepResult)) (q : List Queued) (h : Held) (c : Call) → Books l q h → Stamped (time_of c) (given_by h c)
stamped-call l q h c b = go (done? h c) refl
  where
    go : (x : Bool) → done? h c ≡ x → Stamped (time_of c) (pick x (given_in (begins h c) (goes h c)) [])
    go true e =
        let g = good h c e b.sizes in
        stamped-hops (time_of c) l (q ++ room_for h c) g.hops g.times g.sound (books-begins l q h c e b)
    go false e = tt

-- of every sequence, and a call after it
pub result-time : (options : Options) (store : List ℕ) (cs : List Call) (c : Call) (i : ℕ) → i < length (given_by (run (fresh options store) cs) c)
    → (get_or (given_by (run (fresh options store) cs) c) i no_valued).entry.at ≡ time_of c
result-time options store cs c i h =
    stamped-at (time_of c) (given_by (run (fresh options store) cs) c) i
    (stamped-call (log (fresh options store) cs) (taken (fresh options store) cs) (run (fresh options store) cs) c (books options store cs)) h
