-- Over every sequence of calls from a fresh state, with any store, refused calls included: the three counts.
use Prim.Native.Nat.{ℕ, ◌+◌}
use mathlib.Core.Path.{◌≡◌, refl, sym, ap, subst}
use mathlib.Core.Bool.{Bool, true, false}
use mathlib.Core.List.{List, [], ◌∷◌, ◌++◌}
use native.Mathlib.Omega.{arith}
use lib.ListN.{length, length-append}
use lib.Dec.{eqb}
use borrow.Author.Tests.{eqb-true}
use Rattle.bytes_base.specs.Choice.{pick}
use Rattle.lists.specs.Blocks.{Valued}
use Rattle.state.specs.Fresh.{fresh_central}
use Rattle.state.specs.declared.Counters.{Counters}
use Rattle.state.specs.declared.Options.{Options}
use Rattle.state.specs.declared.Queued.{Queued}
use Rattle.state.specs.declared.StepResult.{StepResult}
use Rattle.state_rules.specs.Refusals.{long_frame}
use Rattle.script_rules.specs.World.{Held, World, on_held}
use Rattle.script_rules.specs.BatchSteps.{steps}
use Rattle.script_rules.specs.Waiting.{take_step}
use Rattle.script_rules.proofs.KeepTurns.{of-fit}
use Rattle.script_rules.specs.Outcome.{Outcome, done}
use Rattle.script_rules.proofs.CallLaws.{passed-batch}
use Rattle.link_rules.specs.Fragment as link
use Rattle.thm_trail.specs.Calls.{Call, batch, timer, connected, disconnected, advertising, scan_response, fragment, reads, does, left, fresh, run, gate_of, done?}
use Rattle.thm_trail.specs.Trail.{Pass, begins, goes, final}
use Rattle.thm_trail.specs.Log.{room_for, given_by, takes_in, taken}
use Rattle.thm_trail.proofs.Ends.{refused_of, does-law}
use Rattle.thm_trail.proofs.Hops.{Hop, ended, began, meets, parts, still, acted, Hops, none, more}
use Rattle.thm_trail.proofs.Goes.{good}
use Rattle.thm_accounting.proofs.Books.{Books}
use Rattle.thm_accounting.proofs.Accounting.{books-fresh, books-call}
use Rattle.thm_counts.specs.Tally.{handed, hands_in, handed_in, noticed, links_came}
use Rattle.thm_counts.proofs.Along.{along, counted_by, counted_in}
use Rattle.thm_counts.proofs.Kept.{kept-none, kept_then, kept-ends, kept-take, kept-start}
use Rattle.thm_counts.proofs.Channels.{Moves, of-kept, moves-then, moves-channel}
use Rattle.thm_counts.proofs.Pushed.{Pushed, pushed-all}

-- ---- hops

moves-hop : {w : World} {p : Pass} → Hop w p → Moves w.held p.to.held (noticed p.came) (links_came p.came)
moves-hop (ended w at st r) = of-kept (kept-ends w.held at st)
moves-hop (began w at t e) = of-kept (kept_then (kept-take w.held) (kept-start (on_held w (take_step w.held)) at))
moves-hop (meets w handle few) = record { notified = omega arith; refused = refl; links = omega arith }
moves-hop (parts w) = of-kept (record { notified = refl; refused = refl; links = refl })
moves-hop (still w g s) =
    of-kept
    (record {
      notified = ap (λ (k : Counters). k.notified) s.counters;
      refused = ap (λ (k : Counters). k.refused_steps) s.counters;
      links = ap (λ (k : Counters). k.links) s.counters;
    })
moves-hop (acted w at channel n o s) = moves-channel w at channel n o.sound.ready.store o.short

moves-hops : {w : World} {ps : List Pass} → Hops w ps → Moves w.held (final w ps).held (along noticed ps) (along links_came ps)
moves-hops (none {w}) = of-kept (kept-none w.held)
moves-hops (more {w} {p} {ps} x xs) = moves-then (moves-hop x) (moves-hops xs)

-- ---- calls

pub record Counted (h g : Held) (in_all handed heard came : ℕ) : Type 0 where
  pub notified : g.state.counters.notified ≡ h.state.counters.notified + heard
  pub refused : g.state.counters.refused_steps + in_all ≡ h.state.counters.refused_steps + handed
  pub links : g.state.counters.links ≡ h.state.counters.links + came

pushed_none : (h : Held) → Pushed h h 0 0
pushed_none h = record { notified = refl; refused = refl; links = refl }

begins-counted : (l : List (Valued StepResult)) (q : List Queued) (h : Held) (c : Call) → done? h c ≡ true → Books l q h → Pushed h (begins h c).held (length (room_for h c)) (handed c)
begins-counted l q h (batch out at b values) e k =
    let p = passed-batch h.state (length h.store) (length out) at b (length values) (eqb-true (gate_of h (batch out at b values)) 0 e) in
    pushed-all h values (steps b) k.sizes.queue (of-fit h.state p.shared.fit).waits.few
begins-counted l q h (timer out at) e k = pushed_none h
begins-counted l q h (connected out handle at) e k = pushed_none h
begins-counted l q h (disconnected at) e k = pushed_none h
begins-counted l q h (advertising v) e k = pushed_none h
begins-counted l q h (scan_response at a d) e k = pushed_none h
begins-counted l q h (fragment out at start piece) e k = pushed_none h
begins-counted l q h (reads r) e k = pushed_none h

counted_none : (h g : Held) → g.state.counters ≡ h.state.counters → Counted h g 0 0 0 0
counted_none h g e =
    let n : g.state.counters.notified ≡ h.state.counters.notified = ap (λ (k : Counters). k.notified) e in
    let r : g.state.counters.refused_steps ≡ h.state.counters.refused_steps = ap (λ (k : Counters). k.refused_steps) e in
    let l : g.state.counters.links ≡ h.state.counters.links = ap (λ (k : Counters). k.links) e in
    record { notified = omega (arith, n); refused = omega (arith, r); links = omega (arith, l) }

counted-refused : (h : Held) (c : Call) → Counted h (left (refused_of h c)) 0 0 0 0
counted-refused h (batch out at b values) = counted_none h h refl
counted-refused h (timer out at) = counted_none h h refl
counted-refused h (connected out handle at) = counted_none h h refl
counted-refused h (disconnected at) = counted_none h h refl
counted-refused h (advertising v) = counted_none h h refl
counted-refused h (scan_response at a d) = counted_none h h refl
counted-refused h (fragment out at start piece) = go (eqb (gate_of h (fragment out at start piece)) long_frame)
  where
    go : (b : Bool) → Counted h (record { state = pick b (link.with_held h.state 0) h.state; store = h.store }) 0 0 0 0
    go true = counted_none h (record { state = link.with_held h.state 0; store = h.store }) refl
    go false = counted_none h h refl
counted-refused h (reads r) = counted_none h h refl

counted-call : (l : List (Valued StepResult)) (q : List Queued) (h : Held) (c : Call) → Books l q h
    → Counted h (left (does h c)) (length (takes_in h c)) (hands_in h c) (counted_by noticed h c) (counted_by links_came h c)
counted-call l q h c b =
    subst (λ (x : Outcome). Counted h (left x) (length (takes_in h c)) (hands_in h c) (counted_by noticed h c) (counted_by links_came h c)) (sym (does-law h c)) (go (done? h c) refl)
  where
    go : (x : Bool) → done? h c ≡ x
        → Counted h (left (pick x (done (final (begins h c) (goes h c))) (refused_of h c))) (length (pick x (room_for h c) [])) (pick x (handed c) 0)
        (pick x (along noticed (goes h c)) 0) (pick x (along links_came (goes h c)) 0)
    go true e =
        let p = begins-counted l q h c e b in
        let m = moves-hops (good h c e b.sizes).hops in
        record { notified = omega (arith, p.notified, m.notified); refused = omega (arith, p.refused, m.refused); links = omega (arith, p.links, m.links) }
    go false e = counted-refused h c

-- ---- sequences of calls

counted-run : (l : List (Valued StepResult)) (q : List Queued) (h : Held) (cs : List Call) → Books l q h
    → Counted h (run h cs) (length (taken h cs)) (handed_in h cs) (counted_in noticed h cs) (counted_in links_came h cs)
counted-run l q h [] b = counted_none h h refl
counted-run l q h (c ∷ cs) b =
    let g = left (does h c) in
    let x = counted-call l q h c b in
    let y = counted-run (l ++ given_by h c) (q ++ takes_in h c) g cs (books-call l q h c b) in
    let n = length-append (takes_in h c) (taken g cs) in
    record { notified = omega (arith, x.notified, y.notified); refused = omega (arith, n, x.refused, y.refused); links = omega (arith, x.links, y.links) }

module _ (options : Options) (store : List ℕ) (cs : List Call) where
  -- the steps taken in and the steps refused are all that were handed in
  pub refused-counted : (run (fresh options store) cs).state.counters.refused_steps + length (taken (fresh options store) cs) ≡ handed_in (fresh options store) cs
  unfolding fresh_central
  refused-counted =
      let none_yet : (fresh options store).state.counters.refused_steps ≡ 0 = refl in
      omega (arith, none_yet, (counted-run [] [] (fresh options store) cs (books-fresh options store)).refused)

  -- and as many are notified as were heard
  pub notified-counted : (run (fresh options store) cs).state.counters.notified ≡ counted_in noticed (fresh options store) cs
  unfolding fresh_central
  notified-counted =
      let none_yet : (fresh options store).state.counters.notified ≡ 0 = refl in
      omega (arith, none_yet, (counted-run [] [] (fresh options store) cs (books-fresh options store)).notified)

  -- and as many links are counted as came
  pub links-counted : (run (fresh options store) cs).state.counters.links ≡ counted_in links_came (fresh options store) cs
  unfolding fresh_central
  links-counted =
      let none_yet : (fresh options store).state.counters.links ≡ 0 = refl in
      omega (arith, none_yet, (counted-run [] [] (fresh options store) cs (books-fresh options store)).links)
