-- A batch goes in: its steps are taken in, or counted in refused_steps.
use Prim.Native.Nat.{ℕ, zero, suc, ◌+◌, ◌-◌, ◌≤◌, ◌<◌}
use mathlib.Core.Path.{◌≡◌, refl, ap, ◌∙◌}
use mathlib.Core.Bool.{Bool, true, false}
use mathlib.Core.List.{List, [], ◌∷◌, ◌++◌}
use native.Mathlib.Omega.{arith}
use lib.ListN.{length, take, length-append}
use lib.Seq.{length-take-le}
use lib.Dec.{ltb}
use borrow.Author.Tests.{ltb-true, ltb-false}
use Rattle.bytes_base.specs.Choice.{pick}
use Rattle.bytes_base.specs.Splice.{splice}
use Rattle.state_places.specs.Sizes.{most_steps, waiting_at}
use Rattle.lists.proofs.QueueLaws.{length-onto}
use Rattle.state.specs.Central.{with_queue, with_counters}
use Rattle.state.specs.declared.Queue.{Queue}
use Rattle.state.specs.declared.Queued.{Queued}
use Rattle.script_rules.specs.World.{Held}
use Rattle.script_rules.specs.declared.Placed.{Placed}
use Rattle.script_rules.specs.BatchSteps.{value_len, queued}
use Rattle.script_rules.specs.Waiting.{waiting, queueing, refusing, push_one, push_all}
use Rattle.thm_trail.specs.Log.{queued_all}

-- one step: x is whether it has a place
record Next (h g : Held) (x : Bool) : Type 0 where
  cells : length g.state.queue.kept ≡ most_steps
  few : g.state.queue.count ≤ most_steps
  count : g.state.queue.count ≡ h.state.queue.count + pick x 1 0
  notified : g.state.counters.notified ≡ h.state.counters.notified
  refused : g.state.counters.refused_steps ≡ h.state.counters.refused_steps + pick x 0 1
  links : g.state.counters.links ≡ h.state.counters.links

pushed-one : (h : Held) (values : List ℕ) (p : Placed) → length h.state.queue.kept ≡ most_steps → h.state.queue.count ≤ most_steps
    → Next h (push_one h values p) (ltb h.state.queue.count most_steps)
unfolding push_one
pushed-one h values p cells few = go (ltb n most_steps) refl
  where
    q : Queue
    q = h.state.queue

    n : ℕ
    n = q.count

    l : List Queued
    l = waiting q ++ (queued p ∷ [])

    long : length l ≡ n + 1
    long = length-append (waiting q) (queued p ∷ []) ∙ omega (arith, length-take-le n q.kept (omega (arith, few, cells)))

    yes : Held
    yes = record { state = with_queue h.state (queueing q l); store = splice h.store (waiting_at n) values p.place (value_len p) }

    no : Held
    no = record { state = with_counters h.state (refusing h.state.counters); store = h.store }

    go : (x : Bool) → ltb n most_steps ≡ x → Next h (pick x yes no) x
    go true e =
        let r : n < most_steps = ltb-true n most_steps e in
        record {
          cells = length-onto q.kept l (omega (arith, long, cells)) ∙ cells;
          few = omega (arith, long);
          count = long;
          notified = refl;
          refused = omega arith;
          links = refl;
        }
    go false e = record { cells = cells; few = few; count = omega arith; notified = refl; refused = refl; links = refl }

-- all of them: those that were taken in and those that were refused are those handed in
pub record Pushed (h g : Held) (in_all handed : ℕ) : Type 0 where
  pub notified : g.state.counters.notified ≡ h.state.counters.notified
  pub refused : g.state.counters.refused_steps + in_all ≡ h.state.counters.refused_steps + handed
  pub links : g.state.counters.links ≡ h.state.counters.links

nil : (m : ℕ) → length (queued_all (take m [])) ≡ 0
nil zero = refl
nil (suc m) = refl

pub pushed-all : (h : Held) (values : List ℕ) (ps : List Placed) → length h.state.queue.kept ≡ most_steps → h.state.queue.count ≤ most_steps
    → Pushed h (push_all h values ps) (length (queued_all (take (most_steps - h.state.queue.count) ps))) (length ps)
unfolding push_all
pushed-all h values [] cells few = record { notified = refl; refused = omega (arith, nil (most_steps - h.state.queue.count)); links = refl }
pushed-all h values (p ∷ ps) cells few =
    let g = push_one h values p in
    let a = pushed-one h values p cells few in
    go (ltb n most_steps) refl a (pushed-all g values ps a.cells a.few)
  where
    n : ℕ
    n = h.state.queue.count

    g : Held
    g = push_one h values p

    k : ℕ
    k = g.state.queue.count

    go : (x : Bool) → ltb n most_steps ≡ x → Next h g x → Pushed g (push_all g values ps) (length (queued_all (take (most_steps - k) ps))) (length ps)
        → Pushed h (push_all g values ps) (length (queued_all (take (most_steps - n) (p ∷ ps)))) (length (p ∷ ps))
    go true e a i =
        let r : n < most_steps = ltb-true n most_steps e in
        let d : most_steps - n ≡ suc (most_steps - k) = omega (arith, a.count) in
        let t : length (queued_all (take (most_steps - n) (p ∷ ps))) ≡ suc (length (queued_all (take (most_steps - k) ps))) = ap (λ (j : ℕ). length (queued_all (take j (p ∷ ps)))) d in
        record { notified = i.notified ∙ a.notified; refused = omega (arith, t, i.refused, a.refused); links = i.links ∙ a.links }
    go false e a i =
        let r : most_steps ≤ n = ltb-false n most_steps e in
        let d : most_steps - n ≡ 0 = omega arith in
        let d' : most_steps - k ≡ 0 = omega (arith, a.count) in
        let t : length (queued_all (take (most_steps - n) (p ∷ ps))) ≡ 0 = ap (λ (j : ℕ). length (queued_all (take j (p ∷ ps)))) d in
        let t' : length (queued_all (take (most_steps - k) ps)) ≡ 0 = ap (λ (j : ℕ). length (queued_all (take j ps))) d' in
        record { notified = i.notified ∙ a.notified; refused = omega (arith, t, t', i.refused, a.refused); links = i.links ∙ a.links }
