-- What a trail brings in comes before all that is done along it.
use Prim.Native.Nat.{ℕ, zero, suc}
use mathlib.Core.Path.{◌≡◌, refl, sym, ap, ◌∙◌}
use mathlib.Core.Bool.{Bool, true, false}
use mathlib.Core.List.{List, [], ◌∷◌, ◌++◌, append-nil, append_assoc}
use Rattle.bytes_base.specs.Choice.{pick}
use Rattle.lists.specs.Blocks.{Valued}
use Rattle.time.specs.declared.Micros.{Micros}
use Rattle.state.specs.declared.Queued.{Queued}
use Rattle.state.specs.declared.StepResult.{StepResult}
use Rattle.script_rules.specs.World.{Held, World, on_held}
use Rattle.script_rules.specs.Sound.{Sound}
use Rattle.script_rules.specs.Script.{can_go, step_once}
use Rattle.thm_trail.specs.Trail.{News, Pass, pass, onwards, onward}
use Rattle.thm_trail.specs.Log.{gave}
use Rattle.thm_trail.proofs.Hops.{Still}
use Rattle.thm_accounting.proofs.Books.{Books}
use Rattle.thm_requests.specs.Events.{Event, asked_in, news_of, results_of, done_in, done_along}
use Rattle.thm_requests.proofs.Along.{events_in, events_along}
use Rattle.thm_requests.proofs.Asks.{itself}
use Rattle.thm_requests.proofs.Watch.{sent-none}
use Rattle.thm_requests.proofs.Good.{still-gave}

-- what came in along a trail
abbrev pub news_along : List Pass → List News
news_along [] = []
news_along (p ∷ ps) = p.came ++ news_along ps

-- the trail brings l in, before all else
pub record Brings (w : World) (ps : List Pass) (l : List News) : Type 0 where
  pub along : news_along ps ≡ l
  pub first : events_along w ps ≡ news_of l ++ done_along w ps

-- nothing comes in
abbrev pub Quiet : List Pass → Type 0
Quiet [] = Unit {0}
Quiet (p ∷ ps) = (p.came ≡ []) × Quiet ps

pub brings-quiet : (w : World) (ps : List Pass) → Quiet ps → Brings w ps []
brings-quiet w [] q = record { along = refl; first = refl }
brings-quiet w (p ∷ ps) q =
    let b = brings-quiet p.to ps q.1 in
    record {
      along = ap (λ (l : List News). l ++ news_along ps) q.0 ∙ b.along;
      first =
          ap (λ (l : List News). (news_of l ++ done_in w p.to) ++ events_along p.to ps) q.0
          ∙ ap (λ (l : List Event). done_in w p.to ++ l) b.first;
    }

-- the first hop brings it
pub brings-first : (w : World) (p : Pass) (ps : List Pass) → Quiet ps → Brings w (p ∷ ps) p.came
brings-first w p ps q =
    let b = brings-quiet p.to ps q in
    record {
      along = ap (λ (l : List News). p.came ++ l) b.along ∙ append-nil p.came;
      first =
          ap (λ (l : List Event). events_in w p ++ l) b.first
          ∙ append_assoc (news_of p.came) (done_in w p.to) (done_along p.to ps);
    }

-- a hop before it in which nothing is done
pub brings-later : (w v : World) (ps : List Pass) (l : List News) → done_in w v ≡ [] → Brings v ps l → Brings w (pass v ∷ ps) l
brings-later w v ps l e b =
    record {
      along = b.along;
      first =
          ap (λ (x : List Event). x ++ events_along v ps) e
          ∙ b.first
          ∙ ap (λ (x : List Event). news_of l ++ (x ++ done_along v ps)) (sym e);
    }

-- ---- the script goes on: nothing comes in

quiet-onwards : (n : ℕ) (w : World) (at : Micros) → Quiet (onwards n w at)
unfolding onwards
quiet-onwards zero w at = tt
quiet-onwards (suc n) w at = go (can_go w.held.state) (quiet-onwards n (step_once w at) at)
  where
    go : (b : Bool) → Quiet (onwards n (step_once w at) at) → Quiet (pick b (pass (step_once w at) ∷ onwards n (step_once w at) at) [])
    go true q = (refl, q)
    go false q = tt

pub quiet-onward : (w : World) (at : Micros) → Quiet (onward w at)
quiet-onward w at = quiet-onwards w.held.state.queue.count w at

-- ---- a hop in which the script stands still: nothing is done

pub done-still : (l : List (Valued StepResult)) (q : List Queued) (w : World) (g : Held) → Sound 65 w → Books l q w.held → Still w.held g → done_in w (on_held w g) ≡ []
done-still l q w g s b t =
    let v = on_held w g in
    ap (λ x. asked_in g.state.running.index x ++ results_of (gave w.held g)) (sent-none w v (itself w.told))
    ∙ ap results_of (still-gave l q w g s b t)
