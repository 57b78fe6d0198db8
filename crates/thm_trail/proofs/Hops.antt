-- The hops of which every trail is made.
use Prim.Native.Nat.{ℕ, zero, suc, ◌+◌, ◌≤◌, ◌<◌}
use mathlib.Core.Path.{◌≡◌, refl}
use mathlib.Core.Bool.{Bool, true, false}
use mathlib.Core.List.{List, [], ◌∷◌}
use native.Mathlib.Omega.{arith}
use lib.ListN.{length}
use Rattle.bytes_base.specs.Choice.{pick}
use Rattle.lists.specs.Blocks.{bytes}
use Rattle.state_places.specs.Sizes.{most_steps, most_results, most_keys, result_size, result_at, held_at}
use Rattle.time.specs.declared.Micros.{Micros}
use Rattle.time.specs.declared.Millis.{Millis}
use Rattle.time.specs.Clock.{latest}
use Rattle.uuid_value.specs.declared.Uuid.{Uuid}
use Rattle.notifications.specs.declared.Age.{Age}
use Rattle.state.specs.Central.{Central}
use Rattle.state.specs.declared.Step.TheVariants.{Read, WaitNotification}
use Rattle.state.specs.declared.StepStatus.{StepStatus}
use Rattle.state.specs.declared.StepStatus.TheVariants.{Ok, Timeout}
use Rattle.state_rules.specs.Fit.{most_notified, most_links}
use Rattle.script_rules.specs.World.{Held, World, on_held}
use Rattle.adv_reports.specs.Whole.{Whole}
use Rattle.script_rules.specs.Start.{ends}
use Rattle.script_rules.specs.Nearly.{Nearly}
use Rattle.script_rules.specs.Sound.{Sound}
use Rattle.script_rules.specs.Script.{can_go, step_once}
use Rattle.link_rules.specs.Payload.{payload, payload_size}
use Rattle.link_rules.specs.Channel.{on_channel}
use Rattle.thm_trail.specs.Trail.{link-came, link-went, Pass, pass, met, parted, came_on, onwards, onward}

-- the arrays have the sizes that their types give them (definitions speak of lists of any length)
pub record Sizes (c : Central) : Type 0 where
  pub queue : length c.queue.kept ≡ most_steps
  pub results : length c.results.kept ≡ most_results
  pub reports : Whole c.reports
  pub keys : length c.keys.kept ≡ most_keys

-- neither a Read nor a WaitNotification ends well so
pub record NotWell (w : World) (st : StepStatus) : Type 0 where
  pub read : (u : Uuid) → w.held.state.running.step ≡ Read u → st ≡ Ok → ⊥
  pub wait : (u : Uuid) (ms : Millis) (age : Age) → w.held.state.running.step ≡ WaitNotification u ms age → st ≡ Ok → ⊥

-- nothing of the script, its results, the notifications, the link and the counters changes, nor any byte of their values
pub record Still (h g : Held) : Type 0 where
  pub counters : g.state.counters ≡ h.state.counters
  pub queue : g.state.queue ≡ h.state.queue
  pub running : g.state.running ≡ h.state.running
  pub results : g.state.results ≡ h.state.results
  pub link : g.state.bearer.link ≡ h.state.bearer.link
  pub present : g.state.bearer.present ≡ h.state.bearer.present
  pub notifications : g.state.notifications ≡ h.state.notifications
  pub below : (a n : ℕ) → a + n ≤ held_at → bytes g.store a n ≡ bytes h.store a n
  pub store : length g.store ≡ length h.store
  pub nearly : Nearly g.state
  pub sizes : Sizes h.state → Sizes g.state

pub still-values : {h g : Held} → Still h g → (k : ℕ) → k < most_results → (n : ℕ) → n ≤ result_size → bytes g.store (result_at k) n ≡ bytes h.store (result_at k) n
still-values s k p n q = s.below (result_at k) n (omega (arith, p, q))

-- a frame's payload of n bytes is there to be read, and nothing has gone out yet
pub record Open (at : Micros) (n : ℕ) (w : World) : Type 0 where
  pub sound : Sound 65 w
  pub unsent : w.told.sent.frames ≡ 0
  pub present : w.held.state.bearer.present ≡ true
  pub short : n ≤ payload_size
  pub notified : w.held.state.counters.notified + 1 ≤ most_notified
  pub time : at.0 ≤ latest

pub data Hop : World → Pass → Type 0 where
  ended : (w : World) (at : Micros) (st : StepStatus) → NotWell w st → Hop w (pass (on_held w (ends w.held at st)))
  began : (w : World) (at : Micros) → at.0 ≤ latest → can_go w.held.state ≡ true → Hop w (pass (step_once w at))
  meets : (w : World) (handle : ℕ) → w.held.state.counters.links < most_links → Hop w (record { came = link-came handle ∷ []; to = met w handle })
  parts : (w : World) → Hop w (record { came = link-went ∷ []; to = parted w })
  still : (w : World) (g : Held) → Still w.held g → Hop w (pass (on_held w g))
  acted : (w : World) (at : Micros) (channel n : ℕ) → Open at n w → Sound 65 (on_channel w at channel n)
      → Hop w (record { came = came_on channel (payload w.held n); to = on_channel w at channel n })

pub data Hops : World → List Pass → Type 0 where
  none : {w : World} → Hops w []
  more : {w : World} {p : Pass} {ps : List Pass} → Hop w p → Hops p.to ps → Hops w (p ∷ ps)

-- ---- hops at one time

-- where a hop may end a step, it is at this time
abbrev pub At : (at : Micros) {w : World} {p : Pass} → Hop w p → Type 0
At at (ended w t st n) = t ≡ at
At at (began w t l g) = t ≡ at
At at (meets w handle few) = Unit {0}
At at (parts w) = Unit {0}
At at (still w g s) = Unit {0}
At at (acted w t channel n o s) = t ≡ at

abbrev pub AllAt : (at : Micros) {w : World} {ps : List Pass} → Hops w ps → Type 0
AllAt at none = Unit {0}
AllAt at (more x xs) = At at x × AllAt at xs

-- ---- hops that leave the bearer open or closed as it is: all but those of a timer call that ends a step

-- what was chosen stays, and the bearer is open or closed as it was
pub record Steadily (h g : Held) : Type 0 where
  pub closed : g.state.bearer.closed ≡ h.state.bearer.closed
  pub options : g.state.options ≡ h.state.options

abbrev pub Steady : {w : World} {p : Pass} → Hop w p → Type 0
Steady (ended w t st n) = st ≡ Timeout → ⊥
Steady (began w t l g) = Unit {0}
Steady (meets w handle few) = Unit {0}
Steady (parts w) = Unit {0}
Steady (still w g s) = Steadily w.held g
Steady (acted w t channel n o s) = Unit {0}

abbrev pub AllSteady : {w : World} {ps : List Pass} → Hops w ps → Type 0
AllSteady none = Unit {0}
AllSteady (more x xs) = Steady x × AllSteady xs

pub record HopsAt (at : Micros) (w : World) (ps : List Pass) : Type 0 where
  pub hops : Hops w ps
  pub times : AllAt at hops
  pub steady : AllSteady hops

pub stop : {at : Micros} {w : World} → HopsAt at w []
stop = record { hops = none; times = tt; steady = tt }

pub hop : {at : Micros} {w : World} {p : Pass} {ps : List Pass} (x : Hop w p) → At at x → Steady x → HopsAt at p.to ps → HopsAt at w (p ∷ ps)
hop x t s xs = record { hops = more x xs.hops; times = (t, xs.times); steady = (s, xs.steady) }

onwards-hops : (n : ℕ) (w : World) (at : Micros) → at.0 ≤ latest → HopsAt at w (onwards n w at)
unfolding onwards
onwards-hops zero w at t = stop
onwards-hops (suc n) w at t = go (can_go w.held.state) refl (onwards-hops n (step_once w at) at t)
  where
    go : (b : Bool) → can_go w.held.state ≡ b → HopsAt at (step_once w at) (onwards n (step_once w at) at) → HopsAt at w (pick b (pass (step_once w at) ∷ onwards n (step_once w at) at) [])
    go true e ih = hop (began w at t e) refl tt ih
    go false e ih = stop

pub onward-hops : (w : World) (at : Micros) → at.0 ≤ latest → HopsAt at w (onward w at)
onward-hops w at t = onwards-hops w.held.state.queue.count w at t
