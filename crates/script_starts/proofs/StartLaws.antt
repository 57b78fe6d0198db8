-- What each return of the functions that begin a step asks, from what their callees ensure.
use Rattle.std.specs.Prelude.{Option, Some, None}
use Prim.Native.Nat.{ℕ, ◌≤◌}
use mathlib.Core.Path.{◌≡◌, sym, ap, subst, ◌∙◌}
use mathlib.Core.Bool.{Bool, true, false}
use mathlib.Core.List.{List, []}
use native.Mathlib.Omega.{arith}
use lib.Dec.{leb}
use borrow.Author.Tests.{leb-true}
use Rattle.bytes_base.specs.Choice.{pick}
use Rattle.state_places.specs.Sizes.{value_size}
use Rattle.time.specs.declared.Micros.{Micros}
use Rattle.time.specs.declared.Millis.{Millis}
use Rattle.gatt_services.specs.declared.Service.{Service}
use Rattle.state.specs.Central.{Central}
use Rattle.state.specs.declared.Bearer.{Bearer}
use Rattle.state.specs.declared.StepStatus.TheVariants.{Ok, NotConnected, BearerClosed}
use Rattle.state_rules.specs.Facts.{Fit}
use Rattle.state_rules.proofs.FitLaws.{both}
use Rattle.state_rules.specs.Steps.{implies, carries, mtu_named, most_mtu, step_fits}
use Rattle.script_rules.specs.World.{Held, World, told, on_held}
use Rattle.script_rules.specs.Finish.{with_link}
use Rattle.script_rules.specs.Discovery.{discover_services, discover_characteristics}
use Rattle.script_rules.specs.declared.Alone.{Alone}
use Rattle.script_rules.specs.declared.Alone.TheVariants as alone
use Rattle.script_rules.specs.Wait.{Looks, check_wait}
use Rattle.script_rules.specs.Start.{ends, waits_for, unlinked_step, start_alone, start_unlinked, discover_in, terminated, asks_to, disconnect, carried, start_linked, barred, start_on, start}
use Rattle.state_core.specs.declared.Core.{Core}
use Rattle.state_core.specs.declared.Turn.{Turn}
use Rattle.state_core.specs.Reading.{central, held, world, with_bearer}

-- ---- with no link

module _ (c : Core) (w st : List ℕ) (at : Micros) (a : Alone) (f : a ≡ unlinked_step c.running.step) where
  as-alone : (k : Alone) → a ≡ k → start_alone (held c w st) at k ≡ start_unlinked (held c w st) at c.running.step
  as-alone k g = ap (start_alone (held c w st) at) (sym g ∙ f)

  pub alone-runs : (r : Core) (ms : Millis) → a ≡ alone.Runs ms → ((v s : List ℕ) → held r v s ≡ waits_for (held c v s) at ms)
      → held r w st ≡ start_unlinked (held c w st) at c.running.step
  unfolding start_alone
  alone-runs r ms g h = h w st ∙ as-alone (alone.Runs ms) g

  pub alone-done : (r : Held) → a ≡ alone.Done → r ≡ ends (held c w st) at Ok → r ≡ start_unlinked (held c w st) at c.running.step
  unfolding start_alone
  alone-done r g h = h ∙ as-alone alone.Done g

  pub alone-needs : (r : Held) → a ≡ alone.NeedsLink → r ≡ ends (held c w st) at NotConnected → r ≡ start_unlinked (held c w st) at c.running.step
  unfolding start_alone
  alone-needs r g h = h ∙ as-alone alone.NeedsLink g

-- ---- with a link

module _ (w : World) (at : Micros) (x : Option Service) where
  pub service-known : (svc : Service) → x ≡ Some svc → discover_characteristics w at svc svc.start ≡ discover_in w at x
  unfolding discover_in
  service-known svc e = sym (ap (discover_in w at) e)

  pub service-unknown : x ≡ None → discover_services w at 1 ≡ discover_in w at x
  unfolding discover_in
  service-unknown e = sym (ap (discover_in w at) e)

module _ (t : Turn) where
  abbrev ending : Bearer
  ending = with_link t.core.bearer (terminated t.core.bearer.link)

  abbrev ended : Bearer → (w s o : List ℕ) → World
  ended b w s o = record { held = held (with_bearer t.core b) w s; told = asks_to (told t.sent o) }

  by_flag : (w s o : List ℕ) (x : Bool) → t.core.bearer.link.terminating ≡ x → pick x (world t w s o) (ended ending w s o) ≡ disconnect (world t w s o)
  unfolding disconnect
  by_flag w s o x h = ap (λ (y : Bool). pick y (world t w s o) (ended ending w s o)) (sym h)

  pub already : t.core.bearer.link.terminating ≡ true → (w s o : List ℕ) → world t w s o ≡ disconnect (world t w s o)
  already h w s o = by_flag w s o true h

  pub asks-to-end : (b : Bearer) → t.core.bearer.link.terminating ≡ false → b ≡ ending → (w s o : List ℕ) → ended b w s o ≡ disconnect (world t w s o)
  asks-to-end b h e w s o = ap (λ (z : Bearer). ended z w s o) e ∙ by_flag w s o false h

pub looks-stay : (c a : Core) (w : List ℕ) (at : Micros) (ms : Millis) → ((v s : List ℕ) → held a v s ≡ waits_for (held c v s) at ms)
    → Looks (central c w) → Looks (central a w)
looks-stay c a w at ms e l =
    let q : central a w ≡ (waits_for (held c w []) at ms).state = ap (λ (h : Held). h.state) (e w []) in
    subst (λ (z : Central). Looks z) (sym q)
    (record { results = l.results; characteristics = l.characteristics; notifications = l.notifications; values = l.values; kept = l.kept; notified = l.notified })

pub waits-then : (t : Turn) (a r : Core) (w w' st st' : List ℕ) (at : Micros) (ms : Millis)
    → ((v s : List ℕ) → held a v s ≡ waits_for (held t.core v s) at ms) → held r w' st' ≡ check_wait (held a w st) at
    → (o : List ℕ) → world (record { core = r; sent = t.sent }) w' st' o ≡ on_held (world t w st o) (check_wait (waits_for (held t.core w st) at ms) at)
waits-then t a r w w' st st' at ms e f o =
    ap (λ (h : Held). record { held = h; told = told t.sent o }) (f ∙ ap (λ (h : Held). check_wait h at) (e w st))

-- ---- either

small : (x : Bool) (n : ℕ) → implies x (leb n value_size) ≡ true → pick x n 0 ≤ value_size
small true n e = leb-true n value_size e
small false n e = omega arith

-- what the running step carries is within the size
pub carried-fits : (c : Central) → Fit c → c.running.active ≡ true → carried c.running.step c.running.len ≤ value_size
unfolding step_fits
carried-fits c f a =
    let h = both (implies (carries c.running.step) (leb c.running.len value_size)) (leb (mtu_named c.running.step) most_mtu) (f.head.step a) in
    small (carries c.running.step) c.running.len h.0

module _ (t : Turn) (w st out : List ℕ) (at : Micros) where
  abbrev linked : World
  linked = start_on (world t w st out) at t.core.running.step

  abbrev unlinked : World
  unlinked = on_held (world t w st out) (start_unlinked (held t.core w st) at t.core.running.step)

  by-link : (y : Bool) → t.core.bearer.present ≡ y → pick y linked unlinked ≡ start (world t w st out) at
  unfolding start
  by-link y h = ap (λ (z : Bool). pick z linked unlinked) (sym h)

  module _ (h : t.core.bearer.present ≡ true) (b : Bool) (e : b ≡ barred t.core.options t.core.bearer t.core.running.step) where
    abbrev barring : World
    barring = on_held (world t w st out) (ends (held t.core w st) at BearerClosed)

    abbrev begins : World
    begins = start_linked (world t w st out) at t.core.running.step

    by-bar : (y : Bool) → b ≡ y → pick y barring begins ≡ start (world t w st out) at
    unfolding start_on
    by-bar y k = ap (λ (z : Bool). pick z barring begins) (sym k ∙ e) ∙ by-link true h

    pub start-barred : (u : Turn) (w' st' : List ℕ) → b ≡ true
        → ((o : List ℕ) → world u w' st' o ≡ on_held (world t w st o) (ends (held t.core w st) at BearerClosed))
        → world u w' st' out ≡ start (world t w st out) at
    start-barred u w' st' k g = g out ∙ by-bar true k

    pub start-with : (u : Turn) (w' st' out' : List ℕ) → b ≡ false → world u w' st' out' ≡ begins → world u w' st' out' ≡ start (world t w st out) at
    start-with u w' st' out' k g = g ∙ by-bar false k

  pub start-without : (c : Core) (w' st' : List ℕ) → t.core.bearer.present ≡ false
      → held c w' st' ≡ start_unlinked (held t.core w st) at t.core.running.step
      → world (record { core = c; sent = t.sent }) w' st' out ≡ start (world t w st out) at
  start-without c w' st' h g = ap (λ (z : Held). record { held = z; told = told t.sent out }) g ∙ by-link false h
