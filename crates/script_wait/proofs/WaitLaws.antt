-- What each return asks, from what the callees ensure.
use Rattle.std.specs.Prelude.{Option, Some, None}
use Prim.Native.Nat.{ℕ, ◌+◌, ◌-◌}
use mathlib.Core.Path.{◌≡◌, sym, ap, ap₂, ◌∙◌}
use mathlib.Core.Bool.{Bool, true, false}
use mathlib.Core.List.{List}
use lib.ListN.{drop, take}
use Rattle.bytes_base.specs.Choice.{pick}
use Rattle.lists.specs.Blocks.{bytes}
use Rattle.state_places.specs.Sizes.{running_at, held_at}
use Rattle.time.specs.declared.Micros.{Micros}
use Rattle.time.specs.declared.Millis.{Millis}
use Rattle.uuid_value.specs.declared.Uuid.{Uuid}
use Rattle.notifications.specs.Kept.{heard, skipped_of}
use Rattle.notifications.specs.Wait.{passes, newest_counted}
use Rattle.notifications.specs.declared.Wanted.{Wanted}
use Rattle.notifications.specs.declared.Age.{Age}
use Rattle.notifications.specs.declared.Age.TheVariants.{Any, Within}
use Rattle.gatt_characteristics.specs.Characteristic.{characteristic_with}
use Rattle.gatt_characteristics.specs.declared.Characteristic.{Characteristic}
use Rattle.state.specs.declared.Counters.{Counters}
use Rattle.state.specs.declared.StepStatus.TheVariants.{Ok, NotFound}
use Rattle.script_rules.specs.World.{Held}
use Rattle.script_rules.specs.declared.Awaited.{Awaited}
use Rattle.std.specs.Prelude.{Option, Some, None}
use Rattle.script_rules.specs.Finish.{finish}
use Rattle.script_rules.specs.Wait.{wanted, wait_passes, passed_on, passed, passing, check_one, awaited, check_for, check_wait}
use Rattle.script_rules.specs.Start.{ends}
use Rattle.words.specs.Tables.{characteristics_in, notifications_in}
use Rattle.state_core.specs.declared.Core.{Core}
use Rattle.state_core.specs.Reading.{central, held, with_counters}

module _ (c : Core) (w st : List ℕ) where
  pub passes-law : (skip : ℕ) (v : Wanted) (r : Bool) → skip ≡ skipped_of c.counters.notified c.counts.notifications c.counters.wait_from
      → r ≡ passes v (drop skip (heard st (take c.counts.notifications (notifications_in w)))) (bytes st running_at c.running.len)
      → r ≡ wait_passes (held c w st) v
  passes-law skip v r e f = f ∙ rw e

  -- what a wait passes on

  pub any_age : (v : Wanted) → v.age ≡ Any → 0 ≡ passed_on (central c w) v v.age
  any_age v e = sym (ap (passed_on (central c w) v) e)

  pub some-age : (v : Wanted) (ms : Millis) (skip r : ℕ) → v.age ≡ Within ms
      → skip ≡ skipped_of c.counters.notified c.counts.notifications c.counters.wait_from
      → r ≡ newest_counted v (c.counters.notified - c.counts.notifications + skip) 0 (drop skip (take c.counts.notifications (notifications_in w)))
      → r ≡ passed_on (central c w) v v.age
  some-age v ms skip r e f k = k ∙ rw f (sym (ap (passed_on (central c w) v) e))

  module _ (at : Micros) where
    -- ---- by the characteristic that the step names

    module _ (age : Age) where
      pub none_named : (x : Option Characteristic) (r : Held) → x ≡ None → r ≡ ends (held c w st) at NotFound → r ≡ check_one (held c w st) at age x
      unfolding check_one
      none_named x r e f = f ∙ sym (ap (check_one (held c w st) at age) e)

      module _ (x : Option Characteristic) (k : Characteristic) (v : Wanted) (b : Bool) (e : x ≡ Some k) (ev : v ≡ wanted (central c w) at k.value_handle age)
          (f : b ≡ wait_passes (held c w st) v) where
        by-pass : pick b (passing (held c w st) at v) (held c w st) ≡ check_one (held c w st) at age x
        unfolding check_one
        by-pass =
            ap (λ (y : Bool). pick y (passing (held c w st) at v) (held c w st)) f
            ∙ ap (λ (u : Wanted). pick (wait_passes (held c w st) u) (passing (held c w st) at u) (held c w st)) ev
            ∙ sym (ap (check_one (held c w st) at age) e)

        pub check-passed : (n : Counters) (heard : ℕ) (r : Held) → b ≡ true → n ≡ passed c.counters → heard ≡ passed_on (central c w) v v.age
            → r ≡ finish (held (with_counters c n) w st) at Ok held_at 0 heard → r ≡ check_one (held c w st) at age x
        check-passed n heard r g h i j =
            j
            ∙ ap₂ (λ (y : Counters) (m : ℕ). finish (held (with_counters c y) w st) at Ok held_at 0 m) h i
            ∙ ap (λ (y : Bool). pick y (passing (held c w st) at v) (held c w st)) (sym g)
            ∙ by-pass

        pub check-not : b ≡ false → held c w st ≡ check_one (held c w st) at age x
        check-not g = ap (λ (y : Bool). pick y (passing (held c w st) at v) (held c w st)) (sym g) ∙ by-pass

    -- ---- by the running step

    pub check-idle : c.running.active ≡ false → held c w st ≡ check_wait (held c w st) at
    unfolding check_wait
    check-idle h = rw h

    looks : (a k : Option Awaited) → c.running.active ≡ true → a ≡ awaited c.running.step → a ≡ k → check_for (held c w st) at k ≡ check_wait (held c w st) at
    unfolding check_wait
    looks a k h f g =
        ap (check_for (held c w st) at) (sym g ∙ f)
        ∙ sym (ap (λ (b : Bool). pick b (check_for (held c w st) at (awaited c.running.step)) (held c w st)) h)

    pub check-other : (a : Option Awaited) → c.running.active ≡ true → a ≡ awaited c.running.step → a ≡ None
        → held c w st ≡ check_wait (held c w st) at
    unfolding check_for
    check-other a h f g = looks a None h f g

    pub check-named : (a : Option Awaited) (u : Uuid) (age : Age) (x : Option Characteristic) (r : Held) → c.running.active ≡ true → a ≡ awaited c.running.step
        → a ≡ Some (record { characteristic = u; age = age }) → x ≡ characteristic_with u (take c.counts.characteristics (characteristics_in w))
        → r ≡ check_one (held c w st) at age x → r ≡ check_wait (held c w st) at
    unfolding check_for
    check-named a u age x r h f g e k = k ∙ ap (check_one (held c w st) at age) e ∙ looks a (Some (record { characteristic = u; age = age })) h f g
