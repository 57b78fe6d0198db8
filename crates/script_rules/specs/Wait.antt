-- The wait check (01, 'Rules of the link'; 02, One): what a WaitNotification step looks at, when it starts and at each notification.
use Rattle.std.specs.Prelude.{ℕ, ◌+◌, ◌-◌, ◌≤◌, ◌≡◌, Bool, true, drop, Option, Some, None}
use Rattle.bytes_base.specs.Choice.{pick}
use Rattle.lists.specs.Blocks.{bytes}
use Rattle.state_places.specs.Sizes.{running_at, held_at, most_results, most_characteristics, most_notifications}
use Rattle.time.specs.declared.Micros.{Micros}
use Rattle.notifications.specs.Kept.{live, heard, values_fit, skipped_of}
use Rattle.notifications.specs.Wait.{passes, newest_counted}
use Rattle.notifications.specs.declared.Wanted.{Wanted}
use Rattle.notifications.specs.declared.Age.{Age}
use Rattle.notifications.specs.declared.Age.TheVariants.{Any, Within}
use Rattle.gatt_characteristics.specs.Characteristic.{known, characteristic_with}
use Rattle.state.specs.Central.{Central, with_counters}
use Rattle.state.specs.declared.Counters.{Counters}
use Rattle.state.specs.declared.Step.{Step}
use Rattle.state.specs.declared.Step.TheVariants.{Scan, Connect, ExchangeMtu, DiscoverServices, DiscoverCharacteristics, Subscribe, Write, Read, WaitNotification, Wait, Disconnect, Capture, CaptureSecrets}
use Rattle.state.specs.declared.StepStatus.TheVariants.{Ok, NotFound}
use Rattle.state_rules.specs.Fit.{most_notified}
use Rattle.script_rules.specs.World.{Held, on_state}
use Rattle.script_rules.specs.declared.Awaited.{Awaited}
use Rattle.script_rules.specs.Finish.{finish}
use Rattle.gatt_characteristics.specs.declared.Characteristic.{Characteristic}

-- what the check goes by: of a fit state's facts, those of results, characteristics and notifications
pub record Looks (c : Central) : Type 0 where
  pub results : c.results.count ≤ most_results
  pub characteristics : c.characteristics.count ≤ most_characteristics
  pub notifications : c.notifications.count ≤ most_notifications
  pub values : values_fit (live c.notifications) ≡ true
  pub kept : c.notifications.count ≤ c.counters.notified
  pub notified : c.counters.notified ≤ most_notified

-- what a wait on a handle goes by: its age, the present link, the time of the call
abbrev pub wanted : Central → Micros → ℕ → Age → Wanted
wanted c at handle age = record { handle = handle; age = age; link = pick c.bearer.present (Some c.counters.links) None; now = at }

-- how many of the kept notifications came before `wait_from`
abbrev pub skipped : Central → ℕ
skipped c = skipped_of c.counters.notified c.notifications.count c.counters.wait_from

-- the notifications from `wait_from` on that count pass the running step's `contains`
abbrev pub wait_passes : Held → Wanted → Bool
wait_passes h w =
    let c = h.state in
    passes w (drop (skipped c) (heard h.store (live c.notifications))) (bytes h.store running_at c.running.len)

-- what an aged wait passes on: one past the number of the newest notification that counts
abbrev pub passed_on : Central → Wanted → Age → ℕ
passed_on c w Any = 0
passed_on c w (Within age) =
    newest_counted w (c.counters.notified - c.notifications.count + skipped c) 0 (drop (skipped c) (live c.notifications))

-- all that was notified so far is behind the wait that passed
abbrev pub passed : Counters → Counters
passed k =
    record { next_index = k.next_index; refused_steps = k.refused_steps; notified = k.notified; wait_from = k.notified; links = k.links }

-- a wait that passes ends
abbrev pub passing : Held → Micros → Wanted → Held
passing h at w =
    finish (on_state h (with_counters h.state (passed h.state.counters))) at Ok held_at 0 (passed_on h.state w w.age)

-- by the characteristic that the step names
unfoldable pub check_one : Held → Micros → Age → Option Characteristic → Held
check_one h at age None = finish h at NotFound held_at 0 0
check_one h at age (Some x) =
    let w = wanted h.state at x.value_handle age in
    pick (wait_passes h w) (passing h at w) h

-- the characteristic that a step waits on, and with which age: a WaitNotification's, and no other step's
abbrev pub awaited : Step → Option Awaited
awaited (Scan ms) = None
awaited (Connect target interval latency timeout ms) = None
awaited (ExchangeMtu mtu) = None
awaited DiscoverServices = None
awaited (DiscoverCharacteristics service) = None
awaited (Subscribe characteristic indicate) = None
awaited (Write characteristic response) = None
awaited (Read characteristic) = None
awaited (WaitNotification characteristic ms age) = Some (record { characteristic = characteristic; age = age })
awaited (Wait ms) = None
awaited Disconnect = None
awaited (Capture enabled) = None
awaited (CaptureSecrets secrets) = None

unfoldable pub check_for : Held → Micros → Option Awaited → Held
check_for h at None = h
check_for h at (Some a) = check_one h at a.age (characteristic_with a.characteristic (known h.state.characteristics))

unfoldable pub check_wait : Held → Micros → Held
check_wait h at = pick h.state.running.active (check_for h at (awaited h.state.running.step)) h
