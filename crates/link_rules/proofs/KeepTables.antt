-- The tables that a response's entries leave: no more entries than places, and characteristics still rising.
use Prim.Native.Nat.{ℕ, ◌≤◌}
use mathlib.Core.Path.{◌≡◌, refl}
use mathlib.Core.Bool.{true}
use mathlib.Core.List.{List}
use native.Mathlib.Omega.{arith}
use lib.ListN.{length-take}
use Rattle.state_places.specs.Sizes.{most_services, most_characteristics}
use Rattle.lists.proofs.TakenLaws.{taken-most}
use Rattle.gatt_services.specs.Service as service
use Rattle.gatt_services.specs.declared.Services.{Services}
use Rattle.gatt_characteristics.specs.Characteristic.{known, rises, more, declaration_of, characteristics_taken}
use Rattle.gatt_characteristics.specs.declared.Characteristics.{Characteristics}
use Rattle.gatt_characteristics.proofs.Keeps.{rising-if, rises-if, taken-rising}
use Rattle.gatt_descriptors.specs.Named.{descriptors_named}
use Rattle.gatt_descriptors.proofs.NamedLaws.{length-given_all}
use Rattle.gatt_descriptors.proofs.Keeps.{named-rising}
use Rattle.state.specs.Central.{with_services, with_characteristics}
use Rattle.script_rules.specs.World.{Held, on_state}
use Rattle.script_rules.specs.Nearly.{Nearly}
use Rattle.script_rules.proofs.KeepTurns.{Stays}

-- ---- what the entries leave

pub services-few : (t : Services) (es : List (List ℕ)) → t.count ≤ most_services → (service.services_taken t es).table.count ≤ most_services
services-few t es h = taken-most service.more service.end_of most_services (service.known t) service.last_handle es (omega (arith, length-take t.count t.kept))

module _ (t : Characteristics) (none : ℕ) (es : List (List ℕ)) where
  pub taken-few : t.count ≤ most_characteristics → (characteristics_taken t none es).table.count ≤ most_characteristics
  taken-few h = taken-most more declaration_of most_characteristics (known t) none es (omega (arith, length-take t.count t.kept))

  pub taken-rises : rises (known t) ≡ true → rises (known (characteristics_taken t none es).table) ≡ true
  taken-rises e = rises-if (known (characteristics_taken t none es).table) (taken-rising t none es (rising-if (known t) e))

module _ (t : Characteristics) (first : ℕ) (es : List (List ℕ)) where
  pub named-few : t.count ≤ most_characteristics → (descriptors_named t first es).table.count ≤ most_characteristics
  named-few h = omega (arith, length-given_all (known t) es, length-take t.count t.kept)

  pub named-rises : rises (known t) ≡ true → rises (known (descriptors_named t first es).table) ≡ true
  named-rises e = rises-if (known (descriptors_named t first es).table) (named-rising t first es (rising-if (known t) e))

-- ---- the state with such a table

pub stays-services : (h : Held) (t : Services) → t.count ≤ most_services → Nearly h.state → Stays h (on_state h (with_services h.state t))
stays-services h t few f =
    record {
      nearly = record {
        waits = f.waits;
        keys = f.keys;
        results = f.results;
        peer = record { services = few; characteristics = f.peer.characteristics; rising = f.peer.rising };
        heard = f.heard;
        tally = f.tally;
        linked = f.linked;
        runs = f.runs;
        asks = f.asks;
      };
      store = refl;
      queue = refl;
      timed = λ x. record { running = x.running; waiting = x.waiting; deadline = x.deadline };
    }

pub stays-characteristics : (h : Held) (t : Characteristics) → t.count ≤ most_characteristics → rises (known t) ≡ true → Nearly h.state
    → Stays h (on_state h (with_characteristics h.state t))
stays-characteristics h t few up f =
    record {
      nearly = record {
        waits = f.waits;
        keys = f.keys;
        results = f.results;
        peer = record { services = f.peer.services; characteristics = few; rising = up };
        heard = f.heard;
        tally = f.tally;
        linked = f.linked;
        runs = f.runs;
        asks = f.asks;
      };
      store = refl;
      queue = refl;
      timed = λ x. record { running = x.running; waiting = x.waiting; deadline = x.deadline };
    }
