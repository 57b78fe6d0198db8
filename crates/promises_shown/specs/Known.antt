-- What is known once the battery level is discovered, written out: three lists of calls go on from here.
use Rattle.std.specs.Prelude.{ℕ, ◌-◌, ◌≡◌, refl, true, false, List, [], ◌∷◌, ◌++◌, replicate, None}
use Rattle.std.proofs.Common.{ap, ◌∙◌}
use Rattle.state_places.specs.Sizes.{store_size, held_at}
use Rattle.gatt_services.specs.Service.{zero-service}
use Rattle.gatt_characteristics.specs.Characteristic.{zero-characteristic}
use Rattle.state.specs.Central.{Central}
use Rattle.state.specs.Fresh.{no_options, fresh_central, no_queued, no_result}
use Rattle.state.specs.declared.Options.{Options}
use Rattle.state.specs.declared.Step.TheVariants.{DiscoverCharacteristics}
use Rattle.state.specs.declared.StepStatus.TheVariants.{Ok}
use Rattle.script_rules.specs.World.{Held}
use Rattle.thm_trail.specs.Calls.{Call, does, left, run}
use Rattle.promises_shown.specs.Opened.{opened}
use Rattle.promises_shown.specs.Sequences.{fresh, store, at, battery, level, known}

-- the step is over, its result is the first, and one service and one characteristic are kept
unfoldable pub knowing : Options → Central
unfolding fresh_central
knowing options =
    record {
      counters = record { next_index = 1; refused_steps = 0; notified = 0; wait_from = 0; links = 1 };
      queue = record { kept = record { step = DiscoverCharacteristics battery; len = 0 } ∷ replicate 63 no_queued; count = 0 };
      running = record {
        deadline = at 30000004;
        step = DiscoverCharacteristics battery;
        index = 0;
        cursor = 0xFFFF;
        len = 0;
        phase = 1;
        active = false;
        dated = true;
      };
      keys = fresh_central.keys;
      results = record { kept = record { index = 0; at = at 5; status = Ok; len = 0; heard = 0 } ∷ replicate 63 no_result; count = 1 };
      reports = fresh_central.reports;
      bearer = record { held = 0; link = record { handle = 64; mtu = 23; pending = 0; terminating = false }; present = true; closed = false };
      services = record { kept = record { start = 0xFFFD; end = 0xFFFF; uuid = battery } ∷ replicate 31 zero-service; count = 1 };
      characteristics = record {
        kept = record { declaration = 0xFFFE; value_handle = 0xFFFF; uuid = level; properties = 0x02; cccd = None } ∷ replicate 63 zero-characteristic;
        count = 1;
      };
      notifications = fresh_central.notifications;
      options = options;
    }

-- the last two frames that were held, one over the other
unfoldable pub known_store : List ℕ
known_store =
    replicate held_at 0
    ++ (0x05 ∷ 0x00 ∷ 0x04 ∷ 0x00 ∷ 0x01 ∷ 0x08 ∷ 0xFF ∷ 0xFF ∷ 0x0A ∷ 0xFF ∷ 0xFF ∷ 0x19 ∷ 0x2A ∷ replicate (store_size - held_at - 13) 0)

abbrev pub knows : Held
knows = record { state = knowing no_options; store = known_store }

pub known_is : run (fresh store) known ≡ knows
unfolding opened knowing known_store
known_is = refl

-- what comes after goes on from there
pub run-after : (h : Held) (cs ds : List Call) → run h (cs ++ ds) ≡ run (run h cs) ds
run-after h [] ds = refl
run-after h (c ∷ cs) ds = run-after (left (does h c)) cs ds

pub from-there : (ds : List Call) → run (fresh store) (known ++ ds) ≡ run knows ds
from-there ds = run-after (fresh store) known ds ∙ ap (λ (h : Held). run h ds) known_is
