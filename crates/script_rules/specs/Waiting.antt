-- The waiting steps (01, 'Sizes': 64, beyond them counted in refused_steps), the next one first, each with its value in the store.
use Rattle.std.specs.Prelude.{ℕ, ◌+◌, ◌*◌, true, false, List, [], ◌∷◌, ◌++◌, length, drop, get_or, ltb}
use Rattle.bytes_base.specs.Choice.{pick}
use Rattle.bytes_base.specs.Splice.{splice, moved}
use Rattle.lists.specs.Queue.{onto}
use Rattle.state_places.specs.Sizes.{most_steps, value_size, running_at, waiting_at}
use Rattle.state.specs.Central.{with_counters, with_queue}
pub use Rattle.state.specs.Kept.{waiting}
use Rattle.state.specs.Fresh.{no_queued}
use Rattle.state.specs.declared.Queued.{Queued}
use Rattle.state.specs.declared.Queue.{Queue}
use Rattle.state.specs.declared.Keys.{Keys}
use Rattle.state.specs.declared.Counters.{Counters}
use Rattle.state.specs.declared.Running.{Running}
use Rattle.script_rules.specs.World.{Held}
use Rattle.script_rules.specs.declared.Placed.{Placed}
use Rattle.script_rules.specs.BatchSteps.{value_len, queued}

-- the queue with other steps in it; a place that is not live stays as it is
abbrev pub queueing : Queue → List Queued → Queue
queueing q l = record { kept = onto q.kept l; count = length l }

-- ---- one more

abbrev pub refusing : Counters → Counters
refusing k = record { next_index = k.next_index; refused_steps = k.refused_steps + 1; notified = k.notified; wait_from = k.wait_from; links = k.links }

-- behind the others, with its value; or counted, where 64 wait
unfoldable pub push_one : Held → List ℕ → Placed → Held
push_one h values p =
    let c = h.state in
    pick (ltb c.queue.count most_steps)
    (record {
      state = with_queue c (queueing c.queue (waiting c.queue ++ (queued p ∷ [])));
      store = splice h.store (waiting_at c.queue.count) values p.place (value_len p);
    })
    (record { state = with_counters c (refusing c.counters); store = h.store })

-- one after another
unfoldable pub push_all : Held → List ℕ → List Placed → Held
push_all h values [] = h
push_all h values (p ∷ ps) = push_all (push_one h values p) values ps

-- ---- the first begins

-- a step that begins: no deadline yet, discovery at its first phase
abbrev pub begun : Queued → ℕ → Running
begun q index = record { deadline = record { 0 = 0 }; step = q.step; index = index; cursor = 1; len = q.len; phase = 0; active = true; dated = false }

abbrev pub counted : Counters → Counters
counted k = record { next_index = k.next_index + 1; refused_steps = k.refused_steps; notified = k.notified; wait_from = k.wait_from; links = k.links }

-- no advertiser has been asked
abbrev pub unasked : Keys → Keys
unasked k = record { kept = k.kept; count = 0 }

-- the first waiting step runs, with the next number; its value and those behind it are one place down
unfoldable pub take_step : Held → Held
take_step h =
    let c = h.state in
    record {
      state = record {
        counters = counted c.counters;
        queue = queueing c.queue (drop 1 (waiting c.queue));
        running = begun (get_or c.queue.kept 0 no_queued) c.counters.next_index;
        keys = unasked c.keys;
        results = c.results;
        reports = c.reports;
        bearer = c.bearer;
        services = c.services;
        characteristics = c.characteristics;
        notifications = c.notifications;
        options = c.options;
      };
      store = moved h.store running_at (waiting_at 0) (value_size * c.queue.count);
    }
