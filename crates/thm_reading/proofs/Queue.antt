-- Steps that join the waiting ones, and the first of them that begins, are blind to dead places.
use Prim.Native.Nat.{ℕ, ◌*◌, ◌<◌}
use mathlib.Core.Path.{◌≡◌, sym, ap, ◌∙◌}
use mathlib.Core.Bool.{Bool, true, false}
use mathlib.Core.List.{List, [], ◌∷◌, ◌++◌}
use lib.ListN.{length, drop}
use lib.Seq.{get_or-take}
use lib.Dec.{ltb}
use Rattle.bytes_base.specs.Choice.{pick}
use Rattle.bytes_base.specs.Splice.{splice, moved}
use Rattle.state_places.specs.Sizes.{most_steps, value_size, running_at, waiting_at}
use Rattle.state.specs.Central.{Central, with_counters, with_queue}
use Rattle.state.specs.Fresh.{no_queued}
use Rattle.state.specs.declared.Queue.{Queue}
use Rattle.state.specs.declared.Queued.{Queued}
use Rattle.script_rules.specs.World.{Held}
use Rattle.script_rules.specs.declared.Placed.{Placed}
use Rattle.script_rules.specs.BatchSteps.{value_len, queued}
use Rattle.script_rules.specs.Waiting.{waiting, queueing, refusing, push_one, push_all, begun, counted, take_step}
use Rattle.thm_reading.specs.Live.{live_queue}
use Rattle.thm_reading.proofs.Tables.{cut_twice, results-twice, reports-twice, services-twice, characteristics-twice, notifications-twice, live-twice, queue-holds}
use Rattle.thm_reading.proofs.Blind.{cut, held-twice}

-- ---- a list that is made of those that wait

queue-becomes : (t : Queue) (f : List Queued → List Queued) → live_queue (queueing t (f (waiting t))) ≡ live_queue (queueing (live_queue t) (f (waiting (live_queue t))))
queue-becomes t f =
    queue-holds t (f (waiting t))
    ∙ ap (λ (l : List Queued). record { kept = f l; count = length (f l) }) (sym (cut_twice t.count t.kept))
    ∙ sym (queue-holds (live_queue t) (f (waiting (live_queue t))))

-- ---- one more, and a batch of them

module _ (values : List ℕ) where
  push-one-blind : (h : Held) (p : Placed) → cut (push_one h values p) ≡ cut (push_one (cut h) values p)
  unfolding push_one
  push-one-blind h p = go (ltb h.state.queue.count most_steps)
    where
      into : Held → Held
      into g =
          record {
            state = with_queue g.state (queueing g.state.queue (waiting g.state.queue ++ (queued p ∷ [])));
            store = splice g.store (waiting_at g.state.queue.count) values p.place (value_len p);
          }

      over : Held → Held
      over g = record { state = with_counters g.state (refusing g.state.counters); store = g.store }

      go : (b : Bool) → cut (pick b (into h) (over h)) ≡ cut (pick b (into (cut h)) (over (cut h)))
      go true = λ i.
          record {
            state = with_queue (sym (live-twice h.state) i) (queue-becomes h.state.queue (λ l. l ++ (queued p ∷ [])) i);
            store = splice h.store (waiting_at h.state.queue.count) values p.place (value_len p);
          }
      go false = held-twice (over h)

  pub push-blind : (h : Held) (ps : List Placed) → cut (push_all h values ps) ≡ cut (push_all (cut h) values ps)
  unfolding push_all
  push-blind h [] = held-twice h
  push-blind h (p ∷ ps) =
      push-blind (push_one h values p) ps
      ∙ ap (λ (g : Held). cut (push_all g values ps)) (push-one-blind h p)
      ∙ sym (push-blind (push_one (cut h) values p) ps)

-- ---- the first begins: one waits

pub take-blind : (h : Held) → 0 < h.state.queue.count → cut (take_step h) ≡ cut (take_step (cut h))
unfolding take_step
take-blind h some = λ i.
    record {
      state = record {
        counters = counted c.counters;
        queue = queue-becomes q (drop 1) i;
        running = begun (sym (get_or-take q.count q.kept 0 no_queued some) i) c.counters.next_index;
        keys = record { kept = []; count = 0 };
        results = sym (results-twice c.results) i;
        reports = sym (reports-twice c.reports) i;
        bearer = c.bearer;
        services = sym (services-twice c.services) i;
        characteristics = sym (characteristics-twice c.characteristics) i;
        notifications = sym (notifications-twice c.notifications) i;
        options = c.options;
      };
      store = moved h.store running_at (waiting_at 0) (value_size * q.count);
    }
  where
    c : Central
    c = h.state

    q : Queue
    q = h.state.queue
