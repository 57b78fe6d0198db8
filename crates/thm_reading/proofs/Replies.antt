-- An MTU that is exchanged, and a notification, are blind to dead places.
use Prim.Native.Nat.{ℕ, ◌+◌, ◌-◌}
use mathlib.Core.Path.{◌≡◌, sym}
use mathlib.Core.Bool.{Bool}
use Rattle.bytes_base.specs.Bytes.{le_at}
use Rattle.time.specs.declared.Micros.{Micros}
use Rattle.notifications.specs.Kept.{kept_value}
use Rattle.state.specs.Central.{with_counters, with_notifications}
use Rattle.script_rules.specs.World.{Held, World}
use Rattle.script_rules.specs.Wait.{check_wait}
use Rattle.link_rules.specs.Payload.{payload_at, payload}
use Rattle.link_rules.specs.Replies.{exchange, noted, keep_one, confirmed, notice}
use Rattle.thm_reading.proofs.Tables.{live-twice, notifications-keep}
use Rattle.thm_reading.proofs.Blind.{cut, cut_world, world-twice, via}
use Rattle.thm_reading.proofs.Starts.{check-blind}

pub exchange-blind : (w : World) (theirs : ℕ) → cut_world (exchange w theirs) ≡ cut_world (exchange (cut_world w) theirs)
unfolding exchange
exchange-blind w theirs = world-twice (exchange w theirs)

module _ (at : Micros) where
  keep-blind : (h : Held) (handle n : ℕ) (indication : Bool) → cut (keep_one h at handle n indication) ≡ cut (keep_one (cut h) at handle n indication)
  unfolding keep_one
  keep-blind h handle n indication = λ i.
      let c = h.state in
      record {
        state = with_counters
            (with_notifications (sym (live-twice c) i)
            (notifications-keep c.notifications (record { at = at; handle = handle; len = n; indication = indication; link = c.counters.links }) i))
            (noted c.counters);
        store = kept_value h.store c.notifications.count (payload_at + 3) n;
      }

  pub notice-blind : (w : World) (n : ℕ) (indication : Bool) → cut_world (notice w at n indication) ≡ cut_world (notice (cut_world w) at n indication)
  unfolding notice
  notice-blind w n indication = λ i. record { held = looked i; told = confirmed w.told indication }
    where
      keeps : Held → Held
      keeps h = keep_one h at (le_at 2 (payload w.held n) 1) (n - 3) indication

      looked : cut (check_wait (keeps w.held) at) ≡ cut (check_wait (keeps (cut w.held)) at)
      looked =
          via cut cut (λ h. check_wait h at) (check-blind at) (keeps w.held) (keeps (cut w.held))
          (keep-blind w.held (le_at 2 (payload w.held n) 1) (n - 3) indication)
