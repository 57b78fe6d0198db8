-- What goes back to the peer for a frame that is no response (Core Vol 3 Part A 4, Part H 3.5.5, Part F 3.4; 01, 'Rules of the link').
use Rattle.std.specs.Prelude.{ℕ, ◌+◌, ◌-◌, max, min, Bool, true, false, List, Option, Some, None}
use Rattle.bytes_base.specs.Choice.{pick}
use Rattle.bytes_base.specs.Bytes.{le_at}
use Rattle.time.specs.declared.Micros.{Micros}
use Rattle.l2cap.specs.Numbers.{cid_att, cid_signaling, cid_smp}
use Rattle.att_pdu.specs.Pdu.{att_error, exchange_mtu_rsp, confirmation}
use Rattle.l2cap_signaling.specs.Answer.{signaling_answer, smp_answer}
use Rattle.l2cap_params.specs.declared.Parameters.{Parameters}
use Rattle.notifications.specs.Kept.{keeping, kept_value}
use Rattle.state_rules.specs.Steps.{default_mtu, most_mtu}
use Rattle.state.specs.Central.{with_counters, with_notifications}
use Rattle.state.specs.declared.LinkRequest.TheVariants.{Update}
use Rattle.script_rules.specs.World.{Held, Told, World, on_state}
use Rattle.script_rules.specs.Send.{send}
use Rattle.script_rules.specs.Wait.{check_wait}
use Rattle.link_rules.specs.Payload.{payload_at, payload, with_mtu}
pub use Rattle.link_rules.specs.Notices.{noted}

-- ---- signaling and security manager

-- what goes back, where anything does
unfoldable pub reply : Told → ℕ → Option (List ℕ) → Told
reply t channel None = t
reply t channel (Some answer) = send t channel answer

-- parameters that are good are for the link layer too
abbrev pub asks_update : Told → Option Parameters → Told
asks_update t None = t
asks_update t (Some p) =
    record { sent = record { frames = t.sent.frames; bytes = t.sent.bytes; request = Some (Update p.interval p.latency p.timeout) }; out = t.out }

unfoldable pub on_signaling : Told → List ℕ → Told
on_signaling t pdu = let a = signaling_answer pdu in asks_update (reply t cid_signaling a.reply) a.update

unfoldable pub on_smp : Told → List ℕ → Told
on_smp t pdu = reply t cid_smp (smp_answer pdu)

-- ---- the peer's requests

-- none is served
unfoldable pub refuse : Told → ℕ → ℕ → ℕ → Told
refuse t opcode handle code = send t cid_att (att_error opcode handle code)

-- the peer asks for an MTU: it gets ours, and its own holds, clamped to 23..247 (01)
unfoldable pub exchange : World → ℕ → World
exchange w theirs =
    record {
      held = on_state w.held (with_mtu w.held.state (max default_mtu (min theirs most_mtu)));
      told = send w.told cid_att (exchange_mtu_rsp most_mtu);
    }

-- ---- notifications and indications

-- it is kept with its value, n bytes behind the opcode and the handle (Part F 3.4.7), and with the present link's number (02, One)
unfoldable pub keep_one : Held → Micros → ℕ → ℕ → Bool → Held
keep_one h at handle n indication =
    let c = h.state in
    record {
      state = with_counters
          (with_notifications c (keeping c.notifications (record { at = at; handle = handle; len = n; indication = indication; link = c.counters.links })))
          (noted c.counters);
      store = kept_value h.store c.notifications.count (payload_at + 3) n;
    }

-- an indication is confirmed
abbrev pub confirmed : Told → Bool → Told
confirmed t true = send t cid_att confirmation
confirmed t false = t

-- a payload of n bytes, 3 at least: it is kept, and the running wait looks at it
unfoldable pub notice : World → Micros → ℕ → Bool → World
notice w at n indication =
    record {
      held = check_wait (keep_one w.held at (le_at 2 (payload w.held n) 1) (n - 3) indication) at;
      told = confirmed w.told indication;
    }
