-- A frame goes out behind those before it; a request is awaited from then on, and has the ATT timeout (Core Vol 3 Part F 3.3.3).
use Rattle.std.specs.Prelude.{ℕ, ◌+◌, ◌≤◌, true, List, get_or}
use Rattle.time.specs.declared.Micros.{Micros}
use Rattle.time.specs.Clock.{att_deadline}
use Rattle.l2cap.specs.Numbers.{cid_att}
use Rattle.l2cap.specs.Frame.{Written, framed}
use Rattle.state.specs.Central.{Central, with_running, with_bearer}
use Rattle.state.specs.declared.Running.{Running}
use Rattle.state.specs.declared.Sent.{Sent}
pub use Rattle.link_record.specs.Record.{awaiting}
use Rattle.script_rules.specs.World.{Told, World, on_state}
use Rattle.script_rules.specs.Finish.{with_link}

-- room for a frame of n bytes of payload: at most 64 frames went before it
pub record Room (s : Sent) (out n : ℕ) : Type 0 where
  pub frames : s.frames ≤ 64
  pub fits : s.bytes + (4 + n) ≤ out
  pub short : n ≤ 65535

-- one frame more, and the bytes that were written
abbrev pub more : Sent → Written → Told
more s x = record { sent = record { frames = s.frames + 1; bytes = s.bytes + x.len; request = s.request }; out = x.out }

-- a payload goes out on a channel
unfoldable pub send : Told → ℕ → List ℕ → Told
send t channel payload = more t.sent (framed t.out t.sent.bytes channel payload)

-- the running step has a deadline
abbrev pub until : Running → Micros → Running
until r at = record { deadline = at; step = r.step; index = r.index; cursor = r.cursor; len = r.len; phase = r.phase; active = r.active; dated = true }

-- the state once a request of this opcode has gone out now
abbrev pub asked : Central → Micros → ℕ → Central
asked c now opcode =
    with_bearer (with_running c (until c.running (att_deadline now))) (with_link c.bearer (awaiting c.bearer.link opcode))

-- an ATT request goes out: its opcode is its first byte
unfoldable pub request : World → Micros → List ℕ → World
request w now pdu =
    record { held = on_state w.held (asked w.held.state now (get_or pdu 0 0)); told = send w.told cid_att pdu }
