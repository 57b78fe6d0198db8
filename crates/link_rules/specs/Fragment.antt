-- What is held of a frame, and a fragment's refusals (01, 'Rules of the link' and refusals 1, 2, 3, 5, 7; Core Vol 3 Part A 7.2.1, 3.1).
use Rattle.std.specs.Prelude.{ℕ, ◌+◌, Bool, not, ◌&&◌, ◌||◌, List, length, eqb, leb}
use Rattle.bytes_base.specs.Choice.{pick}
use Rattle.bytes_base.specs.Bytes.{le_at}
use Rattle.bytes_base.specs.Splice.{splice}
use Rattle.state_places.specs.Sizes.{held_at, frame_size}
use Rattle.time.specs.declared.Micros.{Micros}
use Rattle.state.specs.Central.{Central, with_bearer}
use Rattle.state.specs.declared.Bearer.{Bearer}
use Rattle.state_rules.specs.Fit.{most_notified}
use Rattle.state_rules.specs.Gate.{gate}
use Rattle.state_rules.specs.Refusals.{accepted, counter_full, long_frame}
use Rattle.script_rules.specs.World.{Held}

-- ---- what is held

abbrev pub holding : Bearer → ℕ → Bearer
holding b n = record { held = n; link = b.link; present = b.present; closed = b.closed }

abbrev pub with_held : Central → ℕ → Central
with_held c n = with_bearer c (holding c.bearer n)

-- with no link, and a continuation on nothing
abbrev pub dropped : Bearer → Bool → Bool
dropped b start = not b.present || (not start && eqb b.held 0)

-- a start clears what is held
abbrev pub held_before : Bearer → Bool → ℕ
held_before b start = pick start 0 b.held

-- the bytes of a fragment stand behind those held
unfoldable pub gathered : Held → Bool → List ℕ → Held
gathered h start fragment =
    let from = held_before h.state.bearer start in
    record {
      state = with_held h.state (from + length fragment);
      store = splice h.store (held_at + from) fragment 0 (length fragment);
    }

-- ---- a frame

-- its length and its channel (Part A 3.1)
abbrev pub frame_length : Held → ℕ
frame_length h = le_at 2 h.store held_at

abbrev pub frame_channel : Held → ℕ
frame_channel h = le_at 2 h.store (held_at + 2)

-- whether 4 + length bytes are there
abbrev pub whole : Held → Bool
whole h = leb 4 h.state.bearer.held && leb (4 + frame_length h) h.state.bearer.held

-- ---- refusals

-- a fragment of n bytes: refusal 7 is not given
unfoldable pub held_fits : Bearer → Bool → ℕ → Bool
held_fits b start n = dropped b start || leb (held_before b start + n) frame_size

-- in their order: 1, 2, 3, then 5, then 7
unfoldable pub gate_fragment : Central → ℕ → ℕ → Micros → Bool → ℕ → ℕ
gate_fragment c store out at start n =
    let g = gate c store out at in
    pick (eqb g accepted)
    (pick (eqb c.counters.notified most_notified) counter_full (pick (held_fits c.bearer start n) accepted long_frame))
    g

-- refusal 7 alone sets the held length to zero
abbrev pub refusing : Central → ℕ → Central
refusing c why = pick (eqb why long_frame) (with_held c 0) c
