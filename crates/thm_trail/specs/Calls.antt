-- The ten calls of 01 and the reader of 02, One, and sequences of them. The right sides of `does` are those of the calls' contracts.
use Rattle.std.specs.Prelude.{ℕ, Bool, List, [], ◌∷◌, length, replicate, eqb}
use Rattle.state_places.specs.Sizes.{output_size}
use Rattle.time.specs.declared.Micros.{Micros}
use Rattle.state.specs.Fresh.{fresh_with}
use Rattle.state.specs.declared.Address.{Address}
use Rattle.state.specs.declared.Options.{Options}
use Rattle.state_rules.specs.Refusals.{accepted}
use Rattle.state_rules.specs.Gate.{gate, gate_quiet, gate_reader}
use Rattle.script_rules.specs.World.{Held}
use Rattle.script_rules.specs.declared.Batch.{Batch}
use Rattle.script_rules.specs.Outcome.{Outcome, Quiet, unsent}
use Rattle.script_rules.specs.Batch.{gate_batch, push_steps}
use Rattle.script_rules.specs.Events.{on_timer, gate_connected, on_connected, on_disconnected}
use Rattle.radio_rules.specs.Hearing as radio
use Rattle.link_rules.specs.Fragment.{gate_fragment}
use Rattle.link_rules.specs.Link.{on_fragment}

-- a call that only reads, with its argument
pub data Reader : Type 0 where
  timer_us : Reader
  connected_handle : Reader
  result_of : ℕ → Reader
  passed_on : ℕ → Reader

-- a call, with all that its caller hands it but the state and the store; the output comes first where one is lent
pub data Call : Type 0 where
  batch : List ℕ → Micros → Batch → List ℕ → Call
  timer : List ℕ → Micros → Call
  connected : List ℕ → ℕ → Micros → Call
  disconnected : Micros → Call
  advertising : radio.Adv → Call
  scan_response : Micros → Address → List ℕ → Call
  fragment : List ℕ → Micros → Bool → List ℕ → Call
  -- it changes nothing; what it answers: thm_readers/specs/Said.antt
  reads : Reader → Call

-- a call that lends no output has none to touch: this one stands for it
unfoldable pub blank : List ℕ
blank = replicate output_size 0

-- the output that is lent
abbrev pub out_of : Call → List ℕ
out_of (batch out at b values) = out
out_of (timer out at) = out
out_of (connected out handle at) = out
out_of (disconnected at) = blank
out_of (advertising v) = blank
out_of (scan_response at a d) = blank
out_of (fragment out at start bytes) = out
out_of (reads r) = blank

-- the time that a call is handed (a reader has none, and gives no result)
abbrev pub time_of : Call → Micros
time_of (batch out at b values) = at
time_of (timer out at) = at
time_of (connected out handle at) = at
time_of (disconnected at) = at
time_of (advertising v) = v.at
time_of (scan_response at a d) = at
time_of (fragment out at start bytes) = at
time_of (reads r) = record { 0 = 0 }

-- a call that lends no output sends nothing
abbrev pub of_quiet : Quiet → Outcome
of_quiet q = record { state = q.state; refusal = q.refusal; sent = unsent; store = q.store; out = blank }

abbrev pub of_radio : radio.Outcome → Outcome
of_radio q = record { state = q.state; refusal = q.refusal; sent = unsent; store = q.store; out = blank }

-- what a reader leaves, refused or not
abbrev pub unread : Held → Outcome
unread h = record { state = h.state; refusal = gate_reader h.state (length h.store); sent = unsent; store = h.store; out = blank }

-- what each call does
abbrev pub does : Held → Call → Outcome
does h (batch out at b values) = push_steps h.state h.store out at b values
does h (timer out at) = on_timer h.state h.store out at
does h (connected out handle at) = on_connected h.state h.store out handle at
does h (disconnected at) = of_quiet (on_disconnected h.state h.store at)
does h (advertising v) = of_radio (radio.advertised h.state h.store v)
does h (scan_response at a d) = of_radio (radio.scan_responded h.state h.store at a d)
does h (fragment out at start bytes) = on_fragment h.state h.store out at start bytes
does h (reads r) = unread h

-- what one call leaves to the next
abbrev pub left : Outcome → Held
left x = record { state = x.state; store = x.store }

-- nothing has been called yet: any options may be chosen, any bytes may be in the store
abbrev pub fresh : Options → List ℕ → Held
fresh options store = record { state = fresh_with options; store = store }

-- a sequence of calls
abbrev pub run : Held → List Call → Held
run h [] = h
run h (c ∷ cs) = run (left (does h c)) cs

-- the refusal's number, 0 where the call is done
abbrev pub gate_of : Held → Call → ℕ
gate_of h (batch out at b values) = gate_batch h.state (length h.store) (length out) at b (length values)
gate_of h (timer out at) = gate h.state (length h.store) (length out) at
gate_of h (connected out handle at) = gate_connected h.state (length h.store) (length out) at
gate_of h (disconnected at) = gate_quiet h.state (length h.store) at
gate_of h (advertising v) = radio.refusal h.state (length h.store) v
gate_of h (scan_response at a d) = radio.response_refusal h.state (length h.store) at (length d)
gate_of h (fragment out at start bytes) = gate_fragment h.state (length h.store) (length out) at start (length bytes)
gate_of h (reads r) = gate_reader h.state (length h.store)

-- a call is done, and not refused
abbrev pub done? : Held → Call → Bool
done? h c = eqb (gate_of h c) accepted
