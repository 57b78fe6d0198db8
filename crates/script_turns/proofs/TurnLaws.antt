-- What each return asks, from what the callees ensure.
use Prim.Native.Nat.{ℕ}
use mathlib.Core.Path.{◌≡◌, ap, ◌∙◌}
use mathlib.Core.Bool.{true, false}
use mathlib.Core.List.{List}
use lib.ListN.{get_or}
use Rattle.lists.specs.Blocks.{stored}
use Rattle.l2cap.specs.Numbers.{cid_att}
use Rattle.time.specs.declared.Micros.{Micros}
use Rattle.time.specs.declared.Millis.{Millis}
use Rattle.time.specs.Clock.{deadline, att_deadline}
use Rattle.state.specs.Central.{Central}
use Rattle.state.specs.declared.Running.{Running}
use Rattle.state.specs.declared.Bearer.{Bearer}
use Rattle.state.specs.declared.Counts.{Counts}
use Rattle.state.specs.declared.Sent.{Sent}
use Rattle.state.specs.declared.StepResult.{StepResult}
use Rattle.state.specs.declared.StepStatus.{StepStatus}
use Rattle.script_rules.specs.World.{Held, Told, on_held}
use Rattle.script_rules.specs.Finish.{result_part, pushed_result, idle, answered, with_link, ended, finish}
use Rattle.script_rules.specs.Send.{until, awaiting, send, asked, request}
use Rattle.script_rules.specs.Start.{waits_for}
use Rattle.words.specs.Tables.{Tables, tables, with_results}
use Rattle.words_result.specs.Results.{results_as}
use Rattle.state_core.specs.declared.Core.{Core}
use Rattle.state_core.specs.declared.Turn.{Turn}
use Rattle.state_core.specs.Reading.{central_of, central, held, world, with_running}

-- ---- a step ends

abbrev more-results : Counts → ℕ → Counts
more-results n k = record { waiting = n.waiting; results = k; services = n.services; characteristics = n.characteristics; notifications = n.notifications }

abbrev over : Core → Bearer → ℕ → Core
over c b k = record { running = idle c.running; bearer = b; counters = c.counters; counts = more-results c.counts k; reports = c.reports; key_count = c.key_count; options = c.options }

module _ (c : Core) (w s : List ℕ) (at : Micros) (status : StepStatus) (from n heard : ℕ) where
  abbrev result : StepResult
  result = record { index = c.running.index; at = at; status = status; len = n; heard = heard }

  pub finish-on : (w' s' : List ℕ) (k : ℕ) (b : Bearer) → c.running.active ≡ true
      → s' ≡ stored result_part c.counts.results s from n s
      → (tables w' ≡ with_results (tables w) (pushed_result (results_as w c.counts.results) result).kept) × (k ≡ (pushed_result (results_as w c.counts.results) result).count)
      → b ≡ with_link c.bearer (answered c.bearer.link)
      → held (over c b k) w' s' ≡ finish (held c w s) at status from n heard
  unfolding finish ended
  finish-on w' s' k b e e₁ e₂ e₃ =
      ap (λ (t : Tables). record { state = central_of (over c b k) t; store = s' }) e₂.0 ∙ rw (e, e₃, e₂.1, e₁)

  pub finish_off : c.running.active ≡ false → held c w s ≡ finish (held c w s) at status from n heard
  unfolding finish
  finish_off e = rw e

pub turn-law : (t : Turn) (c : Core) (w s : List ℕ) (h : Held) → held c w s ≡ h
    → (o : List ℕ) → world (record { core = c; sent = t.sent }) w s o ≡ record { held = h; told = record { sent = t.sent; out = o } }
turn-law t c w s h e o = ap (λ (x : Held). record { held = x; told = record { sent = t.sent; out = o } }) e

-- ---- a step runs

pub wait-law : (c : Core) (at : Micros) (ms : Millis) (d : Micros) (r : Running) → d ≡ deadline at ms → r ≡ until c.running d
    → (w s : List ℕ) → held (with_running c r) w s ≡ waits_for (held c w s) at ms
wait-law c at ms d r e f w s = rw (f, e)

pub run-law : (t : Turn) (c : Core) (at : Micros) (ms : Millis) → ((w s : List ℕ) → held c w s ≡ waits_for (held t.core w s) at ms)
    → (w s o : List ℕ) → world (record { core = c; sent = t.sent }) w s o ≡ on_held (world t w s o) (waits_for (held t.core w s) at ms)
run-law t c at ms e w s o = ap (λ (x : Held). record { held = x; told = record { sent = t.sent; out = o } }) (e w s)

-- ---- a request goes out

pub asked-law : (c : Core) (at : Micros) (opcode : ℕ) (d : Micros) (r : Running) (b : Bearer) → d ≡ att_deadline at → r ≡ until c.running d
    → b ≡ with_link c.bearer (awaiting c.bearer.link opcode)
    → (w : List ℕ) → central (record { running = r; bearer = b; counters = c.counters; counts = c.counts; reports = c.reports; key_count = c.key_count; options = c.options }) w ≡ asked (central c w) at opcode
asked-law c at opcode d r b e f g w = rw (f, e, g)

pub request-law : (t : Turn) (c : Core) (sent : Sent) (at : Micros) (out out' pdu : List ℕ)
    → ◌≡◌ {A = Told} (record { sent = sent; out = out' }) (send (record { sent = t.sent; out = out }) cid_att pdu)
    → ((w : List ℕ) → central c w ≡ asked (central t.core w) at (get_or pdu 0 0))
    → (w s : List ℕ) → world (record { core = c; sent = sent }) w s out' ≡ request (world t w s out) at pdu
unfolding request
request-law t c sent at out out' pdu e f w s =
    ap (λ (x : Told). record { held = record { state = central c w; store = s }; told = x }) e
    ∙ ap (λ (x : Central). record { held = record { state = x; store = s }; told = send (record { sent = t.sent; out = out }) cid_att pdu }) (f w)
