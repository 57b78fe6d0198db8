-- A step that ends, a step that waits, and a request, are blind to dead places.
use Prim.Native.Nat.{ℕ}
use mathlib.Core.Path.{◌≡◌, sym}
use mathlib.Core.List.{List}
use Rattle.lists.specs.Blocks.{stored}
use Rattle.time.specs.declared.Micros.{Micros}
use Rattle.time.specs.declared.Millis.{Millis}
use Rattle.state.specs.Central.{Central, with_running, with_bearer, with_results}
use Rattle.state.specs.declared.StepStatus.{StepStatus}
use Rattle.state.specs.declared.StepResult.{StepResult}
use Rattle.script_rules.specs.World.{Held, World, on_held}
use Rattle.script_rules.specs.Finish.{result_part, idle, with_link, answered, ended, finish}
use Rattle.script_rules.specs.Send.{request}
use Rattle.script_rules.specs.Start.{waits_for}
use Rattle.thm_reading.proofs.Tables.{live-twice, results-push}
use Rattle.thm_reading.proofs.Blind.{cut, cut_world, held-twice, world-twice, pick-both}

-- ---- a step ends

module _ (h : Held) (at : Micros) (status : StepStatus) (from n heard : ℕ) where
  abbrev c : Central
  c = h.state

  abbrev new : StepResult
  new = record { index = c.running.index; at = at; status = status; len = n; heard = heard }

  pub ended-blind : cut (ended h at status from n heard) ≡ cut (ended (cut h) at status from n heard)
  unfolding ended
  ended-blind = λ i.
      record {
        state = with_results
            (with_bearer (with_running (sym (live-twice c) i) (idle c.running)) (with_link c.bearer (answered c.bearer.link)))
            (results-push c.results new i);
        store = stored result_part c.results.count h.store from n h.store;
      }

  pub finish-blind : cut (finish h at status from n heard) ≡ cut (finish (cut h) at status from n heard)
  unfolding finish
  finish-blind =
      pick-both cut c.running.active (ended h at status from n heard) h (ended (cut h) at status from n heard) (cut h) ended-blind (held-twice h)

-- the same of a world
pub finish-world : (w : World) (at : Micros) (status : StepStatus) (from n heard : ℕ)
    → cut_world (on_held w (finish w.held at status from n heard)) ≡ cut_world (on_held (cut_world w) (finish (cut w.held) at status from n heard))
finish-world w at status from n heard = λ i. record { held = finish-blind w.held at status from n heard i; told = w.told }

-- ---- a step waits

pub waits-blind : (h : Held) (at : Micros) (ms : Millis) → cut (waits_for h at ms) ≡ cut (waits_for (cut h) at ms)
waits-blind h at ms = held-twice (waits_for h at ms)

-- ---- a request

pub request-blind : (w : World) (at : Micros) (pdu : List ℕ) → cut_world (request w at pdu) ≡ cut_world (request (cut_world w) at pdu)
unfolding request
request-blind w at pdu = world-twice (request w at pdu)
