-- Dead places never matter.
use mathlib.Core.Path.{◌≡◌, ap}
use Rattle.state.specs.Central.{Central}
use Rattle.script_rules.specs.Outcome.{Outcome, Quiet}
use Rattle.script_rules.specs.Batch as batch
use Rattle.script_rules.specs.Events as events
use Rattle.link_rules.specs.Link as link
use Rattle.radio_rules.specs.Hearing as radio
use Rattle.state_readers.specs.Readers as readers
use Rattle.thm_reading.specs.Live.{live, Alike}
use Rattle.thm_reading.specs.Same.{SameOutcome, SameQuiet, SameHeard}
use Rattle.thm_reading.specs.Dead.{DeadPlacesNeverMatter}
use Rattle.thm_reading.proofs.Blind.{via}
use Rattle.thm_reading.proofs.Calls.{live_outcome, live_quiet, push-steps-blind, on-timer-blind, on-connected-blind, on-disconnected-blind, on-fragment-blind, timer-blind}
use Rattle.thm_reading.proofs.Calls.{handle-blind, result-blind, passed-blind}
use Rattle.thm_reading.proofs.Radio.{live_heard, advertised-alike, responded-blind}

-- ---- part by part

same_outcome : (a b : Outcome) → live_outcome a ≡ live_outcome b → SameOutcome a b
same_outcome a b e =
    record {
      refusal = ap (λ (o : Outcome). o.refusal) e;
      sent = ap (λ (o : Outcome). o.sent) e;
      store = ap (λ (o : Outcome). o.store) e;
      out = ap (λ (o : Outcome). o.out) e;
      state = ap (λ (o : Outcome). o.state) e;
    }

same-quiet : (a b : Quiet) → live_quiet a ≡ live_quiet b → SameQuiet a b
same-quiet a b e =
    record { refusal = ap (λ (o : Quiet). o.refusal) e; store = ap (λ (o : Quiet). o.store) e; state = ap (λ (o : Quiet). o.state) e }

same-heard : (a b : radio.Outcome) → live_heard a ≡ live_heard b → SameHeard a b
same-heard a b e =
    record {
      refusal = ap (λ (o : radio.Outcome). o.refusal) e;
      action = ap (λ (o : radio.Outcome). o.action) e;
      store = ap (λ (o : radio.Outcome). o.store) e;
      state = ap (λ (o : radio.Outcome). o.state) e;
    }

-- ---- a call that is blind, with states that are alike

sends : (f : Central → Outcome) → ((c : Central) → live_outcome (f c) ≡ live_outcome (f (live c))) → (c d : Central) → Alike c d → SameOutcome (f c) (f d)
sends f blind c d e = same_outcome (f c) (f d) (via live live_outcome f blind c d e)

pub dead-places : DeadPlacesNeverMatter
dead-places c d p q e =
    record {
      push_steps = λ store out at b values. sends (λ x. batch.push_steps x store out at b values) (λ x. push-steps-blind store out x at b values) c d e;
      on_timer = λ store out at. sends (λ x. events.on_timer x store out at) (λ x. on-timer-blind store out x at) c d e;
      on_connected = λ store out handle at. sends (λ x. events.on_connected x store out handle at) (λ x. on-connected-blind store out x handle at) c d e;
      on_disconnected = λ store at.
          same-quiet (events.on_disconnected c store at) (events.on_disconnected d store at)
          (via live live_quiet (λ x. events.on_disconnected x store at) (λ x. on-disconnected-blind x store at) c d e);
      on_fragment = λ store out at start fragment.
          sends (λ x. link.on_fragment x store out at start fragment) (λ x. on-fragment-blind store out x at start fragment) c d e;
      on_advertising = λ store v. same-heard (radio.advertised c store v) (radio.advertised d store v) (advertised-alike v c d p q e store);
      on_scan_response = λ store at a bytes.
          same-heard (radio.scan_responded c store at a bytes) (radio.scan_responded d store at a bytes)
          (via live live_heard (λ x. radio.scan_responded x store at a bytes) (responded-blind store at a bytes) c d e);
      timer = λ store. via live (λ x. x) (λ x. readers.timer x store) (λ x. timer-blind x store) c d e;
      handle = λ store. via live (λ x. x) (λ x. readers.handle x store) (λ x. handle-blind x store) c d e;
      result = λ store index. via live (λ x. x) (λ x. readers.result_answer x store index) (λ x. result-blind x store index) c d e;
      passed_on = λ store index. via live (λ x. x) (λ x. readers.passed_on x store index) (λ x. passed-blind x store index) c d e;
    }
