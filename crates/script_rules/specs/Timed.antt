-- Deadlines. A step's milliseconds are a u32; definitions speak of numbers of any size, so that a deadline is at most 2^63 (01, fit)
-- only where the steps are such as their types allow.
use Rattle.std.specs.Prelude.{ℕ, ◌≤◌, ◌≡◌, Bool, true, List, leb}
use Rattle.lists.specs.Queue.{all}
use Rattle.state.specs.Central.{Central}
use Rattle.state.specs.declared.Queued.{Queued}
use Rattle.state.specs.declared.Step.{Step}
use Rattle.state.specs.declared.Step.TheVariants.{Scan, Connect, ExchangeMtu, DiscoverServices, DiscoverCharacteristics, Subscribe, Write, Read, WaitNotification, Wait, Disconnect, Capture, CaptureSecrets}
use Rattle.state_rules.specs.Fit.{waiting, last_deadline}

-- the milliseconds that a step names, or 0 where it names none
abbrev pub milliseconds : Step → ℕ
milliseconds (Scan ms) = ms.0
milliseconds (Connect target interval latency timeout ms) = ms.0
milliseconds (ExchangeMtu mtu) = 0
milliseconds DiscoverServices = 0
milliseconds (DiscoverCharacteristics service) = 0
milliseconds (Subscribe characteristic indicate) = 0
milliseconds (Write characteristic response) = 0
milliseconds (Read characteristic) = 0
milliseconds (WaitNotification characteristic ms age) = ms.0
milliseconds (Wait ms) = ms.0
milliseconds Disconnect = 0
milliseconds (Capture enabled) = 0
milliseconds (CaptureSecrets secrets) = 0

-- they are a u32: at most 2^32 - 1
unfoldable pub narrow : Step → Bool
narrow step = leb (milliseconds step) 4294967295

abbrev pub narrow_all : List Queued → Bool
narrow_all l = all (λ q. narrow q.step) l

-- the running step and those that wait are as their types allow
pub record Narrow (c : Central) : Type 0 where
  pub running : c.running.active ≡ true → narrow c.running.step ≡ true
  pub waiting : narrow_all (waiting c.queue) ≡ true

-- and a deadline is at most 2^63
pub record Timed (c : Central) : Type 0 where
  pub running : c.running.active ≡ true → narrow c.running.step ≡ true
  pub waiting : narrow_all (waiting c.queue) ≡ true
  pub deadline : c.running.active ≡ true → c.running.dated ≡ true → c.running.deadline.0 ≤ last_deadline
