-- What a new and a lost link keep (01, 'Rules of the link'): both tables, the notifications, `notified` and `wait_from`, but for what a step that
-- the call starts does to them by its own rule. A new link is counted (02, One).
use Rattle.std.specs.Prelude.{◌+◌, ◌≡◌, Bool, true, false, List}
use Rattle.lists.specs.Queue.{all}
use Rattle.lists.specs.Blocks.{Valued}
use Rattle.time.specs.declared.Micros.{Micros}
use Rattle.notifications.specs.declared.Notification.{Notification}
use Rattle.notifications.specs.Kept.{live, heard}
use Rattle.state.specs.declared.Step.{Step}
use Rattle.state.specs.declared.Step.TheVariants.{Scan, Connect, ExchangeMtu, DiscoverServices, DiscoverCharacteristics, Subscribe, Write, Read, WaitNotification, Wait, Disconnect, Capture, CaptureSecrets}
use Rattle.script_rules.specs.World.{Held, World}
use Rattle.script_rules.specs.Waiting.{waiting}
use Rattle.script_rules.specs.Script.{advance}
use Rattle.script_rules.specs.Events.{is_connect}

-- the notifications that are kept, the oldest first, each with the bytes of its value
abbrev pub kept_notifications : Held → List (Valued Notification)
kept_notifications h = heard h.store (live h.state.notifications)

pub record Keeps (h g : Held) : Type 0 where
  pub services : g.state.services ≡ h.state.services
  pub characteristics : g.state.characteristics ≡ h.state.characteristics
  pub notifications : kept_notifications g ≡ kept_notifications h
  pub notified : g.state.counters.notified ≡ h.state.counters.notified
  pub wait_from : g.state.counters.wait_from ≡ h.state.counters.wait_from

-- whether a step that starts leaves all of these: every step but DiscoverServices, which forgets both tables, and WaitNotification, which sets
-- `wait_from` where it passes
abbrev pub starts_quietly : Step → Bool
starts_quietly (Scan ms) = true
starts_quietly (Connect target interval latency timeout ms) = true
starts_quietly (ExchangeMtu mtu) = true
starts_quietly DiscoverServices = false
starts_quietly (DiscoverCharacteristics service) = true
starts_quietly (Subscribe characteristic indicate) = true
starts_quietly (Write characteristic response) = true
starts_quietly (Read characteristic) = true
starts_quietly (WaitNotification characteristic ms age) = false
starts_quietly (Wait ms) = true
starts_quietly Disconnect = true
starts_quietly (Capture enabled) = true
starts_quietly (CaptureSecrets secrets) = true

-- what a call at this time makes of h: g
pub record KeepsButStarts (h : Held) (at : Micros) (g : Held) : Type 0 where
  -- all is kept until waiting steps start, and nothing but their starts comes after
  pub before : World
  pub keeps : Keeps h before.held
  pub starts : g ≡ (advance before at).held
  -- no start touches the notifications, their bytes or their number
  pub notifications : kept_notifications g ≡ kept_notifications h
  pub notified : g.state.counters.notified ≡ h.state.counters.notified
  -- the new link is counted, whatever starts
  pub links : g.state.counters.links ≡ h.state.counters.links + 1
  -- all is kept where each waiting step starts quietly (so where none waits),
  pub quiet : all (λ q. starts_quietly q.step) (waiting h.state.queue) ≡ true → Keeps h g
  -- and where a step runs that a new link does not end
  pub busy : h.state.running.active ≡ true → is_connect h.state.running.step ≡ false → Keeps h g
