-- What the running step has asked the peer for.
use Rattle.std.specs.Prelude.{ℕ, eqb}
use Rattle.bytes_base.specs.Choice.{pick}
use Rattle.uuid_value.specs.declared.Uuid.{Uuid}
use Rattle.state.specs.declared.Step.{Step}
use Rattle.state.specs.declared.Step.TheVariants.{Scan, Connect, ExchangeMtu, DiscoverServices, DiscoverCharacteristics, Subscribe, Write, Read, WaitNotification, Wait, Disconnect, Capture, CaptureSecrets}
use Rattle.link_questions.specs.declared.Goal.TheVariants as goal
use Rattle.link_questions.specs.declared.Asked.{Asked}
use Rattle.link_questions.specs.declared.Asked.TheVariants as asked-variants

-- by the phase of a walk for a service's characteristics: 0 services, 1 characteristics, 2 descriptors
abbrev pub asked_in : Uuid → ℕ → Asked
asked_in u phase = pick (eqb phase 0) (asked-variants.Services (goal.Of u)) (pick (eqb phase 1) (asked-variants.Characteristics u) (asked-variants.Descriptors u))

abbrev pub asked_by : Step → ℕ → Asked
asked_by (Scan ms) phase = asked-variants.Nothing
asked_by (Connect target interval latency timeout ms) phase = asked-variants.Nothing
asked_by (ExchangeMtu mtu) phase = asked-variants.Mtu mtu
asked_by DiscoverServices phase = pick (eqb phase 0) (asked-variants.Services goal.All) asked-variants.Nothing
asked_by (DiscoverCharacteristics u) phase = asked_in u phase
asked_by (Subscribe characteristic indicate) phase = asked-variants.Written
asked_by (Write characteristic response) phase = asked-variants.Written
asked_by (Read characteristic) phase = asked-variants.Value
asked_by (WaitNotification characteristic ms age) phase = asked-variants.Nothing
asked_by (Wait ms) phase = asked-variants.Nothing
asked_by Disconnect phase = asked-variants.Nothing
asked_by (Capture enabled) phase = asked-variants.Nothing
asked_by (CaptureSecrets secrets) phase = asked-variants.Nothing
