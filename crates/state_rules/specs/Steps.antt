-- What a batch accepts of a step (01, refusal 4). The script's gate and fit go by it, and by the kinds of steps.
use Rattle.std.specs.Prelude.{ℕ, Bool, not, ◌&&◌, ◌||◌, leb}
use Rattle.state_places.specs.Sizes.{value_size}
pub use Rattle.att_pdu.specs.Numbers.{default_mtu}
pub use Rattle.state_kinds.specs.Kinds.{carries, att_step}
use Rattle.state.specs.declared.Step.{Step}
use Rattle.state.specs.declared.Step.TheVariants.{Scan, Connect, ExchangeMtu, DiscoverServices, DiscoverCharacteristics, Subscribe, Write, Read, WaitNotification, Wait, Disconnect, Capture, CaptureSecrets}

-- if p, then x
abbrev pub implies : Bool → Bool → Bool
implies p x = not p || x

-- the most ATT_MTU of a link: what a held frame has room for
abbrev pub most_mtu : ℕ
most_mtu = 247

-- the MTU that a step names, or 0 where it names none
abbrev pub mtu_named : Step → ℕ
mtu_named (Scan ms) = 0
mtu_named (Connect target interval latency timeout ms) = 0
mtu_named (ExchangeMtu mtu) = mtu
mtu_named DiscoverServices = 0
mtu_named (DiscoverCharacteristics service) = 0
mtu_named (Subscribe characteristic indicate) = 0
mtu_named (Write characteristic response) = 0
mtu_named (Read characteristic) = 0
mtu_named (WaitNotification characteristic ms age) = 0
mtu_named (Wait ms) = 0
mtu_named Disconnect = 0
mtu_named (Capture enabled) = 0
mtu_named (CaptureSecrets secrets) = 0

-- a step with n bytes, as a batch accepts it
unfoldable pub step_fits : Step → ℕ → Bool
step_fits step n = implies (carries step) (leb n value_size) && leb (mtu_named step) most_mtu
