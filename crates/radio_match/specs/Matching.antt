-- What the running step makes of an advertisement (01, 'Rules of the radio side').
use Rattle.std.specs.Prelude.{ℕ, Bool, true, ◌&&◌, ◌||◌, List, eqb}
use Rattle.bytes_base.specs.Choice.{pick}
use Rattle.uuid_value.specs.Value.{num}
use Rattle.adv_data.specs.Ad.{lists_service}
use Rattle.state.specs.declared.Target.{Target}
use Rattle.state.specs.declared.Target.TheVariants as target
use Rattle.state.specs.declared.Step.{Step}
use Rattle.state.specs.declared.Step.TheVariants.{Scan, Connect, ExchangeMtu, DiscoverServices, DiscoverCharacteristics, Subscribe, Write, Read, WaitNotification, Wait, Disconnect, Capture, CaptureSecrets}
use Rattle.state.specs.declared.Running.{Running}
use Rattle.state_kinds.specs.Kinds.{is_scan, is_connect}
use Rattle.adv_reports.specs.Key.{key}
use Rattle.radio_match.specs.declared.AdvAction.{AdvAction}
use Rattle.radio_match.specs.declared.AdvAction.TheVariants as action

-- ---- PDU types, Core Vol 6 Part B 2.3

abbrev pub adv_ind : ℕ
adv_ind = 0

abbrev pub adv_direct_ind : ℕ
adv_direct_ind = 1

abbrev pub adv_scan_ind : ℕ
adv_scan_ind = 6

-- whether an advertiser answers scan requests
abbrev pub scannable : ℕ → Bool
scannable pdu = eqb pdu adv_ind || eqb pdu adv_scan_ind

-- whether it can be connected to: by ADV_IND, or by ADV_DIRECT_IND addressed to us
abbrev pub connectable : ℕ → Bool → Bool
connectable pdu us = eqb pdu adv_ind || (eqb pdu adv_direct_ind && us)

-- ---- the running step

-- advertisements are heard during Scan and Connect
unfoldable pub listens : Running → Bool
listens r = r.active && (is_scan r.step || is_connect r.step)

-- a Scan asks who advertises with a scannable PDU
unfoldable pub asks : Running → ℕ → Bool
asks r pdu = r.active && is_scan r.step && scannable pdu

-- ---- a Connect's target

-- the target is met by an advertiser, its advertising data and its scan response
unfoldable pub reaches : Target → ℕ → List ℕ → List ℕ → Bool
reaches target.Any who bytes response = true
reaches (target.Address a) who bytes response = eqb (key a) who
reaches (target.Service u) who bytes response = lists_service (num u) bytes || lists_service (num u) response

-- a Connect that is met connects; any other step does nothing
unfoldable pub chosen : Step → ℕ → List ℕ → List ℕ → ℕ → Bool → AdvAction
chosen (Scan ms) who bytes response pdu us = action.Nothing
chosen (Connect target interval latency timeout ms) who bytes response pdu us =
    pick (connectable pdu us && reaches target who bytes response) (action.Connect (record { interval = interval; latency = latency; timeout = timeout })) action.Nothing
chosen (ExchangeMtu mtu) who bytes response pdu us = action.Nothing
chosen DiscoverServices who bytes response pdu us = action.Nothing
chosen (DiscoverCharacteristics service) who bytes response pdu us = action.Nothing
chosen (Subscribe characteristic indicate) who bytes response pdu us = action.Nothing
chosen (Write characteristic responding) who bytes response pdu us = action.Nothing
chosen (Read characteristic) who bytes response pdu us = action.Nothing
chosen (WaitNotification characteristic ms age) who bytes response pdu us = action.Nothing
chosen (Wait ms) who bytes response pdu us = action.Nothing
chosen Disconnect who bytes response pdu us = action.Nothing
chosen (Capture enabled) who bytes response pdu us = action.Nothing
chosen (CaptureSecrets secrets) who bytes response pdu us = action.Nothing
