use mathlib.Core.Path.{ap, ◌∙◌}
use Rattle.script_rules.specs.Start.{discover_in}
use Rattle.script_rules.proofs.BeginLaws.{begin-scan, begin-connect, begin-mtu, begin-services, begin-characteristics, begin-subscribe}
use Rattle.script_rules.proofs.BeginLaws.{begin-write, begin-read, begin-notification, begin-wait, begin-disconnect, begin-capture, begin-secrets, write-fits}
use Rattle.script_starts.proofs.start_linked.Goals as goal

pub start_write-requires : goal.start_write-requires
start_write-requires c =
    let given = c.requires in
    (given.0, given.1, write-fits _ _ _ _ c.in-Write.is given.2)

pub returns-in-Scan : goal.returns-in-Scan
returns-in-Scan c = c.run_for.ensures _ _ _ ∙ begin-scan _ _ _ _ c.in-Scan.is

pub returns-in-Connect : goal.returns-in-Connect
returns-in-Connect c = c.end_turn.ensures _ ∙ begin-connect _ _ _ _ _ _ _ _ c.in-Connect.is

pub returns-in-ExchangeMtu : goal.returns-in-ExchangeMtu
returns-in-ExchangeMtu c = c.start_mtu.ensures _ _ ∙ begin-mtu _ _ _ _ c.in-ExchangeMtu.is

pub returns-in-DiscoverServices : goal.returns-in-DiscoverServices
returns-in-DiscoverServices c = c.start_services.ensures _ _ ∙ begin-services _ _ _ c.in-DiscoverServices.is

pub returns-in-DiscoverCharacteristics : goal.returns-in-DiscoverCharacteristics
returns-in-DiscoverCharacteristics c =
    c.start_characteristics.ensures ∙ ap (discover_in _ _) c.find_service-x.ensures
    ∙ begin-characteristics _ _ _ _ c.in-DiscoverCharacteristics.is

pub returns-in-Subscribe : goal.returns-in-Subscribe
returns-in-Subscribe c =
    c.start_subscribe.ensures ∙ begin-subscribe _ _ _ _ _
    c.in-Subscribe.is

pub returns-in-Write : goal.returns-in-Write
returns-in-Write c = c.start_write.ensures ∙ begin-write _ _ _ _ _ c.in-Write.is

pub returns-in-Read : goal.returns-in-Read
returns-in-Read c = c.start_read.ensures ∙ begin-read _ _ _ _ c.in-Read.is

pub returns-in-WaitNotification : goal.returns-in-WaitNotification
returns-in-WaitNotification c = c.start_wait.ensures _ ∙ begin-notification _ _ _ _ _ _ c.in-WaitNotification.is

pub returns-in-Wait : goal.returns-in-Wait
returns-in-Wait c = c.run_for-in-Wait.ensures _ _ _ ∙ begin-wait _ _ _ _ c.in-Wait.is

pub returns-in-Disconnect : goal.returns-in-Disconnect
returns-in-Disconnect c = c.start_disconnect.ensures _ _ _ ∙ begin-disconnect _ _ _ c.in-Disconnect.is

pub returns-in-Capture : goal.returns-in-Capture
returns-in-Capture c = c.end_turn-in-Capture.ensures _ ∙ begin-capture _ _ _ _ c.in-Capture.is

pub returns-in-CaptureSecrets : goal.returns-in-CaptureSecrets
returns-in-CaptureSecrets c = c.end_turn-in-CaptureSecrets.ensures _ ∙ begin-secrets _ _ _ _ c.in-CaptureSecrets.is
