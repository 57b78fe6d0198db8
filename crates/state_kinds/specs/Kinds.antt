-- The kinds of steps, and what goes by the kind alone.
use Rattle.std.specs.Prelude.{ℕ, Bool, ◌&&◌, ◌||◌, eqb, leb}
use Rattle.state.specs.declared.Step.{Step}
use Rattle.state.specs.declared.Step.TheVariants.{Scan, Connect, ExchangeMtu, DiscoverServices, DiscoverCharacteristics, Subscribe, Write, Read, WaitNotification, Wait, Disconnect, Capture, CaptureSecrets}

-- numbered in the order in which they are declared
abbrev pub scan : ℕ
scan = 0

abbrev pub connect : ℕ
connect = 1

abbrev pub exchange_mtu : ℕ
exchange_mtu = 2

abbrev pub discover_services : ℕ
discover_services = 3

abbrev pub discover_characteristics : ℕ
discover_characteristics = 4

abbrev pub subscribe : ℕ
subscribe = 5

abbrev pub write : ℕ
write = 6

abbrev pub read : ℕ
read = 7

abbrev pub wait_notification : ℕ
wait_notification = 8

abbrev pub wait : ℕ
wait = 9

abbrev pub disconnect : ℕ
disconnect = 10

abbrev pub capture : ℕ
capture = 11

abbrev pub capture_secrets : ℕ
capture_secrets = 12

abbrev pub kind_of : Step → ℕ
kind_of (Scan ms) = scan
kind_of (Connect target interval latency timeout ms) = connect
kind_of (ExchangeMtu mtu) = exchange_mtu
kind_of DiscoverServices = discover_services
kind_of (DiscoverCharacteristics service) = discover_characteristics
kind_of (Subscribe characteristic indicate) = subscribe
kind_of (Write characteristic response) = write
kind_of (Read characteristic) = read
kind_of (WaitNotification characteristic ms age) = wait_notification
kind_of (Wait ms) = wait
kind_of Disconnect = disconnect
kind_of (Capture enabled) = capture
kind_of (CaptureSecrets secrets) = capture_secrets

abbrev pub is_scan : Step → Bool
is_scan s = eqb (kind_of s) scan

abbrev pub is_connect : Step → Bool
is_connect s = eqb (kind_of s) connect

abbrev pub is_wait : Step → Bool
is_wait s = eqb (kind_of s) wait

abbrev pub is_disconnect : Step → Bool
is_disconnect s = eqb (kind_of s) disconnect

-- whether a step has bytes: a Write its value, a WaitNotification its `contains`
abbrev pub carries : Step → Bool
carries s = eqb (kind_of s) write || eqb (kind_of s) wait_notification

-- the steps that could send ATT: ExchangeMtu, either discovery, Subscribe, Write with or without response, and Read
abbrev pub att_step : Step → Bool
att_step s = leb exchange_mtu (kind_of s) && leb (kind_of s) read
