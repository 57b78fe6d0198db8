-- What the words of each record say. Every word says something: decoding is total, and fit judges what was decoded.
use Rattle.std.specs.Prelude.{ℕ, ◌+◌, ◌*◌, ◌/◌, ◌%◌, Bool, ◌||◌, eqb, Option, Some, None}
use Rattle.time.specs.declared.Micros.{Micros}
use Rattle.bytes_base.specs.Choice.{pick}
use Rattle.uuid_value.specs.declared.Uuid.{Uuid}
use Rattle.adv_reports.specs.Key.{address_of}
use Rattle.state_kinds.specs.Kinds.{scan, connect, exchange_mtu, discover_services, discover_characteristics, subscribe, write, read, wait_notification, wait, disconnect, capture}
use Rattle.gatt_services.specs.declared.Service.{Service}
use Rattle.gatt_characteristics.specs.declared.Characteristic.{Characteristic}
use Rattle.notifications.specs.declared.Notification.{Notification}
use Rattle.notifications.specs.declared.Age.{Age}
use Rattle.notifications.specs.declared.Age.TheVariants.{Any, Within}
use Rattle.state.specs.Kept.{no_response}
use Rattle.state.specs.declared.Queued.{Queued}
use Rattle.state.specs.declared.StepResult.{StepResult}
use Rattle.state.specs.declared.StepStatus.{StepStatus}
use Rattle.state.specs.declared.StepStatus.TheVariants.{Ok, Timeout, NotConnected, NotFound, AttError, TooLong, Disconnected, TableFull, BearerClosed}
use Rattle.state.specs.declared.Target.{Target}
use Rattle.state.specs.declared.Target.TheVariants as target
use Rattle.state.specs.declared.Step.{Step}
use Rattle.state.specs.declared.Step.TheVariants.{Scan, Connect, ExchangeMtu, DiscoverServices, DiscoverCharacteristics, Subscribe, Write, Read, WaitNotification, Wait, Disconnect, Capture, CaptureSecrets}
use Rattle.words.specs.declared.Flat.{Flat}

-- 2^16, 2^32, 2^48, 2^56
abbrev pub two16 : ℕ
two16 = 65536

abbrev pub two32 : ℕ
two32 = 4294967296

abbrev pub two48 : ℕ
two48 = 281474976710656

abbrev pub two56 : ℕ
two56 = 72057594037927936

-- the 8 or 16 bits from a power of two on
abbrev pub byte_at : ℕ → ℕ → ℕ
byte_at p x = x / p % 256

abbrev pub half_at : ℕ → ℕ → ℕ
half_at p x = x / p % 65536

-- the bit at a power of two
abbrev pub bit_at : ℕ → ℕ → Bool
bit_at p x = eqb (x / p % 2) 1

-- ---- a step: kind 8 bits, flag 8, milliseconds 32, size 16 | UUID, or an address | what a Connect aims at 16, latency 16, timeout 16, interval 16

-- what a Connect aims at: 0 any, 1 an address, else a service
unfoldable pub target_of : ℕ → Uuid → Target
target_of aim uuid = pick (eqb aim 0) target.Any (pick (eqb aim 1) (target.Address (address_of uuid.low)) (target.Service uuid))

-- a wait's age, if its flag is set: 32 bits where a Connect has its latency and its timeout
abbrev pub age_of : Flat → Age
age_of f = pick f.flag (Within (record { 0 = f.latency + two16 * f.timeout })) Any

-- by its kind; a kind of 12 or more is the last
unfoldable pub step_of : Flat → Step
step_of f =
    let k = f.kind in
    let ms = f.ms in
    pick (eqb k scan) (Scan ms)
    (pick (eqb k connect) (Connect (target_of f.aim f.uuid) f.interval f.latency f.timeout ms)
    (pick (eqb k exchange_mtu) (ExchangeMtu f.size)
    (pick (eqb k discover_services) DiscoverServices
    (pick (eqb k discover_characteristics) (DiscoverCharacteristics f.uuid)
    (pick (eqb k subscribe) (Subscribe f.uuid f.flag)
    (pick (eqb k write) (Write f.uuid f.flag)
    (pick (eqb k read) (Read f.uuid)
    (pick (eqb k wait_notification) (WaitNotification f.uuid ms (age_of f))
    (pick (eqb k wait) (Wait ms)
    (pick (eqb k disconnect) Disconnect
    (pick (eqb k capture) (Capture f.flag)
    (CaptureSecrets f.flag))))))))))))

-- the length of its value: 0 where its kind carries none
unfoldable pub len_of : Flat → ℕ
len_of f = pick (eqb f.kind write || eqb f.kind wait_notification) (f.size % 256) 0

abbrev pub queued_of : Flat → Queued
queued_of f = record { step = step_of f; len = len_of f }

abbrev pub flat_of : ℕ → ℕ → ℕ → ℕ → Flat
flat_of a low high d =
    record {
      kind = a % 256;
      flag = bit_at 256 a;
      ms = record { 0 = a / two16 % two32 };
      size = a / two48;
      uuid = record { low = low; high = high };
      aim = d % 256;
      latency = half_at two16 d;
      timeout = half_at two32 d;
      interval = d / two48;
    }

-- ---- a result: its time | index 32 bits, status 8, the status's code 8, 8 unused, length 8 | what it heard

-- 7, and every number above 8, is a full table
unfoldable pub status_of : ℕ → ℕ → StepStatus
status_of n e =
    pick (eqb n 0) Ok (pick (eqb n 1) Timeout (pick (eqb n 2) NotConnected (pick (eqb n 3) NotFound (pick (eqb n 4) (AttError e) (pick (eqb n 5) TooLong (pick (eqb n 6) Disconnected (pick (eqb n 8) BearerClosed TableFull)))))))

-- a word that is a time
abbrev pub time_of : ℕ → Micros
time_of t = record { 0 = t }

unfoldable pub result_of : ℕ → ℕ → ℕ → StepResult
result_of t x heard = record { index = x % two32; at = time_of t; status = status_of (byte_at two32 x) (byte_at 1099511627776 x); len = x / two56; heard = heard }

-- ---- a service: UUID | start 16 bits, end 16

unfoldable pub service_of : ℕ → ℕ → ℕ → Service
service_of low high x = record { start = x % two16; end = half_at two16 x; uuid = record { low = low; high = high } }

-- ---- a characteristic: UUID | properties 8 bits, whether the CCCD is known 8, CCCD 16, value handle 16, declaration 16

unfoldable pub cccd_of : Bool → ℕ → Option ℕ
cccd_of there handle = pick there (Some handle) None

unfoldable pub characteristic_of : ℕ → ℕ → ℕ → Characteristic
characteristic_of low high x =
    record { declaration = x / two48; properties = x % 256; value_handle = half_at two32 x; uuid = record { low = low; high = high }; cccd = cccd_of (bit_at 256 x) (half_at two16 x) }

-- ---- a notification: its time | handle 16 bits, indication 8, 32 unused, length 8 | its link

unfoldable pub notification_of : ℕ → ℕ → ℕ → Notification
notification_of t x link = record { at = time_of t; handle = x % two16; len = x / two56; indication = bit_at two16 x; link = link }

-- ---- a report: the advertiser | its time | channel 8 bits, PDU type 8, length 5 of 8, length of the scan response 5 of 8, whether there is none 8.
-- Lengths of 5 bits are at most 31: no word says one that fit refuses.

abbrev pub channel_of : ℕ → ℕ
channel_of x = x % 256

abbrev pub pdu_of : ℕ → ℕ
pdu_of x = byte_at 256 x

abbrev pub data_len_of : ℕ → ℕ
data_len_of x = x / two16 % 32

unfoldable pub response_of : ℕ → ℕ
response_of x = pick (bit_at two32 x) no_response (x / 16777216 % 32)
