-- Lists of calls on which the promises are tried. What is lent has the size that it must have, and is zero.
use Rattle.std.specs.Prelude.{ℕ, zero, suc, true, false, List, [], ◌∷◌, ◌++◌, replicate}
use Rattle.state_places.specs.Sizes.{store_size, output_size, most_steps}
use Rattle.time.specs.declared.Micros.{Micros}
use Rattle.time.specs.declared.Millis.{Millis}
use Rattle.uuid_value.specs.Value.{short_of}
use Rattle.uuid_value.specs.declared.Uuid.{Uuid}
use Rattle.notifications.specs.declared.Age.TheVariants.{Any}
use Rattle.l2cap.specs.Numbers.{cid_att}
use Rattle.l2cap.specs.Frame.{l2cap_frame}
use Rattle.state.specs.Fresh.{no_options}
use Rattle.state.specs.declared.Address.{Address}
use Rattle.state.specs.declared.Step.{Step}
use Rattle.state.specs.declared.Step.TheVariants.{Scan, ExchangeMtu, DiscoverCharacteristics, Write, Read, WaitNotification, Wait, Capture}
use Rattle.script_rules.specs.World.{Held}
use Rattle.script_rules.specs.declared.Batch.{Batch}
use Rattle.script_rules.specs.declared.Placed.{Placed}
use Rattle.radio_rules.specs.Hearing as radio
use Rattle.radio_match.specs.Matching.{adv_ind}
use Rattle.thm_trail.specs.Calls as calls
use Rattle.thm_trail.specs.Calls.{timer_us, connected_handle, result_of, passed_on, Call, batch, timer, connected, disconnected, advertising, scan_response, fragment, reads}

abbrev pub store : List ℕ
store = replicate store_size 0

abbrev pub out : List ℕ
out = replicate output_size 0

-- what the promises say of any options is tried in the old mode; the strict one: Strict.antt
abbrev pub fresh : List ℕ → Held
fresh store = calls.fresh no_options store

abbrev pub at : ℕ → Micros
at n = record { 0 = n }

abbrev pub ms : ℕ → Millis
ms n = record { 0 = n }

-- ---- calls, each at a time

-- a step, with so many bytes of value
abbrev pub placed : Step → ℕ → Placed
placed s n = record { step = s; place = 0; len = n }

-- a batch has 64 places, of which the first count
abbrev pub only : Placed → Batch
only p = record { steps = p ∷ replicate 63 (placed (Wait (ms 0)) 0); count = 1 }

abbrev pub step : ℕ → Step → Call
step t s = batch out (at t) (only (placed s 0)) []

abbrev pub both : ℕ → Placed → Placed → List ℕ → Call
both t p q values = batch out (at t) (record { steps = p ∷ q ∷ replicate 62 (placed (Wait (ms 0)) 0); count = 2 }) values

abbrev pub sixty_four : ℕ → Step → Call
sixty_four t s = batch out (at t) (record { steps = replicate most_steps (placed s 0); count = most_steps }) []

-- a payload on the attribute channel, as one fragment
abbrev pub att : ℕ → List ℕ → Call
att t payload = fragment out (at t) true (l2cap_frame cid_att payload)

-- advertiser n is heard: ADV_IND on channel 37
abbrev pub address : ℕ → Address
address n = record { low = n; high = 0; random = false }

abbrev pub said : ℕ → List ℕ → radio.Adv
said n bytes = radio.adv (at 2) 37 adv_ind (address n) bytes false

abbrev pub heard : ℕ → List ℕ → Call
heard n bytes = advertising (said n bytes)

-- each of the eleven
abbrev pub each : List Call
each =
    step 1 (Wait (ms 1))
    ∷ timer out (at 1)
    ∷ connected out 64 (at 1)
    ∷ disconnected (at 1)
    ∷ heard 0 []
    ∷ scan_response (at 1) (address 0) []
    ∷ fragment out (at 1) true []
    ∷ reads timer_us
    ∷ reads connected_handle
    ∷ reads (result_of 0)
    ∷ reads (passed_on 0)
    ∷ []

-- ---- a link comes; an MTU is asked for, at once or behind a step that is done at once

abbrev pub linked : List Call
linked = connected out 64 (at 1) ∷ []

abbrev pub asking : List Call
asking = linked ++ (step 2 (ExchangeMtu 23) ∷ [])

abbrev pub asking_second : List Call
asking_second = linked ++ (both 2 (placed (Capture true) 0) (placed (ExchangeMtu 23) 0) [] ∷ [])

-- ---- a notification comes that has no whole handle

abbrev pub brief : List ℕ
brief = 0x1B ∷ 0x03 ∷ []

abbrev pub told : List Call
told = linked ++ (att 2 brief ∷ [])

-- ---- the battery level of a peer is discovered; then there are three ways on

-- Battery Service, Battery Level
abbrev pub battery : Uuid
battery = short_of 0x180F

abbrev pub level : Uuid
level = short_of 0x2A19

-- service 180F from FFFD to FFFF; in it a declaration at FFFE, readable, of the value at FFFF, 2A19; no more
abbrev pub services : List ℕ
services = 0x11 ∷ 0x06 ∷ 0xFD ∷ 0xFF ∷ 0xFF ∷ 0xFF ∷ 0x0F ∷ 0x18 ∷ []

abbrev pub characteristics : List ℕ
characteristics = 0x09 ∷ 0x07 ∷ 0xFE ∷ 0xFF ∷ 0x02 ∷ 0xFF ∷ 0xFF ∷ 0x19 ∷ 0x2A ∷ []

abbrev pub no_more : List ℕ
no_more = 0x01 ∷ 0x08 ∷ 0xFF ∷ 0xFF ∷ 0x0A ∷ []

abbrev pub known : List Call
known = linked ++ (step 2 (DiscoverCharacteristics battery) ∷ att 3 services ∷ att 4 characteristics ∷ att 5 no_more ∷ [])

-- it is read: 100 percent
abbrev pub answer : List ℕ
answer = 0x0B ∷ 0x64 ∷ []

abbrev pub reading : List Call
reading = step 6 (Read level) ∷ att 7 answer ∷ []

-- 65 frames in one call: an indication is confirmed, ends the wait for it, and 64 commands go out
abbrev pub fills : List Call
fills = step 6 (WaitNotification level (ms 1000) Any) ∷ sixty_four 7 (Write level false) ∷ []

abbrev pub indication : Call
indication = att 8 (0x1D ∷ 0xFF ∷ 0xFF ∷ [])

-- a frame longer than the MTU of a new link: the peer asks for 247, and a value of 21 bytes goes out
abbrev pub widens : List Call
widens = att 6 (0x02 ∷ 0xF7 ∷ 0x00 ∷ []) ∷ []

abbrev pub command : Call
command = batch out (at 7) (only (placed (Write level false) 21)) (replicate 21 0)

-- ---- a scan hears advertisers 0, 1, 2, …

abbrev pub hearing : ℕ → ℕ → List Call
hearing n zero = []
hearing n (suc k) = heard n [] ∷ hearing (suc n) k

abbrev pub scanning : ℕ → List Call
scanning k = step 1 (Scan (ms 1000)) ∷ hearing 0 k
