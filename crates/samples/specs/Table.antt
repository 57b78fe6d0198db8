-- 01's sample table, rows P1 to P12, as one table under one claim.
use Rattle.std.specs.Prelude.{ℕ, ◌≡◌, refl, List, [], ◌∷◌, Bool, true, false, ◌&&◌, not, take, replicate, eqb}
use Rattle.bytes_base.specs.Choice.{among}
use Rattle.bytes_base.specs.Bytes.{le, le_bytes, le_at}
use Rattle.bytes_base.specs.Splice.{splice, moved}
use Rattle.uuid_value.specs.Value.{short}
use Rattle.time.specs.declared.Micros.{Micros}
use Rattle.state_places.specs.Sizes.{store_size, output_size}
use Rattle.lists.specs.Queue.{all}
use Rattle.lists.specs.Cut.{chunks, entries}
use Rattle.adv_data.specs.Ad.{lists_service, reading, width_of, uuid_of, any_lists}
use Rattle.l2cap_params.specs.Params.{good_params}
use Rattle.l2cap.specs.Numbers.{cid_att, cid_signaling}
use Rattle.l2cap.specs.Frame.{l2cap_frame, framed}
use Rattle.l2cap_signaling.specs.Answer.{code_answer, signaling_answer}
use Rattle.gatt_characteristics.specs.Characteristic.{up_from}
use Rattle.state.specs.Central.{Central}
use Rattle.state.specs.Fresh.{fresh_central}
use Rattle.state.specs.declared.Step.{Step}
use Rattle.state.specs.declared.Step.TheVariants.{ExchangeMtu, DiscoverServices, Disconnect}
use Rattle.state_rules.specs.Fit.{counts_fit, fits}
use Rattle.state_rules.specs.Gate.{first_refusal}
use Rattle.state_rules.specs.Steps.{step_fits}
use Rattle.script_rules.specs.declared.Placed.{Placed}
use Rattle.script_rules.specs.declared.Batch.{Batch}
use Rattle.script_rules.specs.Send.{send, request}
use Rattle.script_rules.specs.Waiting.{push_one, push_all, take_step}
use Rattle.script_rules.specs.Discovery.{discover_services}
use Rattle.script_rules.specs.Start.{start_linked, start_on, start}
use Rattle.script_rules.specs.Script.{advances, advance}
use Rattle.script_rules.specs.Outcome.{Outcome}
use Rattle.script_rules.specs.Batch.{batch_fits, counters_fit, gate_batch, push_steps}
use Rattle.script_rules.specs.Events.{connect, on_connected}
use Rattle.link_rules.specs.Replies.{reply, on_signaling, refuse, exchange}
use Rattle.link_rules.specs.Att.{by_opcode, on_att}
use Rattle.link_rules.specs.Channel.{on_channel}
use Rattle.link_rules.specs.Fragment.{gathered, held_fits, gate_fragment}
use Rattle.link_rules.specs.Link.{frame_read, gather, hear, on_fragment}

pub data Row : Type 0 where
  -- advertising data, a 16-bit service, and whether the data lists it
  Lists : List ℕ → ℕ → Bool → Row
  -- min, max, latency and timeout of a connection parameter request, and whether they are good
  Parameters : ℕ → ℕ → ℕ → ℕ → Bool → Row
  -- a step that is given on a new link, and the frame that goes out
  Begins : Step → List ℕ → Row
  -- a channel and a payload that comes on a new link, the frame that goes back, and the MTU then
  Comes : ℕ → List ℕ → List ℕ → ℕ → Row

unfoldable pub table : List Row
table =
    -- P1
    Lists (0x03 ∷ 0x03 ∷ 0x0F ∷ 0x18 ∷ []) 0x180F true
    -- P2
    ∷ Lists (0x02 ∷ 0x01 ∷ 0x06 ∷ 0x03 ∷ 0x02 ∷ 0x0F ∷ 0x18 ∷ []) 0x180F true
    -- P3
    ∷ Lists (0x00 ∷ 0x03 ∷ 0x03 ∷ 0x0F ∷ 0x18 ∷ []) 0x180F false
    -- P4
    ∷ Lists (0x03 ∷ 0x03 ∷ 0x0F ∷ []) 0x180F false
    -- P5: code 12, id 7, 8 bytes follow: min 6, max 6, latency 0, timeout 10
    ∷ Comes cid_signaling
    (0x12 ∷ 0x07 ∷ 0x08 ∷ 0x00 ∷ 0x06 ∷ 0x00 ∷ 0x06 ∷ 0x00 ∷ 0x00 ∷ 0x00 ∷ 0x0A ∷ 0x00 ∷ [])
    (0x06 ∷ 0x00 ∷ 0x05 ∷ 0x00 ∷ 0x13 ∷ 0x07 ∷ 0x02 ∷ 0x00 ∷ 0x00 ∷ 0x00 ∷ [])
    23
    -- P6
    ∷ Parameters 6 3200 0 800 false
    ∷ Parameters 6 3200 0 801 true
    -- P7
    ∷ Parameters 6 6 499 750 false
    ∷ Parameters 6 6 499 751 true
    -- P8
    ∷ Begins (ExchangeMtu 10) (0x03 ∷ 0x00 ∷ 0x04 ∷ 0x00 ∷ 0x02 ∷ 0x17 ∷ 0x00 ∷ [])
    -- P9
    ∷ Comes cid_att (0x02 ∷ 0x05 ∷ 0x00 ∷ []) (0x03 ∷ 0x00 ∷ 0x04 ∷ 0x00 ∷ 0x03 ∷ 0xF7 ∷ 0x00 ∷ []) 23
    -- P10
    ∷ Begins DiscoverServices (0x07 ∷ 0x00 ∷ 0x04 ∷ 0x00 ∷ 0x10 ∷ 0x01 ∷ 0x00 ∷ 0xFF ∷ 0xFF ∷ 0x00 ∷ 0x28 ∷ [])
    -- P11
    ∷ Comes cid_att (0x0A ∷ 0x03 ∷ 0x00 ∷ []) (0x05 ∷ 0x00 ∷ 0x04 ∷ 0x00 ∷ 0x01 ∷ 0x0A ∷ 0x03 ∷ 0x00 ∷ 0x01 ∷ []) 23
    -- P12
    ∷ Comes cid_att (0x20 ∷ []) (0x05 ∷ 0x00 ∷ 0x04 ∷ 0x00 ∷ 0x01 ∷ 0x20 ∷ 0x00 ∷ 0x00 ∷ 0x06 ∷ []) 23
    ∷ []

-- ---- calls, as the definitions have them

abbrev pub no_time : Micros
no_time = record { 0 = 0 }

-- what is lent
abbrev pub store : List ℕ
store = replicate store_size 0

abbrev pub output : List ℕ
output = replicate output_size 0

-- a fresh state to which a link came
unfoldable pub on_link : Central
on_link = (on_connected fresh_central store output 0 no_time).state

-- a step with no value
abbrev pub placed : Step → Placed
placed step = record { step = step; place = 0; len = 0 }

-- a batch of one step: it has 64 places, and what stands at the others does not count
abbrev pub only : Step → Batch
only step = record { steps = placed step ∷ replicate 63 (placed Disconnect); count = 1 }

unfoldable pub given : Step → Outcome
given step = push_steps on_link store output no_time (only step) []

-- one fragment that is a whole frame
unfoldable pub come : ℕ → List ℕ → Outcome
come channel payload = on_fragment on_link store output no_time true (l2cap_frame channel payload)

-- all that went out
abbrev pub out : Outcome → List ℕ
out o = take o.sent.bytes o.out

-- ---- the claim

unfoldable pub same : Bool → Bool → Bool
same true b = b
same false b = not b

unfoldable pub same_bytes : List ℕ → List ℕ → Bool
same_bytes [] [] = true
same_bytes [] (y ∷ ys) = false
same_bytes (x ∷ xs) [] = false
same_bytes (x ∷ xs) (y ∷ ys) = eqb x y && same_bytes xs ys

-- whether the definitions give what a row says
unfoldable pub holds : Row → Bool
holds (Lists bytes service listed) = same (lists_service (short service) bytes) listed
holds (Parameters min max latency timeout good) = same (good_params min max latency timeout) good
holds (Begins step frame) = same_bytes (out (given step)) frame
holds (Comes channel payload frame mtu) =
    let o = come channel payload in
    same_bytes (out o) frame && eqb o.state.bearer.link.mtu mtu

unfoldable pub agree : List Row → Bool
agree [] = true
agree (r ∷ rs) = holds r && agree rs

pub table-holds : agree table ≡ true
unfolding
    agree
    table
    holds
    same
    same_bytes
    reading
    chunks
    entries
    width_of
    uuid_of
    among
    any_lists
    good_params
    l2cap_frame
    signaling_answer
    code_answer
    le
    le_bytes
    le_at
    on_link
    given
    come
    splice
    moved
    all
    framed
    up_from
    fresh_central
    counts_fit
    fits
    first_refusal
    step_fits
    send
    request
    push_one
    push_all
    take_step
    discover_services
    start_linked
    start_on
    start
    advances
    advance
    batch_fits
    counters_fit
    gate_batch
    push_steps
    connect
    on_connected
    reply
    on_signaling
    refuse
    exchange
    by_opcode
    on_att
    on_channel
    gathered
    held_fits
    gate_fragment
    frame_read
    gather
    hear
    on_fragment
table-holds = refl
