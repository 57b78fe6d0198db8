-- An advertisement and a scan response: what the call answers, the state that it leaves, and every byte of the store
-- (01, 'Refusal numbers' and 'Rules of the radio side').
use Rattle.std.specs.Prelude.{ℕ, Bool, not, ◌&&◌, List, length, eqb, ltb, leb}
use Rattle.bytes_base.specs.Choice.{pick}
use Rattle.state_places.specs.Sizes.{most_keys, data_size}
use Rattle.time.specs.declared.Micros.{Micros}
use Rattle.state.specs.Central.{Central, with_reports, with_keys}
use Rattle.state.specs.declared.Address.{Address}
use Rattle.state.specs.declared.Reports.{Reports}
use Rattle.state_rules.specs.Refusals.{accepted, long_data, keys_full}
use Rattle.state_rules.specs.Gate.{gate_quiet}
use Rattle.adv_reports.specs.Key.{key, among}
use Rattle.adv_reports.specs.Reports.{asked, place_of, Line, heard_again, again_store, heard_first, first_store, last_place, responded, response_store, response_of, asked_too}
use Rattle.radio_match.specs.Matching.{listens, asks, chosen}
use Rattle.radio_match.specs.declared.AdvAction.{AdvAction}
use Rattle.radio_match.specs.declared.AdvAction.TheVariants as action

-- ---- what a call leaves and answers

pub record Outcome : Type 0 where
  pub state : Central
  pub refusal : ℕ
  pub action : AdvAction
  pub store : List ℕ

abbrev pub unchanged : Central → List ℕ → ℕ → Outcome
unchanged c s n = record { state = c; refusal = n; action = action.Nothing; store = s }

-- after refusals 1 to 3: advertising or scan response data over 31 bytes
unfoldable pub then_data : ℕ → ℕ → ℕ
then_data why n = pick (eqb why accepted) (pick (leb n data_size) accepted long_data) why

-- ---- an advertisement

-- us: an ADV_DIRECT_IND is addressed to us
pub record Adv : Type 0 where
  pub at : Micros
  pub channel : ℕ
  pub pdu : ℕ
  pub address : Address
  pub bytes : List ℕ
  pub us : Bool

abbrev pub adv : Micros → ℕ → ℕ → Address → List ℕ → Bool → Adv
adv at channel pdu address bytes us = record { at = at; channel = channel; pdu = pdu; address = address; bytes = bytes; us = us }

abbrev pub line : Adv → Line
line v = record { who = key v.address; at = v.at; channel = v.channel; pdu = v.pdu; len = length v.bytes }

-- a key more, with 128 kept
abbrev pub no_key : Bool → ℕ → Bool
no_key new count = new && eqb count most_keys

-- a Scan runs, the PDU is scannable, and the key is new
abbrev pub due : Central → Adv → Bool
due c v = asks c.running v.pdu && not (among (key v.address) (asked c.keys))

unfoldable pub refusal : Central → ℕ → Adv → ℕ
refusal c store v =
    let why = then_data (gate_quiet c store v.at) (length v.bytes) in
    pick (eqb why accepted) (pick (no_key (due c v) c.keys.count) keys_full accepted) why

-- its advertiser is asked, which is kept in mind
abbrev pub requested : Central → Adv → Reports → List ℕ → Outcome
requested c v r s =
    record { state = with_keys (with_reports c r) (asked_too c.keys (key v.address)); refusal = accepted; action = action.ScanRequest; store = s }

-- what the running step makes of it otherwise
abbrev pub weighed : Central → Adv → Reports → List ℕ → ℕ → Outcome
weighed c v r s i =
    record { state = with_reports c r; refusal = accepted; action = chosen c.running.step (key v.address) v.bytes (response_of r s i) v.pdu v.us; store = s }

-- its report stands at place i of r
unfoldable pub acted : Central → Adv → Reports → List ℕ → ℕ → Outcome
acted c v r s i = pick (due c v) (requested c v r s) (weighed c v r s i)

-- its report is updated first, or is a new one
unfoldable pub heard : Central → List ℕ → Adv → Outcome
heard c s v =
    let r = c.reports in
    let i = place_of r (key v.address) in
    pick (ltb i r.count)
    (acted c v (heard_again r i (line v)) (again_store i v.bytes s) i)
    (acted c v (heard_first r (line v)) (first_store r.count v.bytes s) (last_place r.count))

-- it is heard during Scan and Connect
unfoldable pub advertised : Central → List ℕ → Adv → Outcome
advertised c s v =
    pick (eqb (refusal c (length s) v) accepted)
    (pick (listens c.running) (heard c s v) (unchanged c s accepted))
    (unchanged c s (refusal c (length s) v))

-- ---- a scan response: the report of its advertiser takes it; without one, nothing

abbrev pub response_refusal : Central → ℕ → Micros → ℕ → ℕ
response_refusal c store at n = then_data (gate_quiet c store at) n

abbrev pub answered : Central → List ℕ → Micros → List ℕ → ℕ → Outcome
answered c s at d i =
    record { state = with_reports c (responded c.reports i at (length d)); refusal = accepted; action = action.Nothing; store = response_store i d s }

unfoldable pub scan_responded : Central → List ℕ → Micros → Address → List ℕ → Outcome
scan_responded c s at a d =
    let why = response_refusal c (length s) at (length d) in
    let i = place_of c.reports (key a) in
    pick (eqb why accepted)
    (pick (ltb i c.reports.count)
    (answered c s at d i)
    (unchanged c s accepted))
    (unchanged c s why)
