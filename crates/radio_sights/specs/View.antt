-- Report i of a state and its store: its numbers, its bytes as parts of the store, and the body that lists a service
-- (01, 'Rules of the radio side'). The view only reads: refusals 1 and 2 alone apply to it.
use Rattle.std.specs.Prelude.{ℕ, ◌+◌, List, Option, None, Some, Result, Ok, Err, get_or, ltb, leb}
use Rattle.bytes_base.specs.Choice.{pick}
use Rattle.bytes_bounds.specs.declared.Span.{Span}
use Rattle.state_places.specs.Sizes.{data_size, report_at, response_at}
use Rattle.lists.specs.Blocks.{bytes}
use Rattle.adv_data.specs.Ad.{listing, structures}
use Rattle.adv_data.specs.Body.{body_at, listed_body}
use Rattle.state.specs.Central.{Central}
use Rattle.state.specs.declared.Reports.{Reports}
use Rattle.state_refusals.specs.declared.Refusal.{Refusal}
use Rattle.state_refusals.specs.Refused.{refused}
use Rattle.state_rules.specs.Gate.{gate_reader, unless}
use Rattle.adv_reports.specs.Key.{address_of}
use Rattle.radio_sights.specs.declared.AdvReport.{AdvReport}

abbrev pub span : ℕ → ℕ → Span
span at n = record { at = at; len = n }

-- no bytes
abbrev pub nowhere : Span
nowhere = span 0 0

-- a scan response of n bytes; above 31 there is none
abbrev pub response_in : ℕ → ℕ → Option Span
response_in i n = pick (leb n data_size) (Some (span (response_at i) n)) None

abbrev pub report_of : Reports → ℕ → AdvReport
report_of r i =
    record {
      address = address_of (get_or r.who i 0);
      at = get_or r.heard.at i (record { 0 = 0 });
      channel = get_or r.heard.channel i 0;
      pdu = get_or r.heard.pdu i 0;
      «data» = span (report_at i) (get_or r.heard.len i 0);
      response = response_in i (get_or r.heard.response i 0);
    }

-- what is seen at place i: a refusal, nothing or a report
unfoldable pub view : Central → ℕ → ℕ → Result (Option AdvReport) Refusal
view c store i = unless (gate_reader c store) refused (Ok (pick (ltb i c.reports.count) (Some (report_of c.reports i)) None))

-- the bytes of what is seen, no bytes where nothing is

abbrev pub data_in : Result (Option AdvReport) Refusal → Span
data_in (Err why) = nowhere
data_in (Ok None) = nowhere
data_in (Ok (Some r)) = r.«data»

abbrev pub span_of : Option Span → Span
span_of None = nowhere
span_of (Some s) = s

abbrev pub answer_in : Result (Option AdvReport) Refusal → Span
answer_in (Err why) = nowhere
answer_in (Ok None) = nowhere
answer_in (Ok (Some r)) = span_of r.response

-- a part of the store, and where it lies if the store lies at p
abbrev pub part : List ℕ → Span → List ℕ
part s x = bytes s x.at x.len

abbrev pub part_at : ℕ × ℕ → Span → ℕ × ℕ
part_at p x = (p.0, x.at + p.1)

-- the body that lists a service, out of the data or else out of the scan response
abbrev pub body_seen : ℕ → List ℕ → Result (Option AdvReport) Refusal → List ℕ
body_seen u s x = listed_body u (part s (data_in x)) (part s (answer_in x))

abbrev pub body_seen_at : ℕ → List ℕ → ℕ × ℕ → Result (Option AdvReport) Refusal → ℕ × ℕ
body_seen_at u s p x =
    body_at (listing u (structures (part s (data_in x)))) (part_at p (data_in x))
    (body_at (listing u (structures (part s (answer_in x)))) (part_at p (answer_in x)) (part_at p (data_in x)))
