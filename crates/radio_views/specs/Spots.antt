-- Where the bytes of what is seen stand in the store: a refusal, nowhere, or a place and a length.
use Rattle.std.specs.Prelude.{ℕ, ◌+◌, List, Option, None, Some, Result, Ok, Err}
use Rattle.bytes_bounds.specs.declared.Span.{Span}
use Rattle.adv_data.specs.Ad.{listed_place}
use Rattle.state_refusals.specs.declared.Refusal.{Refusal}
use Rattle.radio_sights.specs.declared.AdvReport.{AdvReport}
use Rattle.radio_sights.specs.View.{span, span_of, part}

-- the advertising data
abbrev pub data_seen : Result (Option AdvReport) Refusal → Result (Option Span) Refusal
data_seen (Err why) = Err why
data_seen (Ok None) = Ok None
data_seen (Ok (Some r)) = Ok (Some r.«data»)

-- the scan response
abbrev pub response_seen : Result (Option AdvReport) Refusal → Result (Option Span) Refusal
response_seen (Err why) = Err why
response_seen (Ok None) = Ok None
response_seen (Ok (Some r)) = Ok r.response

-- a place in a part of the store, as a place in the store
abbrev pub behind : ℕ → Option Span → Option Span
behind at (Some x) = Some (span (at + x.at) x.len)
behind at None = None

-- the body of the first structure in a part of the store that lists u
abbrev pub place_in : ℕ → List ℕ → Span → Option Span
place_in u s x = behind x.at (listed_place u (part s x))

abbrev pub spot_or : Option Span → Option Span → Option Span
spot_or (Some x) other = Some x
spot_or None other = other

-- of those in the data, or else of those in the scan response
abbrev pub body_in : ℕ → List ℕ → Span → Span → Option Span
body_in u s bytes answer = spot_or (place_in u s bytes) (place_in u s answer)

abbrev pub body_spot : ℕ → List ℕ → Result (Option AdvReport) Refusal → Result (Option Span) Refusal
body_spot u s (Err why) = Err why
body_spot u s (Ok None) = Ok None
body_spot u s (Ok (Some r)) = Ok (body_in u s r.«data» (span_of r.response))
