-- What a report tells of a service, by its advertising data and its scan response (02, Five): a refusal, no such report, or what it tells.
use Rattle.std.specs.Prelude.{ℕ, List, Option, None, Some, Result, Ok, Err}
use Rattle.adv_presence.specs.Presences.{presence_in}
use Rattle.adv_presence.specs.declared.Presence.{Presence}
use Rattle.state_refusals.specs.declared.Refusal.{Refusal}
use Rattle.radio_sights.specs.declared.AdvReport.{AdvReport}
use Rattle.radio_sights.specs.View.{span_of, part}

abbrev pub presence_seen : ℕ → List ℕ → Result (Option AdvReport) Refusal → Result (Option Presence) Refusal
presence_seen u s (Err why) = Err why
presence_seen u s (Ok None) = Ok None
presence_seen u s (Ok (Some r)) = Ok (Some (presence_in u (part s r.«data») (part s (span_of r.response))))
