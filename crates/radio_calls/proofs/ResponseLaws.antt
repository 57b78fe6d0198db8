-- What each return of a scan response asks, over plain variables.
use Prim.Native.Nat.{ℕ, ◌≤◌, ◌<◌}
use mathlib.Core.Path.{◌≡◌, sym, ap, ◌∙◌}
use mathlib.Core.List.{List}
use lib.ListN.{length, set}
use lib.Seq.{set-get_or}
use borrow.Author.Tests.{lt-ltb, le-ltb, eq-eqb, ne_eqb}
use Rattle.time.specs.declared.Micros.{Micros}
use Rattle.state.specs.Central.{Central}
use Rattle.state.specs.declared.Address.{Address}
use Rattle.state_rules.specs.Gate.{gate_quiet}
use Rattle.adv_reports.specs.Key.{key, seek}
use Rattle.adv_reports.specs.Reports.{advertisers, place_of, response_store}
use Rattle.radio_match.specs.declared.AdvAction.TheVariants as action
use Rattle.radio_rules.specs.Hearing.{unchanged, then_data, response_refusal, scan_responded}
use Rattle.radio_rules.proofs.HearingLaws.{Passed, passed}
use Rattle.words.specs.Tables.{Tables, tables, with_reports}
use Rattle.words_report.specs.declared.Report.{Report}
use Rattle.words_report.specs.Places.{report_in, report_put}
use Rattle.state_core.specs.declared.Core.{Core}
use Rattle.state_core.specs.Reading.{central_of, central}

-- the report as it was, with the time and the length of its scan response
put-responded : (t : Tables) (i n : ℕ) (at : Micros) (was : Report) → was ≡ report_in t i
    → report_put t i (record { who = was.who; at = at; channel = was.channel; pdu = was.pdu; len = was.len; response = n })
    ≡ with_reports t t.who
    (record { at = set t.heard.at i at; channel = t.heard.channel; pdu = t.heard.pdu; len = t.heard.len; response = set t.heard.response i n })
put-responded t i n at was e =
    rw (e, set-get_or t.who i 0, set-get_or t.heard.channel i 0, set-get_or t.heard.pdu i 0, set-get_or t.heard.len i 0)

module _ (core : Core) (w s : List ℕ) (at : Micros) (a : Address) (d : List ℕ) (g why : ℕ)
    (gate : g ≡ gate_quiet (central core w) (length s) at) (then : why ≡ then_data g (length d)) where
  abbrev c : Central
  c = central core w

  refusal_is : why ≡ response_refusal c (length s) at (length d)
  refusal_is = then ∙ ap (λ (k : ℕ). then_data k (length d)) gate

  pub response-refused : (why ≡ 0 → ⊥) → unchanged c s why ≡ scan_responded c s at a d
  unfolding scan_responded
  response-refused n = rw (← refusal_is, ne_eqb why 0 n)

  module _ (z : why ≡ 0) where
    pub response-passed : Passed c (length s) at (length d)
    response-passed = passed c (length s) at (length d) (sym refusal_is ∙ z)

    module _ (who i : ℕ) (keyed : who ≡ key a) (sought : i ≡ seek who (advertisers c.reports)) where
      response-place : i ≡ place_of c.reports (key a)
      response-place = sought ∙ rw keyed

      pub response-none : core.reports ≤ i → unchanged c s 0 ≡ scan_responded c s at a d
      unfolding scan_responded
      response-none h = rw (← refusal_is, eq-eqb why 0 z, ← response-place, le-ltb i core.reports h)

      pub response-taken : (v s' : List ℕ) (len : ℕ) (was : Report) → i < core.reports → was ≡ report_in (tables w) i → len ≡ length d
          → tables v ≡ report_put (tables w) i (record { who = was.who; at = at; channel = was.channel; pdu = was.pdu; len = was.len; response = len })
          → s' ≡ response_store i d s
          → record { state = central core v; refusal = 0; action = action.Nothing; store = s' } ≡ scan_responded c s at a d
      unfolding scan_responded
      response-taken v s' len was h e l put t =
          ap (λ (y : Tables). record { state = central_of core y; refusal = 0; action = action.Nothing; store = s' }) (put ∙ put-responded (tables w) i len at was e)
          ∙ rw (← refusal_is, eq-eqb why 0 z, ← response-place, lt-ltb i core.reports h, l, t)
