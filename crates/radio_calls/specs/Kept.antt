-- The report of an advertisement among the tables: updated where its advertiser has one, or a new one.
use Rattle.std.specs.Prelude.{ℕ, ◌<◌, ◌≡◌, List, length, get_or, ltb}
use Rattle.bytes_base.specs.Choice.{pick}
use Rattle.state_places.specs.Sizes.{most_reports}
use Rattle.time.specs.declared.Micros.{Micros}
use Rattle.state.specs.declared.Reports.{Reports}
use Rattle.adv_reports.specs.Reports.{Line, place_of, heard_again, again_store, heard_first, first_store, last_place}
use Rattle.adv_report_tables.specs.Tables.{put_at}
use Rattle.words.specs.Tables.{Tables, tables, with_reports, who_in, heard_in}
use Rattle.words_report.specs.declared.Report.{Report}

-- a report at place i of each table
abbrev pub line_at : Tables → ℕ → Report → Tables
line_at t i x =
    with_reports t (put_at t.who i x.who)
    (record {
      at = put_at t.heard.at i x.at;
      channel = put_at t.heard.channel i x.channel;
      pdu = put_at t.heard.pdu i x.pdu;
      len = put_at t.heard.len i x.len;
      response = put_at t.heard.response i x.response;
    })

-- the first count reports of the words
abbrev pub reports_in : List ℕ → ℕ → Reports
reports_in w count = record { who = who_in w; heard = heard_in w; count = count }

-- what an advertisement tells
abbrev pub heard_line : ℕ → Micros → ℕ → ℕ → List ℕ → Line
heard_line who at channel pdu bytes = record { who = who; at = at; channel = channel; pdu = pdu; len = length bytes }

-- ---- with it: the reports, the store, and its place

unfoldable pub kept_reports : Reports → Line → Reports
kept_reports r l = let i = place_of r l.who in pick (ltb i r.count) (heard_again r i l) (heard_first r l)

unfoldable pub kept_store : Reports → ℕ → List ℕ → List ℕ → List ℕ
kept_store r who d s = let i = place_of r who in pick (ltb i r.count) (again_store i d s) (first_store r.count d s)

unfoldable pub kept_place : Reports → ℕ → ℕ
kept_place r who = let i = place_of r who in pick (ltb i r.count) i (last_place r.count)

-- what w and the store s become where the advertisement l with the bytes d is kept: n reports, its own at place, with a scan response of that length
pub record Keeps (w v s t d : List ℕ) (count : ℕ) (l : Line) (n place response : ℕ) : Type 0 where
  pub reports : reports_in v n ≡ kept_reports (reports_in w count) l
  pub others : tables v ≡ with_reports (tables w) (who_in v) (heard_in v)
  pub bytes : t ≡ kept_store (reports_in w count) l.who d s
  pub placed : place ≡ kept_place (reports_in w count) l.who
  pub within : place < most_reports
  pub answer : response ≡ get_or (heard_in v).response place 0
