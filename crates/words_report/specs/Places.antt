-- The report of a place of the tables; the tables with another report there, and without the oldest.
use Rattle.std.specs.Prelude.{ℕ, get_or, set}
use Rattle.lists.specs.Queue.{shifted}
use Rattle.state.specs.declared.Heard.{Heard}
use Rattle.words.specs.Tables.{Tables, with_reports}
use Rattle.words_report.specs.declared.Report.{Report}

abbrev pub report_in : Tables → ℕ → Report
report_in t i =
    record {
      who = get_or t.who i 0;
      at = get_or t.heard.at i (record { 0 = 0 });
      channel = get_or t.heard.channel i 0;
      pdu = get_or t.heard.pdu i 0;
      len = get_or t.heard.len i 0;
      response = get_or t.heard.response i 0;
    }

abbrev pub heard_put : Heard → ℕ → Report → Heard
heard_put h i x =
    record {
      at = set h.at i x.at;
      channel = set h.channel i x.channel;
      pdu = set h.pdu i x.pdu;
      len = set h.len i x.len;
      response = set h.response i x.response;
    }

abbrev pub report_put : Tables → ℕ → Report → Tables
report_put t i x = with_reports t (set t.who i x.who) (heard_put t.heard i x)

-- the first goes, the others move down by one, the last stays too
abbrev pub heard_down : Heard → Heard
heard_down h =
    record {
      at = shifted h.at 63;
      channel = shifted h.channel 63;
      pdu = shifted h.pdu 63;
      len = shifted h.len 63;
      response = shifted h.response 63;
    }

abbrev pub reports_down : Tables → Tables
reports_down t = with_reports t (shifted t.who 63) (heard_down t.heard)
