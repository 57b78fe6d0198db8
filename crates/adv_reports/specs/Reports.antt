-- The reports, one for each advertiser, the oldest first (01, 'Sizes': 64, then the oldest goes), with their bytes in the store.
use Rattle.std.specs.Prelude.{ℕ, ◌+◌, min, List, [], length, take, get_or, set, leb}
use Rattle.bytes_base.specs.Choice.{pick}
use Rattle.bytes_base.specs.Splice.{splice}
use Rattle.state_places.specs.Sizes.{most_reports, data_size, report_at, response_at}
use Rattle.lists.specs.Queue.{pushed, onto}
use Rattle.lists.specs.Blocks.{Part, bytes, stored}
pub use Rattle.state.specs.Kept.{no_response}
use Rattle.time.specs.declared.Micros.{Micros}
use Rattle.state.specs.declared.Reports.{Reports}
use Rattle.state.specs.declared.Keys.{Keys}
use Rattle.adv_reports.specs.Key.{seek}

-- the reports' part of the store: a block has advertising data, then a scan response
abbrev pub report_part : Part
report_part = record { base = report_at 0; size = 62; most = most_reports }

-- the advertisers, and those that the running scan has asked
abbrev pub advertisers : Reports → List ℕ
advertisers r = take r.count r.who

abbrev pub asked : Keys → List ℕ
asked k = take k.count k.kept

-- the first report of an advertiser, or how many reports there are where it has none
abbrev pub place_of : Reports → ℕ → ℕ
place_of r who = seek who (advertisers r)

-- what an advertisement tells its report: the advertiser, the time, the channel, the PDU type and how many bytes of data
pub record Line : Type 0 where
  pub who : ℕ
  pub at : Micros
  pub channel : ℕ
  pub pdu : ℕ
  pub len : ℕ

-- ---- report i is heard again: what it tells replaces what it told, its scan response stays

abbrev pub heard_again : Reports → ℕ → Line → Reports
heard_again r i l =
    record {
      who = r.who;
      heard = record {
        at = set r.heard.at i l.at;
        channel = set r.heard.channel i l.channel;
        pdu = set r.heard.pdu i l.pdu;
        len = set r.heard.len i l.len;
        response = r.heard.response;
      };
      count = r.count;
    }

abbrev pub again_store : ℕ → List ℕ → List ℕ → List ℕ
again_store i d s = splice s (report_at i) d 0 (length d)

-- ---- a new advertiser takes the place behind the others; where 64 are kept, the oldest goes, its block with it

-- x behind the first count of an array
abbrev pub behind : {A : Type 0} → ℕ → List A → A → List A
behind count a x = onto a (pushed most_reports (take count a) x)

unfoldable pub heard_first : Reports → Line → Reports
heard_first r l =
    record {
      who = behind r.count r.who l.who;
      heard = record {
        at = behind r.count r.heard.at l.at;
        channel = behind r.count r.heard.channel l.channel;
        pdu = behind r.count r.heard.pdu l.pdu;
        len = behind r.count r.heard.len l.len;
        response = behind r.count r.heard.response no_response;
      };
      count = min (r.count + 1) most_reports;
    }

abbrev pub first_store : ℕ → List ℕ → List ℕ → List ℕ
first_store count d s = stored report_part count d 0 (length d) s

-- where it stands then
abbrev pub last_place : ℕ → ℕ
last_place count = min count 63

-- ---- report i has a scan response

abbrev pub responded : Reports → ℕ → Micros → ℕ → Reports
responded r i at n =
    record {
      who = r.who;
      heard = record {
        at = set r.heard.at i at;
        channel = r.heard.channel;
        pdu = r.heard.pdu;
        len = r.heard.len;
        response = set r.heard.response i n;
      };
      count = r.count;
    }

abbrev pub response_store : ℕ → List ℕ → List ℕ → List ℕ
response_store i d s = splice s (response_at i) d 0 (length d)

-- ---- the bytes of report i

-- none where it has no scan response
abbrev pub response_bytes : List ℕ → ℕ → ℕ → List ℕ
response_bytes s i n = pick (leb n data_size) (bytes s (response_at i) n) []

abbrev pub response_of : Reports → List ℕ → ℕ → List ℕ
response_of r s i = response_bytes s i (get_or r.heard.response i 0)

-- ---- one advertiser more is asked

abbrev pub asked_too : Keys → ℕ → Keys
asked_too k who = record { kept = set k.kept k.count who; count = k.count + 1 }
