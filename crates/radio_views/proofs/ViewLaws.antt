-- What each return of the views asks, over plain variables; and that both forms of a view speak of the same bytes.
use Prim.Native.Nat.{ℕ, ◌+◌, ◌-◌, ◌≤◌, ◌<◌}
use mathlib.Core.Path.{◌≡◌, refl, ap}
use mathlib.Core.List.{List}
use native.Mathlib.Omega.{arith}
use lib.ListN.{length, drop, length-drop}
use lib.Seq.{length-take-le}
use Rattle.std.specs.Prelude.{Option, None, Some, Result, Ok, Err}
use Rattle.bytes_bounds.specs.declared.Span.{Span}
use Rattle.state_places.specs.Sizes.{report_at}
use Rattle.state.specs.declared.Address.{Address}
use Rattle.adv_reports.specs.Key.{address_of}
use Rattle.adv_data.specs.Ad.{listed_place}
use Rattle.adv_data.proofs.Searches.{found_at}
use Rattle.state_refusals.specs.declared.Refusal.{Refusal}
use Rattle.state_refusals.specs.Refusals.{accepted, number}
use Rattle.state_rules.specs.Gate.{gate_reader}
use Rattle.radio_sights.specs.declared.AdvReport.{AdvReport}
use Rattle.radio_sights.specs.View.{span, response_in, view, data_in, span_of, answer_in, part}
use Rattle.radio_sights.proofs.ViewLaws.{view-refused, view-few, view-nothing, view-seen, data-fits, answer-fits}
use Rattle.words.specs.Words.{data_len_of}
use Rattle.words.specs.Tables.{word, tables, heard_in}
use Rattle.words.proofs.TableLaws.{table-length}
use Rattle.words_report.specs.declared.Report.{Report}
use Rattle.words_report.specs.Places.{report_in}
use Rattle.state_core.specs.declared.Core.{Core}
use Rattle.state_core.specs.Reading.{central}
use Rattle.radio_views.specs.Spots.{behind, place_in}

abbrev Seen : Type 0
Seen = Result (Option AdvReport) Refusal

-- ---- report i

length-data : (w : List ℕ) → length (heard_in w).len ≡ 64
unfolding heard_in
length-data w = table-length 64 (λ i. data_len_of (word w 864 i))

module _ (core : Core) (w : List ℕ) (store i : ℕ) where
  pub report-refused : (why : Refusal) → number why ≡ gate_reader (central core w) store → Err why ≡ view (central core w) store i
  report-refused why e = view-refused (central core w) store i why e

  module _ (e : accepted ≡ gate_reader (central core w) store) where
    pub report-nothing : core.reports ≤ i → Ok None ≡ view (central core w) store i
    report-nothing h = view-nothing (central core w) store i e (central core w).reports refl h

    pub report-place : i < core.reports → i < 64
    report-place h = omega (arith, view-few (central core w) store i e (central core w).reports refl)

    pub report-seen : (x : Report) (a : Address) (p n : ℕ) (q : Option Span) → i < core.reports → x ≡ report_in (tables w) i
        → a ≡ address_of x.who → p ≡ report_at i → n ≡ x.len → q ≡ response_in i x.response
        → Ok (Some (record { address = a; at = x.at; channel = x.channel; pdu = x.pdu; «data» = span p n; response = q })) ≡ view (central core w) store i
    report-seen x a p n q h r ea ep en eq =
        view-seen (central core w) store i e (central core w).reports refl _ h (rw (ea, ep, en, eq, r))

-- ---- its bytes lie in the store

module _ (core : Core) (w : List ℕ) (store i : ℕ) (x : Seen) (d : Span) (e : x ≡ view (central core w) store i) where
  pub data-inside : d ≡ data_in x → d.at + d.len ≤ store
  data-inside f = data-fits (central core w) store i (length-data w) x d e f

  pub answer-inside : d ≡ answer_in x → d.at + d.len ≤ store
  answer-inside f = answer-fits (central core w) store i (length-data w) x d e f

-- the report that is seen
module _ (core : Core) (w : List ℕ) (store i : ℕ) (r : AdvReport) (e : Ok (Some r) ≡ view (central core w) store i) where
  pub report-data : r.«data».at + r.«data».len ≤ store
  report-data = data-inside core w store i (Ok (Some r)) r.«data» e refl

  pub report-answer : (a : Span) → a ≡ span_of r.response → a.at + a.len ≤ store
  report-answer a f = answer-inside core w store i (Ok (Some r)) a e f

-- ---- the body of a structure that lists u

module _ (u : ℕ) (s : List ℕ) (x b : Span) (e : Some b ≡ listed_place u (part s x)) where
  pub search-inside : x.at + x.len ≤ length s → x.at + b.at ≤ length s
  search-inside h =
      let f = found_at u (part s x) b e in
      let l : length (drop x.at s) ≡ length s - x.at = length-drop x.at s in
      let k : length (part s x) ≡ x.len = length-take-le x.len (drop x.at s) (omega arith) in
      omega (arith, f.inside)

  pub search-body : Some (span (x.at + b.at) b.len) ≡ place_in u s x
  search-body = ap (behind x.at) e
