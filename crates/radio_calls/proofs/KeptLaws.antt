-- The report of an advertisement put into the words, the store and the count is what the definitions of the reports say.
use Prim.Native.Nat.{ℕ, ◌≤◌, ◌<◌}
use mathlib.Core.Path.{◌≡◌, refl, sym, ap, ◌∙◌}
use mathlib.Core.Bool.{Bool, true, false}
use mathlib.Core.List.{List}
use native.Mathlib.Omega.{arith}
use lib.ListN.{length, take, get_or}
use lib.Dec.{ltb}
use borrow.Author.Tests.{lt-ltb, le-ltb, ltb-true, ltb-false}
use Rattle.bytes_base.specs.Choice.{pick}
use Rattle.time.specs.declared.Micros.{Micros}
use Rattle.adv_reports.specs.Key.{seek}
use Rattle.adv_reports.specs.Reports.{no_response, Line, heard_again, again_store, heard_first, first_store, last_place}
use Rattle.adv_reports.specs.Whole.{Whole}
use Rattle.adv_report_tables.specs.Tables.{block_at, kept_response, counted}
use Rattle.adv_report_tables.proofs.TableLaws.{Put, put-place, put_last, put-found, block-place, block_new, line_known, line-new}
use Rattle.words.specs.Words.{time_of, channel_of, pdu_of, data_len_of, response_of}
use Rattle.words.specs.Tables.{Tables, word, tables, with_reports, who_in, heard_in}
use Rattle.words.proofs.TableLaws.{table-length}
use Rattle.words.proofs.RowLaws.{length-who}
use Rattle.words_report.specs.declared.Report.{Report}
use Rattle.words_report.specs.Places.{report_put, reports_down}
use Rattle.radio_calls.specs.Kept.{line_at, reports_in, heard_line, kept_reports, kept_store, kept_place, Keeps}

-- ---- one report

pub line-place : (t : Tables) (i : ℕ) (x : Report) → i < 64 → report_put t i x ≡ line_at t i x
line-place t i x h =
    rw (
      put-place t.who i x.who h,
      put-place t.heard.at i x.at h,
      put-place t.heard.channel i x.channel h,
      put-place t.heard.pdu i x.pdu h,
      put-place t.heard.len i x.len h,
      put-place t.heard.response i x.response h,
    )

pub line-last : (t : Tables) (i : ℕ) (x : Report) → 64 ≤ i → report_put (reports_down t) 63 x ≡ line_at t i x
line-last t i x h =
    rw (
      put_last t.who i x.who h,
      put_last t.heard.at i x.at h,
      put_last t.heard.channel i x.channel h,
      put_last t.heard.pdu i x.pdu h,
      put_last t.heard.len i x.len h,
      put_last t.heard.response i x.response h,
    )

pub line-shifted : (t u v : Tables) (i : ℕ) (x : Report) → 64 ≤ i → u ≡ reports_down t → v ≡ report_put u 63 x → v ≡ line_at t i x
line-shifted t u v i x h e f = f ∙ ap (λ (y : Tables). report_put y 63 x) e ∙ line-last t i x h

-- ---- its scan response

pub response-known : (a : List ℕ) (count i r : ℕ) → i < count → r ≡ get_or a i 0 → r ≡ kept_response a count i
unfolding kept_response
response-known a count i r h e = e ∙ rw (lt-ltb i count h)

pub response-new : (a : List ℕ) (count i : ℕ) → count ≤ i → no_response ≡ kept_response a count i
unfolding kept_response
response-new a count i h = rw (le-ltb i count h)

-- ---- the reports of the words have their sizes

pub whole_in : (w : List ℕ) (count : ℕ) → Whole (reports_in w count)
unfolding heard_in
whole_in w count =
    record {
      who = length-who w;
      at = table-length 64 (λ i. time_of (word w 800 i));
      channel = table-length 64 (λ i. channel_of (word w 864 i));
      pdu = table-length 64 (λ i. pdu_of (word w 864 i));
      len = table-length 64 (λ i. data_len_of (word w 864 i));
      response = table-length 64 (λ i. response_of (word w 864 i));
    }

-- ---- all of it

module _ (w v : List ℕ) (count who i none len : ℕ) (at : Micros) (channel pdu : ℕ) (d : List ℕ)
    (sought : i ≡ seek who (take count (who_in w))) (most : i ≤ count) (few : count ≤ 64)
    (kept : none ≡ kept_response (heard_in w).response count i) (size : len ≡ length d)
    (put : tables v ≡ line_at (tables w) i (record { who = who; at = at; channel = channel; pdu = pdu; len = len; response = none })) where
  abbrev told : Line
  told = record { who = who; at = at; channel = channel; pdu = pdu; len = len }

  is-put : Put (reports_in w count) i told none (who_in v) (heard_in v).at (heard_in v).channel (heard_in v).pdu (heard_in v).len (heard_in v).response
  is-put =
      record {
        who_put = ap (λ (t : Tables). t.who) put;
        at_put = ap (λ (t : Tables). t.heard.at) put;
        channel_put = ap (λ (t : Tables). t.heard.channel) put;
        pdu_put = ap (λ (t : Tables). t.heard.pdu) put;
        len_put = ap (λ (t : Tables). t.heard.len) put;
        response_put = ap (λ (t : Tables). t.heard.response) put;
      }

  told_line : told ≡ heard_line who at channel pdu d
  told_line = rw size

  kept-reports : (n : ℕ) → n ≡ counted count i → reports_in v n ≡ kept_reports (reports_in w count) (heard_line who at channel pdu d)
  unfolding kept_reports
  kept-reports n many = rw (← sought) (go (ltb i count) refl)
    where
      go : (b : Bool) → ltb i count ≡ b
          → reports_in v n ≡ pick b (heard_again (reports_in w count) i (heard_line who at channel pdu d)) (heard_first (reports_in w count) (heard_line who at channel pdu d))
      go true t =
          line_known (reports_in w count) i told none n _ _ _ _ _ _ is-put kept many sought (ltb-true i count t) few
          ∙ ap (heard_again (reports_in w count) i) told_line
      go false t =
          let q : i ≡ count = omega (arith, ltb-false i count t) in
          line-new (reports_in w count) i told none n _ _ _ _ _ _ is-put kept many q few (whole_in w count)
          ∙ ap (heard_first (reports_in w count)) told_line

  kept-others : tables v ≡ with_reports (tables w) (who_in v) (heard_in v)
  kept-others =
      put
      ∙ rw (
        ← ap (λ (t : Tables). t.who) put,
        ← ap (λ (t : Tables). t.heard) put,
      )

  kept-bytes : (s s' : List ℕ) → s' ≡ block_at s i d → s' ≡ kept_store (reports_in w count) who d s
  unfolding kept_store
  kept-bytes s s' e = e ∙ rw (← sought) (go (ltb i count) refl)
    where
      go : (b : Bool) → ltb i count ≡ b → block_at s i d ≡ pick b (again_store i d s) (first_store count d s)
      go true t = block-place s i d (omega (arith, ltb-true i count t))
      go false t =
          let q : i ≡ count = omega (arith, ltb-false i count t) in
          ap (λ (k : ℕ). block_at s k d) q ∙ block_new s count d

  module _ (place : ℕ) (last : place ≡ last_place i) where
    kept-place : place ≡ kept_place (reports_in w count) who
    unfolding kept_place
    kept-place = last ∙ rw (← sought) (go (ltb i count) refl)
      where
        go : (b : Bool) → ltb i count ≡ b → last_place i ≡ pick b i (last_place count)
        go true t = omega (arith, ltb-true i count t)
        go false t = let q : i ≡ count = omega (arith, ltb-false i count t) in ap last_place q

    kept-response : none ≡ get_or (heard_in v).response place 0
    kept-response =
        sym
        (rw last
        (ap (λ (a : List ℕ). get_or a (last_place i) 0) is-put.response_put
        ∙ put-found (heard_in w).response i none (whole_in w count).response))

  -- what the code leaves
  pub keeps-law : (n place : ℕ) (s t : List ℕ) → t ≡ block_at s i d → n ≡ counted count i → place ≡ last_place i
      → Keeps w v s t d count (heard_line who at channel pdu d) n place none
  keeps-law n place s t block many last =
      record {
        reports = kept-reports n many;
        others = kept-others;
        bytes = kept-bytes s t block;
        placed = kept-place place last;
        within = omega arith;
        answer = kept-response place last;
      }
