-- A report put into words is read again, and the other tables stay; what the searches ask.
use Prim.Native.Nat.{ℕ, suc, ◌+◌, ◌*◌, ◌/◌, ◌%◌, ◌<◌, ◌≤◌}
use mathlib.Core.Path.{◌≡◌, refl, sym, ap, ap₂, ◌∙◌}
use mathlib.Core.Bool.{Bool, true, false, not, ◌&&◌, ◌||◌}
use mathlib.Core.List.{List, [], ◌∷◌}
use native.Mathlib.Omega.{arith}
use lib.ListN.{length, take, drop, get_or, set, length-set, length-drop}
use lib.Seq.{get_or-set_same, get_or-set_other, length-take-le}
use Rattle.std.specs.Prelude.{Option, Some, None, cond, nat_lt, position}
use Rattle.std.specs.List.{list_any, prefix_len}
use Rattle.std.specs.Option.{unwrap_or}
use lib.Dec.{eqb}
use borrow.Author.Tests.{eq-eqb, ne_eqb, eqb-true, eqb-false, ltb-false}
use Rattle.bytes_base.specs.Choice.{pick}
use Rattle.lists.specs.Queue.{shifted}
use Rattle.adv_reports.specs.Key.{seek, among}
use Rattle.state.specs.declared.Heard.{Heard}
use Rattle.words.specs.Words.{time_of, channel_of, pdu_of, data_len_of, response_of}
use Rattle.words.specs.Table.{table}
use Rattle.words.specs.Tables.{word, tables, with_reports, with_keys, who_in, heard_in, keys_in}
use Rattle.words.specs.Rows.{Same, Lowered}
use Rattle.words.proofs.TableLaws.{table_at, table-set, table-lowered}
use Rattle.words.proofs.RowLaws.{steps-same, results_same, services-same, characteristics-same, notifications-same, who-same, heard-same, keys-same, length-who, length-keys, who-at, key-at}
use Rattle.words.proofs.SearchLaws.{row-taken}
use Rattle.words_report.specs.declared.Report.{Report}
use Rattle.words_report.specs.Places.{report_in, heard_put, report_put, heard_down, reports_down}

-- ---- one report in a word

-- what a word says of a report
abbrev pub Says : ℕ → Report → Type 0
Says n x = (channel_of n ≡ x.channel) × (pdu_of n ≡ x.pdu) × (data_len_of n ≡ x.len) × (response_of n ≡ x.response)

-- the bits of a scan response, with whatever stands below them
response-read : (x r b : ℕ) → x / 16777216 ≡ b → r ≤ 32 → b ≡ pick (eqb r 32) 256 r → response_of x ≡ r
unfolding response_of
response-read x r b q h e = go (eqb r 32) refl e
  where
    go : (t : Bool) → eqb r 32 ≡ t → b ≡ pick t 256 r → pick (eqb (x / 4294967296 % 2) 1) 32 (x / 16777216 % 32) ≡ r
    go true s g =
        let k : x / 4294967296 % 2 ≡ 1 = omega arith in
        rw (eq-eqb (x / 4294967296 % 2) 1 k) (sym (eqb-true r 32 s))
    go false s g =
        let n : r ≡ 32 → ⊥ = eqb-false r 32 s in
        let k : x / 4294967296 % 2 ≡ 0 = omega (arith, n) in
        let m : x / 16777216 % 32 ≡ r = omega (arith, n) in
        rw (k, m)

pub word_read : (x : Report) (b : ℕ) → x.channel < 256 → x.pdu < 256 → x.len ≤ 31 → x.response ≤ 32 → b ≡ pick (eqb x.response 32) 256 x.response
    → Says (x.channel + 256 * x.pdu + 65536 * x.len + 16777216 * b) x
word_read x b c p l r e =
    let n : ℕ = x.channel + 256 * x.pdu + 65536 * x.len + 16777216 * b in
    let q : n / 256 ≡ x.pdu + 256 * x.len + 65536 * b = omega arith in
    let s : n / 65536 ≡ x.len + 256 * b = omega arith in
    let t : n / 16777216 ≡ b = omega arith in
    let d : (x.pdu + 256 * x.len + 65536 * b) % 256 ≡ x.pdu = omega arith in
    let k : (x.len + 256 * b) % 32 ≡ x.len = omega arith in
    (omega arith, rw (q, d), rw (s, k), response-read n x.response b t r e)

pub response-none : (x : ℕ) → x / 4294967296 % 2 ≡ 1 → (32 ≡ response_of x) × (32 ≤ 32)
unfolding response_of
response-none x e = (rw (eq-eqb (x / 4294967296 % 2) 1 e), omega arith)

pub response-some : (x : ℕ) → (x / 4294967296 % 2 ≡ 1 → ⊥) → (x / 16777216 % 32 ≡ response_of x) × (x / 16777216 % 32 ≤ 32)
unfolding response_of
response-some x e = (rw (ne_eqb (x / 4294967296 % 2) 1 e), omega arith)

-- ---- what place i reads

module _ (w : List ℕ) (i : ℕ) (h : i < 64) where
  time-at : get_or (heard_in w).at i (time_of 0) ≡ time_of (word w 800 i)
  unfolding heard_in
  time-at = table_at 64 i (λ j. time_of (word w 800 j)) (time_of 0) h

  channel-at : get_or (heard_in w).channel i 0 ≡ channel_of (word w 864 i)
  unfolding heard_in
  channel-at = table_at 64 i (λ j. channel_of (word w 864 j)) 0 h

  pdu-at : get_or (heard_in w).pdu i 0 ≡ pdu_of (word w 864 i)
  unfolding heard_in
  pdu-at = table_at 64 i (λ j. pdu_of (word w 864 j)) 0 h

  len-at : get_or (heard_in w).len i 0 ≡ data_len_of (word w 864 i)
  unfolding heard_in
  len-at = table_at 64 i (λ j. data_len_of (word w 864 j)) 0 h

  response-at : get_or (heard_in w).response i 0 ≡ response_of (word w 864 i)
  unfolding heard_in
  response-at = table_at 64 i (λ j. response_of (word w 864 j)) 0 h

  pub report-say : (n : ℕ) → n ≡ response_of (word w 864 i)
      → record {
        who = word w 736 i;
        at = record { 0 = word w 800 i };
        channel = channel_of (word w 864 i);
        pdu = pdu_of (word w 864 i);
        len = data_len_of (word w 864 i);
        response = n;
      }
      ≡ report_in (tables w) i
  report-say n e = rw (e, who-at w i h, time-at, channel-at, pdu-at, len-at, response-at)

-- ---- all tables: v has the words of w but those of the reports, and reads who and heard there

alone : (w v : List ℕ) (l : List ℕ) (h : Heard) → Same 0 736 w v → Same 928 1152 w v → who_in v ≡ l → heard_in v ≡ h → tables v ≡ with_reports (tables w) l h
alone w v l h below above e f =
    rw (
      steps-same w v (λ p a b. below p (omega arith) (omega arith)),
      results_same w v (λ p a b. below p (omega arith) (omega arith)) (λ p a b. above p (omega arith) (omega arith)),
      services-same w v (λ p a b. below p (omega arith) (omega arith)),
      characteristics-same w v (λ p a b. below p (omega arith) (omega arith)),
      notifications-same w v (λ p a b. below p (omega arith) (omega arith)) (λ p a b. above p (omega arith) (omega arith)),
      keys-same w v (λ p a b. above p a (omega arith)),
      e,
      f,
    )

-- three words put
module _ (w : List ℕ) (i who t n : ℕ) (long : length w ≡ 1152) (b : i < 64) where
  abbrev with : List ℕ
  with = set (set (set w (736 + i) who) (800 + i) t) (864 + i) n

  other : (p : ℕ) → (p ≡ 736 + i → ⊥) → (p ≡ 800 + i → ⊥) → (p ≡ 864 + i → ⊥) → get_or with p 0 ≡ get_or w p 0
  other p x y z =
      get_or-set_other (set (set w (736 + i) who) (800 + i) t) (864 + i) p n 0 z
      ∙ get_or-set_other (set w (736 + i) who) (800 + i) p t 0 y
      ∙ get_or-set_other w (736 + i) p who 0 x

  first : get_or with (736 + i) 0 ≡ who
  first =
      get_or-set_other (set (set w (736 + i) who) (800 + i) t) (864 + i) (736 + i) n 0 (λ e. omega arith)
      ∙ get_or-set_other (set w (736 + i) who) (800 + i) (736 + i) t 0 (λ e. omega arith)
      ∙ get_or-set_same w (736 + i) who 0 (omega arith)

  second : get_or with (800 + i) 0 ≡ t
  second =
      let l : length (set w (736 + i) who) ≡ 1152 = length-set w (736 + i) who ∙ long in
      get_or-set_other (set (set w (736 + i) who) (800 + i) t) (864 + i) (800 + i) n 0 (λ e. omega arith)
      ∙ get_or-set_same (set w (736 + i) who) (800 + i) t 0 (omega arith)

  third : get_or with (864 + i) 0 ≡ n
  third =
      let l : length (set (set w (736 + i) who) (800 + i) t) ≡ 1152 = length-set (set w (736 + i) who) (800 + i) t ∙ length-set w (736 + i) who ∙ long in
      get_or-set_same (set (set w (736 + i) who) (800 + i) t) (864 + i) n 0 (omega arith)

  who-there : who_in with ≡ set (who_in w) i who
  unfolding who_in
  who-there =
      table-set 64 (λ k. word with 736 k) (λ k. word w 736 k) i who b first
      (λ k h m. other (736 + k) (λ e. m (omega arith)) (λ e. omega arith) (λ e. omega arith))

  -- one field of the time's row, or of the third row
  time-there : table 64 (λ k. time_of (word with 800 k)) ≡ set (table 64 (λ k. time_of (word w 800 k))) i (time_of t)
  time-there =
      table-set 64 (λ k. time_of (word with 800 k)) (λ k. time_of (word w 800 k)) i (time_of t) b (ap time_of second)
      (λ k h m. ap time_of (other (800 + k) (λ e. omega arith) (λ e. m (omega arith)) (λ e. omega arith)))

  field-there : (f : ℕ → ℕ) (x : ℕ) → f n ≡ x → table 64 (λ k. f (word with 864 k)) ≡ set (table 64 (λ k. f (word w 864 k))) i x
  field-there f x e =
      table-set 64 (λ k. f (word with 864 k)) (λ k. f (word w 864 k)) i x b (ap f third ∙ e)
      (λ k h m. ap f (other (864 + k) (λ e. omega arith) (λ e. omega arith) (λ e. m (omega arith))))

  heard-there : (x : Report) → t ≡ x.at.0 → Says n x → heard_in with ≡ heard_put (heard_in w) i x
  unfolding heard_in
  heard-there x e s =
      rw (
        time-there,
        field-there channel_of x.channel s.0,
        field-there pdu_of x.pdu s.1,
        field-there data_len_of x.len s.2,
        field-there response_of x.response s.3,
        e,
      )

  put-there : (x : Report) → who ≡ x.who → t ≡ x.at.0 → Says n x → tables with ≡ report_put (tables w) i x
  put-there x e f s =
      alone w with (set (who_in w) i x.who) (heard_put (heard_in w) i x)
      (λ p a c. other p (λ n. omega arith) (λ n. omega arith) (λ n. omega arith))
      (λ p a c. other p (λ n. omega arith) (λ n. omega arith) (λ n. omega arith))
      (who-there ∙ ap (λ (y : ℕ). set (who_in w) i y) e)
      (heard-there x f s)

pub put-law : (w : List ℕ) (i n : ℕ) (x : Report) → length w ≡ 1152 → i < 64 → Says n x
    → tables (set (set (set w (736 + i) x.who) (800 + i) x.at.0) (864 + i) n) ≡ report_put (tables w) i x
put-law w i n x l b s = put-there w i x.who x.at.0 n l b x refl refl s

-- three rows moved down
module _ (w v u o : List ℕ) (d : Lowered w v 736 63) (g : Lowered v u 800 63) (h : Lowered u o 864 63) where
  row : {A : Type 0} (f : ℕ → A) (at : ℕ) → ((p : ℕ) → at ≤ p → p < at + 63 → get_or o p 0 ≡ get_or w (p + 1) 0) → get_or o (at + 63) 0 ≡ get_or w (at + 63) 0
      → table 64 (λ k. f (word o at k)) ≡ shifted (table 64 (λ k. f (word w at k))) 63
  row f at moved stays =
      table-lowered 64 63 (λ k. f (word o at k)) (λ k. f (word w at k)) (omega arith)
      (λ k b.
      let m : at + k + 1 ≡ at + (k + 1) = omega arith in
      ap f (moved (at + k) (omega arith) (omega arith) ∙ ap (λ (p : ℕ). get_or w p 0) m))
      (λ k b c. let m : k ≡ 63 = omega arith in rw m (ap f stays))

  down-who : who_in o ≡ shifted (who_in w) 63
  unfolding who_in
  down-who =
      row (λ x. x) 736
      (λ p a b. h.below p (omega arith) ∙ g.below p (omega arith) ∙ d.moved p a b)
      (h.below 799 (omega arith) ∙ g.below 799 (omega arith) ∙ d.above 799 (omega arith))

  times : table 64 (λ k. time_of (word o 800 k)) ≡ shifted (table 64 (λ k. time_of (word w 800 k))) 63
  times =
      row time_of 800
      (λ p a b. h.below p (omega arith) ∙ g.moved p a b ∙ d.above (p + 1) (omega arith))
      (h.below 863 (omega arith) ∙ g.above 863 (omega arith) ∙ d.above 863 (omega arith))

  fields : (f : ℕ → ℕ) → table 64 (λ k. f (word o 864 k)) ≡ shifted (table 64 (λ k. f (word w 864 k))) 63
  fields f =
      row f 864
      (λ p a b. h.moved p a b ∙ g.above (p + 1) (omega arith) ∙ d.above (p + 1) (omega arith))
      (h.above 927 (omega arith) ∙ g.above 927 (omega arith) ∙ d.above 927 (omega arith))

  down-heard : heard_in o ≡ heard_down (heard_in w)
  unfolding heard_in
  down-heard = rw (times, fields channel_of, fields pdu_of, fields data_len_of, fields response_of)

  pub down-law : tables o ≡ reports_down (tables w)
  down-law =
      alone w o (shifted (who_in w) 63) (heard_down (heard_in w))
      (λ p a b. h.below p (omega arith) ∙ g.below p (omega arith) ∙ d.below p (omega arith))
      (λ p a b. h.above p (omega arith) ∙ g.above p (omega arith) ∙ d.above p (omega arith))
      down-who
      down-heard

-- ---- a key put

pub key-law : (w : List ℕ) (i k : ℕ) → length w ≡ 1152 → i < 128 → tables (set w (928 + i) k) ≡ with_keys (tables w) (set (keys_in w) i k)
unfolding keys_in
key-law w i k long b =
    let v : List ℕ = set w (928 + i) k in
    let other : (p : ℕ) → (p ≡ 928 + i → ⊥) → get_or v p 0 ≡ get_or w p 0 = λ p n. get_or-set_other w (928 + i) p k 0 n in
    let e : table 128 (λ j. word v 928 j) ≡ set (table 128 (λ j. word w 928 j)) i k =
    table-set 128 (λ j. word v 928 j) (λ j. word w 928 j) i k b (get_or-set_same w (928 + i) k 0 (omega arith)) (λ j h n. other (928 + j) (λ q. n (omega arith))) in
    rw (
      steps-same w v (λ p a c. other p (λ n. omega arith)),
      results_same w v (λ p a c. other p (λ n. omega arith)) (λ p a c. other p (λ n. omega arith)),
      services-same w v (λ p a c. other p (λ n. omega arith)),
      characteristics-same w v (λ p a c. other p (λ n. omega arith)),
      notifications-same w v (λ p a c. other p (λ n. omega arith)) (λ p a c. other p (λ n. omega arith)),
      who-same w v (λ p a c. other p (λ n. omega arith)),
      heard-same w v (λ p a c. other p (λ n. omega arith)),
      e,
    )

-- ---- searches: what the library's methods say of a row

seek-prefix : (k : ℕ) (l : List ℕ) → prefix_len (λ x. not (eqb x k)) l ≡ seek k l
unfolding seek
seek-prefix k [] = refl
seek-prefix k (x ∷ l) = go (eqb x k) (seek-prefix k l)
  where
    go : (b : Bool) → prefix_len (λ y. not (eqb y k)) l ≡ seek k l → cond (not b) (1 + prefix_len (λ y. not (eqb y k)) l) 0 ≡ pick b 0 (suc (seek k l))
    go true e = refl
    go false e = omega (arith, e)

seek-few : (k : ℕ) (l : List ℕ) → seek k l ≤ length l
unfolding seek
seek-few k [] = omega arith
seek-few k (x ∷ l) = go (eqb x k) (seek-few k l)
  where
    go : (b : Bool) → seek k l ≤ length l → pick b 0 (suc (seek k l)) ≤ suc (length l)
    go true h = omega arith
    go false h = omega arith

pub find-law : (w words : List ℕ) (n key : ℕ) (o : Option ℕ) (r : ℕ) → n ≤ 64 → length w ≡ 1152 → words ≡ take n (drop 736 w)
    → o ≡ position (λ x. eqb x key) words → r ≡ unwrap_or o n → (r ≡ seek key (take n (who_in w))) × (r ≤ n)
unfolding who_in
find-law w words n key o r few long e f g =
    let size : length words ≡ n = ap length e ∙ length-take-le n (drop 736 w) (simp length-drop (omega arith)) in
    let bound : seek key words ≤ n = omega (arith, seek-few key words, size) in
    let same : r ≡ seek key words =
    g
    ∙ ap (λ (x : Option ℕ). unwrap_or x n) f
    ∙ ap₂ (λ (x y : ℕ). unwrap_or (cond (nat_lt x y) (Some x) None) n) (seek-prefix key words) size
    ∙ go (seek key words) bound (nat_lt (seek key words) n) refl in
    (same ∙ ap (seek key) (e ∙ row-taken w 64 n 736 few (omega arith)), omega (arith, same, bound))
  where
    go : (s : ℕ) → s ≤ n → (b : Bool) → nat_lt s n ≡ b → unwrap_or (cond b (Some s) None) n ≡ s
    go s h true q = refl
    go s h false q = omega (arith, ltb-false s n q, h)

among-is : (k : ℕ) (l : List ℕ) → list_any (λ x. eqb x k) l ≡ among k l
unfolding among
among-is k [] = refl
among-is k (x ∷ l) = ap (λ (b : Bool). eqb x k || b) (among-is k l)

pub due-law : (w words : List ℕ) (n key : ℕ) (asks r : Bool) → n ≤ 128 → length w ≡ 1152 → asks ≡ true → words ≡ take n (drop 928 w)
    → r ≡ list_any (λ x. eqb x key) words → not r ≡ (asks && not (among key (take n (keys_in w))))
unfolding keys_in
due-law w words n key asks r few long q e f =
    rw q (ap not (f ∙ among-is key words ∙ ap (among key) (e ∙ row-taken w 128 n 928 few (omega arith))))
