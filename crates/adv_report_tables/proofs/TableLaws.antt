-- What the tables and the store are with a report at place i, and that it is what the definitions of the reports say.
use Prim.Native.Nat.{ℕ, zero, suc, ◌+◌, ◌≤◌, ◌<◌, min}
use mathlib.Core.Path.{◌≡◌, refl, sym, ap, ◌∙◌}
use mathlib.Core.Bool.{Bool, true, false}
use mathlib.Core.List.{List, [], ◌∷◌}
use native.Mathlib.Omega.{arith}
use lib.ListN.{length, take, get_or, set}
use lib.Seq.{get_or-set_same, set-get_or}
use lib.Dec.{eqb, ltb}
use borrow.Author.Tests.{lt-ltb, le-ltb, ltb-true, ltb-false, eqb-true}
use Rattle.bytes_base.specs.Choice.{pick}
use Rattle.lists.specs.Queue.{shifted}
use Rattle.lists.proofs.QueueLaws.{length-shifted, set_room, set_full}
use Rattle.lists.specs.Blocks.{lowered}
use Rattle.lists.proofs.BlockLaws.{stored-room, stored-full}
use Rattle.time.specs.declared.Micros.{Micros}
use Rattle.state.specs.declared.Reports.{Reports}
use Rattle.adv_reports.specs.Key.{seek}
use Rattle.adv_reports.specs.Reports.{report_part, no_response, advertisers, Line, heard_again, again_store, behind, heard_first, first_store}
use Rattle.adv_reports.specs.Whole.{Whole}
use Rattle.adv_report_tables.specs.Tables.{put_at, block_at, kept_response, counted}

-- ---- one table

module _ {A : Type 0} (a : List A) (i : ℕ) (x : A) where
  pub put-place : i < 64 → put_at a i x ≡ set a i x
  unfolding put_at
  put-place h = rw (lt-ltb i 64 h)

  pub put_last : 64 ≤ i → put_at a i x ≡ set (shifted a 63) 63 x
  unfolding put_at
  put_last h = rw (le-ltb i 64 h)

-- a number is found again at its place
module _ (a : List ℕ) (i x : ℕ) where
  pub put-found : length a ≡ 64 → get_or (put_at a i x) (min i 63) 0 ≡ x
  unfolding put_at
  put-found e = go (ltb i 64) refl
    where
      go : (b : Bool) → ltb i 64 ≡ b → get_or (pick b (set a i x) (set (shifted a 63) 63 x)) (min i 63) 0 ≡ x
      go true h =
          let m : min i 63 ≡ i = omega (arith, ltb-true i 64 h) in
          rw (m, get_or-set_same a i x 0 (omega (arith, ltb-true i 64 h)))
      go false h =
          let m : min i 63 ≡ 63 = omega (arith, ltb-false i 64 h) in
          rw (m, get_or-set_same (shifted a 63) 63 x 0 (omega (arith, length-shifted a 63 (omega arith))))

-- behind the others
pub put-behind : {A : Type 0} (a : List A) (count : ℕ) (x : A) → length a ≡ 64 → count ≤ 64 → put_at a count x ≡ behind count a x
unfolding put_at
put-behind a count x e h = go (ltb count 64) refl
  where
    go : (b : Bool) → ltb count 64 ≡ b → pick b (set a count x) (set (shifted a 63) 63 x) ≡ behind count a x
    go true t = set_room a 64 count x e (ltb-true count 64 t)
    go false t = set_full a 64 count x e (omega arith) (ltb-false count 64 t)

-- an advertiser's number stands where it is found
pub put-known : (k : ℕ) (l : List ℕ) (n : ℕ) → seek k (take n l) < n → set l (seek k (take n l)) k ≡ l
unfolding seek
put-known k [] n h = refl
put-known k (x ∷ l) zero h = absurd (omega arith)
put-known k (x ∷ l) (suc n) h = go (eqb x k) refl h (put-known k l n)
  where
    go : (b : Bool) → eqb x k ≡ b → pick b 0 (suc (seek k (take n l))) < suc n → (seek k (take n l) < n → set l (seek k (take n l)) k ≡ l)
        → set (x ∷ l) (pick b 0 (suc (seek k (take n l)))) k ≡ x ∷ l
    go true e q f = ap (λ (y : ℕ). y ∷ l) (sym (eqb-true x k e))
    go false e q f = ap (λ (t : List ℕ). x ∷ t) (f (omega arith))

-- ---- the store

pub block-place : (s : List ℕ) (i : ℕ) (d : List ℕ) → i < 64 → block_at s i d ≡ again_store i d s
unfolding block_at
block-place s i d h = rw (lt-ltb i 64 h)

pub block_last : (s : List ℕ) (i : ℕ) (d : List ℕ) → 64 ≤ i → block_at s i d ≡ again_store 63 d (lowered report_part s)
unfolding block_at
block_last s i d h = rw (le-ltb i 64 h)

pub block_new : (s : List ℕ) (count : ℕ) (d : List ℕ) → block_at s count d ≡ first_store count d s
unfolding block_at
block_new s count d = go (ltb count 64) refl
  where
    go : (b : Bool) → ltb count 64 ≡ b → pick b (again_store count d s) (again_store 63 d (lowered report_part s)) ≡ first_store count d s
    go true t = sym (stored-room report_part count d 0 (length d) s (ltb-true count 64 t))
    go false t = sym (stored-full report_part count d 0 (length d) s (ltb-false count 64 t))

-- ---- all tables

-- each with the report's line at place i
pub record Put (r : Reports) (i : ℕ) (l : Line) (none : ℕ) (who : List ℕ) (at : List Micros) (channel pdu len response : List ℕ) : Type 0 where
  pub who_put : who ≡ put_at r.who i l.who
  pub at_put : at ≡ put_at r.heard.at i l.at
  pub channel_put : channel ≡ put_at r.heard.channel i l.channel
  pub pdu_put : pdu ≡ put_at r.heard.pdu i l.pdu
  pub len_put : len ≡ put_at r.heard.len i l.len
  pub response_put : response ≡ put_at r.heard.response i none

module _ (r : Reports) (i : ℕ) (l : Line) (none n : ℕ) (who : List ℕ) (at : List Micros) (channel pdu len response : List ℕ) (p : Put r i l none who at channel pdu len response)
    (kept : none ≡ kept_response r.heard.response r.count i) (many : n ≡ counted r.count i) where
  pub line_known : i ≡ seek l.who (advertisers r) → i < r.count → r.count ≤ 64
      → record { who = who; heard = record { at = at; channel = channel; pdu = pdu; len = len; response = response }; count = n } ≡ heard_again r i l
  unfolding kept_response counted
  line_known e h m =
      let q : i < 64 = omega arith in
      let t : ltb i r.count ≡ true = lt-ltb i r.count h in
      let f : none ≡ get_or r.heard.response i 0 = kept ∙ rw t in
      let k : n ≡ r.count = many ∙ rw t in
      let w : set r.who i l.who ≡ r.who = rw e (put-known l.who r.who r.count (rw e at h)) in
      rw (
        p.who_put ∙ put-place r.who i l.who q ∙ w,
        p.at_put ∙ put-place r.heard.at i l.at q,
        p.channel_put ∙ put-place r.heard.channel i l.channel q,
        p.pdu_put ∙ put-place r.heard.pdu i l.pdu q,
        p.len_put ∙ put-place r.heard.len i l.len q,
        p.response_put ∙ put-place r.heard.response i none q ∙ ap (λ (y : ℕ). set r.heard.response i y) f ∙ set-get_or r.heard.response i 0,
        k,
      )

  pub line-new : i ≡ r.count → r.count ≤ 64 → Whole r
      → record { who = who; heard = record { at = at; channel = channel; pdu = pdu; len = len; response = response }; count = n } ≡ heard_first r l
  unfolding kept_response counted heard_first
  line-new e m w =
      let t : ltb r.count r.count ≡ false = le-ltb r.count r.count (omega arith) in
      let f : none ≡ no_response = kept ∙ rw (e, t) in
      let k : n ≡ min (r.count + 1) 64 = many ∙ rw (e, t) in
      let c : ℕ = r.count in
      rw (
        p.who_put ∙ ap (λ (y : ℕ). put_at r.who y l.who) e ∙ put-behind r.who c l.who w.who m,
        p.at_put ∙ ap (λ (y : ℕ). put_at r.heard.at y l.at) e ∙ put-behind r.heard.at c l.at w.at m,
        p.channel_put ∙ ap (λ (y : ℕ). put_at r.heard.channel y l.channel) e ∙ put-behind r.heard.channel c l.channel w.channel m,
        p.pdu_put ∙ ap (λ (y : ℕ). put_at r.heard.pdu y l.pdu) e ∙ put-behind r.heard.pdu c l.pdu w.pdu m,
        p.len_put ∙ ap (λ (y : ℕ). put_at r.heard.len y l.len) e ∙ put-behind r.heard.len c l.len w.len m,
        p.response_put ∙ ap (λ (y : ℕ). put_at r.heard.response y none) e ∙ ap (λ (y : ℕ). put_at r.heard.response c y) f ∙ put-behind r.heard.response c no_response w.response m,
        k,
      )
