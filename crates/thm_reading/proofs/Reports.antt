-- Reports and keys cut to their live entries: a report that is heard again, a new one, a scan response, and one key more.
use Prim.Native.Nat.{ℕ, zero, suc, ◌+◌, ◌≤◌, ◌<◌, min}
use mathlib.Core.Path.{◌≡◌, refl, sym, ap, ◌∙◌}
use mathlib.Core.Bool.{Bool, true, false}
use mathlib.Core.List.{List, [], ◌∷◌, ◌++◌}
use native.Mathlib.Omega.{arith}
use native.Mathlib.Numerals.{add-one}
use lib.ListN.{length, take, drop, get_or, set, length-append, get_or-append}
use lib.Seq.{take_all, take_at, get_or-take, length-take-le, take-suc-set}
use lib.Dec.{leb}
use borrow.Author.Tests.{leb-true, leb-false}
use Rattle.lists.specs.Queue.{pushed, onto}
use Rattle.lists.proofs.QueueLaws.{length-pushed}
use Rattle.state_places.specs.Sizes.{most_reports}
use Rattle.time.specs.declared.Micros.{Micros}
use Rattle.state.specs.declared.Reports.{Reports}
use Rattle.state.specs.declared.Keys.{Keys}
use Rattle.adv_reports.specs.Reports.{Line, no_response, behind, heard_again, heard_first, last_place, responded, response_bytes, response_of, asked_too}
use Rattle.thm_reading.specs.Live.{live_keys, live_reports}
use Rattle.thm_reading.proofs.Tables.{cut_twice}

-- ---- one place changes

cut-set : {A : Type 0} (n : ℕ) (l : List A) (i : ℕ) (x : A) → take n (set l i x) ≡ take n (set (take n l) i x)
cut-set zero l i x = refl
cut-set (suc n) [] i x = refl
cut-set {A} (suc n) (y ∷ l) zero x = ap (λ (t : List A). x ∷ t) (sym (cut_twice n l))
cut-set {A} (suc n) (y ∷ l) (suc i) x = ap (λ (t : List A). y ∷ t) (cut-set n l i x)

pub again_cut : (r : Reports) (i : ℕ) (l : Line) → live_reports (heard_again r i l) ≡ live_reports (heard_again (live_reports r) i l)
again_cut r i l = λ k.
    record {
      who = sym (cut_twice r.count r.who) k;
      heard = record {
        at = cut-set r.count r.heard.at i l.at k;
        channel = cut-set r.count r.heard.channel i l.channel k;
        pdu = cut-set r.count r.heard.pdu i l.pdu k;
        len = cut-set r.count r.heard.len i l.len k;
        response = sym (cut_twice r.count r.heard.response) k;
      };
      count = r.count;
    }

pub responded-cut : (r : Reports) (i : ℕ) (at : Micros) (n : ℕ) → live_reports (responded r i at n) ≡ live_reports (responded (live_reports r) i at n)
responded-cut r i at n = λ k.
    record {
      who = sym (cut_twice r.count r.who) k;
      heard = record {
        at = cut-set r.count r.heard.at i at k;
        channel = sym (cut_twice r.count r.heard.channel) k;
        pdu = sym (cut_twice r.count r.heard.pdu) k;
        len = sym (cut_twice r.count r.heard.len) k;
        response = cut-set r.count r.heard.response i n k;
      };
      count = r.count;
    }

pub again-response : (r : Reports) (i : ℕ) (l : Line) (s : List ℕ) → i < r.count → response_of (heard_again r i l) s i ≡ response_of (heard_again (live_reports r) i l) s i
again-response r i l s h = ap (λ (n : ℕ). response_bytes s i n) (sym (get_or-take r.count r.heard.response i 0 h))

-- ---- a new one stands behind the others

-- what is read of the first places, whatever stands beyond them
module _ {A X : Type 0} (n : ℕ) (a : List A) (x : A) (f : List A → X) where
  -- those that are there then
  abbrev there : List A
  there = pushed most_reports (take n a) x

  pub behind-cut : (length there ≡ min (n + 1) most_reports → (b : List A) → f (onto a there) ≡ f (onto b there))
      → f (behind n a x) ≡ f (behind n (take n a) x)
  behind-cut same = go (leb n (length a)) refl ∙ ap (λ (l : List A). f (onto (take n a) (pushed most_reports l x))) (sym (cut_twice n a))
    where
      go : (b : Bool) → leb n (length a) ≡ b → f (onto a there) ≡ f (onto (take n a) there)
      go true e =
          let m : n ≤ length a = leb-true n (length a) e in
          same (length-pushed most_reports (take n a) x ∙ ap (λ (k : ℕ). min (k + 1) most_reports) (length-take-le n a m)) (take n a)
      go false e =
          let m : length a < n = leb-false n (length a) e in
          ap (λ (l : List A). f (onto l there)) (sym (take_all n a (omega arith)))

live-behind : {A : Type 0} (n : ℕ) (a : List A) (x : A) → take (min (n + 1) most_reports) (behind n a x) ≡ take (min (n + 1) most_reports) (behind n (take n a) x)
live-behind n a x =
    behind-cut n a x (λ l. take (min (n + 1) most_reports) l)
    (λ e b. take_at (pushed most_reports (take n a) x) (drop (length (pushed most_reports (take n a) x)) a) (min (n + 1) most_reports) e
    ∙ sym (take_at (pushed most_reports (take n a) x) (drop (length (pushed most_reports (take n a) x)) b) (min (n + 1) most_reports) e))

pub first-cut : (r : Reports) (l : Line) → live_reports (heard_first r l) ≡ live_reports (heard_first (live_reports r) l)
unfolding heard_first
first-cut r l = λ k.
    record {
      who = live-behind r.count r.who l.who k;
      heard = record {
        at = live-behind r.count r.heard.at l.at k;
        channel = live-behind r.count r.heard.channel l.channel k;
        pdu = live-behind r.count r.heard.pdu l.pdu k;
        len = live-behind r.count r.heard.len l.len k;
        response = live-behind r.count r.heard.response no_response k;
      };
      count = min (r.count + 1) most_reports;
    }

pub first-response : (r : Reports) (l : Line) (s : List ℕ)
    → response_of (heard_first r l) s (last_place r.count) ≡ response_of (heard_first (live_reports r) l) s (last_place r.count)
unfolding heard_first
first-response r l s =
    let n : ℕ = r.count in
    let a : List ℕ = r.heard.response in
    let t : List ℕ = pushed most_reports (take n a) no_response in
    ap (λ (k : ℕ). response_bytes s (last_place n) k)
    (behind-cut n a no_response (λ m. get_or m (last_place n) 0)
    (λ e b. get_or-append t (drop (length t) a) 0 (last_place n) (omega (arith, e)) ∙ sym (get_or-append t (drop (length t) b) 0 (last_place n) (omega (arith, e)))))

-- ---- one key more

-- behind the others
abbrev pub also : Keys → ℕ → Keys
also k who = record { kept = take k.count k.kept ++ (who ∷ []); count = k.count + 1 }

-- where there is a place for it
pub asked-cut : (k : Keys) (who : ℕ) → k.count < length k.kept → live_keys (asked_too k who) ≡ live_keys (also (live_keys k) who)
asked-cut k who h = λ i. record { kept = same i; count = n + 1 }
  where
    n : ℕ
    n = k.count

    twice : List ℕ
    twice = take n (take n k.kept)

    long : length (twice ++ (who ∷ [])) ≡ n + 1
    long =
        ap (λ (l : List ℕ). length (l ++ (who ∷ []))) (cut_twice n k.kept)
        ∙ length-append (take n k.kept) (who ∷ [])
        ∙ ap (λ (m : ℕ). m + 1) (length-take-le n k.kept (omega arith))

    same : take (n + 1) (set k.kept n who) ≡ take (n + 1) (twice ++ (who ∷ []))
    same =
        ap (λ (m : ℕ). take m (set k.kept n who)) (add-one n)
        ∙ take-suc-set k.kept n who h
        ∙ ap (λ (l : List ℕ). l ++ (who ∷ [])) (sym (cut_twice n k.kept))
        ∙ sym (take_all (n + 1) (twice ++ (who ∷ [])) (omega (arith, long)))
