-- How a cut goes on, one packet at a time, and how it divides the bytes.
use Prim.Native.Nat.{ℕ, zero, suc, ◌+◌, ◌-◌, ◌≤◌, ◌<◌}
use mathlib.Core.Path.{◌≡◌, refl, ap, ◌∙◌}
use mathlib.Core.List.{List, [], ◌∷◌, ◌++◌}
use native.Mathlib.Omega.{arith}
use lib.ListN.{length, take, drop, length-append, length-drop}
use lib.Seq.{length-take-le, take-add, drop-drop}
use Rattle.std.specs.Prelude.{Option, None, Some, Ok, Err}
use Rattle.h4_packets.specs.Front.{Front, front}
use Rattle.h4_packets.specs.declared.Lost.{Lost}
use Rattle.h4_packets.proofs.FrontLaws.{front-empty, Stable, stable}
use Rattle.h4_stream.specs.Cut.{Cut, ends, after, cut_by, cutting, cut, joined}

-- ---- more turns than bytes change nothing

same_by : (f : Front) (s : List ℕ) (g h : ℕ → Cut) → ((n : ℕ) → f ≡ Ok (Some n) → g n ≡ h n) → cut_by f s g ≡ cut_by f s h
same_by (Ok None) s g h e = refl
same_by (Ok (Some n)) s g h e = ap (after (take n s)) (e n refl)
same_by (Err lost) s g h e = refl

-- a packet has at least one byte
some : (s : List ℕ) (n : ℕ) → front s ≡ Ok (Some n) → (0 < n) × (n ≤ length s)
some s n e = let k = rw e at (stable s) in (k.0, k.1.0)

enough : (f g : ℕ) (s : List ℕ) → length s ≤ f → length s ≤ g → cutting f s ≡ cutting g s
unfolding cutting
enough zero zero s a b = refl
enough zero (suc g) [] a b = rw (← front-empty [] refl)
enough zero (suc g) (x ∷ s) a b = absurd (omega arith)
enough (suc f) zero [] a b = rw (← front-empty [] refl)
enough (suc f) zero (x ∷ s) a b = absurd (omega arith)
enough (suc f) (suc g) s a b =
    same_by (front s) s (λ k. cutting f (drop k s)) (λ k. cutting g (drop k s))
    (λ n e.
    let k = some s n e in
    enough f g (drop n s) (rw length-drop (omega arith)) (rw length-drop (omega arith)))

one-turn : (f : ℕ) (s : List ℕ) → cutting (suc f) s ≡ cut_by (front s) s (λ k. cutting f (drop k s))
unfolding cutting
one-turn f s = refl

cut_step : (s : List ℕ) → cut s ≡ cut_by (front s) s (λ n. cut (drop n s))
cut_step s =
    enough (length s) (suc (length s)) s (omega arith) (omega arith)
    ∙ (one-turn (length s) s
    ∙ same_by (front s) s (λ k. cutting (length s) (drop k s)) (λ k. cut (drop k s))
    (λ n e. enough (length s) (length (drop n s)) (drop n s) (rw length-drop (omega arith)) (omega arith)))

module _ (s : List ℕ) where
  pub cut-more : Ok None ≡ front s → cut s ≡ ends s None
  cut-more e = cut_step s ∙ rw (← e)

  pub cut-whole : (n : ℕ) → Ok (Some n) ≡ front s → cut s ≡ after (take n s) (cut (drop n s))
  cut-whole n e = cut_step s ∙ rw (← e)

  pub cut-lost : (lost : Lost) → Err lost ≡ front s → cut s ≡ ends [] (Some lost)
  cut-lost lost e = cut_step s ∙ rw (← e)

-- ---- packets, then the rest

-- where framing is not lost, the rest is what follows the packets, and less than one packet
abbrev pub Kept : Option Lost → List ℕ → ℕ → List ℕ → Type 0
Kept None s len rest = (rest ≡ drop len s) × (length rest < 1024)
Kept (Some lost) s len rest = rest ≡ []

pub record Divides (s : List ℕ) (c : Cut) : Type 0 where
  pub inside : length (joined c.packets) ≤ length s
  pub front : joined c.packets ≡ take (length (joined c.packets)) s
  pub kept : Kept c.lost s (length (joined c.packets)) c.rest

kept-behind : (l : Option Lost) (s : List ℕ) (n m : ℕ) (rest : List ℕ) → Kept l (drop n s) m rest → Kept l s (n + m) rest
kept-behind None s n m rest k = (k.0 ∙ drop-drop m n s, k.1)
kept-behind (Some lost) s n m rest k = k

divides-by : (f : Front) (s : List ℕ) (later : ℕ → Cut) → Stable s f → ((n : ℕ) → 0 < n → Divides (drop n s) (later n)) → Divides s (cut_by f s later)
unfolding joined
divides-by (Ok None) s later k ih = record { inside = omega arith; front = refl; kept = (refl, k) }
divides-by (Ok (Some n)) s later k ih =
    let c = later n in
    let d = ih n k.0 in
    let m = length (joined c.packets) in
    let e : length (take n s ++ joined c.packets) ≡ n + m = simp (length-append, length-take-le n s k.1.0) in
    let i : m ≤ length s - n = rw length-drop at d.inside in
    record {
      inside = rw e (omega arith);
      front = rw (e, take-add n m s, ← d.front);
      kept = rw e (kept-behind c.lost s n m c.rest d.kept);
    }
divides-by (Err lost) s later k ih = record { inside = omega arith; front = refl; kept = refl }

divides-within : (f : ℕ) (s : List ℕ) → length s ≤ f → Divides s (cutting f s)
unfolding cutting joined
divides-within zero s h = record { inside = omega arith; front = refl; kept = (refl, omega arith) }
divides-within (suc f) s h =
    divides-by (front s) s (λ k. cutting f (drop k s)) (stable s) (λ n p. divides-within f (drop n s) (rw length-drop (omega arith)))

pub divides : (s : List ℕ) → Divides s (cut s)
divides s = divides-within (length s) s (omega arith)
