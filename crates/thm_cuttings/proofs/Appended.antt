-- A cut of bytes with more behind them: the packets of the first, and then a cut of what it left with those behind.
use Prim.Native.Nat.{ℕ, zero, suc, ◌≤◌, ◌<◌}
use mathlib.Core.Path.{◌≡◌, refl, sym, ap, ◌∙◌}
use mathlib.Core.List.{List, [], ◌∷◌, ◌++◌, append_assoc}
use native.Mathlib.Omega.{arith}
use lib.ListN.{length, take, drop, length-drop}
use lib.Seq.{take-append-le, drop-append-le}
use Rattle.std.specs.Prelude.{Option, None, Some, Ok, Err}
use Rattle.h4_packets.specs.Front.{Front, front}
use Rattle.h4_packets.specs.declared.Lost.{Lost}
use Rattle.h4_packets.proofs.FrontLaws.{front-empty, Stable, stable}
use Rattle.h4_stream.specs.Cut.{Cut, after, cutting, cut, joined}
use Rattle.h4_stream.specs.Feed.{cut_from}
use Rattle.h4_stream.proofs.CutLaws.{cut-more, cut-whole, cut-lost}

-- the packets of one cut, and then all of another
abbrev pub onward : Cut → Cut → Cut
onward c d = record { packets = c.packets ++ d.packets; rest = d.rest; lost = d.lost }

-- what is cut behind c, once t has come
abbrev later : Cut → List ℕ → Cut
later c t = onward c (cut_from c.lost (c.rest ++ t))

step : (s t : List ℕ) (f : Front) → f ≡ front s → Stable s f
    → ((n : ℕ) → 0 < n → cut (drop n s ++ t) ≡ later (cut (drop n s)) t)
    → cut (s ++ t) ≡ later (cut s) t
step s t (Ok None) e k ih = rw (cut-more s e)
step s t (Ok (Some n)) e k ih =
    rw
    (cut-whole s n e, cut-whole (s ++ t) n (k.1.1.0 t), take-append-le n s t k.1.0, drop-append-le n s t k.1.0, ih n k.0)
step s t (Err lost) e k ih = rw (cut-lost s lost e, cut-lost (s ++ t) lost (k t))

within : (f : ℕ) (s t : List ℕ) → length s ≤ f → cut (s ++ t) ≡ later (cut s) t
within zero [] t h = rw (cut-more [] (front-empty [] refl))
within zero (x ∷ s) t h = absurd (omega arith)
within (suc f) s t h = step s t (front s) refl (stable s) (λ n p. within f (drop n s) t (rw length-drop (omega arith)))

pub appended : (l : Option Lost) (s t : List ℕ) → cut_from l (s ++ t) ≡ later (cut_from l s) t
appended None s t = within (length s) s t (omega arith)
appended (Some lost) s t = refl

pub joined-append : (p q : List (List ℕ)) → joined (p ++ q) ≡ joined p ++ joined q
unfolding joined
joined-append [] q = refl
joined-append (x ∷ p) q = ap (λ (l : List ℕ). x ++ l) (joined-append p q) ∙ sym (append_assoc x (joined p) (joined q))
