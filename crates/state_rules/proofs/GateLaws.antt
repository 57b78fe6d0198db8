-- What a gate that refuses nothing has shown, and that it refuses nothing then.
use Prim.Native.Nat.{ℕ, ◌≤◌}
use mathlib.Core.Path.{◌≡◌, refl, ap, ◌∙◌}
use mathlib.Core.Bool.{Bool, true, false, not, ◌&&◌}
use native.Mathlib.Omega.{arith}
use lib.Dec.{eqb, leb}
use borrow.Author.Tests.{eqb-true, leb-true, ltb-false, not-true, eq-eqb, ne_eqb, le-leb, le-ltb}
use Rattle.state_places.specs.Sizes.{store_size, output_size}
use Rattle.time.specs.declared.Micros.{Micros}
use Rattle.time.specs.Clock.{latest, too_late}
use Rattle.state.specs.Central.{Central}
use Rattle.state_rules.specs.Fit.{fits}
use Rattle.state_rules.specs.Facts.{Fit}
use Rattle.state_rules.proofs.FitLaws.{fit_of, of-fit, both}
use Rattle.state_rules.specs.Gate.{first_refusal, gate, gate_quiet, gate_reader, unless}

pub record Open (a b c : Bool) : Type 0 where
  pub fit : a ≡ true
  pub sized : b ≡ true
  pub timely : c ≡ true

pub opened : (a b c : Bool) → first_refusal a b c ≡ 0 → Open a b c
unfolding first_refusal
opened true true true e = record { fit = refl; sized = refl; timely = refl }
opened true true false e = absurd (omega arith)
opened true false c e = absurd (omega arith)
opened false b c e = absurd (omega arith)

pub opens : (a b c : Bool) → a ≡ true → b ≡ true → c ≡ true → first_refusal a b c ≡ 0
unfolding first_refusal
opens a b c e f g = rw (e, f, g)

-- ---- a call that may send

pub record Passed (c : Central) (m n : ℕ) (at : Micros) : Type 0 where
  pub fit : Fit c
  pub store : m ≡ store_size
  pub out : output_size ≤ n
  pub time : at.0 ≤ latest

-- ---- a call that sends nothing

pub record PassedQuiet (c : Central) (m : ℕ) (at : Micros) : Type 0 where
  pub fit : Fit c
  pub store : m ≡ store_size
  pub time : at.0 ≤ latest

-- ---- a call that only reads

pub record PassedReader (c : Central) (m : ℕ) : Type 0 where
  pub fit : Fit c
  pub store : m ≡ store_size

in-time : (at : Micros) → not (too_late at) ≡ true → at.0 ≤ latest
in-time at e = ltb-false latest at.0 (not-true (too_late at) e)

timely : (at : Micros) → at.0 ≤ latest → not (too_late at) ≡ true
timely at h = ap not (le-ltb latest at.0 h)

module _ (c : Central) (store : ℕ) where
  pub passed : (out : ℕ) (at : Micros) → gate c store out at ≡ 0 → Passed c store out at
  passed out at e =
      let o = opened (fits c) (eqb store store_size && leb output_size out) (not (too_late at)) e in
      let s = both (eqb store store_size) (leb output_size out) o.sized in
      record { fit = fit_of c o.fit; store = eqb-true store store_size s.0; out = leb-true output_size out s.1; time = in-time at o.timely }

  pub passed-quiet : (at : Micros) → gate_quiet c store at ≡ 0 → PassedQuiet c store at
  passed-quiet at e =
      let o = opened (fits c) (eqb store store_size) (not (too_late at)) e in
      record { fit = fit_of c o.fit; store = eqb-true store store_size o.sized; time = in-time at o.timely }

  pub passed-reader : gate_reader c store ≡ 0 → PassedReader c store
  passed-reader e =
      let o = opened (fits c) (eqb store store_size) true e in
      record { fit = fit_of c o.fit; store = eqb-true store store_size o.sized }

  pub passes : (out : ℕ) (at : Micros) → Passed c store out at → gate c store out at ≡ 0
  passes out at p =
      opens (fits c) (eqb store store_size && leb output_size out) (not (too_late at))
      (of-fit c p.fit) (rw (eq-eqb store store_size p.store) (le-leb output_size out p.out)) (timely at p.time)

  pub passes-quiet : (at : Micros) → PassedQuiet c store at → gate_quiet c store at ≡ 0
  passes-quiet at p =
      opens (fits c) (eqb store store_size) (not (too_late at)) (of-fit c p.fit) (eq-eqb store store_size p.store) (timely at p.time)

  pub passes-reader : PassedReader c store → gate_reader c store ≡ 0
  passes-reader p = opens (fits c) (eqb store store_size) true (of-fit c p.fit) (eq-eqb store store_size p.store) refl

-- ---- the two ways past a gate

module _ {A : Type 0} (why g : ℕ) (refused : ℕ → A) (answer : A) (e : why ≡ g) where
  pub refuses : (why ≡ 0 → ⊥) → refused why ≡ unless g refused answer
  refuses n = rw (← e, ne_eqb why 0 n)

  pub accepts : (x : A) → why ≡ 0 → x ≡ answer → x ≡ unless g refused answer
  accepts x z f = f ∙ rw (← e, eq-eqb why 0 z)
