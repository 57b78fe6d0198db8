-- One law for each way out of the match on an opcode.
use Prim.Native.Nat.{ℕ, ◌%◌, ◌≤◌, ◌<◌}
use mathlib.Core.Path.{◌≡◌, refl, sym, ap, ap₂, subst, ◌∙◌}
use mathlib.Core.Bool.{Bool, true, false, ◌&&◌}
use mathlib.Core.List.{List, [], ◌∷◌}
use mathlib.Core.Logic.{◌⊎◌, ⊎_elim, inl, inr}
use native.Mathlib.Omega.{arith}
use types.Run.{OneOf}
use lib.ListN.{get_or}
use lib.Dec.{eqb, leb, ltb}
use borrow.Author.Tests.{eq-eqb, ne_eqb, eqb-true, le-leb, lt-leb, lt-ltb, le-ltb, leb-true, ltb-true}
use Rattle.lists.specs.Queue.{all}
use Rattle.lists.proofs.ScanLaws.{all_head, all_tail}
use Rattle.bytes_base.specs.Choice.{pick, among}
use Rattle.bytes_base.specs.Bytes.{le_at}
use Rattle.time.specs.declared.Micros.{Micros}
use Rattle.att_pdu.specs.Numbers.{err_invalid_handle, err_request_not_supported, err_attribute_not_found}
use Rattle.script_rules.specs.World.{World, told, on_told}
use Rattle.link_rules.specs.Payload.{payload}
use Rattle.link_rules.specs.Replies.{refuse, exchange, notice}
use Rattle.link_rules.specs.Responses.{on_response}
use Rattle.state_rules.proofs.FitLaws.{both}
use Rattle.link_rules.specs.Att.{searches, accesses, silent, other_request, by_opcode, on_att}

-- ---- an arm's values

-- what holds of each of them holds of one of them
holds : (f : ℕ → Bool) (ks : List ℕ) (x : ℕ) → all f ks ≡ true → OneOf ks x → f x ≡ true
holds f [] x a w = absurd w
holds f (k ∷ []) x a e = subst (λ (y : ℕ). f y ≡ true) (sym e) (all_head f k [] a)
holds f (k ∷ j ∷ ks) x a (inl e) = subst (λ (y : ℕ). f y ≡ true) (sym e) (all_head f k (j ∷ ks) a)
holds f (k ∷ j ∷ ks) x a (inr r) = holds f (j ∷ ks) x (all_tail f k (j ∷ ks) a) r

none_of : (ks : List ℕ) (x : ℕ) → (OneOf ks x → ⊥) → among x ks ≡ false
unfolding among
none_of [] x h = refl
none_of (k ∷ []) x h = rw (ne_eqb k x (λ e. h (sym e)))
none_of (k ∷ j ∷ ks) x h = rw (ne_eqb k x (λ e. h (inl (sym e)))) (none_of (j ∷ ks) x (λ r. h (inr r)))

-- an odd number is none of some even ones
odd-none : (ks : List ℕ) (x : ℕ) → all (λ k. eqb (k % 2) 0) ks ≡ true → (x % 2 ≡ 0 → ⊥) → among x ks ≡ false
odd-none ks x a h = none_of ks x (λ w. h (eqb-true (x % 2) 0 (holds (λ (k : ℕ). eqb (k % 2) 0) ks x a w)))

-- a number below the notification's opcode is neither of the pair
abbrev pub pair : List ℕ
pair = 0x1B ∷ 0x1D ∷ []

low-none : (x : ℕ) → x < 0x1B → among x pair ≡ false
unfolding all
low-none x h = none_of pair x (λ w. let g = leb-true 0x1B x (holds (leb 0x1B) pair x refl w) in omega arith)

-- odd opcodes that the match tells apart before the range: no request is one
abbrev pub responses : List ℕ
responses = 0x03 ∷ 0x05 ∷ 0x07 ∷ 0x09 ∷ 0x0B ∷ 0x0D ∷ 0x0F ∷ 0x11 ∷ []

abbrev odd_low : ℕ → Bool
odd_low k = ltb k 0x1B && eqb (k % 2) 1

response-low : (x : ℕ) → OneOf responses x → x < 0x1B
unfolding all
response-low x w = ltb-true x 0x1B (both (ltb x 0x1B) (eqb (x % 2) 1) (holds odd_low responses x refl w)).0

response-odd : (x : ℕ) → OneOf responses x → x % 2 ≡ 0 → ⊥
unfolding all
response-odd x w e = let o = eqb-true (x % 2) 1 (both (ltb x 0x1B) (eqb (x % 2) 1) (holds odd_low responses x refl w)).1 in omega arith

-- ---- by opcode

module _ (w : World) (at : Micros) (n op handle : ℕ) where
  abbrev by : ℕ → World
  by x = by_opcode w at n x handle

  abbrev refused : ℕ → ℕ → ℕ → World
  refused x h code = on_told w (refuse w.told x h code)

  named : (f : ℕ → World) (k : ℕ) → f k ≡ by k → op ≡ k → f op ≡ by op
  named f k h e = subst (λ (x : ℕ). f x ≡ by x) (sym e) h

  noticed : OneOf pair op → 3 ≤ n → notice w at n (eqb op 0x1D) ≡ by op
  unfolding by_opcode among
  noticed k h =
      ⊎_elim
      (named (λ (x : ℕ). notice w at n (eqb x 0x1D)) 0x1B (rw (le-leb 3 n h)))
      (named (λ (x : ℕ). notice w at n (eqb x 0x1D)) 0x1D (rw (le-leb 3 n h)))
      k

  cut_short : OneOf pair op → n < 3 → on_response w at n ≡ by op
  unfolding by_opcode among
  cut_short k h =
      ⊎_elim
      (named (λ (x : ℕ). on_response w at n) 0x1B (rw (lt-leb 3 n h)))
      (named (λ (x : ℕ). on_response w at n) 0x1D (rw (lt-leb 3 n h)))
      k

  exchanged : op ≡ 0x02 → exchange w handle ≡ by op
  unfolding by_opcode among
  exchanged e = named (λ (x : ℕ). exchange w handle) 0x02 refl e

  searched : OneOf searches op → refused op handle err_attribute_not_found ≡ by op
  unfolding by_opcode among
  searched k =
      let f : ℕ → World = λ x. refused x handle err_attribute_not_found in
      ⊎_elim (named f 0x04 refl) (λ k₁. ⊎_elim (named f 0x06 refl) (λ k₂. ⊎_elim (named f 0x08 refl) (named f 0x10 refl) k₂) k₁) k

  accessed : OneOf accesses op → refused op handle err_invalid_handle ≡ by op
  unfolding by_opcode among
  accessed k =
      let f : ℕ → World = λ x. refused x handle err_invalid_handle in
      ⊎_elim (named f 0x0A refl) (λ k₁. ⊎_elim (named f 0x0C refl) (λ k₂. ⊎_elim (named f 0x0E refl) (named f 0x12 refl) k₂) k₁) k

  unanswered : OneOf (0x1E ∷ 0x52 ∷ []) op → w ≡ by op
  unfolding by_opcode among
  unanswered k = ⊎_elim (named (λ (x : ℕ). w) 0x1E refl) (named (λ (x : ℕ). w) 0x52 refl) k

  later : op ≡ 0x20 → refused op 0 err_request_not_supported ≡ by op
  unfolding by_opcode among
  later e = named (λ (x : ℕ). refused x 0 err_request_not_supported) 0x20 refl e

  -- not named
  unnamed : among op pair ≡ false → eqb op 0x02 ≡ false → among op searches ≡ false → among op accesses ≡ false → among op silent ≡ false
      → by op ≡ pick (other_request op) (refused op 0 err_request_not_supported) (on_response w at n)
  unfolding by_opcode
  unnamed e₁ e₂ e₃ e₄ e₅ = rw (e₁, e₂, e₃, e₄, e₅)

  no-silent : (OneOf (0x1E ∷ 0x52 ∷ []) op → ⊥) → among op silent ≡ false
  no-silent h = none_of silent op (λ k. h (⊎_elim inr inl k))

  even : op < 0x1B → op % 2 ≡ 0 → (op ≡ 0x02 → ⊥) → (OneOf searches op → ⊥) → (OneOf accesses op → ⊥) → (OneOf (0x1E ∷ 0x52 ∷ []) op → ⊥)
      → refused op 0 err_request_not_supported ≡ by op
  even l e h₂ h₃ h₄ h₅ =
      sym
      (unnamed (low-none op l) (ne_eqb op 0x02 h₂) (none_of searches op h₃) (none_of accesses op h₄) (no-silent h₅)
      ∙ rw (lt-ltb op 0x1B l, eq-eqb (op % 2) 0 e))

  odd : op < 0x1B → (op % 2 ≡ 0 → ⊥) → on_response w at n ≡ by op
  unfolding all
  odd l h =
      sym
      (unnamed (low-none op l) (ne_eqb op 0x02 (λ e. h (ap (λ (x : ℕ). x % 2) e))) (odd-none searches op refl h) (odd-none accesses op refl h) (odd-none silent op refl h)
      ∙ rw (ne_eqb (op % 2) 0 h, ne_eqb op 0x20 (λ e. omega arith), lt-ltb op 0x1B l))

  other : 0x1B ≤ op → (OneOf pair op → ⊥) → (op ≡ 0x02 → ⊥) → (OneOf searches op → ⊥) → (OneOf accesses op → ⊥) → (OneOf (0x1E ∷ 0x52 ∷ []) op → ⊥) → (op ≡ 0x20 → ⊥)
      → on_response w at n ≡ by op
  other g h₁ h₂ h₃ h₄ h₅ h₆ =
      sym
      (unnamed (none_of pair op h₁) (ne_eqb op 0x02 h₂) (none_of searches op h₃) (none_of accesses op h₄) (no-silent h₅)
      ∙ rw (le-ltb op 0x1B g, ne_eqb op 0x20 h₆))

-- ---- what each return asks

pub empty : (w : World) (at : Micros) (n : ℕ) → n ≡ 0 → w ≡ on_att w at n
unfolding on_att
empty w at n e = rw (eq-eqb n 0 e)

module _ (w : World) (at : Micros) (n op handle : ℕ) (some : n ≡ 0 → ⊥) (o : op ≡ get_or (payload w.held n) 0 0) (h : handle ≡ le_at 2 (payload w.held n) 1) (r : World) where
  decided : r ≡ by_opcode w at n op handle → r ≡ on_att w at n
  unfolding on_att
  decided e = e ∙ ap₂ (λ (x y : ℕ). by_opcode w at n x y) o h ∙ rw (ne_eqb n 0 some)

  pub on_value : OneOf pair op → 3 ≤ n → r ≡ notice w at n (eqb op 0x1D) → r ≡ on_att w at n
  on_value k l e = decided (e ∙ noticed w at n op handle k l)

  pub on-short : OneOf pair op → n < 3 → r ≡ on_response w at n → r ≡ on_att w at n
  on-short k l e = decided (e ∙ cut_short w at n op handle k l)

  pub on-exchange : op ≡ 0x02 → r ≡ exchange w handle → r ≡ on_att w at n
  on-exchange k e = decided (e ∙ exchanged w at n op handle k)

  pub on-search : OneOf searches op → r ≡ on_told w (refuse w.told op handle err_attribute_not_found) → r ≡ on_att w at n
  on-search k e = decided (e ∙ searched w at n op handle k)

  pub on-access : OneOf accesses op → r ≡ on_told w (refuse w.told op handle err_invalid_handle) → r ≡ on_att w at n
  on-access k e = decided (e ∙ accessed w at n op handle k)

  pub on-silent : OneOf (0x1E ∷ 0x52 ∷ []) op → r ≡ w → r ≡ on_att w at n
  on-silent k e = decided (e ∙ unanswered w at n op handle k)

  pub on-later : op ≡ 0x20 → r ≡ on_told w (refuse w.told op 0 err_request_not_supported) → r ≡ on_att w at n
  on-later k e = decided (e ∙ later w at n op handle k)

  -- what is known past the named values
  abbrev past : Type 0
  past = ((((((Unit {0} × (OneOf pair op → ⊥)) × (op ≡ 0x02 → ⊥)) × (OneOf searches op → ⊥)) × (OneOf accesses op → ⊥)) × (OneOf (0x1E ∷ 0x52 ∷ []) op → ⊥)) × (OneOf responses op → ⊥)) × (op ≡ 0x20 → ⊥)

  pub on-even : (OneOf responses op) ⊎ (past × (op < 0x1B)) → op % 2 ≡ 0 → r ≡ on_told w (refuse w.told op 0 err_request_not_supported) → r ≡ on_att w at n
  on-even k z e =
      decided
      (e
      ∙ ⊎_elim
      (λ q. absurd (response-odd op q z))
      (λ q. even w at n op handle q.1 z q.0.0.0.0.0.0.1 q.0.0.0.0.0.1 q.0.0.0.0.1 q.0.0.0.1)
      k)

  pub on-odd : (OneOf responses op) ⊎ (past × (op < 0x1B)) → (op % 2 ≡ 0 → ⊥) → r ≡ on_response w at n → r ≡ on_att w at n
  on-odd k z e = decided (e ∙ odd w at n op handle (⊎_elim (response-low op) (λ q. q.1) k) z)

  pub on-other : past → 0x1B ≤ op → r ≡ on_response w at n → r ≡ on_att w at n
  on-other q g e =
      decided
      (e
      ∙ other w at n op handle g q.0.0.0.0.0.0.1 q.0.0.0.0.0.1 q.0.0.0.0.1 q.0.0.0.1 q.0.0.1 q.1)
