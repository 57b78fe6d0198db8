-- What each return of the answers asks, and the entries of an answer.
use Prim.Native.Nat.{ℕ, ◌+◌, ◌-◌, ◌≤◌}
use mathlib.Core.Path.{◌≡◌, refl, sym, ap, ◌∙◌}
use mathlib.Core.Bool.{Bool, true, false, not, ◌&&◌}
use mathlib.Core.List.{List}
use native.Mathlib.Omega.{arith}
use lib.ListN.{take, drop, get_or}
use lib.Dec.{eqb}
use borrow.Author.Tests.{eq-eqb, ne_eqb}
use Rattle.bytes_base.specs.Choice.{pick}
use Rattle.lists.specs.Blocks.{bytes}
use Rattle.lists.specs.Cut.{entries, part}
use Rattle.link_rules.specs.Payload.{payload_at}
use Rattle.link_rules.specs.Answers.{width_of, counts}
use Rattle.att_pdu.specs.Numbers.{op_error_rsp}

-- ---- a choice by a test that is known

pub yes : {A : Type 0} (b : Bool) (x y : A) → b ≡ true → x ≡ pick b x y
yes b x y h = sym (ap (λ (c : Bool). pick c x y) h)

pub no : {A : Type 0} (b : Bool) (x y : A) → b ≡ false → y ≡ pick b x y
no b x y h = sym (ap (λ (c : Bool). pick c x y) h)

-- ---- the entries of an answer

pub entries-are : (s : List ℕ) (n size end : ℕ) → end ≡ payload_at + 2 + (n - 2)
    → entries size (part (payload_at + 2) end s) ≡ entries size (bytes s (payload_at + 2) (n - 2))
entries-are s n size end e =
    let same : end - (payload_at + 2) ≡ n - 2 = omega (arith, e) in
    ap (λ (m : ℕ). entries size (take m (drop (payload_at + 2) s))) same

-- ---- whether it counts

module _ (pending : ℕ) (p : List ℕ) where
  abbrev by-opcode : Bool
  by-opcode = pick (eqb (get_or p 0 0) op_error_rsp) (eqb (get_or p 1 0) pending) (eqb (get_or p 0 0) (pending + 1))

  pub none-awaited : pending ≡ 0 → false ≡ counts pending p
  none-awaited h = sym (ap (λ (b : Bool). not b && by-opcode) (eq-eqb pending 0 h))

  by-pending : (b : Bool) → (pending ≡ 0 → ⊥) → b ≡ by-opcode → b ≡ counts pending p
  by-pending b h e = e ∙ sym (ap (λ (x : Bool). not x && by-opcode) (ne_eqb pending 0 h))

  pub error-counts : (op named : ℕ) → (pending ≡ 0 → ⊥) → op ≡ get_or p 0 0 → op ≡ op_error_rsp → named ≡ get_or p 1 0 → eqb named pending ≡ counts pending p
  error-counts op named h e k f =
      by-pending (eqb named pending) h
      (ap (λ (x : ℕ). eqb x pending) f ∙ yes (eqb (get_or p 0 0) op_error_rsp) (eqb (get_or p 1 0) pending) (eqb (get_or p 0 0) (pending + 1)) (eq-eqb (get_or p 0 0) op_error_rsp (sym e ∙ k)))

  pub response-counts : (op : ℕ) → (pending ≡ 0 → ⊥) → op ≡ get_or p 0 0 → (op ≡ op_error_rsp → ⊥) → eqb op (pending + 1) ≡ counts pending p
  response-counts op h e k =
      by-pending (eqb op (pending + 1)) h
      (ap (λ (x : ℕ). eqb x (pending + 1)) e ∙ no (eqb (get_or p 0 0) op_error_rsp) (eqb (get_or p 1 0) pending) (eqb (get_or p 0 0) (pending + 1)) (ne_eqb (get_or p 0 0) op_error_rsp (λ q. k (e ∙ q))))

-- ---- the size of an entry

module _ (format : ℕ) where
  abbrev long-width : ℕ
  long-width = pick (eqb format 2) 18 0

  pub width-short : format ≡ 1 → 4 ≡ width_of format
  width-short h = yes (eqb format 1) 4 long-width (eq-eqb format 1 h)

  pub width-long : (format ≡ 1 → ⊥) → format ≡ 2 → 18 ≡ width_of format
  width-long h k = yes (eqb format 2) 18 0 (eq-eqb format 2 k) ∙ no (eqb format 1) 4 long-width (ne_eqb format 1 h)

  pub width-none : (format ≡ 1 → ⊥) → (format ≡ 2 → ⊥) → 0 ≡ width_of format
  width-none h k = no (eqb format 2) 18 0 (ne_eqb format 2 k) ∙ no (eqb format 1) 4 long-width (ne_eqb format 1 h)

pub width_two : (format : ℕ) → (width_of format ≡ 0 → ⊥) → 2 ≤ width_of format
width_two format h = go (eqb format 1) (eqb format 2) h
  where
    go : (a b : Bool) → (◌≡◌ {A = ℕ} (pick a 4 (pick b 18 0)) 0 → ⊥) → 2 ≤ pick a 4 (pick b 18 0)
    go true b k = omega arith
    go false true k = omega arith
    go false false k = absurd (k refl)
