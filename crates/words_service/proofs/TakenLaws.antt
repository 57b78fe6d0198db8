-- An answer is taken into any table with the same known services, and its list goes back over the places of another.
use Prim.Native.Nat.{ℕ, ◌≤◌}
use mathlib.Core.Path.{◌≡◌, sym, ap, ap₂, ◌∙◌}
use mathlib.Core.List.{List}
use native.Mathlib.Omega.{arith}
use lib.ListN.{length, take}
use lib.Seq.{length-take-le}
use Rattle.lists.specs.Queue.{onto}
use Rattle.lists.specs.Cut.{entries, part}
use Rattle.lists.specs.Taken.{Have, taken}
use Rattle.lists.proofs.TableLaws.{take-onto}
use Rattle.lists.proofs.TakenLaws.{taken-most}
use Rattle.gatt_services.specs.Service.{known, more, end_of, services_taken}
use Rattle.gatt_services.specs.declared.Service.{Service}
use Rattle.gatt_services.specs.declared.Services.{Services}
use Rattle.att_pdu.specs.declared.Found.{Found}
use Rattle.words.specs.Tables.{tables, with_services, services_in}
use Rattle.words.proofs.RowLaws.{length-services}
use Rattle.words_service.specs.Taken.{taken_in}

-- what the entries leave of a list
abbrev left : List Service → List (List ℕ) → Have Service
left l es = taken more end_of 32 l 65535 es

module _ (x y : Services) (es : List (List ℕ)) (e : known x ≡ known y) where
  same : left (known x) es ≡ left (known y) es
  same = ap (λ (l : List Service). left l es) e

  pub same-last : (services_taken x es).last ≡ (services_taken y es).last
  same-last = ap (λ (h : Have Service). h.last) same

  pub same_full : (services_taken x es).full ≡ (services_taken y es).full
  same_full = ap (λ (h : Have Service). h.full) same

  pub same_count : (services_taken x es).table.count ≡ (services_taken y es).table.count
  same_count = ap (λ (h : Have Service). length h.list) same

  pub same_known : known (services_taken x es).table ≡ known (services_taken y es).table
  same_known =
      take-onto x.kept (left (known x) es).list
      ∙ ap (λ (h : Have Service). h.list) same
      ∙ sym (take-onto y.kept (left (known y) es).list)

  -- what was taken into x, written onto the places of y
  pub written_back : (services_taken y es).table
      ≡ record { kept = onto y.kept (known (services_taken x es).table); count = (services_taken x es).table.count }
  written_back =
      ap₂ (λ (l : List Service) (n : ℕ). record { kept = onto y.kept l; count = n })
      (sym (take-onto y.kept (left (known y) es).list) ∙ sym same_known)
      (sym same_count)

-- no more are known than there are places
pub taken-few : (x : Services) (es : List (List ℕ)) → length (known x) ≤ 32 → (services_taken x es).table.count ≤ 32
taken-few x es h = taken-most more end_of 32 (known x) 65535 es h

-- ---- the services of the words taken out, and what an answer leaves put back

module _ (w : List ℕ) (n : ℕ) (x : Services) (s : List ℕ) (from end size : ℕ) (f : Found Services) (b : n ≤ 32) (e : (x.count ≡ n) × (known x ≡ take n (services_in w)))
    (g : f ≡ services_taken x (entries size (part from end s))) where
  abbrev es : List (List ℕ)
  es = entries size (part from end s)

  abbrev y : Services
  y = record { kept = services_in w; count = n }

  abbrev z : Found Services
  z = taken_in w n s from end size

  pub few : f.table.count ≤ 32
  few =
      let k : length (known x) ≤ 32 = rw e.1 (omega (arith, length-take-le n (services_in w) (omega (arith, length-services w)))) in
      rw g (taken-few x es k)

  pub back : (v : List ℕ) → tables v ≡ with_services (tables w) (onto (services_in w) (known f.table))
      → (tables v ≡ with_services (tables w) z.table.kept) × (f.table.count ≡ z.table.count) × (f.last ≡ z.last) × (f.full ≡ z.full)
  back v h = (
    h
        ∙ ap (λ (t : Found Services). with_services (tables w) (onto (services_in w) (known t.table))) g
        ∙ ap (λ (t : Services). with_services (tables w) t.kept) (sym (written_back x y es e.1)),
    ap (λ (t : Found Services). t.table.count) g ∙ same_count x y es e.1,
    ap (λ (t : Found Services). t.last) g ∙ same-last x y es e.1,
    ap (λ (t : Found Services). t.full) g ∙ same_full x y es e.1,
  )
