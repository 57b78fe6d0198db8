-- What the answer of a search makes of the bytes and of the place of the body.
use Prim.Native.Nat.{ℕ, ◌+◌, ◌-◌}
use mathlib.Core.Path.{◌≡◌, refl}
use mathlib.Core.List.{List, []}
use native.Mathlib.Nat.{add-sub_cancel_left}
use lib.ListN.{take, drop}
use denote.Ref.{Bor}
use Rattle.std.specs.Prelude.{Some, None}
use Rattle.bytes_bounds.specs.declared.Span.{Span}
use Rattle.adv_data.specs.Ad.{listed_place}
use Rattle.adv_data.specs.Body.{listed_body, listed_at}
use Rattle.adv_data.proofs.Searches.{found_at, found_none}

module _ (u : ℕ) (d t : Bor (List ℕ)) where
  -- the answer, for bytes l that lie at p
  abbrev pub Answers : List ℕ → ℕ × ℕ → Type 0
  Answers l p = (l ≡ listed_body u d.now t.now) × (p ≡ listed_at u d t)

  pub in-data : (x : Span) → Some x ≡ listed_place u d.now → Answers (take (x.at + x.len - x.at) (drop x.at d.now)) (d.ref_ptr.0, x.at + d.ref_ptr.1)
  in-data x e =
      let f = found_at u d.now x e in
      rw (f.is, add-sub_cancel_left x.at x.len, f.bytes, f.begins) (refl, refl)

  module _ (none : None ≡ listed_place u d.now) where
    pub in-response : (x : Span) → Some x ≡ listed_place u t.now → Answers (take (x.at + x.len - x.at) (drop x.at t.now)) (t.ref_ptr.0, x.at + t.ref_ptr.1)
    in-response x e =
        let f = found_at u t.now x e in
        rw (found_none u d.now none, f.is, add-sub_cancel_left x.at x.len, f.bytes, f.begins) (refl, refl)

    pub in-neither : None ≡ listed_place u t.now → Answers [] d.ref_ptr
    in-neither e = rw (found_none u d.now none, found_none u t.now e) (refl, refl)
