-- A function `fn clear(s: &mut S) { s.field = 0; }` over a struct S of plain data, at any number or truth value: one law, for every struct, field and value.
use mathlib.Core.Path.{◌≡◌, refl, ap}
use Prim.Native.Nat.{ℕ, zero}
use mathlib.Core.Option.{some as found}
use mathlib.Core.List.{[], ◌∷◌, List}
use seplogic.Ra.Ura.{Ura}
use base.Fraction.{full_share}
use mir.Syntax.{Ty, Fn, named, mut, ty_unit, ty_ref, place, deref, field, opd_unit, rv_opd, seq, assign, return, value_local, local}
use mir.Fields.{set_v}
use mir.Val.{Val, Vals, vunit, vptr, vstruct, of_list}
use base.Logic.{SProp, ent, sep, emp, via, fst∗}
use base.Fml.{GName, Lft, Share, ftrue, flft, fobs, fbor, fat}
use prog.Memory.{field_at}
use prog.Wp.{Calls, Loops, WpFn, Tables}
use types.Logic.{Logic}
use contract.Monad.{fact}
use types.Kit.{‵, ◌⊛◌, some, ◌$◌, ◌∵◌, !, qed, by, move, keep, drop, use1, use2, pick, rewrite, split, join, fsplit, fsplit3, fjoin, fjoin3, feq_i, suffices, frame, done}
use types.Run.{look, init, forget, stop, hop, fld, from, unit_lit, of_opd, assigns, returns, enter, alloc1, alloc0, params1, pass1, pass0, free1, free0}
use types.Part.{whole, sub, store_in}
use types.SemTy.{Body}
use types.Mut.{open_ref, close_ref}
use sound.WpLaws.{WpFn-mono}
use denote.RattleType.{RattleType, owns, flat, mirs}
use denote.Laws.{Is, shows, valss}
use denote.Memory.{mem, pointee, part_at}
use denote.Builtin.{unit}
use denote.Ref.{MutBor, MutRef, mut_vals, mut_Tells}
use denote.Signature.{Signature, plain, mut_ref_to}
use denote.Steps.{owned, peeks, nothing, only}
use denote.Triple.Entry.{on_entry}
use denote.Triple.Spec.{Meets}
use denote.Triple.Clauses.{Clauses, Ended, closing}
use denote.Triple.Walked.{says, Stays, stay_ref, walk_of, Goes-ref, ends_at, walked, walk_Meets}
use denote.Exit.{yes}
use denote.Struct.Declared.{Declared, fields, shape, row}
use denote.Struct.Struct.{Plains, AreAll, layout, to_tys}
use denote.Struct.Laws as LL
use borrow.Table.OneValue.{part_out_at, part_in_at}
use Rattle.link_record_laws.proofs.Lit.{Lit, kind, value, written, Fits, fits, well, of_lit}

-- R is the struct's type and Q the field's. In MIR, R is `ty_struct ν τs`
module _ (R : RattleType) where
  abbrev pub signature : Signature
  signature = record { lifetimes = 1; outlives = []; params = mut_ref_to (0 ∷ []) tt (plain (λ _. R)) ∷ []; result = plain (λ _. unit) }

  abbrev pub ended : Ended
  ended = record { signature = signature; kept = (yes, tt) }

  -- the contract: the whole struct at exit is `change` of the struct at entry
  abbrev pub clauses : (R.Denot → R.Denot) → {M : Type 1} (𝓤 : Ura M) → Clauses 𝓤 ended
  clauses change 𝓤 κs a = record { ghost = Unit {0}; requires = λ _. emp 𝓤; ensures = λ _ r e. fact 𝓤 (e.0.now ≡ change a.0.now) }

  abbrev pub function : Ty → ℕ → Lit → Fn
  function τ i ℓ = record {
    lifetimes = 1;
    outlives = [];
    ty_params = [];
    givens = 0;
    params = 1;
    locals = local ty_unit value_local ∷ local (ty_ref (named 0) mut (pointee R.written)) value_local ∷ [];
    body = seq (assign (place 1 (deref τ ∷ field i ∷ [])) (rv_opd (written ℓ))) (seq (assign (place 0 []) (rv_opd opd_unit)) return);
  }

  abbrev stayed : Stays ended.signature.params ended.kept
  stayed = (stay_ref (0 ∷ []) tt (plain (λ _. R)), tt)

-- T, L and P are the struct's generated `the_type`, `the_laws` and `the_plain`. Of the field a use of the law says: its number i, and by `refl` its place and that storing x there makes `change h x`;  and `again`, that each field of this is what its type asks
module _ (T : Declared) (L : LL.Laws T) (P : Plains (fields T)) (i : ℕ) (ℓ : Lit) (change : T.D → T.D) where
  abbrev R : RattleType
  R = row T

  -- each field's relation
  abbrev pub Fields : T.D → Type 0
  Fields h = AreAll (fields T) (T.to h) (valss (fields T) (LL.spells T.parts L) (T.to h))

  abbrev parts : T.D → Vals
  parts h = of_list (flat (fields T) (valss (fields T) (LL.spells T.parts L) (T.to h)))

  module _ {d : ℕ} (lies_at : field_at zero (to_tys (mirs (fields T))) i ≡ found (kind ℓ, d)) (stored : (h : T.D) → vstruct (set_v (parts h) i (value ℓ)) ≡ LL.val T L (change h)) (again : (h : T.D) → Fields h → Fits ℓ → Fields (change h)) where
    abbrev δ : Ty
    δ = layout (shape T)

    abbrev fn : Fn
    fn = function R δ i ℓ

    module _ {M : Type 1} {𝓤 : Ura M} (𝓛 : Logic 𝓤) (κ : Lft) (q : Share) (b o : ℕ) (γ : GName) (h : R.Denot) where
      open 𝓛 use {H, A}

      abbrev Arg : Type 0
      Arg = MutBor R.Denot × Unit {0}

      abbrev x : Arg
      x = (record { ref_ptr = (b, o); ghost_name = γ; now = h }, tt)

      abbrev h' : R.Denot
      h' = change h

      abbrev at : List Val × Unit {0}
      at = (vptr b o ∷ [], tt)

      abbrev Post : Val → SProp 𝓤
      Post = (walk_of 𝓛 (ended R) (stayed R) (clauses R change 𝓤)).post (((κ, tt), (q, tt), tt, x, at), tt)

      exits : ent 𝓤 (sep 𝓤 (A.obs γ (R.coded.code h')) (sep 𝓤 (A.bor κ (Body (mem R) b o γ)) (A.lft κ q))) (Post vunit)
      exits =
          qed 𝓛 (‵ (fobs γ (R.coded.code h')) ∷ ‵ (fbor κ (Body (mem R) b o γ)) ∷ ‵ (flft κ q) ∷ []) ∵
          suffices ! _ (ends_at 𝓛 (ended R) (stayed R) (clauses R change 𝓤) (((κ, tt), (q, tt), tt, x, at), tt) vunit tt (h', tt) (tt, tt)) $ says ! refl $ nothing ! $ move ! (3 ∷ 0 ∷ []) $ join ! $
          frame ! $ feq_i ! (List Val) (vptr b o ∷ []) (vptr b o ∷ []) refl $ fjoin3 ! $ nothing ! $ move ! (1 ∷ 0 ∷ []) $ fjoin ! $
          feq_i ! (List Val) (vunit ∷ []) (vunit ∷ []) refl $ move ! (1 ∷ 0 ∷ []) $ done !

      module _ (C : Calls 𝓤 H) (Λ : Loops 𝓤 H) where
        walk : ent 𝓤 (on_entry 𝓛 (signature R) (κ, tt) (q, tt) x at) (WpFn 𝓤 H C Λ fn (vptr b o ∷ []) Post)
        walk =
            qed 𝓛 ((‵ (flft κ q) ⊛ ‵ ftrue) ∷ ‵ (owns (MutRef (named 0) κ R ∷ []) x at) ∷ []) ∵ split ! $ move ! (2 ∷ []) $ fsplit ! $ fsplit3 ! $ drop ! $ move ! (0 ∷ 1 ∷ 3 ∷ []) $
            -- [obs; the borrow; the token; the rest]
            enter ! C Λ fn (vptr b o ∷ []) _ $
            alloc1 ! (λ l₀. alloc1 ! (λ l₁. alloc0 ! $ params1 ! $ pass1 ! (init ! 0 refl (tt, tt)) $ pass0 ! $
            move ! (4 ∷ 5 ∷ 6 ∷ []) $ open_ref ! tt (mem R) {x = h} {b = b} {o = o} $
            use1 𝓛 (some (λ (v : Val). ‵ (fat full_share δ b o v) ⊛ ‵ (R.own_val h (v ∷ [])))) (part_out_at 𝓛 R refl full_share h b o δ refl) $ pick ! (λ v. split ! $
            move ! (1 ∷ []) $ peeks ! R (Is R) (shows 𝓛 R) h (v ∷ []) (λ g. drop ! $ rewrite ! 0 (λ (u : Val). ‵ (fat full_share δ b o u)) (ap only (LL.tells T L h (v ∷ []) g)) refl $
            -- [the struct's cell; the open borrow; obs; auth; _1; …; room for _0; …]
            assigns ! (of_opd ! (of_lit ! ℓ)) (from ! (hop ! (look ! 4 refl) (fld ! lies_at (stop !)))) (store_in ! 0 (sub ! i lies_at (whole !)) (well 𝓛 ℓ)) $
            assigns ! (of_opd ! (unit_lit !)) (from ! (stop !)) (init ! 6 refl (tt, tt)) $
            rewrite ! 0 (λ (u : Val). ‵ (fat full_share δ b o u)) (stored h) refl $
            owned ! R (Is R) (LL.makes T P 𝓛) h' _ (LL.owes T L h' (again h (LL.owed T L h _ g) (fits ℓ))) $ move ! (1 ∷ 0 ∷ []) $
            use2 𝓛 (‵ (part_at R full_share h' b o)) (part_in_at 𝓛 R refl full_share h' b o δ refl (LL.val T L h')) $ close_ref ! tt (mem R) h' {b = b} {o = o} $
            returns ! (look ! 5 refl) $ forget ! 3 refl $ forget ! 5 refl $ move ! (5 ∷ 6 ∷ []) $ free1 ! $ move ! (3 ∷ 4 ∷ []) $ free1 ! $ free0 ! $
            keep ! (0 ∷ 1 ∷ 2 ∷ []) $ by ! exits))))

    pub sets_to : {M : Type 1} {𝓤 : Ura M} (𝓛 : Logic 𝓤) → (𝓣 : Tables 𝓤 𝓛.H) → Meets 𝓛 (signature R) (WpFn 𝓤 𝓛.H 𝓣.C 𝓣.Λ fn) (closing 𝓛 (ended R) (clauses R change 𝓤))
    sets_to {𝓤 = 𝓤} 𝓛 𝓣 =
        walk_Meets 𝓛 (ended R) (stayed R) (Goes-ref 𝓛 1 0 tt (plain (λ _. R)), tt) (clauses R change 𝓤) (WpFn 𝓤 𝓛.H 𝓣.C 𝓣.Λ fn) (WpFn-mono 𝓤 𝓛.H 𝓛.laws 𝓣 fn)
        (walked 𝓛 (ended R) (stayed R) (clauses R change 𝓤) (WpFn 𝓤 𝓛.H 𝓣.C 𝓣.Λ fn) (λ κs. (mut_vals, tt)) (λ κs. (mut_Tells (named 0) κs.0 R, tt))
        (λ κs qs bounds a _ are. via 𝓤 _ (fst∗ 𝓤 _ (emp 𝓤)) (walk 𝓛 κs.0 qs.0 a.0.ref_ptr.0 a.0.ref_ptr.1 a.0.ghost_name a.0.now 𝓣.C 𝓣.Λ)))
