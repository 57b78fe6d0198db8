-- A function `fn renew(s: &mut S, x: X) { s.a = x; s.b = 1; s.c = 0; s.d = false; }` over a struct S of four fields of plain data: one law, for every struct and every three values that are written out.
use mathlib.Core.Path.{◌≡◌, refl, ap}
use Prim.Native.Nat.{ℕ, zero}
use mathlib.Core.Option.{some as found}
use mathlib.Core.List.{[], ◌∷◌, List}
use seplogic.Ra.Ura.{Ura}
use base.Fraction.{full_share}
use mir.Syntax.{Ty, Fn, named, mut, ty_unit, ty_ref, place, deref, field, copy, opd_unit, rv_opd, seq, assign, return, value_local, local}
use mir.Fields.{set_v}
use mir.Val.{Val, Vals, vunit, vptr, vstruct, of_list}
use base.Logic.{SProp, ent, sep, emp, via, fst∗}
use base.Fml.{GName, Lft, Share, ftrue, flft, fobs, fbor, fat}
use prog.Memory.{field_at}
use prog.Wp.{Calls, Loops, WpFn, Tables}
use types.Logic.{Logic}
use contract.Monad.{fact}
use types.Kit.{‵, ◌⊛◌, some, ◌$◌, ◌∵◌, !, qed, by, move, keep, drop, use1, use2, pick, rewrite, split, join, fsplit, fsplit3, fjoin, fjoin3, feq_i, suffices, frame, done}
use types.Run.{look, init, forget, stop, hop, fld, from, load, unit_lit, of_opd, assigns, returns, enter, alloc1, alloc0, params1, pass1, pass0, free1, free0}
use types.Part.{whole, sub, store_in}
use types.SemTy.{Body}
use types.Mut.{open_ref, close_ref}
use sound.WpLaws.{WpFn-mono}
use denote.RattleType.{RattleType, owns, flat, mirs}
use denote.Laws.{Is, shows, valss}
use denote.Memory.{mem, lone, pointee, part_at}
use denote.Builtin.{unit}
use denote.Ref.{MutBor, MutRef, mut_vals, mut_Tells}
use denote.Signature.{Signature, plain, mut_ref_to}
use denote.Steps.{owned, peeks, nothing, only}
use denote.Triple.Entry.{on_entry}
use denote.Triple.Spec.{Meets}
use denote.Triple.Clauses.{Clauses, Ended, closing}
use denote.Triple.Walked.{says, Stays, stay_ref, stay_none, walk_of, Goes-none, Goes-ref, ends_at, walked, walk_Meets}
use denote.Exit.{yes}
use denote.Struct.Declared.{Declared, fields, shape, row}
use denote.Struct.Struct.{Plains, AreAll, layout, to_tys}
use denote.Struct.Laws as LL
use borrow.Table.OneValue.{part_out_at, part_in_at}
use Rattle.link_record_laws.proofs.Data.{Data, typed}
use Rattle.link_record_laws.proofs.Lit.{Lit, kind, value, written, Fits, fits, well, of_lit}

-- R is the struct's type and Q the field's. In MIR, R is `ty_struct ν τs`
module _ (R Q : RattleType) where
  abbrev pub signature : Signature
  signature = record { lifetimes = 1; outlives = []; params = mut_ref_to (0 ∷ []) tt (plain (λ _. R)) ∷ plain (λ _. Q) ∷ []; result = plain (λ _. unit) }

  abbrev pub ended : Ended
  ended = record { signature = signature; kept = (yes, (yes, tt)) }

  -- the contract: the whole struct at exit is `change` of the struct at entry and of what is passed
  abbrev pub clauses : (R.Denot → Q.Denot → R.Denot) → {M : Type 1} (𝓤 : Ura M) → Clauses 𝓤 ended
  clauses change 𝓤 κs a = record { ghost = Unit {0}; requires = λ _. emp 𝓤; ensures = λ _ r e. fact 𝓤 (e.0.now ≡ change a.0.now a.1.0) }

  abbrev pub function : Ty → Lit → Lit → Lit → Fn
  function τ ℓ₁ ℓ₂ ℓ₃ = record {
    lifetimes = 1;
    outlives = [];
    ty_params = [];
    givens = 0;
    params = 2;
    locals = local ty_unit value_local ∷ local (ty_ref (named 0) mut (pointee R.written)) value_local ∷ local (lone Q.mir) value_local ∷ [];
    body =
        seq (assign (place 1 (deref τ ∷ field 0 ∷ [])) (rv_opd (copy (place 2 []))))
        (seq (assign (place 1 (deref τ ∷ field 1 ∷ [])) (rv_opd (written ℓ₁)))
        (seq (assign (place 1 (deref τ ∷ field 2 ∷ [])) (rv_opd (written ℓ₂)))
        (seq (assign (place 1 (deref τ ∷ field 3 ∷ [])) (rv_opd (written ℓ₃)))
        (seq (assign (place 0 []) (rv_opd opd_unit)) return))));
  }

  abbrev stayed : Stays ended.signature.params ended.kept
  stayed = (stay_ref (0 ∷ []) tt (plain (λ _. R)), (stay_none (λ _. Q) yes, tt))

-- T, L and P are the struct's generated `the_type`, `the_laws` and `the_plain`. A use of the law says by `refl` the fields' places and that the four stores make `change h x`; and `again`, that each field of this is what its type asks
module _ (T : Declared) (L : LL.Laws T) (P : Plains (fields T)) {Q : RattleType} (E : Data Q) (ℓ₁ ℓ₂ ℓ₃ : Lit) (change : T.D → Q.Denot → T.D) where
  abbrev R : RattleType
  R = row T

  -- each field's relation
  abbrev pub Fields : T.D → Type 0
  Fields h = AreAll (fields T) (T.to h) (valss (fields T) (LL.spells T.parts L) (T.to h))

  abbrev parts : T.D → Vals
  parts h = of_list (flat (fields T) (valss (fields T) (LL.spells T.parts L) (T.to h)))

  abbrev pub Lies : ℕ → Ty → ℕ → Type 0
  Lies i τ d = field_at zero (to_tys (mirs (fields T))) i ≡ found (τ, d)

  module _ {d₀ d₁ d₂ d₃ : ℕ} (lies₀ : Lies 0 (lone Q.mir) d₀) (lies₁ : Lies 1 (kind ℓ₁) d₁) (lies₂ : Lies 2 (kind ℓ₂) d₂) (lies₃ : Lies 3 (kind ℓ₃) d₃) (stored : (h : T.D) (x : Q.Denot) → vstruct (set_v (set_v (set_v (set_v (parts h) 0 (E.val x)) 1 (value ℓ₁)) 2 (value ℓ₂)) 3 (value ℓ₃)) ≡ LL.val T L (change h x)) (again : (h : T.D) (x : Q.Denot) → Is Q x (E.val x ∷ []) → Fits ℓ₁ → Fits ℓ₂ → Fits ℓ₃ → Fields (change h x)) where
    abbrev δ : Ty
    δ = layout (shape T)

    abbrev fn : Fn
    fn = function R Q δ ℓ₁ ℓ₂ ℓ₃

    module _ {M : Type 1} {𝓤 : Ura M} (𝓛 : Logic 𝓤) (κ : Lft) (q : Share) (b o : ℕ) (γ : GName) (h : R.Denot) (n : Q.Denot) (gn : Is Q n (E.val n ∷ [])) where
      open 𝓛 use {H, A}

      abbrev Arg : Type 0
      Arg = MutBor R.Denot × (Q.Denot × Unit {0})

      abbrev x : Arg
      x = (record { ref_ptr = (b, o); ghost_name = γ; now = h }, (n, tt))

      abbrev h' : R.Denot
      h' = change h n

      abbrev at : List Val × (List Val × Unit {0})
      at = (vptr b o ∷ [], (E.val n ∷ [], tt))

      abbrev Post : Val → SProp 𝓤
      Post = (walk_of 𝓛 (ended R Q) (stayed R Q) (clauses R Q change 𝓤)).post (((κ, tt), (q, tt), tt, x, at), tt)

      exits : ent 𝓤 (sep 𝓤 (A.obs γ (R.coded.code h')) (sep 𝓤 (A.bor κ (Body (mem R) b o γ)) (A.lft κ q))) (Post vunit)
      exits =
          qed 𝓛 (‵ (fobs γ (R.coded.code h')) ∷ ‵ (fbor κ (Body (mem R) b o γ)) ∷ ‵ (flft κ q) ∷ []) ∵
          suffices ! _ (ends_at 𝓛 (ended R Q) (stayed R Q) (clauses R Q change 𝓤) (((κ, tt), (q, tt), tt, x, at), tt) vunit tt (h', (E.last n, tt)) (tt, (tt, tt))) $ says ! refl $ nothing ! $ move ! (3 ∷ 0 ∷ []) $ join ! $
          frame ! $ feq_i ! (List Val) (vptr b o ∷ []) (vptr b o ∷ []) refl $ fjoin3 ! $ nothing ! $ owned ! Q (Is Q) (E.makes 𝓛) n _ gn $ fjoin ! $ move ! (1 ∷ 0 ∷ []) $ fjoin ! $
          feq_i ! (List Val) (vunit ∷ []) (vunit ∷ []) refl $ move ! (1 ∷ 0 ∷ []) $ done !

      module _ (C : Calls 𝓤 H) (Λ : Loops 𝓤 H) where
        walk : ent 𝓤 (on_entry 𝓛 (signature R Q) (κ, tt) (q, tt) x at) (WpFn 𝓤 H C Λ fn (vptr b o ∷ E.val n ∷ []) Post)
        walk =
            qed 𝓛 ((‵ (flft κ q) ⊛ ‵ ftrue) ∷ ‵ (owns (MutRef (named 0) κ R ∷ Q ∷ []) x at) ∷ []) ∵ split ! $ move ! (2 ∷ []) $ fsplit ! $ fsplit3 ! $ drop ! $ move ! (0 ∷ 1 ∷ 3 ∷ []) $
            -- [obs; the borrow; the token; the rest]
            enter ! C Λ fn (vptr b o ∷ E.val n ∷ []) _ $
            alloc1 ! (λ l₀. alloc1 ! (λ l₁. alloc1 ! (λ l₂. alloc0 ! $ params1 ! $ pass1 ! (init ! 2 refl (tt, tt)) $ pass1 ! (init ! 0 refl (typed E 𝓛 n _ gn)) $ pass0 ! $
            move ! (6 ∷ 7 ∷ 8 ∷ []) $ open_ref ! tt (mem R) {x = h} {b = b} {o = o} $
            use1 𝓛 (some (λ (v : Val). ‵ (fat full_share δ b o v) ⊛ ‵ (R.own_val h (v ∷ [])))) (part_out_at 𝓛 R refl full_share h b o δ refl) $ pick ! (λ v. split ! $
            move ! (1 ∷ []) $ peeks ! R (Is R) (shows 𝓛 R) h (v ∷ []) (λ g. drop ! $ rewrite ! 0 (λ (u : Val). ‵ (fat full_share δ b o u)) (ap only (LL.tells T L h (v ∷ []) g)) refl $
            -- [the struct's cell; the open borrow; obs; auth; _2; …; _1; …; room for _0; …]
            assigns ! (of_opd ! (load ! (from ! (stop !)) (look ! 4 refl))) (from ! (hop ! (look ! 6 refl) (fld ! lies₀ (stop !)))) (store_in ! 0 (sub ! 0 lies₀ (whole !)) (typed E 𝓛 n _ gn)) $
            assigns ! (of_opd ! (of_lit ! ℓ₁)) (from ! (hop ! (look ! 6 refl) (fld ! lies₁ (stop !)))) (store_in ! 0 (sub ! 1 lies₁ (whole !)) (well 𝓛 ℓ₁)) $
            assigns ! (of_opd ! (of_lit ! ℓ₂)) (from ! (hop ! (look ! 6 refl) (fld ! lies₂ (stop !)))) (store_in ! 0 (sub ! 2 lies₂ (whole !)) (well 𝓛 ℓ₂)) $
            assigns ! (of_opd ! (of_lit ! ℓ₃)) (from ! (hop ! (look ! 6 refl) (fld ! lies₃ (stop !)))) (store_in ! 0 (sub ! 3 lies₃ (whole !)) (well 𝓛 ℓ₃)) $
            assigns ! (of_opd ! (unit_lit !)) (from ! (stop !)) (init ! 8 refl (tt, tt)) $
            rewrite ! 0 (λ (u : Val). ‵ (fat full_share δ b o u)) (stored h n) refl $
            owned ! R (Is R) (LL.makes T P 𝓛) h' _ (LL.owes T L h' (again h n gn (fits ℓ₁) (fits ℓ₂) (fits ℓ₃))) $ move ! (1 ∷ 0 ∷ []) $
            use2 𝓛 (‵ (part_at R full_share h' b o)) (part_in_at 𝓛 R refl full_share h' b o δ refl (LL.val T L h')) $ close_ref ! tt (mem R) h' {b = b} {o = o} $
            returns ! (look ! 7 refl) $ forget ! 3 refl $ forget ! 5 refl $ forget ! 7 refl $ move ! (7 ∷ 8 ∷ []) $ free1 ! $ move ! (5 ∷ 6 ∷ []) $ free1 ! $ move ! (3 ∷ 4 ∷ []) $ free1 ! $ free0 ! $
            keep ! (0 ∷ 1 ∷ 2 ∷ []) $ by ! exits)))))

    pub renews : {M : Type 1} {𝓤 : Ura M} (𝓛 : Logic 𝓤) → (𝓣 : Tables 𝓤 𝓛.H) → Meets 𝓛 (signature R Q) (WpFn 𝓤 𝓛.H 𝓣.C 𝓣.Λ fn) (closing 𝓛 (ended R Q) (clauses R Q change 𝓤))
    renews {𝓤 = 𝓤} 𝓛 𝓣 =
        walk_Meets 𝓛 (ended R Q) (stayed R Q) (Goes-ref 𝓛 1 0 tt (plain (λ _. R)), (Goes-none 𝓛 1 (λ _. Q) yes (λ κs. E.silent), tt)) (clauses R Q change 𝓤) (WpFn 𝓤 𝓛.H 𝓣.C 𝓣.Λ fn) (WpFn-mono 𝓤 𝓛.H 𝓛.laws 𝓣 fn)
        (walked 𝓛 (ended R Q) (stayed R Q) (clauses R Q change 𝓤) (WpFn 𝓤 𝓛.H 𝓣.C 𝓣.Λ fn) (λ κs. (mut_vals, ((λ y. E.val y ∷ []), tt))) (λ κs. (mut_Tells (named 0) κs.0 R, (E.tells, tt)))
        (λ κs qs bounds a _ are. via 𝓤 _ (fst∗ 𝓤 _ (emp 𝓤)) (walk 𝓛 κs.0 qs.0 a.0.ref_ptr.0 a.0.ref_ptr.1 a.0.ghost_name a.0.now a.1.0 are.1.0 𝓣.C 𝓣.Λ)))
