-- A function `fn with(s: S) -> S { let mut o = s; clear(&mut o.field); o }` over plain data: one law, for every struct S,
-- field and callee `clear` whose contract gives the whole field at exit.
use mathlib.Core.Path.{◌≡◌, refl, sym, ◌∙◌, ap, subst}
use Prim.Native.Nat.{ℕ, ◌+◌}
use mathlib.Core.List.{[], ◌∷◌, List}
use seplogic.Ra.Ura.{Ura}
use base.Fraction.{full_share}
use lib.Dec.{T as Truth}
use mir.Syntax.{Callee as Called, Ty, Fn, named, erased, mut, ty_unit, ty_ref, place, field, copy, rv_opd, addr_of, seq, assign, call, return, value_local, memory_slot, local}
use mir.Fields.{get_v, set_v}
use mir.Val.{Val, vptr, vstruct, WT, has_ty}
use base.Logic.{SProp, ent, sep, wand, all, emp, via, fst∗, id⊢, apply∗, all_e}
use base.Fml.{GName, ftrue, flft, flent, fat}
use prog.Wp.{Calls, Loops, WpFn, Tables}
use types.Logic.{Logic, sem}
use contract.Monad.{fact}
use types.Kit.{‵, raw, ◌⊛◌, some, later, ◌$◌, ◌∵◌, !, qed, by, move, keep, drop, use1, use2, use3, pick, rewrite, split, join, fsplit, fjoin, suffices, frame, await, done}
use types.Run.{look, init, forget, stop, fld, from, load, addr, of_opd, and_then, no_more, assigns, land, returns, enter, alloc1, alloc0, params1, pass1, pass0, free1, free0}
use types.SemTy.{Body}
use types.Tokens.{lft_new, lft_end}
use sound.WpLaws.{FmC, fm_of, WpFn-mono}
use denote.RattleType.{RattleType, owns, mirs}
use denote.Laws.{Is, shows}
use denote.Memory.{mem, lone, pointee, part_at}
use denote.Builtin.{unit}
use denote.Ref.{MutBor, MutRef}
use denote.Lend.{lends_ref, ref_back}
use denote.Signature.{Signature, plain}
use denote.Steps.{owned, peeks, heard, nothing, only}
use denote.Triple.Entry.{on_entry}
use denote.Triple.Call.{calls_at}
use denote.Triple.Spec.{Meets, triple_of}
use denote.Triple.Statement.{Contract, Triple}
use denote.Triple.Clauses.{Clauses, Ended, closing, ensured, lasts}
use denote.Triple.Walked.{says, Stays, stay_none, walk_of, Goes-none, ends_at, walked, walk_Meets}
use denote.Exit.{yes}
use denote.Struct.Declared.{Declared, row, fields, shape}
use denote.Struct.Struct.{Plains, to_tys}
use denote.Struct.Laws as LL
use borrow.Table.OneValue.{part_out, part_in}
use Rattle.link_record_laws.proofs.Data.{Data, typed}
use Rattle.link_record_laws.proofs.SetsTo as S
use Rattle.link_record.proofs.Field.{Field, Fields, parts, whole}

-- O is the struct's type and R the field's
module _ (O R : RattleType) where
  abbrev pub signature : Signature
  signature = record { lifetimes = 0; outlives = []; params = plain (λ _. O) ∷ []; result = plain (λ _. O) }

  abbrev pub ended : Ended
  ended = record { signature = signature; kept = (yes, tt) }

  abbrev pub clauses : (O.Denot → O.Denot) → {M : Type 1} (𝓤 : Ura M) → Clauses 𝓤 ended
  clauses change 𝓤 κs a = record { ghost = Unit {0}; requires = λ _. emp 𝓤; ensures = λ _ r e. fact 𝓤 (r ≡ change a.0) }

  abbrev pub function : ℕ → Called → Fn
  function i f = record {
    lifetimes = 0;
    outlives = [];
    ty_params = [];
    givens = 0;
    params = 1;
    locals = local (lone O.mir) value_local ∷ local (lone O.mir) value_local ∷ local (lone O.mir) memory_slot ∷ local ty_unit value_local
        ∷ local (ty_ref erased mut (pointee R.written)) value_local ∷ [];
    body = seq (assign (place 2 []) (rv_opd (copy (place 1 [])))) (seq (assign (place 4 []) (addr_of (place 2 (field i ∷ [])))) (seq (call f (copy (place 4 []) ∷ []) (place 3 []))
        (seq (assign (place 0 []) (rv_opd (copy (place 2 [])))) return)));
  }

  abbrev stayed : Stays ended.signature.params ended.kept
  stayed = (stay_none (λ _. O) yes, tt)

  -- what is known of the callee: `SetsTo.antt`'s contract
  abbrev pub Callee : (R.Denot → R.Denot) → {M : Type 1} {𝓤 : Ura M} (𝓛 : Logic 𝓤) → Contract 𝓤
  Callee change {𝓤 = 𝓤} 𝓛 = triple_of 𝓛 (S.signature R) (closing 𝓛 (S.ended R) (S.clauses R change 𝓤))

module _ {T : Declared} {L : LL.Laws T} {P : Plains (fields T)} {R : RattleType} {D : Data R} (F : Field T L P D) (f : Called) (change : R.Denot → R.Denot) where
  abbrev O : RattleType
  O = row T

  abbrev fn : Fn
  fn = function O R F.index f

  abbrev τ : Ty
  τ = lone O.mir

  abbrev ρ : Ty
  ρ = lone R.mir

  -- what the field changes in the whole
  abbrev pub outer : O.Denot → O.Denot
  outer h = F.put h (change (F.get h))

  module _ {M : Type 1} {𝓤 : Ura M} (𝓛 : Logic 𝓤) (h : O.Denot) (gh : Is O h (LL.val T L h ∷ [])) where
    open 𝓛 use {H, A}

    abbrev Arg : Type 0
    Arg = O.Denot × Unit {0}

    abbrev x : Arg
    x = (h, tt)

    abbrev at : List Val × Unit {0}
    at = (LL.val T L h ∷ [], tt)

    abbrev Post : Val → SProp 𝓤
    Post = (walk_of 𝓛 (ended O R) (stayed O R) (clauses O R outer 𝓤)).post ((tt, tt, tt, x, at), tt)

    exits : (r : O.Denot) (v : Val) → Is O r (v ∷ []) → r ≡ outer h → ent 𝓤 (emp 𝓤) (Post v)
    exits r v is e =
        qed 𝓛 [] ∵
        suffices ! _ (ends_at 𝓛 (ended O R) (stayed O R) (clauses O R outer 𝓤) ((tt, tt, tt, x, at), tt) v r (F.last h, tt) (tt, tt)) $ says ! e $
        owned ! O (Is O) ((whole F).makes 𝓛) r _ is $ nothing ! $ owned ! O (Is O) ((whole F).makes 𝓛) h _ gh $ fjoin ! $ nothing ! $ frame ! $ frame ! $ done !

    -- the field, its place and what its type asks
    abbrev y : R.Denot
    y = F.get h

    abbrev d : ℕ
    d = 0 + F.place

    gs : Fields T L h
    gs = LL.owed T L h _ gh

    abbrev ref : ℕ → GName → MutBor R.Denot
    ref l γ = record { ref_ptr = (l, d); ghost_name = γ; now = y }

    -- the way back: the field's cell at any value makes the struct's cell
    abbrev Way : ℕ → Val → SProp 𝓤
    Way l u = wand 𝓤 (H.at full_share ρ l d u) (H.at full_share τ l 0 (vstruct (set_v (parts T L h) F.index u)))

    -- what the callee's triple binds outside
    abbrev to_callee : ℕ → ℕ → GName → (Callee O R change 𝓛).Ghost
    to_callee α l γ = (((α ∷ [], tt), (full_share, tt), tt, (ref l γ, tt), (vptr l d ∷ [], tt)), tt)

    goes : (α l : ℕ) (γ : GName)
        → ent 𝓤 (sep 𝓤 (A.lft (α ∷ []) full_share) (sem 𝓛 ((MutRef (named 0) (α ∷ []) R).own_val (ref l γ) (vptr l d ∷ [])))) ((Callee O R change 𝓛).pre (to_callee α l γ))
    goes α l γ =
        qed 𝓛 (‵ (flft (α ∷ []) full_share) ∷ ‵ ((MutRef (named 0) (α ∷ []) R).own_val (ref l γ) (vptr l d ∷ [])) ∷ []) ∵ nothing ! $ move ! (1 ∷ 0 ∷ []) $ join ! $
        nothing ! $ move ! (2 ∷ 0 ∷ []) $ fjoin ! $ move ! (1 ∷ 0 ∷ []) $ join ! $ nothing ! $ move ! (1 ∷ 0 ∷ []) $ done !

    module _ (C : Calls 𝓤 H) (Λ : Loops 𝓤 H) (fm : FmC 𝓤 H 𝓛.laws C) (known : Triple 𝓤 (C f) (Callee O R change 𝓛)) where
      walk : ent 𝓤 (on_entry 𝓛 (signature O R) tt tt x at) (WpFn 𝓤 H C Λ fn (LL.val T L h ∷ []) Post)
      walk =
          qed 𝓛 (‵ ftrue ∷ ‵ (owns (O ∷ []) x at) ∷ []) ∵ keep ! [] $ enter ! C Λ fn (LL.val T L h ∷ []) _ $
          alloc1 ! (λ l₀. alloc1 ! (λ l₁. alloc1 ! (λ l₂. alloc1 ! (λ l₃. alloc1 ! (λ l₄. alloc0 ! $ params1 ! $
          pass1 ! (init ! 6 refl (typed (whole F) 𝓛 h _ gh)) $ pass0 ! $
          -- [_4; …; _3; …; _2; …; _1; …; _0; …]
          assigns ! (of_opd ! (load ! (from ! (stop !)) (look ! 6 refl))) (from ! (stop !)) (init ! 4 refl (typed (whole F) 𝓛 h _ gh)) $
          assigns ! (addr ! (from ! (fld ! F.lies_at (stop !)))) (from ! (stop !)) (init ! 0 refl (tt, tt)) $
          -- the field's cell is taken out of the local
          move ! (4 ∷ []) $
          use1 𝓛 (‵ (fat full_share ρ l₂ d (get_v (parts T L h) F.index)) ⊛ raw (all 𝓤 (Way l₂)))
          (𝓛.laws.at_field full_share (shape T).name (to_tys (mirs (fields T))) F.index ρ F.place F.lies_at l₂ 0 (parts T L h)) $ split ! $
          rewrite ! 0 (λ (u : Val). ‵ (fat full_share ρ l₂ d u)) (F.held h) refl $
          -- it is lent for a new lifetime
          owned ! R (Is R) (D.makes 𝓛) y _ (F.asked h gs) $ move ! (1 ∷ 0 ∷ []) $
          use2 𝓛 (‵ (part_at R full_share y l₂ d)) (part_in 𝓛 R D.one full_share y l₂ d (D.val y)) $
          lft_new ! tt (λ α. move ! (1 ∷ []) $
          use1 𝓛 (later (some (λ (γ : GName). ‵ ((MutRef (named 0) (α ∷ []) R).own_val (ref l₂ γ) (vptr l₂ d ∷ [])) ⊛ ‵ (flent (α ∷ []) (Body (mem R) l₂ d γ)))))
          (lends_ref 𝓛 R (named 0) (α ∷ []) y l₂ d) $ await ! tt $ pick ! (λ γ. split ! $
          move ! (2 ∷ 0 ∷ []) $ use2 𝓛 (raw ((Callee O R change 𝓛).pre (to_callee α l₂ γ))) (goes α l₂ γ) $
          -- [pre; the lender's part; the way back; _4; …; _3; …; _2's end; _1; …; _0; …]
          calls_at ! fm (Callee O R change 𝓛) known (to_callee α l₂ γ) (and_then ! (load ! (from ! (stop !)) (look ! 3 refl)) (no_more !)) (λ w.
          use1 𝓛 (later (some (λ (r : Unit {0}). ((‵ (flft (α ∷ []) full_share) ⊛ ‵ ftrue) ⊛ ‵ (unit.own_val r (w ∷ [])))
          ⊛ raw (ensured 𝓛 (S.ended R) (S.clauses R change 𝓤) (α ∷ [], tt) (ref l₂ γ, tt) tt r)))) (id⊢ 𝓤 _) $ await ! tt $ pick ! (λ r. split ! $ move ! (1 ∷ []) $
          -- what it ensures, at some last value
          use1 𝓛 (some (λ (zs : R.Denot × Unit {0}). ‵ (lasts (S.ended R) (α ∷ [], tt) (ref l₂ γ, tt) zs) ⊛ raw (fact 𝓤 (zs.0 ≡ change y)))) (id⊢ 𝓤 _) $
          pick ! (λ zs. split ! $ move ! (1 ∷ []) $ heard ! (zs.0 ≡ change y) (λ e.
          -- what is left of the borrow is let go
          fsplit ! $ fsplit ! $ move ! (1 ∷ []) $ drop ! $ move ! (2 ∷ []) $ split ! $ move ! (1 ∷ []) $
          peeks ! unit (Is unit) (shows 𝓛 unit) r (w ∷ []) (λ is.
          -- [what () owns; the tokens; the last value; …; the lender's part; the way back; _4; …; _3; …; _2's end; _1; …; _0; …]
          land ! (from ! (stop !)) (init ! 8 refl (subst (λ (u : Val). Truth (has_ty ty_unit u) × WT u) (sym (ap only is)) (tt, tt))) $
          -- the lifetime is ended, and the field comes back at that value
          move ! (1 ∷ []) $ split ! $ lft_end ! tt $ move ! (0 ∷ 5 ∷ 3 ∷ []) $
          use3 𝓛 (later (‵ (part_at R full_share zs.0 l₂ d))) (ref_back 𝓛 R (α ∷ []) γ zs.0 l₂ d) $ await ! tt $
          use1 𝓛 (some (λ (v : Val). ‵ (fat full_share ρ l₂ d v) ⊛ ‵ (R.own_val zs.0 (v ∷ [])))) (part_out 𝓛 R D.one full_share zs.0 l₂ d) $ pick ! (λ v. split ! $ move ! (1 ∷ []) $
          peeks ! R (Is R) (shows 𝓛 R) zs.0 (v ∷ []) (λ g. drop ! $
          -- [the field's cell; true; what () owns; …; the way back; _4; …; _3; …; _2's end; _1; …; _0; …]
          move ! (4 ∷ []) $ use1 𝓛 (raw (Way l₂ v)) (all_e 𝓤 (Way l₂) v) $ move ! (1 ∷ 0 ∷ []) $
          use2 𝓛 (‵ (fat full_share τ l₂ 0 (vstruct (set_v (parts T L h) F.index v))))
          (apply∗ 𝓤 (H.at full_share ρ l₂ d v) (H.at full_share τ l₂ 0 (vstruct (set_v (parts T L h) F.index v)))) $
          rewrite ! 0 (λ (u : Val). ‵ (fat full_share τ l₂ 0 u)) (back zs.0 v g) refl $
          -- [_2; true; what () owns; …; _4; …; _3; …; _2's end; _1; …; _0; …]
          keep ! (0 ∷ 4 ∷ 5 ∷ 6 ∷ 7 ∷ 8 ∷ 9 ∷ 10 ∷ 11 ∷ 12 ∷ []) $
          assigns ! (of_opd ! (load ! (from ! (stop !)) (look ! 0 refl))) (from ! (stop !)) (init ! 8 refl (typed (whole F) 𝓛 (F.put h zs.0) _ (fits zs.0 v g))) $
          returns ! (look ! 8 refl) $ forget ! 0 refl $ forget ! 1 refl $ forget ! 3 refl $ forget ! 6 refl $ forget ! 8 refl $
          move ! (8 ∷ 9 ∷ []) $ free1 ! $ move ! (6 ∷ 7 ∷ []) $ free1 ! $ move ! (0 ∷ 5 ∷ []) $ free1 ! $ move ! (2 ∷ 3 ∷ []) $ free1 ! $ free1 ! $ free0 ! $
          by ! (exits (F.put h zs.0) _ (fits zs.0 v g) (ap (F.put h) e))))))))))))))))
        where
          tells : (z : R.Denot) (v : Val) → Is R z (v ∷ []) → v ≡ D.val z
          tells z v g = ap only (D.tells z (v ∷ []) g)

          back : (z : R.Denot) (v : Val) → Is R z (v ∷ []) → vstruct (set_v (parts T L h) F.index v) ≡ LL.val T L (F.put h z)
          back z v g = ap (λ (u : Val). vstruct (set_v (parts T L h) F.index u)) (tells z v g) ∙ F.stored h z

          fits : (z : R.Denot) (v : Val) → Is R z (v ∷ []) → Is O (F.put h z) (LL.val T L (F.put h z) ∷ [])
          fits z v g = LL.owes T L (F.put h z) (F.again h z gs (subst (λ (u : Val). Is R z (u ∷ [])) (tells z v g) g))

  pub lends_field_alone : {M : Type 1} {𝓤 : Ura M} (𝓛 : Logic 𝓤) (𝓣 : Tables 𝓤 𝓛.H) → Triple 𝓤 (𝓣.C f) (Callee O R change 𝓛)
      → Meets 𝓛 (signature O R) (WpFn 𝓤 𝓛.H 𝓣.C 𝓣.Λ fn) (closing 𝓛 (ended O R) (clauses O R outer 𝓤))
  lends_field_alone {𝓤 = 𝓤} 𝓛 𝓣 known =
      walk_Meets 𝓛 (ended O R) (stayed O R) (Goes-none 𝓛 0 (λ _. O) yes (λ κs. F.silent), tt)
      (clauses O R outer 𝓤) (WpFn 𝓤 𝓛.H 𝓣.C 𝓣.Λ fn) (WpFn-mono 𝓤 𝓛.H 𝓛.laws 𝓣 fn)
      (walked 𝓛 (ended O R) (stayed O R) (clauses O R outer 𝓤) (WpFn 𝓤 𝓛.H 𝓣.C 𝓣.Λ fn) (λ κs. (LL.vals T L, tt)) (λ κs. (LL.tells T L, tt))
      (λ κs qs bounds a _ are. via 𝓤 _ (fst∗ 𝓤 _ (emp 𝓤)) (walk 𝓛 a.0 are.0 𝓣.C 𝓣.Λ (fm_of 𝓤 𝓛.H 𝓛.laws 𝓣) known)))
