-- The script goes on: each step that begins keeps what holds through a call, and at the end the state is fit.
use Prim.Native.Nat.{ℕ, zero, suc, ◌+◌, ◌≤◌, ◌<◌}
use mathlib.Core.Path.{◌≡◌, refl, sym, ap, subst, ◌∙◌}
use mathlib.Core.Bool.{Bool, true, false, not, ◌&&◌, false≢true}
use native.Mathlib.Omega.{arith}
use lib.Dec.{ltb}
use borrow.Author.Tests.{ltb-true, ltb-false}
use Rattle.bytes_base.specs.Choice.{pick}
use Rattle.time.specs.declared.Micros.{Micros}
use Rattle.time.specs.Clock.{latest}
use Rattle.state.specs.Central.{Central}
use Rattle.state.specs.declared.Queue.{Queue}
use Rattle.state_rules.specs.Facts.{Fit}
use Rattle.state_rules.proofs.FitLaws.{both}
use Rattle.script_rules.specs.World.{Held, World, on_held}
use Rattle.script_rules.specs.Ready.{Ready}
use Rattle.script_rules.specs.Waiting.{take_step}
use Rattle.script_rules.specs.Timed.{Timed}
use Rattle.script_rules.specs.Sound.{Sound, Whole}
use Rattle.script_rules.proofs.KeepTurns.{fit_of}
use Rattle.script_rules.proofs.KeepWaiting.{take-keeps}
use Rattle.script_rules.proofs.KeepStarts.{stays-unlinked, goes-start}
use Rattle.script_rules.specs.Script.{can_go, step_once, advances, advance}
use Rattle.script_rules.specs.Unlinked.{step_unlinked, advances_unlinked, advance_unlinked}
use Rattle.script_rules.proofs.LoopLaws as loops

-- ---- whether it goes on

pub record GoesOn (c : Central) : Type 0 where
  pub idle : c.running.active ≡ false
  pub some : 0 < c.queue.count

pub goes_on_lem : (c : Central) → can_go c ≡ true → GoesOn c
goes_on_lem c e = let p = both (not c.running.active) (ltb 0 c.queue.count) e in record { idle = off c.running.active p.0; some = ltb-true 0 c.queue.count p.1 }
  where
    off : (b : Bool) → not b ≡ true → b ≡ false
    off true h = absurd (false≢true h)
    off false h = refl

-- where it does not, no running step means none waiting
pub stays_put : (c : Central) → can_go c ≡ false → c.running.active ≡ false → c.queue.count ≡ 0
stays_put c e h =
    let p : ltb 0 c.queue.count ≡ false = ap (λ (b : Bool). not b && ltb 0 c.queue.count) (sym h) ∙ e in
    omega (arith, ltb-false 0 c.queue.count p)

-- ---- with what may be sent

abbrev left : World → ℕ
left w = w.held.state.queue.count

-- the first waiting step is taken: what `start` asks for
pub taken : (w : World) → Sound 65 w → can_go w.held.state ≡ true → Ready 64 (on_held w (take_step w.held))
taken w s g =
    let o = goes_on_lem w.held.state g in
    let t = take-keeps w.held s.nearly o.some o.idle in
    record {
      store = t.store ∙ s.ready.store;
      out = s.ready.out;
      results = t.nearly.results.few;
      frames = omega (arith, s.budget, o.some);
      bytes = s.ready.bytes;
    }

pub record Stepped (w v : World) : Type 0 where
  pub sound : Sound 65 v
  pub fewer : left v + 1 ≤ left w
  pub timed : Timed w.held.state → Timed v.held.state

pub stepped : (w : World) (at : Micros) → at.0 ≤ latest → Sound 65 w → can_go w.held.state ≡ true → Stepped w (step_once w at)
stepped w at l s g =
    let o = goes_on_lem w.held.state g in
    let t = take-keeps w.held s.nearly o.some o.idle in
    let v : World = on_held w (take_step w.held) in
    let k : ℕ = w.told.sent.frames in
    let r : Ready k v = record { store = t.store ∙ s.ready.store; out = s.ready.out; results = t.nearly.results.few; frames = omega arith; bytes = s.ready.bytes } in
    let q = goes-start k v at (omega (arith, s.budget, o.some)) l r t.nearly t.active in
    let n : left (step_once w at) ≡ left v = ap (λ (x : Queue). x.count) q.stays.queue in
    record {
      sound = record {
        ready = record { store = q.ready.store; out = q.ready.out; results = q.ready.results; frames = omega (arith, q.ready.frames, s.budget, o.some); bytes = q.ready.bytes };
        nearly = q.stays.nearly;
        budget = omega (arith, q.ready.frames, s.budget, t.fewer);
      };
      fewer = omega (arith, t.fewer);
      timed = λ x. q.stays.timed (t.timed x);
    }

module _ (at : Micros) (l : at.0 ≤ latest) where
  falls : (w : World) → Sound 65 w → can_go w.held.state ≡ true → loops.Falls (Sound 65) left w (step_once w at)
  falls w s g = let x = stepped w at l s g in record { good = x.sound; fewer = x.fewer }

  none : (w : World) → advances zero w at ≡ w
  unfolding advances
  none w = refl

  one : (n : ℕ) (w : World) → advances (suc n) w at ≡ pick (can_go w.held.state) (advances n (step_once w at) at) w
  unfolding advances
  one n w = refl

  pub record Again (w v : World) : Type 0 where
    pub sound : Sound 65 v
    pub same : advance v at ≡ advance w at
    pub less : left v < left w

  -- a turn of the loop
  pub again : (w v : World) → Sound 65 w → can_go w.held.state ≡ true → v ≡ step_once w at → Again w v
  unfolding advance
  again w v s g e =
      let x = stepped w at l s g in
      record {
        sound = subst (λ (u : World). Sound 65 u) (sym e) x.sound;
        same = loops.same (λ n w. advances n w at) (λ w. can_go w.held.state) (λ w. step_once w at) left (Sound 65) none one falls w v s g e;
        less = omega (arith, x.fewer, ap left e);
      }

  pub done : (w : World) → can_go w.held.state ≡ false → advance w at ≡ w
  unfolding advance
  done w e = loops.stop (λ n w. advances n w at) (λ w. can_go w.held.state) (λ w. step_once w at) left (Sound 65) none one falls (left w) w e

  -- all of it
  Good : World → Type 0
  Good w = (Sound 65 w) × Timed w.held.state

  pub record Advanced (v : World) : Type 0 where
    pub sound : Sound 65 v
    pub fit : Fit v.held.state
    pub timed : Timed v.held.state

  pub advanced : (w : World) → Sound 65 w → Timed w.held.state → Advanced (advance w at)
  unfolding advance Good
  advanced w s t =
      let e = loops.ends (λ n w. advances n w at) (λ w. can_go w.held.state) (λ w. step_once w at) left Good none one
      (λ w g p. let x = stepped w at l g.0 p in record { good = (x.sound, x.timed g.1); fewer = x.fewer })
      (left w) w (s, t) (omega arith) in
      let c : Central = (advance w at).held.state in
      record { sound = e.0.0; fit = fit_of c e.0.0.nearly (stays_put c e.1) e.0.1.deadline; timed = e.0.1 }

-- ---- with no link

abbrev due : Held → ℕ
due h = h.state.queue.count

pub record SteppedAlone (h g : Held) : Type 0 where
  pub whole : Whole g
  pub fewer : due g + 1 ≤ due h
  pub timed : Timed h.state → Timed g.state

pub stepped-alone : (h : Held) (at : Micros) → at.0 ≤ latest → Whole h → can_go h.state ≡ true → SteppedAlone h (step_unlinked h at)
stepped-alone h at l w g =
    let o = goes_on_lem h.state g in
    let t = take-keeps h w.nearly o.some o.idle in
    let i : Held = take_step h in
    let q = stays-unlinked i at l t.nearly t.active i.state.running.step refl in
    let n : due (step_unlinked h at) ≡ due i = ap (λ (x : Queue). x.count) q.queue in
    record {
      whole = record { store = q.store ∙ t.store ∙ w.store; nearly = q.nearly };
      fewer = omega (arith, t.fewer);
      timed = λ x. q.timed (t.timed x);
    }

module _ (at : Micros) (l : at.0 ≤ latest) where
  falls-alone : (h : Held) → Whole h → can_go h.state ≡ true → loops.Falls Whole due h (step_unlinked h at)
  falls-alone h w g = let x = stepped-alone h at l w g in record { good = x.whole; fewer = x.fewer }

  none-alone : (h : Held) → advances_unlinked zero h at ≡ h
  unfolding advances_unlinked
  none-alone h = refl

  one-alone : (n : ℕ) (h : Held) → advances_unlinked (suc n) h at ≡ pick (can_go h.state) (advances_unlinked n (step_unlinked h at) at) h
  unfolding advances_unlinked
  one-alone n h = refl

  pub record AgainAlone (h g : Held) : Type 0 where
    pub whole : Whole g
    pub same : advance_unlinked g at ≡ advance_unlinked h at
    pub less : due g < due h

  pub again_alone : (h g : Held) → Whole h → can_go h.state ≡ true → g ≡ step_unlinked h at → AgainAlone h g
  unfolding advance_unlinked
  again_alone h g w p e =
      let x = stepped-alone h at l w p in
      record {
        whole = subst (λ (u : Held). Whole u) (sym e) x.whole;
        same = loops.same (λ n h. advances_unlinked n h at) (λ h. can_go h.state) (λ h. step_unlinked h at) due Whole none-alone one-alone falls-alone h g w p e;
        less = omega (arith, x.fewer, ap due e);
      }

  pub done-alone : (h : Held) → can_go h.state ≡ false → advance_unlinked h at ≡ h
  unfolding advance_unlinked
  done-alone h e = loops.stop (λ n h. advances_unlinked n h at) (λ h. can_go h.state) (λ h. step_unlinked h at) due Whole none-alone one-alone falls-alone (due h) h e

  GoodAlone : Held → Type 0
  GoodAlone h = (Whole h) × Timed h.state

  pub record AdvancedAlone (g : Held) : Type 0 where
    pub whole : Whole g
    pub fit : Fit g.state
    pub timed : Timed g.state

  pub advanced-alone : (h : Held) → Whole h → Timed h.state → AdvancedAlone (advance_unlinked h at)
  unfolding advance_unlinked GoodAlone
  advanced-alone h w t =
      let e = loops.ends (λ n h. advances_unlinked n h at) (λ h. can_go h.state) (λ h. step_unlinked h at) due GoodAlone none-alone one-alone
      (λ h g p. let x = stepped-alone h at l g.0 p in record { good = (x.whole, x.timed g.1); fewer = x.fewer })
      (due h) h (w, t) (omega arith) in
      let c : Central = (advance_unlinked h at).state in
      record { whole = e.0.0; fit = fit_of c e.0.0.nearly (stays_put c e.1) e.0.1.deadline; timed = e.0.1 }
