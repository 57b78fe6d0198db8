-- What the events say of the bearer is what the state has of it: the request that is awaited, and in strict mode whether it is closed.
use Prim.Native.Nat.{ℕ}
use mathlib.Core.Path.{◌≡◌, refl, sym, ap, ap₂, ◌∙◌}
use mathlib.Core.Bool.{Bool, true, false, not, ◌&&◌, ◌||◌, false≢true}
use mathlib.Core.List.{List, [], ◌∷◌, ◌++◌}
use lib.Dec.{eqb}
use borrow.Author.Tests.{eqb-true}
use Rattle.bytes_base.specs.Choice.{pick}
use Rattle.lists.specs.Blocks.{Valued}
use Rattle.state_places.specs.Sizes.{held_at}
use Rattle.time.specs.declared.Micros.{Micros}
use Rattle.state.specs.declared.Bearer.{Bearer}
use Rattle.state.specs.declared.Options.{Options}
use Rattle.state.specs.declared.StepResult.{StepResult}
use Rattle.state.specs.declared.StepStatus.{StepStatus}
use Rattle.state_rules.specs.Fit.{awaits}
use Rattle.script_rules.specs.World.{Held}
use Rattle.script_rules.specs.Finish.{ended, finish}
use Rattle.script_rules.specs.Start.{ends}
use Rattle.thm_trail.specs.Trail.{link-came, link-went, att-heard}
use Rattle.thm_requests.specs.Events.{Event, came, asked, result, results_of}
use Rattle.thm_closed.specs.Closed.{is_timeout, Standing, untried, then, standing, finished}

-- the opcode of the request that a bearer awaits, 0 where it awaits none
abbrev pub pending_of : Bearer → ℕ
pending_of b = pick b.present b.link.pending 0

pub record Stands (o : Options) (s : Standing) (h : Held) : Type 0 where
  pub options : h.state.options ≡ o
  pub awaited : s.awaited ≡ pending_of h.state.bearer
  pub closed : h.state.bearer.closed ≡ (o.strict && s.finished)
  -- on a bearer that is finished nothing is awaited
  pub quiet : o.strict ≡ true → s.finished ≡ true → s.awaited ≡ 0

-- ---- tests

pub and-false : (f : Bool) → (f && false) ≡ false
and-false true = refl
and-false false = refl

pub or-false : (f : Bool) → (f || false) ≡ f
or-false true = refl
or-false false = refl

pub pick_same : (p : Bool) → ◌≡◌ {A = ℕ} (pick p 0 0) 0
pick_same true = refl
pick_same false = refl

-- ---- what a bearer awaits

pub none-pending : (b : Bearer) → awaits b ≡ false → pending_of b ≡ 0
none-pending b e = go b.present e
  where
    go : (p : Bool) → (p && not (eqb b.link.pending 0)) ≡ false → pick p b.link.pending 0 ≡ 0
    go true f = zero (eqb b.link.pending 0) refl f
      where
        zero : (x : Bool) → eqb b.link.pending 0 ≡ x → not x ≡ false → b.link.pending ≡ 0
        zero true g k = eqb-true b.link.pending 0 g
        zero false g k = absurd (false≢true (sym k))
    go false f = refl

pub pending-same : (b d : Bearer) → d.link.pending ≡ b.link.pending → d.present ≡ b.present → pending_of d ≡ pending_of b
pending-same b d e f = ap₂ (λ (p : Bool) (n : ℕ). pick p n 0) f e

-- a step that ends awaits nothing any more
pub over-pending : (h : Held) (at : Micros) (st : StepStatus) → h.state.running.active ≡ true → pending_of (ends h at st).state.bearer ≡ 0
unfolding finish ended
over-pending h at st e = ap (λ (b : Bool). pending_of (pick b (ended h at st held_at 0 0) h).state.bearer) e ∙ pick_same h.state.bearer.present

-- where no step runs, none ends
pub idle-ends : (h : Held) (at : Micros) (st : StepStatus) → h.state.running.active ≡ false → ends h at st ≡ h
unfolding finish
idle-ends h at st e = ap (λ (b : Bool). pick b (ended h at st held_at 0 0) h) e

-- it awaits one where the events say so
pub awaits-is : (n : ℕ) (b : Bearer) → n ≡ pending_of b → not (eqb n 0) ≡ awaits b
awaits-is n b e = ap (λ (k : ℕ). not (eqb k 0)) e ∙ go b.present
  where
    go : (p : Bool) → not (eqb (pick p b.link.pending 0) 0) ≡ (p && not (eqb b.link.pending 0))
    go true = refl
    go false = refl

-- ---- lists of events

pub standing-append : (s : Standing) (a b : List Event) → standing s (a ++ b) ≡ standing (standing s a) b
standing-append s [] b = refl
standing-append s (e ∷ a) b = standing-append (then s e) a b

pub alike : {a b : ℕ} {f g : Bool} → a ≡ b → f ≡ g → ◌≡◌ {A = Standing} (record { awaited = a; finished = f }) (record { awaited = b; finished = g })
alike e f = ap₂ (λ (a : ℕ) (x : Bool). record { awaited = a; finished = x }) e f

-- where nothing is awaited, results change nothing
pub rests : (s : Standing) (m : List (Valued StepResult)) → s.awaited ≡ 0 → standing s (results_of m) ≡ s
rests s [] e = refl
rests s (x ∷ m) e =
    let once : then s (result x) ≡ s =
    alike (sym e)
    (ap (λ (n : ℕ). s.finished || (is_timeout x.entry.status && not (eqb n 0))) e
    ∙ ap (λ (b : Bool). s.finished || b) (and-false (is_timeout x.entry.status))
    ∙ or-false s.finished) in
    ap (λ (t : Standing). standing t (results_of m)) once ∙ rests s m e

-- ---- once finished, finished until a link comes

abbrev pub NoLink : List Event → Type 0
NoLink [] = Unit {0}
NoLink (came (link-came handle) ∷ es) = ⊥
NoLink (came link-went ∷ es) = NoLink es
NoLink (came (att-heard p) ∷ es) = NoLink es
NoLink (asked i op ∷ es) = NoLink es
NoLink (result x ∷ es) = NoLink es

stays-finished : (s : Standing) (es : List Event) → NoLink es → s.finished ≡ true → (standing s es).finished ≡ true
stays-finished s [] n e = e
stays-finished s (came (link-came handle) ∷ es) n e = absurd n
stays-finished s (came link-went ∷ es) n e = stays-finished (then s (came link-went)) es n e
stays-finished s (came (att-heard p) ∷ es) n e = stays-finished (then s (came (att-heard p))) es n e
stays-finished s (asked i op ∷ es) n e = stays-finished (then s (asked i op)) es n e
stays-finished s (result x ∷ es) n e = stays-finished (then s (result x)) es n
    (ap (λ (b : Bool). b || (is_timeout x.entry.status && not (eqb s.awaited 0))) e)

pub finished-stays : (es new : List Event) → NoLink new → finished es ≡ true → finished (es ++ new) ≡ true
finished-stays es new n e = ap (λ (s : Standing). s.finished) (standing-append untried es new) ∙ stays-finished (standing untried es) new n e
