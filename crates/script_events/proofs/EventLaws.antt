-- What the events ask of what they call, and what each of their returns asks.
use Prim.Native.Nat.{ℕ, ◌≤◌, ◌<◌}
use mathlib.Core.Path.{◌≡◌, refl, sym, ap, ap₂, subst, ◌∙◌}
use mathlib.Core.Bool.{Bool, true, false, ◌||◌}
use mathlib.Core.List.{List, []}
use Rattle.bytes_base.specs.Choice.{pick}
use Rattle.state_places.specs.Sizes.{most_results}
use Rattle.time.specs.declared.Micros.{Micros}
use Rattle.state.specs.declared.Bearer.{Bearer}
use Rattle.state.specs.declared.Counters.{Counters}
use Rattle.state.specs.declared.Step.{Step}
use Rattle.state.specs.declared.StepStatus.{StepStatus}
use Rattle.state.specs.declared.StepStatus.TheVariants.{Ok}
use Rattle.state_counters.specs.Counters.{most_links}
use Rattle.script_rules.specs.World.{Held, World, on_held, on_state}
use Rattle.script_rules.specs.Start.{ends}
use Rattle.script_rules.specs.Sound.{Sound, Whole}
use Rattle.script_rules.specs.Script.{advance}
use Rattle.script_rules.specs.Unlinked.{advance_unlinked}
use Rattle.script_rules.proofs.UnlinkedLaws.{present-finish, advance-unlinked}
use Rattle.script_rules.proofs.CallBeginLaws.{sound-stays, whole-stays}
use Rattle.script_rules.specs.Comings.{timed_out, due, closing, given_up, expire, is_connect, greeted, link_counted, with_new_link, connect, unlinked, goes_on, cut_status, cut_off, silent, lose}
use Rattle.script_rules.proofs.KeepEvents.{stays-late, stays_met, stays-lost}
use Rattle.link_record.specs.Record.{new_link, with_link}
use Rattle.state_core.specs.declared.Core.{Core}
use Rattle.state_core.specs.declared.Turn.{Turn}
use Rattle.state_core.specs.Reading.{central, held, world}
use Rattle.state_core.specs.Reading as reading

-- a turn whose core is another
abbrev turned : Turn → Core → Turn
turned t c = record { core = c; sent = t.sent }

-- ---- how a step ends

pub either : {b k d l : Bool} → b ≡ k → d ≡ l → (b || d) ≡ (k || l)
either {b} {k} {d} {l} e f = ap (λ (z : Bool). z || d) e ∙ ap (λ (z : Bool). k || z) f

module _ {A : Type 0} (b k : Bool) (e : b ≡ k) (x y : A) where
  pub the-first : b ≡ true → x ≡ pick k x y
  the-first h = rw (← e, h)

  pub the_second : b ≡ false → y ≡ pick k x y
  the_second h = rw (← e, h)

-- ---- the timer

-- v is t as the end of its step by its deadline finds it
abbrev GivesUp : Turn → Turn → Type 0
GivesUp t v = (w s o : List ℕ) → world v w s o ≡ on_held (world t w s o) (given_up (held t.core w s))

pub give-up-law : (t : Turn) (b : Bearer) → b ≡ closing t.core.options t.core.running t.core.bearer
    → GivesUp t (turned t (reading.with_bearer t.core b))
give-up-law t b e w s o = ap (λ (x : Bearer). world (turned t (reading.with_bearer t.core x)) w s o) e

pub late-few : (t v : Turn) (w st : List ℕ) → GivesUp t v → t.core.counts.results ≤ most_results → v.core.counts.results ≤ most_results
late-few t v w st ev l = subst (λ (x : World). x.held.state.results.count ≤ most_results) (sym (ev w st [])) l

module _ (t : Turn) (w st out : List ℕ) (at : Micros) (d : Bool) (ed : d ≡ due t.core.running at) where
  pub expire-rests : d ≡ false → world t w st out ≡ expire (world t w st out) at
  unfolding expire
  expire-rests h = rw (← ed, h)

  module _ (h : d ≡ true) (status : StepStatus) (es : status ≡ timed_out t.core.running.step) (v : Turn) (ev : GivesUp t v) (u : Turn) (w₁ st₁ : List ℕ)
      (ef : (o : List ℕ) → world u w₁ st₁ o ≡ on_held (world v w st o) (ends (held v.core w st) at status)) where
    ended : world u w₁ st₁ out ≡ on_held (world t w st out) (ends (given_up (held t.core w st)) at (timed_out t.core.running.step))
    ended =
        ef out
        ∙ ap (λ (x : World). on_held x (ends x.held at status)) (ev w st out)
        ∙ ap (λ (z : StepStatus). on_held (world t w st out) (ends (given_up (held t.core w st)) at z)) es

    pub expire-may : Sound 65 (world t w st out) → Sound 65 (world u w₁ st₁ out)
    expire-may k =
        subst (λ (v : World). Sound 65 v) (sym ended)
        (sound-stays 65 (world t w st out) _ k (stays-late (held t.core w st) at (timed_out t.core.running.step) k.nearly))

    pub expire-done : (r : Turn) (w₂ st₂ out₂ : List ℕ) → world r w₂ st₂ out₂ ≡ advance (world u w₁ st₁ out) at
        → world r w₂ st₂ out₂ ≡ expire (world t w st out) at
    unfolding expire
    expire-done r w₂ st₂ out₂ er = er ∙ ap (λ (v : World). advance v at) ended ∙ rw (← ed, h)

-- ---- a step that ends where another goes on

module _ (c : Core) (w st : List ℕ) (at : Micros) (b : Bool) where
  module _ (eb : b ≡ is_connect c.running.step) where
    pub greet-ends : (r : Core) (w₁ st₁ : List ℕ) → b ≡ true → held r w₁ st₁ ≡ ends (held c w st) at Ok → held r w₁ st₁ ≡ greeted (held c w st) at
    greet-ends r w₁ st₁ h ef = ef ∙ rw (← eb, h)

    pub greet-rests : b ≡ false → held c w st ≡ greeted (held c w st) at
    greet-rests h = rw (← eb, h)

  module _ (eb : b ≡ goes_on c.running.step) where
    pub cut-rests : b ≡ true → held c w st ≡ cut_off (held c w st) at c.running.step
    unfolding cut_off
    cut-rests h = rw (← eb, h)

    pub cut-ends : (r : Core) (w₁ st₁ : List ℕ) (status : StepStatus) → b ≡ false → status ≡ cut_status c.running.step
        → held r w₁ st₁ ≡ ends (held c w st) at status → held r w₁ st₁ ≡ cut_off (held c w st) at c.running.step
    unfolding cut_off
    cut-ends r w₁ st₁ status h es ef = ef ∙ rw (← eb, h, es)

-- ---- a link comes

-- the bearer's record is a new link's, nothing is held, there is a link, and it is counted
abbrev come : Core → Bearer → Counters → Core
come c b k = reading.with_counters (reading.with_bearer c (record { held = 0; link = b.link; present = true; closed = false })) k

module _ (t : Turn) (w st out : List ℕ) (handle : ℕ) (at : Micros) (b : Bearer) (eb : b ≡ with_link t.core.bearer (new_link handle))
    (k : Counters) (ek : k ≡ link_counted t.core.counters) (n : Core) (w₁ st₁ : List ℕ) (en : held n w₁ st₁ ≡ greeted (held (come t.core b k) w st) at) where
  met : world (turned t n) w₁ st₁ out
      ≡ on_held (world t w st out) (greeted (on_state (held t.core w st) (with_new_link (central t.core w) handle)) at)
  met =
      ap (λ (i : Held). on_held (world t w st out) i)
      (en ∙ ap₂ (λ (y : Bearer) (z : Counters). greeted (held (come t.core y z) w st) at) eb ek)

  pub connect-may : Sound 65 (world t w st out) → t.core.counters.links < most_links → Sound 65 (world (turned t n) w₁ st₁ out)
  connect-may s l =
      subst (λ (v : World). Sound 65 v) (sym met)
      (sound-stays 65 (world t w st out) _ s (stays_met (held t.core w st) handle at l s.nearly))

  pub connect-done : (r : Turn) (w₂ st₂ out₂ : List ℕ) → world r w₂ st₂ out₂ ≡ advance (world (turned t n) w₁ st₁ out) at
      → world r w₂ st₂ out₂ ≡ connect (world t w st out) handle at
  unfolding connect
  connect-done r w₂ st₂ out₂ er = er ∙ ap (λ (v : World). advance v at) met

-- ---- a link goes

abbrev gone : Core → Core
gone c = reading.with_bearer c (unlinked c.bearer)

-- a step that is cut off brings no link
absent : (h : Held) (at : Micros) (s : Step) → h.state.bearer.present ≡ false → (cut_off h at s).state.bearer.present ≡ false
unfolding cut_off
absent h at s e = go (goes_on s)
  where
    go : (b : Bool) → (pick b h (ends h at (cut_status s))).state.bearer.present ≡ false
    go true = e
    go false = present-finish h at (cut_status s) _ 0 0 ∙ e

module _ (c : Core) (w st : List ℕ) (at : Micros) (n : Core) (w₁ st₁ : List ℕ) (en : held n w₁ st₁ ≡ cut_off (held (gone c) w st) at c.running.step) where
  pub lose-may : Whole (held c w st) → Whole (held n w₁ st₁)
  lose-may k =
      subst (λ (h : Held). Whole h) (sym en)
      (whole-stays (held c w st) _ k (stays-lost (held c w st) at c.running.step k.nearly))

  pub lose-done : (r : Core) (w₂ st₂ : List ℕ) → held r w₂ st₂ ≡ advance_unlinked (held n w₁ st₁) at → held r w₂ st₂ ≡ lose (held c w st) at
  unfolding lose
  lose-done r w₂ st₂ er =
      let g = cut_off (held (gone c) w st) at c.running.step in
      er ∙ ap (λ (h : Held). advance_unlinked h at) en ∙ sym (ap (λ (v : World). v.held) (advance-unlinked (silent g) at (absent (held (gone c) w st) at c.running.step refl)))
