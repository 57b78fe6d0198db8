-- A call on lent tables that goes by its gate: what it may do, and its two ways out.
use Prim.Native.Nat.{ℕ, ◌≤◌, ◌<◌}
use mathlib.Core.Path.{◌≡◌, sym, ap, subst, ◌∙◌}
use mathlib.Core.Bool.{Bool, true, false}
use mathlib.Core.List.{List}
use Rattle.std.specs.Prelude.{⊤}
use lib.ListN.{length}
use lib.Dec.{eqb}
use Rattle.bytes_base.specs.Choice.{pick}
use Rattle.time.specs.declared.Micros.{Micros}
use Rattle.state.specs.declared.Sent.{Sent}
use Rattle.time.specs.Clock.{latest}
use Rattle.state_refusals.specs.Refusals.{accepted, counter_full}
use Rattle.state_counters.specs.Counters.{most_links}
use Rattle.state.specs.Central.{Central}
use Rattle.state_rules.specs.Gate.{gate, gate_quiet}
use Rattle.script_rules.specs.World.{Held, World}
use Rattle.script_rules.specs.Sound.{Sound, Whole}
use Rattle.script_rules.specs.Events.{gate_connected}
use Rattle.script_rules.specs.Outcome.{begins, done, refused, quietly, quietly_refused}
use Rattle.script_rules.proofs.CallBeginLaws.{may-begin-quietly}
use Rattle.script_rules.proofs.GateLaws.{goes_through, is-stopped}
use Rattle.state_core.specs.declared.Core.{Core}
use Rattle.state_core.specs.declared.Turn.{Turn}
use Rattle.state_core.specs.Reading.{central, held, world}
use Rattle.central_answers.specs.declared.Answer.{Answer}
use Rattle.central_answers.specs.Answers.{outcome, quiet}

-- ---- of a call that may send: f is what it does

-- g is its gate, of which the first three refusals are the shared ones
module _ (f : World → World) (c : Core) (w st out : List ℕ) (g n : ℕ) (e : n ≡ g) where
  pub call-refused : (a : Answer Core Sent) → (n ≡ 0 → ⊥) → ((x y z : List ℕ) → outcome a x y z ≡ refused (central c x) n y z)
      → outcome a w st out ≡ pick (eqb g accepted) (done (f (begins (central c w) st out))) (refused (central c w) g st out)
  call-refused a h ea = ea w st out ∙ ap (λ (k : ℕ). refused (central c w) k st out) e ∙ sym (is-stopped n g e _ _ h)

  module _ (h : n ≡ 0) (t : Turn) (b : (x y z : List ℕ) → world t x y z ≡ begins (central c x) y z) where
    pub call-begins : Sound 65 (begins (central c w) st out) → Sound 65 (world t w st out)
    call-begins m = subst (λ (v : World). Sound 65 v) (sym (b w st out)) m

    pub call-done : (r : Turn) (w₂ st₂ out₂ : List ℕ) (a : Answer Core Sent) → world r w₂ st₂ out₂ ≡ f (world t w st out)
        → ((x y z : List ℕ) → outcome a x y z ≡ done (world r x y z))
        → outcome a w₂ st₂ out₂ ≡ pick (eqb g accepted) (done (f (begins (central c w) st out))) (refused (central c w) g st out)
    call-done r w₂ st₂ out₂ a er ea = ea w₂ st₂ out₂ ∙ ap done (er ∙ ap f (b w st out)) ∙ sym (goes_through n g e _ _ h)

-- ---- of a call that sends nothing

module _ (f : Held → Held) (c : Core) (w st : List ℕ) (at : Micros) (n : ℕ) (e : n ≡ gate_quiet (central c w) (length st) at) where
  abbrev q : ℕ
  q = gate_quiet (central c w) (length st) at

  pub quiet-refused : (a : Answer Core ⊤) → (n ≡ 0 → ⊥) → ((x y : List ℕ) → quiet a x y ≡ quietly_refused (central c x) n y)
      → quiet a w st ≡ pick (eqb q accepted) (quietly (f (held c w st))) (quietly_refused (central c w) q st)
  quiet-refused a h ea = ea w st ∙ ap (λ (k : ℕ). quietly_refused (central c w) k st) e ∙ sym (is-stopped n q e _ _ h)

  module _ (h : n ≡ 0) where
    pub quiet-begins : Whole (held c w st) × (at.0 ≤ latest)
    quiet-begins = may-begin-quietly (central c w) st at (sym e ∙ h)

    pub quiet-done : (r : Core) (w₂ st₂ : List ℕ) (a : Answer Core ⊤) → held r w₂ st₂ ≡ f (held c w st)
        → ((x y : List ℕ) → quiet a x y ≡ quietly (held r x y))
        → quiet a w₂ st₂ ≡ pick (eqb q accepted) (quietly (f (held c w st))) (quietly_refused (central c w) q st)
    quiet-done r w₂ st₂ a er ea = ea w₂ st₂ ∙ ap quietly er ∙ sym (goes_through n q e _ _ h)

-- ---- a new link's gate: refusal 5 behind the shared ones

module _ (c : Central) (store out : ℕ) (at : Micros) where
  abbrev shared : ℕ
  shared = gate c store out at

  abbrev full : Bool
  full = eqb c.counters.links most_links

  module _ (n : ℕ) (e : n ≡ shared) where
    pub gate-stops : (n ≡ 0 → ⊥) → n ≡ gate_connected c store out at
    gate-stops h = e ∙ sym (is-stopped n shared e _ _ h)

    pub gate-full : n ≡ 0 → (b : Bool) → b ≡ full → b ≡ true → counter_full ≡ gate_connected c store out at
    gate-full h b f t = sym (goes_through n shared e _ _ h ∙ ap (λ (z : Bool). pick z counter_full accepted) (sym f ∙ t))

    pub gate-goes : n ≡ 0 → (b : Bool) → b ≡ full → b ≡ false → accepted ≡ gate_connected c store out at
    gate-goes h b f t = sym (goes_through n shared e _ _ h ∙ ap (λ (z : Bool). pick z counter_full accepted) (sym f ∙ t))

-- the count that a call begins with
pub few-links : (c : Core) (w st out : List ℕ) (t : Turn) → ((x y z : List ℕ) → world t x y z ≡ begins (central c x) y z)
    → c.counters.links < most_links → t.core.counters.links < most_links
few-links c w st out t b l = subst (λ (v : World). v.held.state.counters.links < most_links) (sym (b w st out)) l
