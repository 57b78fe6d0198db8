-- Work that is blind to dead places: done on a state, or on its live entries alone, it leaves the same live entries.
use mathlib.Core.Path.{◌≡◌, refl, sym, ap, ◌∙◌}
use mathlib.Core.Bool.{Bool, true, false}
use Rattle.bytes_base.specs.Choice.{pick}
use Rattle.script_rules.specs.World.{Held, World}
use Rattle.thm_reading.specs.Live.{live}
use Rattle.thm_reading.proofs.Tables.{live-twice}

-- ---- the live entries, with the store, and with what was told

abbrev pub cut : Held → Held
cut h = record { state = live h.state; store = h.store }

abbrev pub cut_world : World → World
cut_world w = record { held = cut w.held; told = w.told }

pub held-twice : (h : Held) → cut h ≡ cut (cut h)
held-twice h = λ i. record { state = sym (live-twice h.state) i; store = h.store }

pub world-twice : (w : World) → cut_world w ≡ cut_world (cut_world w)
world-twice w = λ i. record { held = held-twice w.held i; told = w.told }

-- ---- a choice

module _ {X Y : Type 0} (q : X → Y) where
  -- by tests that are equal; the first way may go by its test
  pub pick-if : (b d : Bool) (x y u v : X) → b ≡ d → (b ≡ true → q x ≡ q u) → q y ≡ q v → q (pick b x y) ≡ q (pick d u v)
  pick-if b d x y u v e f g = go b refl ∙ ap (λ (z : Bool). q (pick z u v)) e
    where
      go : (z : Bool) → b ≡ z → q (pick z x y) ≡ q (pick z u v)
      go true h = f h
      go false h = g

  pub pick-both : (b : Bool) (x y u v : X) → q x ≡ q u → q y ≡ q v → q (pick b x y) ≡ q (pick b u v)
  pick-both true x y u v f g = f
  pick-both false x y u v f g = g

-- ---- after work that left the same live entries

pub via : {X Y : Type 0} (p : X → X) (q : Y → Y) (f : X → Y) → ((x : X) → q (f x) ≡ q (f (p x))) → (x y : X) → p x ≡ p y → q (f x) ≡ q (f y)
via p q f blind x y e = blind x ∙ ap (λ z. q (f z)) e ∙ sym (blind y)
