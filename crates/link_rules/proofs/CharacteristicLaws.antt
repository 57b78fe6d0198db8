-- What each return of the walk through characteristics and descriptors asks, from what its callees ensure.
use Rattle.std.specs.Prelude.{Option, Some, None}
use Prim.Native.Nat.{ℕ, ◌+◌, ◌-◌, ◌≤◌, ◌<◌}
use mathlib.Core.Path.{◌≡◌, sym, ap, subst, ◌∙◌}
use mathlib.Core.List.{List}
use lib.Dec.{eqb, leb, ltb}
use borrow.Author.Tests.{lt-ltb, le-ltb, le-leb, lt-leb, eq-eqb, ne_eqb}
use Rattle.lists.specs.Blocks.{bytes}
use Rattle.lists.specs.Cut.{entries, part}
use Rattle.lists.proofs.TakenLaws.{taken-most}
use Rattle.gatt_services.specs.declared.Services.{Services}
use Rattle.gatt_characteristics.specs.declared.Characteristics.{Characteristics}
use Rattle.gatt_characteristics.proofs.Keeps.{rising-if, rises-if, taken-rising}
use Rattle.gatt_descriptors.specs.Named.{descriptors_named}
use Rattle.gatt_descriptors.specs.declared.Named.{Named}
use Rattle.gatt_descriptors.proofs.NamedLaws.{length-given_all}
use Rattle.gatt_descriptors.proofs.Keeps.{named-rising}
use Rattle.script_rules.specs.World.{World}
use Rattle.script_rules.specs.Nearly.{Peer}
use Rattle.link_rules.specs.Payload.{payload_at}
use Rattle.link_rules.specs.Moves.{over, after_range}
use Rattle.time.specs.declared.Micros.{Micros}
use Rattle.gatt_services.specs.declared.Service.{Service}
use Rattle.state.specs.declared.StepStatus.TheVariants.{Ok, NotFound}
use Rattle.script_rules.specs.Discovery.{discover_descriptors}
use Rattle.link_rules.specs.Characteristics.{characteristics_found, characteristics_heard, go_on, descriptors_found, descriptors_heard, range_done, characteristics_done}
use Rattle.link_rules.specs.Answers.{width_of}
use Rattle.link_rules.proofs.AnswerLaws.{entries-are, yes, no}
use Rattle.link_rules.proofs.AbleLaws.{few}
use Rattle.gatt_characteristics.specs.Characteristic as characteristic
use Rattle.att_pdu.specs.declared.Found.{Found}

-- ---- the tables that answers leave

pub characteristics-kept : (x y : Characteristics) (z : Services) (none : ℕ) (es : List (List ℕ)) (f : Found Characteristics)
    → x ≡ y → f ≡ characteristic.characteristics_taken x none es → Peer z y → Peer z f.table
characteristics-kept x y z none es f e g p =
    let q : Peer z x = subst (λ (k : Characteristics). Peer z k) (sym e) p in
    let k : (characteristic.characteristics_taken x none es).table.count ≤ 64 =
    taken-most characteristic.more characteristic.declaration_of 64 (characteristic.known x) none es (few x.count 64 x.kept q.characteristics) in
    let o = rises-if (characteristic.known (characteristic.characteristics_taken x none es).table) (taken-rising x none es (rising-if (characteristic.known x) q.rising)) in
    subst (λ (m : Found Characteristics). Peer z m.table) (sym g) (record { services = q.services; characteristics = k; rising = o })

pub descriptors-kept : (x y : Characteristics) (z : Services) (first : ℕ) (es : List (List ℕ)) (f : Named)
    → x ≡ y → f ≡ descriptors_named x first es → Peer z y → Peer z f.table
descriptors-kept x y z first es f e g p =
    let q : Peer z x = subst (λ (k : Characteristics). Peer z k) (sym e) p in
    let k : (descriptors_named x first es).table.count ≤ 64 =
    subst (λ (m : ℕ). m ≤ 64) (sym (length-given_all (characteristic.known x) es)) (few x.count 64 x.kept q.characteristics) in
    let o = rises-if (characteristic.known (descriptors_named x first es).table) (named-rising x first es (rising-if (characteristic.known x) q.rising)) in
    subst (λ (m : Named). Peer z m.table) (sym g) (record { services = q.services; characteristics = k; rising = o })

-- ---- characteristics

module _ (w : World) (at : Micros) (n size : ℕ) where
  pub heard-none : (x : Option Service) → x ≡ None → over w at NotFound ≡ characteristics_heard w at n size x
  unfolding characteristics_heard
  heard-none x e = sym (ap (characteristics_heard w at n size) e)

  module _ (svc : Service) where
    abbrev characteristics-all : Found Characteristics
    characteristics-all =
        characteristic.characteristics_taken w.held.state.characteristics svc.end (entries size (bytes w.held.store (payload_at + 2) (n - 2)))

    pub characteristics-none : size < 7 → discover_descriptors w at svc svc.start ≡ characteristics_heard w at n size (Some svc)
    unfolding characteristics_heard
    characteristics-none h =
        yes (ltb size 7) (discover_descriptors w at svc svc.start) (characteristics_found w at svc characteristics-all) (lt-ltb size 7 h)

    pub characteristics-some : 7 ≤ size → (x : Characteristics) (end : ℕ) (f : Found Characteristics) → x ≡ w.held.state.characteristics
        → end ≡ payload_at + 2 + (n - 2)
        → f ≡ characteristic.characteristics_taken x svc.end (entries size (part (payload_at + 2) end w.held.store))
        → characteristics_found w at svc f ≡ characteristics_heard w at n size (Some svc)
    unfolding characteristics_heard
    characteristics-some h x end f e₁ e₂ e₃ =
        let q : f ≡ characteristics-all =
        e₃
        ∙ ap (λ (y : Characteristics). characteristic.characteristics_taken y svc.end (entries size (part (payload_at + 2) end w.held.store))) e₁
        ∙ ap (characteristic.characteristics_taken w.held.state.characteristics svc.end) (entries-are w.held.store n size end e₂) in
        ap (characteristics_found w at svc) q
        ∙ no (ltb size 7) (discover_descriptors w at svc svc.start) (characteristics_found w at svc characteristics-all) (le-ltb size 7 h)

-- ---- descriptors

module _ (w : World) (at : Micros) (svc : Service) (from : ℕ) where
  pub more_within : from ≤ svc.end → discover_descriptors w at svc from ≡ go_on w at svc from
  unfolding go_on
  more_within h = yes (leb from svc.end) (discover_descriptors w at svc from) (over w at Ok) (le-leb from svc.end h)

  pub none_within : svc.end < from → over w at Ok ≡ go_on w at svc from
  unfolding go_on
  none_within h = no (leb from svc.end) (discover_descriptors w at svc from) (over w at Ok) (lt-leb from svc.end h)

module _ (w : World) (at : Micros) (n format : ℕ) where
  pub named_none : (x : Option Service) → x ≡ None → over w at NotFound ≡ descriptors_heard w at n format x
  unfolding descriptors_heard
  named_none x e = sym (ap (descriptors_heard w at n format) e)

  module _ (svc : Service) (size first : ℕ) (e : size ≡ width_of format) (f : first ≡ after_range w svc) where
    abbrev descriptors-all : Named
    descriptors-all =
        descriptors_named w.held.state.characteristics (after_range w svc) (entries (width_of format) (bytes w.held.store (payload_at + 2) (n - 2)))

    pub descriptors-none : size ≡ 0 → go_on w at svc first ≡ descriptors_heard w at n format (Some svc)
    unfolding descriptors_heard
    descriptors-none h =
        ap (go_on w at svc) f
        ∙ yes
        (eqb (width_of format) 0)
        (go_on w at svc (after_range w svc))
        (descriptors_found w at svc descriptors-all)
        (eq-eqb (width_of format) 0 (sym e ∙ h))

    pub descriptors-some : (size ≡ 0 → ⊥) → (x : Characteristics) (end : ℕ) (y : Named) → x ≡ w.held.state.characteristics
        → end ≡ payload_at + 2 + (n - 2) → y ≡ descriptors_named x first (entries size (part (payload_at + 2) end w.held.store))
        → descriptors_found w at svc y ≡ descriptors_heard w at n format (Some svc)
    unfolding descriptors_heard
    descriptors-some h x end y e₁ e₂ e₃ =
        let q : y ≡ descriptors-all =
        e₃
        ∙ ap (λ (z : Characteristics). descriptors_named z first (entries size (part (payload_at + 2) end w.held.store))) e₁
        ∙ ap (λ (z : ℕ). descriptors_named w.held.state.characteristics z (entries size (part (payload_at + 2) end w.held.store))) f
        ∙ ap (descriptors_named w.held.state.characteristics (after_range w svc)) (entries-are w.held.store n size end e₂)
        ∙ ap (λ (z : ℕ). descriptors_named w.held.state.characteristics (after_range w svc) (entries z (bytes w.held.store (payload_at + 2) (n - 2)))) e in
        ap (descriptors_found w at svc) q
        ∙ no
        (eqb (width_of format) 0)
        (go_on w at svc (after_range w svc))
        (descriptors_found w at svc descriptors-all)
        (ne_eqb (width_of format) 0 (λ k. h (e ∙ k)))

-- ---- an error: there is no such attribute

module _ (w : World) (at : Micros) where
  pub range_none : (x : Option Service) → x ≡ None → over w at NotFound ≡ range_done w at x
  unfolding range_done
  range_none x e = sym (ap (range_done w at) e)

  pub range-one : (x : Option Service) (svc : Service) (from : ℕ) → x ≡ Some svc → from ≡ after_range w svc
      → go_on w at svc from ≡ range_done w at x
  unfolding range_done
  range-one x svc from e f = ap (go_on w at svc) f ∙ sym (ap (range_done w at) e)

  pub walked_none : (x : Option Service) → x ≡ None → over w at NotFound ≡ characteristics_done w at x
  unfolding characteristics_done
  walked_none x e = sym (ap (characteristics_done w at) e)

  pub walked_one : (x : Option Service) (svc : Service) → x ≡ Some svc
      → discover_descriptors w at svc svc.start ≡ characteristics_done w at x
  unfolding characteristics_done
  walked_one x svc e = sym (ap (characteristics_done w at) e)
