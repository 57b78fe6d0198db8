-- What each return of an error asks, from what its callees ensure.
use Rattle.std.specs.Prelude.{Option}
use Prim.Native.Nat.{ℕ}
use mathlib.Core.Path.{◌≡◌, sym, ap, ◌∙◌}
use lib.Dec.{eqb}
use borrow.Author.Tests.{eq-eqb, ne_eqb}
use Rattle.uuid_value.specs.declared.Uuid.{Uuid}
use Rattle.time.specs.declared.Micros.{Micros}
use Rattle.att_pdu.specs.Numbers.{err_attribute_not_found}
use Rattle.state.specs.declared.StepStatus.TheVariants.{AttError}
use Rattle.script_rules.specs.World.{World}
use Rattle.link_questions.specs.declared.Goal.{Goal}
use Rattle.link_questions.specs.declared.Asked.{Asked}
use Rattle.link_questions.specs.declared.Asked.TheVariants as asked-variants
use Rattle.link_rules.proofs.AnswerLaws.{yes, no}
use Rattle.link_rules.specs.Moves.{over, service_of}
use Rattle.link_rules.specs.Services.{services_done}
use Rattle.link_rules.specs.Characteristics.{characteristics_done, range_done}
use Rattle.link_rules.specs.Errors.{absent, failed}
use Rattle.gatt_services.specs.declared.Service.{Service}

module _ (w : World) (at : Micros) (a : Asked) where
  abbrev ends_with : World
  ends_with = over w at (AttError err_attribute_not_found)

  pub absent-mtu : (m : ℕ) → a ≡ asked-variants.Mtu m → ends_with ≡ absent w at a
  unfolding absent
  absent-mtu m e = sym (ap (absent w at) e)

  pub absent-services : (g : Goal) → a ≡ asked-variants.Services g → services_done w at g ≡ absent w at a
  unfolding absent
  absent-services g e = sym (ap (absent w at) e)

  pub absent-characteristics : (u : Uuid) (x : Option Service) → a ≡ asked-variants.Characteristics u → x ≡ service_of w u
      → characteristics_done w at x ≡ absent w at a
  unfolding absent
  absent-characteristics u x e f = ap (characteristics_done w at) f ∙ sym (ap (absent w at) e)

  pub absent-descriptors : (u : Uuid) (x : Option Service) → a ≡ asked-variants.Descriptors u → x ≡ service_of w u
      → range_done w at x ≡ absent w at a
  unfolding absent
  absent-descriptors u x e f = ap (range_done w at) f ∙ sym (ap (absent w at) e)

  pub absent-written : a ≡ asked-variants.Written → ends_with ≡ absent w at a
  unfolding absent
  absent-written e = sym (ap (absent w at) e)

  pub absent-value : a ≡ asked-variants.Value → ends_with ≡ absent w at a
  unfolding absent
  absent-value e = sym (ap (absent w at) e)

  pub absent-nothing : a ≡ asked-variants.Nothing → ends_with ≡ absent w at a
  unfolding absent
  absent-nothing e = sym (ap (absent w at) e)

  pub failed-absent : (code : ℕ) → code ≡ err_attribute_not_found → absent w at a ≡ failed w at code a
  unfolding failed
  failed-absent code h = yes (eqb code err_attribute_not_found) (absent w at a) (over w at (AttError code)) (eq-eqb code err_attribute_not_found h)

  pub failed-over : (code : ℕ) → (code ≡ err_attribute_not_found → ⊥) → over w at (AttError code) ≡ failed w at code a
  unfolding failed
  failed-over code h = no (eqb code err_attribute_not_found) (absent w at a) (over w at (AttError code)) (ne_eqb code err_attribute_not_found h)
