-- What each return asks once an answer's entries stand in the table, from what the callees ensure.
use Prim.Native.Nat.{ℕ, ◌+◌, ◌≤◌, ◌<◌}
use mathlib.Core.Path.{◌≡◌, ◌∙◌}
use mathlib.Core.Bool.{Bool, true, false}
use lib.Dec.{eqb, leb}
use borrow.Author.Tests.{le-leb, lt-leb, eq-eqb, ne_eqb}
use Rattle.bytes_base.specs.Choice.{pick}
use Rattle.time.specs.declared.Micros.{Micros}
use Rattle.gatt_services.specs.declared.Service.{Service}
use Rattle.state.specs.declared.StepStatus.TheVariants.{TableFull}
use Rattle.script_rules.specs.World.{World}
use Rattle.script_rules.specs.Discovery.{last_handle, discover_services, discover_characteristics, discover_descriptors}
use Rattle.link_questions.specs.declared.Goal.{Goal}
use Rattle.link_rules.proofs.AnswerLaws.{yes, no}
use Rattle.link_rules.specs.Moves.{over}
use Rattle.link_rules.specs.Services.{services_done}
use Rattle.link_discovery.specs.Entered.{services_entered, characteristics_entered}

module _ (v : World) (at : Micros) (g : Goal) (last : ℕ) (full : Bool) where
  abbrev services-on : World
  services-on = pick (eqb last last_handle) (services_done v at g) (discover_services v at (last + 1))

  pub services-full : full ≡ true → over v at TableFull ≡ services_entered v at g last full
  services-full h = yes full (over v at TableFull) services-on h

  pub services-last : full ≡ false → last ≡ last_handle → services_done v at g ≡ services_entered v at g last full
  services-last h k =
      yes (eqb last last_handle) (services_done v at g) (discover_services v at (last + 1)) (eq-eqb last last_handle k)
      ∙ no full (over v at TableFull) services-on h

  pub services-more : full ≡ false → (last ≡ last_handle → ⊥) → discover_services v at (last + 1) ≡ services_entered v at g last full
  services-more h k =
      no (eqb last last_handle) (services_done v at g) (discover_services v at (last + 1)) (ne_eqb last last_handle k)
      ∙ no full (over v at TableFull) services-on h

module _ (v : World) (at : Micros) (svc : Service) (last : ℕ) (full : Bool) where
  abbrev at_last : World
  at_last = discover_descriptors v at svc svc.start

  abbrev at_more : World
  at_more = discover_characteristics v at svc (last + 1)

  abbrev characteristics-on : World
  characteristics-on = pick (leb svc.end last) at_last at_more

  pub characteristics-full : full ≡ true → over v at TableFull ≡ characteristics_entered v at svc last full
  characteristics-full h = yes full (over v at TableFull) characteristics-on h

  pub characteristics-last : full ≡ false → svc.end ≤ last → at_last ≡ characteristics_entered v at svc last full
  characteristics-last h k =
      yes (leb svc.end last) at_last at_more (le-leb svc.end last k) ∙ no full (over v at TableFull) characteristics-on h

  pub characteristics-more : full ≡ false → last < svc.end → at_more ≡ characteristics_entered v at svc last full
  characteristics-more h k =
      no (leb svc.end last) at_last at_more (lt-leb svc.end last k) ∙ no full (over v at TableFull) characteristics-on h
