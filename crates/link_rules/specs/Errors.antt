-- An error of the peer (Core Vol 3 Part F 3.4.1.1): what the running step does with it.
use Rattle.std.specs.Prelude.{ℕ, eqb}
use Rattle.bytes_base.specs.Choice.{pick}
use Rattle.time.specs.declared.Micros.{Micros}
use Rattle.att_pdu.specs.Numbers.{err_attribute_not_found}
use Rattle.state.specs.declared.StepStatus.TheVariants.{AttError}
use Rattle.script_rules.specs.World.{World}
use Rattle.link_questions.specs.declared.Asked.{Asked}
use Rattle.link_questions.specs.declared.Asked.TheVariants as asked-variants
use Rattle.link_rules.specs.Moves.{over, service_of}
use Rattle.link_rules.specs.Services.{services_done}
use Rattle.link_rules.specs.Characteristics.{characteristics_done, range_done}

-- a walk is at its end; any other step ends with the error
unfoldable pub absent : World → Micros → Asked → World
absent w at (asked-variants.Mtu mtu) = over w at (AttError err_attribute_not_found)
absent w at (asked-variants.Services g) = services_done w at g
absent w at (asked-variants.Characteristics u) = characteristics_done w at (service_of w u)
absent w at (asked-variants.Descriptors u) = range_done w at (service_of w u)
absent w at asked-variants.Written = over w at (AttError err_attribute_not_found)
absent w at asked-variants.Value = over w at (AttError err_attribute_not_found)
absent w at asked-variants.Nothing = over w at (AttError err_attribute_not_found)

-- an error that is not 'attribute not found' ends the step
unfoldable pub failed : World → Micros → ℕ → Asked → World
failed w at code a = pick (eqb code err_attribute_not_found) (absent w at a) (over w at (AttError code))
