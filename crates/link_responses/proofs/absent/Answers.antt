use Rattle.link_responses.proofs.ErrorLaws.{absent-mtu, absent-services, absent-characteristics, absent-descriptors, absent-written, absent-value, absent-nothing}
use mathlib.Core.Path.{◌∙◌}
use Rattle.link_responses.proofs.absent.Goals as goal

pub returns-in-Mtu : goal.returns-in-Mtu
returns-in-Mtu c = c.end_turn.ensures _ ∙ absent-mtu _ _ _ _ (c.in-Mtu.is)

pub returns-in-Services : goal.returns-in-Services
returns-in-Services c =
    c.services_done.ensures ∙ absent-services _ _ _ _
    (c.in-Services.is)

pub returns-in-Characteristics : goal.returns-in-Characteristics
returns-in-Characteristics c =
    c.characteristics_done.ensures ∙ absent-characteristics _ _ _ _ _
    (c.in-Characteristics.is)
    (c.find_service-x.ensures)

pub returns-in-Descriptors : goal.returns-in-Descriptors
returns-in-Descriptors c =
    c.range_done.ensures ∙ absent-descriptors _ _ _ _ _
    (c.in-Descriptors.is)
    (c.find_service-x-in-Descriptors.ensures)

pub returns-in-Written : goal.returns-in-Written
returns-in-Written c = c.end_turn-in-Written.ensures _ ∙ absent-written _ _ _ (c.in-Written.is)

pub returns-in-Value : goal.returns-in-Value
returns-in-Value c = c.end_turn-in-Value.ensures _ ∙ absent-value _ _ _ (c.in-Value.is)

pub returns-in-Nothing : goal.returns-in-Nothing
returns-in-Nothing c = c.end_turn-in-Nothing.ensures _ ∙ absent-nothing _ _ _ (c.in-Nothing.is)
