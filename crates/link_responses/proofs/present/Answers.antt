use Rattle.link_responses.proofs.ResponseLaws.{present-mtu, present-written, present-value, present-services, present-characteristics, present-descriptors, present-nothing}
use mathlib.Core.Path.{◌∙◌}
use Rattle.link_responses.proofs.present.Goals as goal

pub returns-in-Mtu : goal.returns-in-Mtu
returns-in-Mtu c = c.mtu_told.ensures _ ∙ present-mtu _ _ _ _ _ (c.in-Mtu.is)

pub returns-in-Services : goal.returns-in-Services
returns-in-Services c =
    c.services_heard.ensures ∙ present-services _ _ _ _ _
    (c.byte-format.ensures) _
    (c.in-Services.is)

pub returns-in-Characteristics : goal.returns-in-Characteristics
returns-in-Characteristics c =
    c.characteristics_heard.ensures ∙ present-characteristics _ _ _ _ _
    (c.byte-format.ensures) _ _
    (c.in-Characteristics.is)
    (c.find_service-x.ensures)

pub returns-in-Descriptors : goal.returns-in-Descriptors
returns-in-Descriptors c =
    c.descriptors_heard.ensures ∙ present-descriptors _ _ _ _ _
    (c.byte-format.ensures) _ _
    (c.in-Descriptors.is)
    (c.find_service-x-in-Descriptors.ensures)

pub returns-in-Written : goal.returns-in-Written
returns-in-Written c = c.written.ensures _ ∙ present-written _ _ _ _ (c.in-Written.is)

pub returns-in-Value : goal.returns-in-Value
returns-in-Value c = c.value_read.ensures _ ∙ present-value _ _ _ _ (c.in-Value.is)

pub returns-in-Nothing : goal.returns-in-Nothing
returns-in-Nothing c = present-nothing _ _ _ _ (c.in-Nothing.is)
