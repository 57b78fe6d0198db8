-- `link_record::answered` meets its contract: the law of a field of a local that is lent alone.
use contract.Running.{tables, tables_of}
use denote.Triple.Spec.{triple_of}
use denote.Triple.Table.{entered}
use Rattle.link_record.specs.Record.{answered}
use Rattle.link_record.proofs.LendsFieldAlone.{lends_field_alone}
use Rattle.link_record.proofs.Rows.{bearer_link}
use Rattle.link_record.proofs.take_response.Symbol as g-def
use Rattle.link_record.proofs.take_response.Met as g-thm
use Rattle.link_record.specs.contracts.answered.Key.{name}
use Rattle.link_record.specs.contracts.answered as f
use Rattle.link_record.proofs.answered.Statement.{statement}
use Rattle.link_record.proofs.answered.Code as code

pub answered_spec : {M : Type 1} → statement M
unfolding tables_of
answered_spec 𝓤 𝓛 𝓜 𝓡 wired =
    entered 𝓤 𝓛.H (triple_of 𝓛 f.signature (f.spec 𝓛 𝓜.mem 𝓡.returns))
    (tables 𝓤 𝓛.H 𝓜 𝓡 𝓡.env).C (tables 𝓤 𝓛.H 𝓜 𝓡 𝓡.env).Λ name code.function (code.unfolded 𝓤 𝓛.H 𝓜 𝓡 wired)
    (lends_field_alone bearer_link g-def.name answered 𝓛 (tables_of 𝓤 𝓛.H 𝓜 (tables 𝓤 𝓛.H 𝓜 𝓡 𝓡.env))
    (g-thm.met 𝓤 𝓛 𝓜 𝓡 (code.calls-link_record::take_response 𝓡.env wired)))
