-- `link_record::terminated` meets its contract: the law of a field of a local that is lent alone.
use contract.Running.{tables, tables_of}
use denote.Triple.Spec.{triple_of}
use denote.Triple.Table.{entered}
use Rattle.link_record.specs.Record.{terminated}
use Rattle.link_record.proofs.LendsFieldAlone.{lends_field_alone}
use Rattle.link_record.proofs.Rows.{bearer_link}
use Rattle.link_record.proofs.terminate.Symbol as g-def
use Rattle.link_record.proofs.terminate.Met as g-thm
use Rattle.link_record.specs.contracts.terminated.Key.{name}
use Rattle.link_record.specs.contracts.terminated as f
use Rattle.link_record.proofs.terminated.Statement.{statement}
use Rattle.link_record.proofs.terminated.Code as code

pub terminated_spec : {M : Type 1} → statement M
unfolding tables_of
terminated_spec 𝓤 𝓛 𝓜 𝓡 wired =
    entered 𝓤 𝓛.H (triple_of 𝓛 f.signature (f.spec 𝓛 𝓜.mem 𝓡.returns))
    (tables 𝓤 𝓛.H 𝓜 𝓡 𝓡.env).C (tables 𝓤 𝓛.H 𝓜 𝓡 𝓡.env).Λ name code.function (code.unfolded 𝓤 𝓛.H 𝓜 𝓡 wired)
    (lends_field_alone bearer_link g-def.name terminated 𝓛 (tables_of 𝓤 𝓛.H 𝓜 (tables 𝓤 𝓛.H 𝓜 𝓡 𝓡.env))
    (g-thm.met 𝓤 𝓛 𝓜 𝓡 (code.calls-link_record::terminate 𝓡.env wired)))
