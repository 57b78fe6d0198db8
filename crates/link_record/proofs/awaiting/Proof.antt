-- `link_record::awaiting` meets its contract: the law of a field of a local that is lent.
use mir.Syntax.{w8}
use contract.Running.{tables, tables_of}
use denote.Triple.Spec.{triple_of}
use denote.Triple.Table.{entered}
use Rattle.link_record.specs.Record.{awaiting}
use Rattle.link_record_laws.proofs.Data.{uint}
use Rattle.link_record.proofs.LendsField.{lends_field}
use Rattle.link_record.proofs.Rows.{bearer_link}
use Rattle.link_record.proofs.await_response.Symbol as g-def
use Rattle.link_record.proofs.await_response.Met as g-thm
use Rattle.link_record.specs.contracts.awaiting.Key.{name}
use Rattle.link_record.specs.contracts.awaiting as f
use Rattle.link_record.proofs.awaiting.Statement.{statement}
use Rattle.link_record.proofs.awaiting.Code as code

pub awaiting_spec : {M : Type 1} → statement M
unfolding tables_of
awaiting_spec 𝓤 𝓛 𝓜 𝓡 wired =
    entered 𝓤 𝓛.H (triple_of 𝓛 f.signature (f.spec 𝓛 𝓜.mem 𝓡.returns))
    (tables 𝓤 𝓛.H 𝓜 𝓡 𝓡.env).C (tables 𝓤 𝓛.H 𝓜 𝓡 𝓡.env).Λ name code.function (code.unfolded 𝓤 𝓛.H 𝓜 𝓡 wired)
    (lends_field bearer_link (uint w8) g-def.name awaiting 𝓛 (tables_of 𝓤 𝓛.H 𝓜 (tables 𝓤 𝓛.H 𝓜 𝓡 𝓡.env))
    (g-thm.met 𝓤 𝓛 𝓜 𝓡 (code.calls-link_record::await_response 𝓡.env wired)))
