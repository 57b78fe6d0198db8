-- `link_record::agreed` meets its contract: the law of a field of a local that is lent.
use mir.Syntax.{w16}
use contract.Running.{tables, tables_of}
use denote.Triple.Spec.{triple_of}
use denote.Triple.Table.{entered}
use Rattle.link_record.specs.Record.{agreed}
use Rattle.link_record_laws.proofs.Data.{uint}
use Rattle.link_record.proofs.LendsField.{lends_field}
use Rattle.link_record.proofs.Rows.{bearer_link}
use Rattle.link_record.proofs.agree_mtu.Symbol as g-def
use Rattle.link_record.proofs.agree_mtu.Met as g-thm
use Rattle.link_record.specs.contracts.agreed.Key.{name}
use Rattle.link_record.specs.contracts.agreed as f
use Rattle.link_record.proofs.agreed.Statement.{statement}
use Rattle.link_record.proofs.agreed.Code as code

pub agreed_spec : {M : Type 1} → statement M
unfolding tables_of
agreed_spec 𝓤 𝓛 𝓜 𝓡 wired =
    entered 𝓤 𝓛.H (triple_of 𝓛 f.signature (f.spec 𝓛 𝓜.mem 𝓡.returns))
    (tables 𝓤 𝓛.H 𝓜 𝓡 𝓡.env).C (tables 𝓤 𝓛.H 𝓜 𝓡 𝓡.env).Λ name code.function (code.unfolded 𝓤 𝓛.H 𝓜 𝓡 wired)
    (lends_field bearer_link (uint w16) g-def.name agreed 𝓛 (tables_of 𝓤 𝓛.H 𝓜 (tables 𝓤 𝓛.H 𝓜 𝓡 𝓡.env))
    (g-thm.met 𝓤 𝓛 𝓜 𝓡 (code.calls-link_record::agree_mtu 𝓡.env wired)))
