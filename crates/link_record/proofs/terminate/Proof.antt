-- `link_record::terminate` meets its contract: the law of a field that is set to what is written out.
use mathlib.Core.Path.{refl}
use mathlib.Core.Bool.{true}
use contract.Running.{tables, tables_of}
use denote.Triple.Spec.{triple_of}
use denote.Triple.Table.{entered}
use Rattle.link_record.specs.Record.{terminated}
use Rattle.link_record_laws.proofs.Lit.{flag}
use Rattle.link_record_laws.proofs.SetsTo.{sets_to}
use Rattle.state.specs.contracts.Link as T
use Rattle.state.proofs.Link.TheLaws as T'
use Rattle.link_record.specs.contracts.terminate.Key.{name}
use Rattle.link_record.specs.contracts.terminate as f
use Rattle.link_record.proofs.terminate.Statement.{statement}
use Rattle.link_record.proofs.terminate.Code as code

pub terminate_spec : {M : Type 1} → statement M
unfolding tables_of
terminate_spec 𝓤 𝓛 𝓜 𝓡 wired =
    entered 𝓤 𝓛.H (triple_of 𝓛 f.signature (f.spec 𝓛 𝓜.mem 𝓡.returns))
    (tables 𝓤 𝓛.H 𝓜 𝓡 𝓡.env).C (tables 𝓤 𝓛.H 𝓜 𝓡 𝓡.env).Λ name code.function (code.unfolded 𝓤 𝓛.H 𝓜 𝓡 wired)
    (sets_to T.the_type T'.the_laws T'.the_plain 3 (flag true) terminated refl (λ h. refl) (λ h g gx. (g.0, (g.1.0, (g.1.1.0, (gx, g.1.1.1.1)))))
    𝓛 (tables_of 𝓤 𝓛.H 𝓜 (tables 𝓤 𝓛.H 𝓜 𝓡 𝓡.env)))
