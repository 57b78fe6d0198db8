-- `link_record::take_response` meets its contract: the law of a field that is set to what is written out.
use mathlib.Core.Path.{refl}
use mir.Syntax.{w8}
use contract.Running.{tables, tables_of}
use denote.Triple.Spec.{triple_of}
use denote.Triple.Table.{entered}
use Rattle.link_record.specs.Record.{answered}
use Rattle.link_record_laws.proofs.Lit.{number}
use Rattle.link_record_laws.proofs.SetsTo.{sets_to}
use Rattle.state.specs.contracts.Link as T
use Rattle.state.proofs.Link.TheLaws as T'
use Rattle.link_record.specs.contracts.take_response.Key.{name}
use Rattle.link_record.specs.contracts.take_response as f
use Rattle.link_record.proofs.take_response.Statement.{statement}
use Rattle.link_record.proofs.take_response.Code as code

pub take_response_spec : {M : Type 1} → statement M
unfolding tables_of
take_response_spec 𝓤 𝓛 𝓜 𝓡 wired =
    entered 𝓤 𝓛.H (triple_of 𝓛 f.signature (f.spec 𝓛 𝓜.mem 𝓡.returns))
    (tables 𝓤 𝓛.H 𝓜 𝓡 𝓡.env).C (tables 𝓤 𝓛.H 𝓜 𝓡 𝓡.env).Λ name code.function (code.unfolded 𝓤 𝓛.H 𝓜 𝓡 wired)
    (sets_to T.the_type T'.the_laws T'.the_plain 2 (number w8 0 tt) answered refl (λ h. refl) (λ h g gx. (g.0, (g.1.0, (gx, g.1.1.1))))
    𝓛 (tables_of 𝓤 𝓛.H 𝓜 (tables 𝓤 𝓛.H 𝓜 𝓡 𝓡.env)))
