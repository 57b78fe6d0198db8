-- `link_record::await_response` meets its contract: the law of a field that is set.
use mathlib.Core.Path.{refl}
use mir.Syntax.{w8}
use contract.Running.{tables, tables_of}
use denote.Triple.Spec.{triple_of}
use denote.Triple.Table.{entered}
use Rattle.link_record.specs.Record.{awaiting}
use Rattle.link_record_laws.proofs.Data.{uint}
use Rattle.link_record_laws.proofs.Sets.{sets}
use Rattle.state.specs.contracts.Link as T
use Rattle.state.proofs.Link.TheLaws as T'
use Rattle.link_record.specs.contracts.await_response.Key.{name}
use Rattle.link_record.specs.contracts.await_response as f
use Rattle.link_record.proofs.await_response.Statement.{statement}
use Rattle.link_record.proofs.await_response.Code as code

pub await_response_spec : {M : Type 1} → statement M
unfolding tables_of
await_response_spec 𝓤 𝓛 𝓜 𝓡 wired =
    entered 𝓤 𝓛.H (triple_of 𝓛 f.signature (f.spec 𝓛 𝓜.mem 𝓡.returns))
    (tables 𝓤 𝓛.H 𝓜 𝓡 𝓡.env).C (tables 𝓤 𝓛.H 𝓜 𝓡 𝓡.env).Λ name code.function (code.unfolded 𝓤 𝓛.H 𝓜 𝓡 wired)
    (sets T.the_type T'.the_laws T'.the_plain (uint w8) _ awaiting refl (λ h x. refl) (λ h x g gx. (g.0, (g.1.0, (gx, g.1.1.1))))
    𝓛 (tables_of 𝓤 𝓛.H 𝓜 (tables 𝓤 𝓛.H 𝓜 𝓡 𝓡.env)))
