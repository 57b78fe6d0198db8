-- `link_record::open` meets its contract: the law of four fields that are written anew.
use mathlib.Core.Path.{refl}
use mathlib.Core.Bool.{false}
use mir.Syntax.{w8, w16}
use contract.Running.{tables, tables_of}
use denote.Triple.Spec.{triple_of}
use denote.Triple.Table.{entered}
use Rattle.link_record.specs.Record.{new_link}
use Rattle.link_record_laws.proofs.Data.{uint}
use Rattle.link_record_laws.proofs.Lit.{number, flag}
use Rattle.link_record_laws.proofs.Renews.{renews}
use Rattle.state.specs.contracts.Link as T
use Rattle.state.proofs.Link.TheLaws as T'
use Rattle.link_record.specs.contracts.open.Key.{name}
use Rattle.link_record.specs.contracts.open as f
use Rattle.link_record.proofs.open.Statement.{statement}
use Rattle.link_record.proofs.open.Code as code

pub open_spec : {M : Type 1} → statement M
unfolding tables_of
open_spec 𝓤 𝓛 𝓜 𝓡 wired =
    entered 𝓤 𝓛.H (triple_of 𝓛 f.signature (f.spec 𝓛 𝓜.mem 𝓡.returns))
    (tables 𝓤 𝓛.H 𝓜 𝓡 𝓡.env).C (tables 𝓤 𝓛.H 𝓜 𝓡 𝓡.env).Λ name code.function (code.unfolded 𝓤 𝓛.H 𝓜 𝓡 wired)
    (renews T.the_type T'.the_laws T'.the_plain (uint w16) (number w16 23 tt) (number w8 0 tt) (flag false) (λ l. new_link) refl refl refl refl (λ h x. refl) (λ h x gx g₁ g₂ g₃. (gx, (g₁, (g₂, (g₃, tt)))))
    𝓛 (tables_of 𝓤 𝓛.H 𝓜 (tables 𝓤 𝓛.H 𝓜 𝓡 𝓡.env)))
