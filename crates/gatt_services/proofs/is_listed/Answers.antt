use Rattle.std.proofs.Common.{rules, ◌≡◌, eqb, true, false, Bool, MatchBool, Any, All}
use Rattle.lists.proofs.TableLaws.{any-first}
use Rattle.gatt_services.specs.declared.Service.{Service}
use Rattle.gatt_services.proofs.is_listed.Goals as goal

pub returns : goal.returns
returns c =
    let starts : Service → Bool = λ (x : Service). eqb x.start c.args.start in
    let e : MatchBool c.any.result (Any (λ x. starts x ≡ true) c.args.known.now) (All (λ x. starts x ≡ false) c.args.known.now) = search rules in
    any-first starts c.args.known.now c.any.result e
