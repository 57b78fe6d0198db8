use mathlib.Core.Path.{refl, ap, ◌∙◌}
use Rattle.std.specs.Prelude.{⊤}
use Rattle.state_refusals.proofs.RefusalLaws.{not-accepted}
use Rattle.state_core.specs.declared.Core.{Core}
use Rattle.central_answers.specs.declared.Answer.{Answer}
use Rattle.central_answers.proofs.AnswerLaws.{refused-leaves, not-refused}
use Rattle.radio_calls.specs.Outcomes.{taken}
use native.Mathlib.Omega.{arith}
use Rattle.radio_calls.proofs.ResponseLaws.{response-refused, response-passed, response-none, response-taken}
use Rattle.radio_calls.proofs.on_scan_response.Goals as goal

pub returns-in-Err : goal.returns-in-Err
returns-in-Err c =
    let a = c.args in
    let gate = c.gate_quiet-gate in
    let why = c.in-Err.why in record {
      store_after = ap (λ (x : Answer Core ⊤). taken x a.tables.now a.store.now) c.refuse.ensures
          ∙ response-refused a.core a.tables.now a.store.now a.at a.address a.«data».now _ _ gate.ensures c.in-Err.ensures (not-accepted why);
      refused = refused-leaves _ a.core why _ c.refuse.ensures _ _;
    }

pub find_report-i-requires : goal.find_report-i-requires
find_report-i-requires c =
    let a = c.args in
    let gate = c.gate_quiet-gate in
    let passed = response-passed a.core a.tables.now a.store.now a.at a.address a.«data».now _ _ gate.ensures c.in_default.ensures refl in
    passed.gate.fit.head.reports

pub report_at-x-requires : goal.report_at-x-requires
report_at-x-requires c =
    let a = c.args in
    let gate = c.gate_quiet-gate in
    let passed = response-passed a.core a.tables.now a.store.now a.at a.address a.«data».now _ _ gate.ensures c.in_default.ensures refl in
    let few = passed.gate.fit.head.reports in
    let here = c.if-i-count.true in
    omega (arith, few, here)

pub narrow-requires : goal.narrow-requires
narrow-requires c =
    let a = c.args in
    let gate = c.gate_quiet-gate in
    let passed = response-passed a.core a.tables.now a.store.now a.at a.address a.«data».now _ _ gate.ensures c.in_default.ensures refl in
    passed.short

pub put_report-requires : goal.put_report-requires
put_report-requires c =
    let a = c.args in
    let gate = c.gate_quiet-gate in
    let passed = response-passed a.core a.tables.now a.store.now a.at a.address a.«data».now _ _ gate.ensures c.in_default.ensures refl in
    let few = passed.gate.fit.head.reports in
    let here = c.if-i-count.true in
    let narrow = c.narrow in
    let was = c.report_at-x in
    (omega (arith, few, here), was.ensures.short.0, omega (arith, passed.short, narrow.ensures))

pub put_response-requires : goal.put_response-requires
put_response-requires c =
    let a = c.args in
    let gate = c.gate_quiet-gate in
    let passed = response-passed a.core a.tables.now a.store.now a.at a.address a.«data».now _ _ gate.ensures c.in_default.ensures refl in
    let few = passed.gate.fit.head.reports in
    let here = c.if-i-count.true in
    omega (arith, few, here)

pub returns-then-i-count : goal.returns-then-i-count
returns-then-i-count c =
    let a = c.args in
    let gate = c.gate_quiet-gate in
    let keyed = c.key_of-key in
    let found = c.find_report-i in
    let was = c.report_at-x in
    let narrow = c.narrow in
    let put = c.put_report in
    let bytes = c.put_response in
    let here = c.if-i-count.true in record {
      store_after = ap (λ (x : Answer Core ⊤). taken x put.new.tables bytes.new.store) c.done.ensures
          ∙ response-taken a.core a.tables.now a.store.now a.at a.address a.«data».now _ _ gate.ensures c.in_default.ensures refl _ _ keyed.ensures found.ensures.0
          _ _ narrow.result was.result here was.ensures.value narrow.ensures put.ensures bytes.ensures;
      refused = not-refused _ _ _ c.done.ensures;
    }

pub returns : goal.returns
returns c =
    let a = c.args in
    let gate = c.gate_quiet-gate in
    let keyed = c.key_of-key in
    let found = c.find_report-i in
    let gone = c.if-i-count.false in record {
      store_after = ap (λ (x : Answer Core ⊤). taken x a.tables.now a.store.now) c.done-2.ensures
          ∙ response-none a.core a.tables.now a.store.now a.at a.address a.«data».now _ _ gate.ensures c.in_default.ensures refl
          _ _ keyed.ensures found.ensures.0 gone;
      refused = not-refused _ _ _ c.done-2.ensures;
    }
