use Prim.Native.Nat.{ℕ, ◌+◌, ◌<◌}
use mathlib.Core.Path.{refl, sym, ap, ◌∙◌}
use native.Mathlib.Omega.{arith}
use lib.ListN.{get_or}
use lib.Dec.{eqb}
use Rattle.uuid_value.specs.Value.{num}
use Rattle.uuid_value.specs.ValueLaws.{equal-numbers}
use Rattle.adv_data.specs.Ad.{width_of}
use Rattle.adv_data.proofs.Lists.{is-width}
use Rattle.adv_data.proofs.Seeks.{onto, from_nothing, stop-end, stop-zero, stop-past, list-none, list_done, list-later, list-here}
use Rattle.adv_data.proofs.seek.Goals as goal

pub structures-init : goal.structures-init
structures-init c = (omega arith, from_nothing _)

pub loop-i-init : goal.loop-i-init
loop-i-init c = (omega arith, (refl, refl))

pub uuid_at-requires : goal.uuid_at-requires
uuid_at-requires c =
    let w = c.in-Some.ensures in
    (omega arith, rw w.0 (is-width _ (omega (arith, w.0, w.1))))

pub loop-i-preserved : goal.loop-i-preserved
loop-i-preserved c =
    let a = c.args in
    let s = a.«data».now in
    let t = c.structures in
    let w = c.in-Some.ensures in
    let l = c.loop-i in
    let q = c.eq.ensures ∙ equal-numbers c.uuid_at.result a.uuid (omega arith) (omega arith) ∙ ap (λ (n : ℕ). eqb n (num a.uuid)) c.uuid_at.ensures in
    let later = list-later (num a.uuid) t.at s (get_or s t.at 0) refl c.if-len-eq0.false c.if-data-at.false c.in-Some.width w.0 l.i c.eq.result w.1 l.invariant.0 c.loop-i-test.true q c.if-eq.false in
    (later.0, (l.invariant.1.0, sym later.1 ∙ l.invariant.1.1))

pub structures-preserved-after-loop-i : goal.structures-preserved-after-loop-i
structures-preserved-after-loop-i c =
    let a = c.args in
    let s = a.«data».now in
    let t = c.structures in
    let w = c.in-Some.ensures in
    let l = c.loop-i in
    let done = list_done (num a.uuid) t.at s (get_or s t.at 0) refl c.if-len-eq0.false c.if-data-at.false c.in-Some.width w.0 t.answer l.i c.loop-i-test.false l.invariant.1.1 l.answer-1 (l.invariant.1.0 ∙ c.passed-answer.ensures) in
    (done.0, sym done.1 ∙ t.invariant.1)

pub structures-preserved : goal.structures-preserved
structures-preserved c =
    let a = c.args in
    let s = a.«data».now in
    let t = c.structures in
    let none = list-none (num a.uuid) t.at s (get_or s t.at 0) refl c.if-len-eq0.false c.if-data-at.false _ refl t.answer (omega (arith, c.in_default.ensures)) in
    (none.0, sym none.1 ∙ t.invariant.1)

pub returns-after-structures : goal.returns-after-structures
returns-after-structures c =
    let a = c.args in
    let t = c.structures in
    sym (ap (onto t.answer) (stop-end (num a.uuid) t.at a.«data».now (omega arith))) ∙ t.invariant.1

pub returns-then-len-eq0 : goal.returns-then-len-eq0
returns-then-len-eq0 c =
    let a = c.args in
    let t = c.structures in
    sym (ap (onto t.answer) (stop-zero (num a.uuid) t.at a.«data».now c.if-len-eq0.true)) ∙ t.invariant.1

pub returns-then-data-at : goal.returns-then-data-at
returns-then-data-at c =
    let a = c.args in
    let t = c.structures in
    sym (ap (onto t.answer) (stop-past (num a.uuid) t.at a.«data».now (omega arith) c.if-len-eq0.false (omega arith))) ∙ t.invariant.1

pub returns-then-eq : goal.returns-then-eq
returns-then-eq c =
    let a = c.args in
    let s = a.«data».now in
    let t = c.structures in
    let w = c.in-Some.ensures in
    let l = c.loop-i in
    let q = c.eq.ensures ∙ equal-numbers c.uuid_at.result a.uuid (omega arith) (omega arith) ∙ ap (λ (n : ℕ). eqb n (num a.uuid)) c.uuid_at.ensures in
    let here = list-here (num a.uuid) t.at s (get_or s t.at 0) refl c.if-len-eq0.false c.if-data-at.false c.in-Some.width w.0 l.i c.eq.result w.1 l.invariant.0 c.loop-i-test.true q c.if-eq.true l.invariant.1.1 in
    sym (ap (onto t.answer) here) ∙ t.invariant.1
