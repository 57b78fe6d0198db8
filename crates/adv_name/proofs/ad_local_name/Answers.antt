use mathlib.Core.Path.{refl, sym, ◌∙◌}
use native.Mathlib.Omega.{arith}
use lib.ListN.{get_or}
use Rattle.adv_data.proofs.Structures.{read-zero, read_past}
use Rattle.adv_name.proofs.Names.{name-none, name-good, name-bad, name-later}
use Rattle.adv_name.proofs.ad_local_name.Goals as goal

pub loop-at-init : goal.loop-at-init
loop-at-init c = (omega arith, refl)

pub returns-then-len-eq0 : goal.returns-then-len-eq0
returns-then-len-eq0 c =
    let s = c.args.«data».now in
    let l = c.loop-at in
    sym (name-none l.at s (read-zero l.at s c.if-len-eq0.true)) ∙ l.invariant.1

pub returns-then-data-at : goal.returns-then-data-at
returns-then-data-at c =
    let s = c.args.«data».now in
    let l = c.loop-at in
    sym (name-none l.at s (read_past l.at s (omega arith))) ∙ l.invariant.1

pub returns-then-is_utf8 : goal.returns-then-is_utf8
returns-then-is_utf8 c =
    let s = c.args.«data».now in
    let l = c.loop-at in
    let u = c.is_utf8 in
    sym (name-good l.at s (get_or s l.at 0) refl c.if-len-eq0.false c.if-data-at.false _ c.is_name.ensures c.if-is_name.true u.result u.ensures c.if-is_utf8.true) ∙ l.invariant.1

pub returns-then-is_name : goal.returns-then-is_name
returns-then-is_name c =
    let s = c.args.«data».now in
    let l = c.loop-at in
    let u = c.is_utf8 in
    sym (name-bad l.at s (get_or s l.at 0) refl c.if-len-eq0.false c.if-data-at.false _ c.is_name.ensures c.if-is_name.true u.result u.ensures c.if-is_utf8.false) ∙ l.invariant.1

pub loop-at-preserved : goal.loop-at-preserved
loop-at-preserved c =
    let s = c.args.«data».now in
    let l = c.loop-at in
    let later = name-later l.at s (get_or s l.at 0) refl c.if-len-eq0.false c.if-data-at.false _ c.is_name.ensures c.if-is_name.false in
    (later.0, sym later.1 ∙ l.invariant.1)

pub returns : goal.returns
returns c =
    let s = c.args.«data».now in
    let l = c.loop-at in
    sym (name-none l.at s (read_past l.at s (omega arith))) ∙ l.invariant.1
