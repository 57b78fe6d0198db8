use mathlib.Core.Path.{refl}
use native.Mathlib.Omega.{arith}
use lib.ListN.{drop}
use Rattle.utf8.proofs.Sequences.{one_byte, two_bytes, three-bytes, four_bytes, no_bytes, some-length, no-length}
use Rattle.utf8.proofs.sequence_len.Goals as goal

pub returns-then-a-le-LAST_SINGLE : goal.returns-then-a-le-LAST_SINGLE
returns-then-a-le-LAST_SINGLE c =
    let p = c.args in
    some-length (drop p.at p.s.now) 1 (one_byte p.s.now p.at _ _ _ _ c.byte_or_none-a.ensures refl refl refl c.if-a-le-LAST_SINGLE.true) (omega arith)

pub returns-then-is_two : goal.returns-then-is_two
returns-then-is_two c =
    let p = c.args in
    some-length (drop p.at p.s.now) 2 (two_bytes p.s.now p.at _ _ _ _ c.byte_or_none-a.ensures c.byte_or_none-b.ensures c.byte_or_none-c.ensures c.byte_or_none-d.ensures
    c.if-a-le-LAST_SINGLE.false _ c.is_two.ensures c.if-is_two.true) (omega arith)

pub returns-then-is_three : goal.returns-then-is_three
returns-then-is_three c =
    let p = c.args in
    some-length (drop p.at p.s.now) 3 (three-bytes p.s.now p.at _ _ _ _ c.byte_or_none-a.ensures c.byte_or_none-b.ensures c.byte_or_none-c.ensures c.byte_or_none-d.ensures
    c.if-a-le-LAST_SINGLE.false _ c.is_two.ensures c.if-is_two.false _ c.is_three.ensures c.if-is_three.true) (omega arith)

pub returns-then-is_four : goal.returns-then-is_four
returns-then-is_four c =
    let p = c.args in
    some-length (drop p.at p.s.now) 4 (four_bytes p.s.now p.at _ _ _ _ c.byte_or_none-a.ensures c.byte_or_none-b.ensures c.byte_or_none-c.ensures c.byte_or_none-d.ensures
    c.if-a-le-LAST_SINGLE.false _ c.is_two.ensures c.if-is_two.false _ c.is_three.ensures c.if-is_three.false _ c.is_four.ensures c.if-is_four.true) (omega arith)

pub returns : goal.returns
returns c =
    let p = c.args in
    no-length (drop p.at p.s.now) (no_bytes p.s.now p.at _ _ _ _ c.byte_or_none-a.ensures c.byte_or_none-b.ensures c.byte_or_none-c.ensures c.byte_or_none-d.ensures
    c.if-a-le-LAST_SINGLE.false _ c.is_two.ensures c.if-is_two.false _ c.is_three.ensures c.if-is_three.false _ c.is_four.ensures c.if-is_four.false)
