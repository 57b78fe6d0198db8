use native.Mathlib.Omega.{arith}
use borrow.Author.Tests.{le-leb, lt-leb}
use Rattle.adv_data.specs.Ad.{width_of}
use Rattle.adv_data.proofs.width_of.Goals as goal

pub returns-in-2 : goal.returns-in-2
unfolding width_of
returns-in-2 c =
    let k = c.args.kind in
    (simp (le-leb 2 k (omega arith), le-leb k 3 (omega arith)), omega arith)

pub returns-in-4 : goal.returns-in-4
unfolding width_of
returns-in-4 c =
    let k = c.args.kind in
    (simp (le-leb 2 k (omega arith), lt-leb k 3 (omega arith), le-leb 4 k (omega arith), le-leb k 5 (omega arith)), omega arith)

pub returns-in-6 : goal.returns-in-6
unfolding width_of
returns-in-6 c =
    let k = c.args.kind in
    (simp (le-leb 2 k (omega arith), lt-leb k 3 (omega arith), le-leb 4 k (omega arith), lt-leb k 5 (omega arith), le-leb 6 k (omega arith), le-leb k 7 (omega arith)), omega arith)

pub returns-in_default : goal.returns-in_default
unfolding width_of
returns-in_default c =
    let k = c.args.kind in
    simp (lt-leb 2 k (omega arith), lt-leb 4 k (omega arith), lt-leb 6 k (omega arith))

pub returns-in_default-2 : goal.returns-in_default-2
unfolding width_of
returns-in_default-2 c =
    let k = c.args.kind in
    simp (le-leb 2 k (omega arith), lt-leb k 3 (omega arith), le-leb 4 k (omega arith), lt-leb k 5 (omega arith), le-leb 6 k (omega arith), lt-leb k 7 (omega arith))
