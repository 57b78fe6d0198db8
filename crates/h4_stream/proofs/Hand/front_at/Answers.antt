use Rattle.std.proofs.Common.{◌≡◌, ◌∙◌, ◌-◌, ◌≤◌, length, drop, arith, length-drop, Err}
use borrow.Author.Rules.{rules}
use Rattle.h4_packets.proofs.FrontLaws.{front-unnamed, front-unknown, front_long, front-part, front-whole}
use Rattle.h4_packets.specs.declared.Lost.TheVariants.{ByIndicator}
use Rattle.h4_stream.specs.Hand.{bytes_of}
use Rattle.h4_stream.proofs.Hand.front_at.Goals as goal

pub returns-in_err-size : goal.returns-in_err-size
returns-in_err-size c =
    let s = drop c.args.at (bytes_of c.args.self) in
    let e : c.from_residual.result ≡ Err ByIndicator = search rules in
    e ∙ front-unnamed s _ c.in_err-size.ensures

pub returns-in-Some : goal.returns-in-Some
returns-in-Some c =
    let s = drop c.args.at (bytes_of c.args.self) in
    front_long s _ (rw c.in-Some.is at c.in_ok-size.ensures) c.if-n-gt-LONGEST.true

pub returns-in-Some-2 : goal.returns-in-Some-2
returns-in-Some-2 c =
    let s = drop c.args.at (bytes_of c.args.self) in
    let l : length s ≡ c.len.result - c.args.at = simp length-drop (omega arith) in
    let e : c.in-Some-2.n ≡ c.in-Some.n = cc in
    let fits : c.in-Some-2.n ≤ 1024 = omega arith in
    front-whole s _ (rw c.in-Some-2.is at c.in_ok-size.ensures) fits (rw l c.if-n-left.true)

pub returns-in_default : goal.returns-in_default
returns-in_default c =
    let s = drop c.args.at (bytes_of c.args.self) in
    let l : length s ≡ c.len.result - c.args.at = simp length-drop (omega arith) in
    let e : c.in-Some-2.n ≡ c.in-Some.n = cc in
    let fits : c.in-Some-2.n ≤ 1024 = omega arith in
    front-part s _ (rw c.in-Some-2.is at c.in_ok-size.ensures) fits (rw l c.if-n-left.false)

pub returns-in_default-2 : goal.returns-in_default-2
returns-in_default-2 c =
    let s = drop c.args.at (bytes_of c.args.self) in
    front-unknown s (rw c.in_default.is at c.in_ok-size.ensures)
