use Rattle.std.proofs.Common.{◌≡◌, ◌∙◌, ◌+◌, ◌-◌, ◌++◌, length, drop, length-append, length-drop, arith, rules, Err}
use lib.Seq.{get_or-drop}
use Rattle.h4_packets.proofs.LengthLaws.{packet-empty, packet-unnamed, packet-short, packet-told}
use Rattle.h4_packets.proofs.packet_len.Goals as goal

pub returns-then-there-eq0 : goal.returns-then-there-eq0
returns-then-there-eq0 c = packet-empty _ (simp (length-drop, length-append) (omega arith))

pub returns-in_err-indicator : goal.returns-in_err-indicator
returns-in_err-indicator c =
    let a = c.args in
    let s = drop a.at (a.first.now ++ a.rest.now) in
    let l : length s ≡ length a.first.now + length a.rest.now - a.at = simp (length-drop, length-append) in
    let e : c.from_residual.result ≡ Err c.in_err-indicator.field-0.0 = search rules in
    e ∙ packet-unnamed s (λ z. omega arith) c.byte_at.result (search (rules, get_or-drop)) _ c.in_err-indicator.ensures

pub returns-then-there-header : goal.returns-then-there-header
returns-then-there-header c =
    let a = c.args in
    let s = drop a.at (a.first.now ++ a.rest.now) in
    let l : length s ≡ length a.first.now + length a.rest.now - a.at = simp (length-drop, length-append) in
    let k = c.header_size-header.ensures in
    packet-short s (λ z. omega arith) c.byte_at.result (search (rules, get_or-drop)) _ c.in_ok-indicator.ensures _ k.value k.least (omega arith)

pub returns : goal.returns
returns c =
    let a = c.args in
    let s = drop a.at (a.first.now ++ a.rest.now) in
    let l : length s ≡ length a.first.now + length a.rest.now - a.at = simp (length-drop, length-append) in
    let k = c.header_size-header.ensures in
    packet-told s (λ z. omega arith) c.byte_at.result (search (rules, get_or-drop)) _ c.in_ok-indicator.ensures _ k.value k.least (omega arith)
    c.byte_at-before.result c.byte_at-last.result _ (search (rules, get_or-drop)) (search (rules, get_or-drop)) c.payload_size.ensures.value
