use native.Mathlib.Omega.{arith}
use Rattle.words_report.proofs.ReportLaws.{word_read}
use Rattle.words_report.proofs.word_of.Goals as goal

pub returns : goal.returns
returns c =
    let args-x = c.args.x in
    let response-bits-result = c.response_bits-response.result in
    let pre-0 = c.requires.0 in
    let pre-1 = c.requires.1 in
    let response-bits-ensures-0 = c.response_bits-response.ensures.value in
    rw (c.from-channel.ensures, c.from-pdu.ensures, c.from-len.ensures) (word_read args-x response-bits-result (omega arith) (omega arith) pre-0 pre-1 response-bits-ensures-0)
