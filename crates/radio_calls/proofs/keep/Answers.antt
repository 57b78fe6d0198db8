use Rattle.radio_calls.proofs.KeptLaws.{keeps-law}
use Rattle.radio_calls.proofs.keep.Goals as goal

pub put_line-requires : goal.put_line-requires
put_line-requires c =
    let narrow = c.narrow-len in
    let answer = c.kept_response-response in
    (rw narrow.ensures c.requires.1, answer.ensures.1)

pub returns : goal.returns
returns c =
    let a = c.args in
    let pre = c.requires in
    let found = c.find_report-i in
    let answer = c.kept_response-response in
    let narrow = c.narrow-len in
    let line = c.put_line in
    let block = c.put_block in
    let count = c.counted-more in
    let last = c.last_place-place in
    keeps-law a.tables.now _ a.count a.key found.result answer.result narrow.result a.at a.channel a.pdu a.«data».now
    found.ensures.0 found.ensures.1 pre.0 answer.ensures.0 narrow.ensures line.ensures
    _ _ _ _ block.ensures count.ensures last.ensures
