use Rattle.words.specs.Tables.{characteristics_in}
use Rattle.words_characteristic.proofs.ScanLaws.{Scanned}
use Rattle.words_characteristic.proofs.descriptor_range.Given as goal

abbrev pub invariant-loop-i : goal.invariant-loop-i
invariant-loop-i l = Scanned l.start l.end l.from (characteristics_in l.tables) l.count l.i l.s
