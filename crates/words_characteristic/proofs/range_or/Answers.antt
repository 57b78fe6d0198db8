use borrow.Author.Tests.{lt-ltb, le-ltb, le-leb, lt-leb}
use Rattle.words_characteristic.proofs.range_or.Goals as goal

pub returns-then-from-to : goal.returns-then-from-to
returns-then-from-to c = simp (lt-ltb _ _ c.if-value-lt-LAST_HANDLE.true, lt-ltb _ _ c.if-after-from.true, le-leb _ _ c.if-from-to.true)

pub returns-then-after-from : goal.returns-then-after-from
returns-then-after-from c = simp (lt-ltb _ _ c.if-value-lt-LAST_HANDLE.true, lt-ltb _ _ c.if-after-from.true, lt-leb _ _ c.if-from-to.false)

pub returns-then-after-to : goal.returns-then-after-to
returns-then-after-to c = simp (lt-ltb _ _ c.if-value-lt-LAST_HANDLE.true, le-ltb _ _ c.if-after-from.false, le-leb _ _ c.if-after-to.true)

pub returns-then-value-lt-LAST_HANDLE : goal.returns-then-value-lt-LAST_HANDLE
returns-then-value-lt-LAST_HANDLE c = simp (lt-ltb _ _ c.if-value-lt-LAST_HANDLE.true, le-ltb _ _ c.if-after-from.false, lt-leb _ _ c.if-after-to.false)

pub returns : goal.returns
returns c = simp (le-ltb _ _ c.if-value-lt-LAST_HANDLE.false)
