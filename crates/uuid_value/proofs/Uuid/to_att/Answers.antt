use Prim.Native.Nat.{◌^◌, ◌<◌}
use mathlib.Core.Path.{◌∙◌}
use native.Mathlib.Omega.{arith}
use Rattle.bytes_base.specs.Bytes.{le_bytes}
use Rattle.bytes_numbers.proofs.Numbers.{bytes-eight}
use Rattle.uuid_value.specs.Value.{num, Short}
use Rattle.uuid_value.proofs.Laws.{not_low, not-high, not-small, write_two, write-sixteen}
use Rattle.uuid_value.proofs.Uuid.to_att.Goals as goal
use Rattle.uuid_value.proofs.Uuid.to_att.Goals.{else-self-eq-BASE_LOW-via-then-self-eq-BASE_LOW+then-self-eq-BASE_HIGH+else-v-lt-SHORT_END, else-self-eq-BASE_LOW-via-then-self-eq-BASE_LOW+else-self-eq-BASE_HIGH, else-self-eq-BASE_LOW-via-else-self-eq-BASE_LOW}

pub returns-then-v-lt-SHORT_END : goal.returns-then-v-lt-SHORT_END
unfolding le_bytes
returns-then-v-lt-SHORT_END c =
    let u = c.args.self in
    write_two u (omega arith) c.copy_from_slice.new.self c.if-self-eq-BASE_LOW.true c.if-self-eq-BASE_HIGH.true c.if-v-lt-SHORT_END.true (c.copy_from_slice.ensures.after ∙ c.to_le_bytes.ensures)

pub returns : goal.returns
returns c =
    let u = c.args.self in
    let h : u.low < 2 ^ 64 = omega arith in
    let k : u.high < 2 ^ 64 = omega arith in
    let n : Short (num u) → ⊥
    = elim c.else-self-eq-BASE_LOW.branch [ else-self-eq-BASE_LOW-via-then-self-eq-BASE_LOW+then-self-eq-BASE_HIGH+else-v-lt-SHORT_END w ↦ not-small u h w.if-v-lt-SHORT_END.false | else-self-eq-BASE_LOW-via-then-self-eq-BASE_LOW+else-self-eq-BASE_HIGH w ↦ not-high u h w.if-self-eq-BASE_HIGH.false | else-self-eq-BASE_LOW-via-else-self-eq-BASE_LOW w ↦ not_low u h w.if-self-eq-BASE_LOW.false ] in
    write-sixteen u h c.copy_from_slice-2.new.self c.copy_from_slice-3.new.self n
    (c.copy_from_slice-2.ensures.after ∙ c.to_le_bytes-2.ensures ∙ bytes-eight u.low h)
    (c.copy_from_slice-3.ensures.after ∙ c.to_le_bytes-3.ensures ∙ bytes-eight u.high k)
