-- Fixed channels of an LE-U link, Core Vol 3 Part A 2.1.
use Rattle.std.specs.Prelude.{ℕ}

abbrev pub cid_att : ℕ
cid_att = 0x0004

abbrev pub cid_signaling : ℕ
cid_signaling = 0x0005

abbrev pub cid_smp : ℕ
cid_smp = 0x0006
