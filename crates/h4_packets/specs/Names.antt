-- The names that the code has for the numbers of the serial transport: packet indicators (Core Vol 4 Part A 2) and refusals (02, Three).
use Rattle.std.specs.Prelude.{ℕ, eqb, Option, None, Some, Result, Ok, Err}
use Rattle.bytes_base.specs.Choice.{pick}
use Rattle.h4_packets.specs.Numbers.{command, acl, sco, event, iso, accepted, overheld, short_output, bad_indicator, long_packet}
use Rattle.h4_packets.specs.declared.Indicator.{Indicator}
use Rattle.h4_packets.specs.declared.Indicator.TheVariants.{Command, Acl, Sco, Event, Iso}
use Rattle.h4_packets.specs.declared.UndefinedIndicator.{UndefinedIndicator}
use Rattle.h4_packets.specs.declared.Lost.{Lost}
use Rattle.h4_packets.specs.declared.Lost.TheVariants.{ByIndicator, ByLength}
use Rattle.h4_packets.specs.declared.Refusal.{Refusal}
use Rattle.h4_packets.specs.declared.Refusal.TheVariants.{Overheld, ShortOutput, BadIndicator, LongPacket}

-- ---- indicators

-- the byte that stands for an indicator
abbrev pub code : Indicator → ℕ
code Command = command
code Acl = acl
code Sco = sco
code Event = event
code Iso = iso

abbrev pub undefined : ℕ → UndefinedIndicator
undefined byte = record { 0 = byte }

-- the indicator that a byte stands for
abbrev pub named : ℕ → Result Indicator UndefinedIndicator
named byte =
    pick (eqb byte command) (Ok Command)
    (pick (eqb byte acl) (Ok Acl)
    (pick (eqb byte sco) (Ok Sco)
    (pick (eqb byte event) (Ok Event)
    (pick (eqb byte iso) (Ok Iso)
    (Err (undefined byte))))))

-- ---- refusals

abbrev pub number : Refusal → ℕ
number Overheld = overheld
number ShortOutput = short_output
number BadIndicator = bad_indicator
number LongPacket = long_packet

-- 0 is none
abbrev pub told_number : Option Refusal → ℕ
told_number None = accepted
told_number (Some refusal) = number refusal

-- 02: 9 bad indicator, 10 packet too long
abbrev pub refusal_by : Lost → Refusal
refusal_by ByIndicator = BadIndicator
refusal_by ByLength = LongPacket
