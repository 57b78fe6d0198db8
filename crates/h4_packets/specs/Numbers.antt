-- Numbers of the serial transport: packet indicators (Core Vol 4 Part A 2), refusals and the longest packet (02, Three).
use Rattle.std.specs.Prelude.{ℕ}

-- ---- packet indicators

abbrev pub command : ℕ
command = 1

abbrev pub acl : ℕ
acl = 2

abbrev pub sco : ℕ
sco = 3

abbrev pub event : ℕ
event = 4

abbrev pub iso : ℕ
iso = 5

-- ---- refusals, in order of test

abbrev pub accepted : ℕ
accepted = 0

-- more than 1,024 bytes are held
abbrev pub overheld : ℕ
overheld = 1

-- the output is too short
abbrev pub short_output : ℕ
short_output = 2

abbrev pub bad_indicator : ℕ
bad_indicator = 9

abbrev pub long_packet : ℕ
long_packet = 10

-- ---- sizes

-- the longest packet that a stream takes, indicator and header counted, and the most bytes that it holds
abbrev pub longest : ℕ
longest = 1024
