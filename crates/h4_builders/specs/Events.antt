-- Codes and parameters of the events that are built: Core Vol 4 Part E 7.7.
use Rattle.std.specs.Prelude.{ℕ, zero, suc, ◌/◌, List, [], ◌∷◌, ◌++◌, length, drop, get_or}
use Rattle.bytes_base.specs.Bytes.{le_bytes}

-- 7.7.14, Command Complete: Num_HCI_Command_Packets, Command_Opcode, Return_Parameters
abbrev pub code_command_complete : ℕ
code_command_complete = 0x0E

abbrev pub command_complete : ℕ → ℕ → List ℕ → List ℕ
command_complete num opcode returned = num ∷ (le_bytes 2 opcode ++ returned)

-- 7.7.15, Command Status: Status, Num_HCI_Command_Packets, Command_Opcode
abbrev pub code_command_status : ℕ
code_command_status = 0x0F

abbrev pub command_status : ℕ → ℕ → ℕ → List ℕ
command_status num status opcode = status ∷ (num ∷ le_bytes 2 opcode)

-- 7.7.19, Number Of Completed Packets: Num_Handles, Connection_Handle[i], Num_Completed_Packets[i]
abbrev pub code_completed_packets : ℕ
code_completed_packets = 0x13

-- of a list of handles and counts by turns: n handles, each followed by its count (5.2, arrayed parameters)
unfoldable pub pair_bytes : ℕ → List ℕ → List ℕ
pair_bytes zero pairs = []
pair_bytes (suc n) pairs = le_bytes 2 (get_or pairs 0 0) ++ (le_bytes 2 (get_or pairs 1 0) ++ pair_bytes n (drop 2 pairs))

-- each of a list of numbers in two bytes
unfoldable pub number_bytes : List ℕ → List ℕ
number_bytes [] = []
number_bytes (v ∷ numbers) = le_bytes 2 v ++ number_bytes numbers

-- an odd last number is no pair and is left out
unfoldable pub completed_packets : List ℕ → List ℕ
completed_packets pairs = le_bytes 1 (length pairs / 2) ++ pair_bytes (length pairs / 2) pairs

-- 7.7.65, LE Meta: Subevent_Code, and the subevent's parameters
abbrev pub code_le_meta : ℕ
code_le_meta = 0x3E

abbrev pub le_meta : ℕ → List ℕ → List ℕ
le_meta subevent params = subevent ∷ params
