-- Requests and commands: what a client sends of its own accord (Core Vol 3 Part F 3.3, 3.4.8). Responses and confirmations are neither.
use Rattle.std.specs.Prelude.{ℕ, Bool, ◌&&◌, ◌||◌, List, [], ◌∷◌, get_or, eqb}
use Rattle.bytes_base.specs.Choice.{among}
use Rattle.l2cap.specs.Numbers.{cid_att}

abbrev pub requests : List ℕ
requests = 0x02 ∷ 0x04 ∷ 0x06 ∷ 0x08 ∷ 0x0A ∷ 0x0C ∷ 0x0E ∷ 0x10 ∷ 0x12 ∷ 0x16 ∷ 0x18 ∷ 0x20 ∷ []

abbrev pub commands : List ℕ
commands = 0x52 ∷ 0xD2 ∷ []

-- whether a payload on a channel is one of them
abbrev pub initiates : ℕ → List ℕ → Bool
initiates channel payload = eqb channel cid_att && (among (get_or payload 0 0) requests || among (get_or payload 0 0) commands)
