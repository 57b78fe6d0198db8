-- Bytes of a stream cut into packets (02, Three): the whole packets from the front, then a rest that is no whole packet, or a place where framing is lost.
use Rattle.std.specs.Prelude.{ℕ, zero, suc, List, [], ◌∷◌, ◌++◌, length, take, drop, Option, None, Some, Ok, Err}
use Rattle.h4_packets.specs.Front.{Front, front}
use Rattle.h4_packets.specs.declared.Lost.{Lost}

-- the packets, the bytes behind them that stay held, and whether framing is lost: then no byte is held
pub record Cut : Type 0 where
  pub packets : List (List ℕ)
  pub rest : List ℕ
  pub lost : Option Lost

abbrev pub ends : List ℕ → Option Lost → Cut
ends rest lost = record { packets = []; rest = rest; lost = lost }

-- one packet more in front
abbrev pub after : List ℕ → Cut → Cut
after packet c = record { packets = packet ∷ c.packets; rest = c.rest; lost = c.lost }

-- by what stands at the front of s; `later` is what follows a packet of so many bytes
abbrev pub cut_by : Front → List ℕ → (ℕ → Cut) → Cut
cut_by (Ok None) s later = ends s None
cut_by (Ok (Some n)) s later = after (take n s) (later n)
cut_by (Err lost) s later = ends [] (Some lost)

-- at most so many packets
unfoldable pub cutting : ℕ → List ℕ → Cut
cutting zero s = ends s None
cutting (suc n) s = cut_by (front s) s (λ k. cutting n (drop k s))

-- never more packets than bytes
abbrev pub cut : List ℕ → Cut
cut s = cutting (length s) s

-- packets end to end
unfoldable pub joined : List (List ℕ) → List ℕ
joined [] = []
joined (p ∷ ps) = p ++ joined ps
