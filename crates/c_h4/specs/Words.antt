-- The words of the serial transport: what two words say of a stream, and what each call tells.
use Rattle.std.specs.Prelude.{ℕ, List, [], ◌∷◌, get_or, eqb, Option, None, Some, Result, Ok, Err}
use Rattle.bytes_base.specs.Choice.{pick}
use Rattle.h4_packets.specs.Numbers.{accepted, overheld, short_output, bad_indicator}
use Rattle.h4_packets.specs.Names.{told_number, number}
use Rattle.h4_packets.specs.Packet.{PacketLength}
use Rattle.h4_packets.specs.declared.Lost.{Lost}
use Rattle.h4_packets.specs.declared.Lost.TheVariants.{ByIndicator, ByLength}
use Rattle.h4_packets.specs.declared.Refusal.{Refusal}
use Rattle.h4_stream.specs.Feed.{refusal_of}
use Rattle.h4_stream.specs.declared.Stream.{Stream}
use Rattle.h4_stream.specs.declared.Fed.{Fed}
use Rattle.h4_acl.specs.declared.Acl.{Acl}
use Rattle.h4_acl.specs.declared.Fragment.{Fragment}

-- ---- a stream: bytes held | the refusal that each feed gets. Every word says something: 0 is none, 9 is 9, any other is 10

abbrev pub lost_in : ℕ → Option Lost
lost_in n = pick (eqb n accepted) None (Some (pick (eqb n bad_indicator) ByIndicator ByLength))

unfoldable pub stream_in : List ℕ → Stream
stream_in w = record { count = get_or w 0 0; lost = lost_in (get_or w 1 0) }

abbrev pub lost_word : Option Lost → ℕ
lost_word lost = told_number (refusal_of lost)

abbrev pub stream_words : Stream → List ℕ
stream_words s = s.count ∷ lost_word s.lost ∷ []

-- what a feed leaves of the words w: refused by 1 or 2, they stay as they are
unfoldable pub words_left : Option Refusal → Stream → List ℕ → List ℕ
words_left why s w = pick (eqb (told_number why) overheld) w (pick (eqb (told_number why) short_output) w (stream_words s))

-- ---- what is told: words without a meaning are 0

-- refusal | packets | their bytes
abbrev pub fed_words : Fed → List ℕ
fed_words a = told_number a.refusal ∷ a.packets ∷ a.len ∷ 0 ∷ []

-- refusal | bytes of the packet
abbrev pub built_words : Result ℕ Refusal → List ℕ
built_words (Ok len) = accepted ∷ len ∷ 0 ∷ 0 ∷ []
built_words (Err why) = number why ∷ 0 ∷ 0 ∷ 0 ∷ []

-- refusal | 1 if the length is known | the length | an undefined indicator
abbrev pub length_words : PacketLength → List ℕ
length_words (Ok None) = 0 ∷ 0 ∷ 0 ∷ 0 ∷ []
length_words (Ok (Some n)) = 0 ∷ 1 ∷ n ∷ 0 ∷ []
length_words (Err indicator) = bad_indicator ∷ 0 ∷ 0 ∷ indicator.0 ∷ []

-- 1 if it is an ACL packet | handle | boundary flag | place of its data | length
abbrev pub parts_words : Option Acl → List ℕ
parts_words (Some acl) = 1 ∷ acl.handle ∷ acl.flag ∷ acl.place.at ∷ acl.place.len ∷ []
parts_words None = 0 ∷ 0 ∷ 0 ∷ 0 ∷ 0 ∷ []

-- 1 if there is a fragment | 1 if a frame begins | place of its bytes | length
abbrev pub fragment_words : Option Fragment → List ℕ
fragment_words (Some fragment) = 1 ∷ pick fragment.begins 1 0 ∷ fragment.place.at ∷ fragment.place.len ∷ []
fragment_words None = 0 ∷ 0 ∷ 0 ∷ 0 ∷ []
