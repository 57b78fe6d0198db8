-- What heads send, and what is told of the Battery Service (180F): rows computed by hand from 02, Five, as one table under one claim.
use Rattle.std.specs.Prelude.{ℕ, ◌≡◌, refl, List, [], ◌∷◌, Bool, true, ◌&&◌, replicate, eqb}
use Rattle.bytes_base.specs.Choice.{among}
use Rattle.bytes_base.specs.Bytes.{le}
use Rattle.lists.specs.Cut.{chunks, entries}
use Rattle.uuid_value.specs.Value.{short}
use Rattle.adv_data.specs.Ad.{reading, width_of, uuid_of, listing}
use Rattle.adv_data.specs.Answers.{extent, stop_of, any_incomplete}
use Rattle.adv_presence.specs.declared.Presence.{Presence}
use Rattle.adv_presence.specs.declared.Presence.TheVariants.{Absent, Listed, Unknown}
use Rattle.adv_presence.specs.Presences.{presence_in, presence_number}

-- advertising data, scan response, and what they tell
pub data Row : Type 0 where
  Tells : List ℕ → List ℕ → Presence → Row

unfoldable pub table : List Row
table =
    -- ---- no scan response
    -- a complete list that has it; one that does not; nothing at all
    Tells (0x03 ∷ 0x03 ∷ 0x0F ∷ 0x18 ∷ []) [] Listed
    ∷ Tells (0x03 ∷ 0x03 ∷ 0x0A ∷ 0x18 ∷ []) [] Absent
    ∷ Tells [] [] Absent
    -- each cause alone: an incomplete list of 2, 4 or 16 bytes each
    ∷ Tells (0x03 ∷ 0x02 ∷ 0x0A ∷ 0x18 ∷ []) [] Unknown
    ∷ Tells (0x05 ∷ 0x04 ∷ 0x0A ∷ 0x18 ∷ 0x00 ∷ 0x00 ∷ []) [] Unknown
    ∷ Tells (0x11 ∷ 0x06 ∷ replicate 16 0x00) [] Unknown
    -- and an overrun: 5 bytes are to follow, and 3 do
    ∷ Tells (0x05 ∷ 0x03 ∷ 0x0A ∷ 0x18 ∷ []) [] Unknown
    -- a length with no kind behind it is an overrun
    ∷ Tells (0x01 ∷ []) [] Unknown
    -- an incomplete list with nothing in it was read all the same
    ∷ Tells (0x01 ∷ 0x02 ∷ []) [] Unknown
    -- a zero length is no overrun, and what follows it is not read
    ∷ Tells (0x00 ∷ 0x03 ∷ 0x02 ∷ 0x0A ∷ 0x18 ∷ []) [] Absent
    ∷ Tells (0x03 ∷ 0x02 ∷ 0x0A ∷ 0x18 ∷ 0x00 ∷ 0x03 ∷ 0x03 ∷ 0x0F ∷ 0x18 ∷ []) [] Unknown
    -- an incomplete list behind the match, and one before it
    ∷ Tells (0x03 ∷ 0x03 ∷ 0x0F ∷ 0x18 ∷ 0x03 ∷ 0x02 ∷ 0x0A ∷ 0x18 ∷ []) [] Listed
    ∷ Tells (0x03 ∷ 0x02 ∷ 0x0A ∷ 0x18 ∷ 0x03 ∷ 0x03 ∷ 0x0F ∷ 0x18 ∷ []) [] Listed
    -- ---- with one
    ∷ Tells (0x03 ∷ 0x02 ∷ 0x0A ∷ 0x18 ∷ []) (0x03 ∷ 0x03 ∷ 0x0F ∷ 0x18 ∷ []) Listed
    ∷ Tells (0x03 ∷ 0x03 ∷ 0x0A ∷ 0x18 ∷ []) (0x03 ∷ 0x02 ∷ 0x0A ∷ 0x18 ∷ []) Unknown
    ∷ Tells (0x03 ∷ 0x02 ∷ 0x0A ∷ 0x18 ∷ []) (0x03 ∷ 0x03 ∷ 0x0A ∷ 0x18 ∷ []) Unknown
    ∷ Tells (0x03 ∷ 0x03 ∷ 0x0A ∷ 0x18 ∷ []) (0x03 ∷ 0x03 ∷ 0x0A ∷ 0x18 ∷ []) Absent
    ∷ []

-- whether the definitions tell what a row says
abbrev pub holds : Row → Bool
holds (Tells bytes response presence) = eqb (presence_number (presence_in (short 0x180F) bytes response)) (presence_number presence)

unfoldable pub agree : List Row → Bool
agree [] = true
agree (r ∷ rs) = holds r && agree rs

pub table-holds : agree table ≡ true
unfolding agree table among le chunks entries reading width_of uuid_of listing extent stop_of any_incomplete
table-holds = refl
