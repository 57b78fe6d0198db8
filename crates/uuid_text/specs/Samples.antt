-- The rule at work: that the definition says what is meant.
use Rattle.std.specs.Prelude.{◌≡◌, refl, [], ◌∷◌, replicate, Some, None}
use Rattle.uuid_value.specs.Value.{short_of, of_num}
use Rattle.uuid_text.specs.Text.{digit_of, all_digits, value_of, unsigned, pairs, all_numbers, bytes_of, short_uuid, long_uuid, plain, parse_uuid}

-- 180F
pub short : parse_uuid (0x31 ∷ 0x38 ∷ 0x30 ∷ 0x46 ∷ []) ≡ Some (short_of 0x180F)
unfolding parse_uuid short_uuid plain all_digits value_of unsigned digit_of
short = refl

-- 1-80-f
pub hyphens : parse_uuid (0x31 ∷ 0x2D ∷ 0x38 ∷ 0x30 ∷ 0x2D ∷ 0x66 ∷ []) ≡ Some (short_of 0x180F)
unfolding parse_uuid short_uuid plain all_digits value_of unsigned digit_of
hyphens = refl

-- +80F, as Rust reads it
pub plus : parse_uuid (0x2B ∷ 0x38 ∷ 0x30 ∷ 0x46 ∷ []) ≡ Some (short_of 0x080F)
unfolding parse_uuid short_uuid plain all_digits value_of unsigned digit_of
plus = refl

-- 8+0F
pub plus-inside : parse_uuid (0x38 ∷ 0x2B ∷ 0x30 ∷ 0x46 ∷ []) ≡ None
unfolding parse_uuid short_uuid plain all_digits value_of unsigned digit_of
plus-inside = refl

-- 180
pub three : parse_uuid (0x31 ∷ 0x38 ∷ 0x30 ∷ []) ≡ None
unfolding parse_uuid plain
three = refl

-- 0000180F-0000-1000-8000-00805f9b34fb
pub long : parse_uuid
    (0x30 ∷ 0x30 ∷ 0x30 ∷ 0x30 ∷ 0x31 ∷ 0x38 ∷ 0x30 ∷ 0x46 ∷ 0x2D ∷ 0x30 ∷ 0x30 ∷ 0x30 ∷ 0x30 ∷ 0x2D ∷ 0x31 ∷ 0x30 ∷ 0x30 ∷ 0x30 ∷ 0x2D ∷ 0x38 ∷ 0x30 ∷ 0x30 ∷ 0x30 ∷ 0x2D ∷ 0x30 ∷ 0x30 ∷ 0x38 ∷ 0x30 ∷ 0x35 ∷ 0x66 ∷ 0x39 ∷ 0x62 ∷ 0x33 ∷ 0x34 ∷ 0x66 ∷ 0x62 ∷ [])
    ≡ Some (short_of 0x180F)
unfolding parse_uuid long_uuid plain pairs all_numbers bytes_of all_digits value_of unsigned digit_of
long = refl

-- 32 zeros with no hyphen: 32 bytes, not 36
pub bare : parse_uuid (replicate 32 0x30) ≡ None
unfolding parse_uuid plain
bare = refl

-- 16 pairs "+1" with 4 hyphens in front, as Rust reads it
pub plus-pairs : parse_uuid (0x2D ∷ 0x2D ∷ 0x2D ∷ 0x2D ∷ 0x2B ∷ 0x31 ∷ 0x2B ∷ 0x31 ∷ 0x2B ∷ 0x31 ∷ 0x2B ∷ 0x31 ∷ 0x2B ∷ 0x31 ∷ 0x2B ∷ 0x31 ∷ 0x2B ∷ 0x31 ∷ 0x2B ∷ 0x31 ∷ 0x2B ∷ 0x31 ∷ 0x2B ∷ 0x31 ∷ 0x2B ∷ 0x31 ∷ 0x2B ∷ 0x31 ∷ 0x2B ∷ 0x31 ∷ 0x2B ∷ 0x31 ∷ 0x2B ∷ 0x31 ∷ 0x2B ∷ 0x31 ∷ []) ≡ Some (of_num 0x0101_0101_0101_0101_0101_0101_0101_0101)
unfolding parse_uuid long_uuid plain pairs all_numbers bytes_of all_digits value_of unsigned digit_of
plus-pairs = refl
