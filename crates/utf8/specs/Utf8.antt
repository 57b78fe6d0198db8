-- Well-formed UTF-8: the Unicode Standard, Table 3-7 (well-formed UTF-8 byte sequences).
use Rattle.std.specs.Prelude.{ℕ, zero, suc, List, [], ◌∷◌, Bool, true, false, ◌&&◌, ◌||◌, length, drop, eqb}
use Rattle.bytes_base.specs.Choice.{pick, within}

-- the bytes that may stand at a place of a sequence, both ends included
pub record Range : Type 0 where
  pub from : ℕ
  pub to : ℕ

abbrev pub range : ℕ → ℕ → Range
range a b = record { from = a; to = b }

abbrev pub tail : Range
tail = range 0x80 0xBF

-- the rows of the table, a range for each byte of a sequence: of one byte, two, three and four
abbrev pub ones : List (List Range)
ones = (range 0x00 0x7F ∷ []) ∷ []

abbrev pub twos : List (List Range)
twos = (range 0xC2 0xDF ∷ tail ∷ []) ∷ []

abbrev pub threes : List (List Range)
threes =
    (range 0xE0 0xE0 ∷ range 0xA0 0xBF ∷ tail ∷ [])
    ∷ (range 0xE1 0xEC ∷ tail ∷ tail ∷ [])
    ∷ (range 0xED 0xED ∷ range 0x80 0x9F ∷ tail ∷ [])
    ∷ (range 0xEE 0xEF ∷ tail ∷ tail ∷ [])
    ∷ []

abbrev pub fours : List (List Range)
fours =
    (range 0xF0 0xF0 ∷ range 0x90 0xBF ∷ tail ∷ tail ∷ [])
    ∷ (range 0xF1 0xF3 ∷ tail ∷ tail ∷ tail ∷ [])
    ∷ (range 0xF4 0xF4 ∷ range 0x80 0x8F ∷ tail ∷ tail ∷ [])
    ∷ []

-- whether bytes begin with a sequence of the row
unfoldable pub begins : List Range → List ℕ → Bool
begins [] s = true
begins (r ∷ row) [] = false
begins (r ∷ row) (b ∷ s) = within r.from r.to b && begins row s

-- whether they begin with a sequence of one of the rows
unfoldable pub some : List (List Range) → List ℕ → Bool
some [] s = false
some (row ∷ rows) s = begins row s || some rows s

-- the length of the sequence that bytes begin with, or 0 where they begin with none
unfoldable pub sequence : List ℕ → ℕ
sequence s = pick (some ones s) 1 (pick (some twos s) 2 (pick (some threes s) 3 (pick (some fours s) 4 0)))

-- at most n sequences one after another, to the end
unfoldable pub runs : ℕ → List ℕ → Bool
runs zero s = eqb (length s) 0
runs (suc n) s = pick (eqb (length s) 0) true (pick (eqb (sequence s) 0) false (runs n (drop (sequence s) s)))

-- bytes are well-formed where they are sequences to the end: never more than there are bytes
abbrev pub utf8 : List ℕ → Bool
utf8 s = runs (length s) s
