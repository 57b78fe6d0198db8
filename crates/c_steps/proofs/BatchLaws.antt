-- A step, and the loop over the places.
use Prim.Native.Nat.{ℕ, ◌+◌, ◌*◌, ◌%◌, ◌<◌}
use mathlib.Core.Path.{◌≡◌, sym, ap, ◌∙◌}
use mathlib.Core.Bool.{Bool}
use mathlib.Core.List.{List}
use native.Mathlib.Numerals.{add-one}
use native.Mathlib.Omega.{arith}
use lib.ListN.{length, get_or, set, take}
use lib.Seq.{take-suc, take-suc-set, take_all}
use Rattle.state.specs.declared.Step.{Step}
use Rattle.state.specs.declared.Step.TheVariants.{Scan}
use Rattle.words.specs.declared.Flat.{Flat}
use Rattle.words.specs.Words.{two16, two32, step_of}
use Rattle.words.proofs.TableLaws.{table-length, table_at}
use Rattle.script_rules.specs.declared.Placed.{Placed}
use Rattle.script_rules.specs.declared.Batch.{Batch}
use Rattle.c_core.specs.Layout.{flag_in}
use Rattle.c_steps.specs.Steps.{step_size, flat_at, placed_at, places_in, batch_in}

pub flat-law : (w : List ℕ) (j kind ms size low high aim latency timeout interval : ℕ) (flag : Bool) → kind ≡ get_or w j 0 % 256 → flag ≡ flag_in (get_or w (j + 1) 0)
    → ms ≡ get_or w (j + 2) 0 % two32 → size ≡ get_or w (j + 3) 0 % two16 → low ≡ get_or w (j + 4) 0 → high ≡ get_or w (j + 5) 0 → aim ≡ get_or w (j + 6) 0 % 256
    → latency ≡ get_or w (j + 7) 0 % two16 → timeout ≡ get_or w (j + 8) 0 % two16 → interval ≡ get_or w (j + 9) 0 % two16
    → ◌≡◌ {A = Flat} (record { kind = kind; flag = flag; ms = record { 0 = ms }; size = size; uuid = record { low = low; high = high }; aim = aim; latency = latency; timeout = timeout; interval = interval }) (flat_at w j)
flat-law w j kind ms size low high aim latency timeout interval flag e₀ e₁ e₂ e₃ e₄ e₅ e₆ e₇ e₈ e₉ = rw (e₀, e₁, e₂, e₃, e₄, e₅, e₆, e₇, e₈, e₉)

pub placed-law : (w : List ℕ) (j : ℕ) (f : Flat) (s : Step) (place len : ℕ) → f ≡ flat_at w j → s ≡ step_of f → place ≡ get_or w (j + 10) 0 → len ≡ get_or w (j + 11) 0
    → ◌≡◌ {A = Placed} (record { step = s; place = place; len = len }) (placed_at w j)
placed-law w j f s place len e₀ e₁ e₂ e₃ = let e : s ≡ step_of (flat_at w j) = e₁ ∙ ap step_of e₀ in rw (e, e₂, e₃)

-- ---- the places

abbrev pub no_placed : Placed
no_placed = record { step = Scan (record { 0 = 0 }); place = 0; len = 0 }

places-length : (w : List ℕ) → length (places_in w) ≡ 64
unfolding places_in
places-length w = table-length 64 (λ i. placed_at w (step_size * i))

place_at : (w : List ℕ) (i : ℕ) → i < 64 → get_or (places_in w) i no_placed ≡ placed_at w (step_size * i)
unfolding places_in
place_at w i h = table_at 64 i (λ k. placed_at w (step_size * k)) no_placed h

-- one place more is read
pub read-on : (w : List ℕ) (a : List Placed) (i : ℕ) (x : Placed) → length a ≡ 64 → i < 64 → x ≡ placed_at w (step_size * i)
    → take i a ≡ take i (places_in w) → take (i + 1) (set a i x) ≡ take (i + 1) (places_in w)
read-on w a i x g h e same =
    let y : x ≡ get_or (places_in w) i no_placed = e ∙ sym (place_at w i h) in
    rw (add-one i)
    (take-suc-set a i x (omega arith) ∙ rw (same, y) (sym (take-suc (places_in w) i no_placed (omega (arith, places-length w)))))

-- all are
pub read_all : (w : List ℕ) (a : List Placed) (i count : ℕ) → length a ≡ 64 → i ≡ 64 → take i a ≡ take i (places_in w)
    → ◌≡◌ {A = Batch} (record { steps = a; count = count }) (batch_in w count)
read_all w a i count g h same =
    let l : take i a ≡ a = take_all i a (omega arith) in
    let r : take i (places_in w) ≡ places_in w = take_all i (places_in w) (omega (arith, places-length w)) in
    let e : a ≡ places_in w = sym l ∙ same ∙ r in
    ap (λ (x : List Placed). record { steps = x; count = count }) e
