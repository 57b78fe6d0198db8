-- The plan of the lent store (01, 'Sizes': 65 x 244, 64 x 246, 32 x 244, 251, 64 x 62): its parts lie one behind another and fill it, the blocks of a
-- part lie in it and apart, and the places of Sizes.antt are where these blocks start. So a place, which follows from a position below its
-- count, is inside its part and overlaps no other (01, "Fit means", second clause).
use Rattle.std.specs.Prelude.{ℕ, zero, suc, ◌+◌, ◌*◌, ◌≤◌, ◌<◌, ◌≡◌, refl, List, [], ◌∷◌, length, get_or}
use Rattle.std.proofs.Common.{mul-suc, mul-le-mul_left, arith}
use Rattle.state_places.specs.Sizes.{most_steps, most_results, most_reports, most_notifications, value_size, result_size, frame_size, data_size, store_size, output_size, running_at, waiting_at, result_at, notification_at, held_at, report_at, response_at}

-- a part of the store: where it starts, the bytes of each block, how many blocks
pub record Part : Type 0 where
  pub start : ℕ
  pub size : ℕ
  pub blocks : ℕ

-- the running step's value, then those of the waiting steps
abbrev pub step_values : Part
step_values = record { start = 0; size = value_size; blocks = 1 + most_steps }

abbrev pub result_values : Part
result_values = record { start = 15860; size = result_size; blocks = most_results }

abbrev pub notification_values : Part
notification_values = record { start = 31604; size = value_size; blocks = most_notifications }

abbrev pub held_frame : Part
held_frame = record { start = 39412; size = frame_size; blocks = 1 }

-- of each report: its advertising data, then its scan response
abbrev pub reports : Part
reports = record { start = 39663; size = data_size + data_size; blocks = most_reports }

abbrev pub plan : List Part
plan = step_values ∷ result_values ∷ notification_values ∷ held_frame ∷ reports ∷ []

-- where block i starts
abbrev pub block : Part → ℕ → ℕ
block p i = p.start + p.size * i

-- one past its last byte
abbrev pub end : Part → ℕ
end p = block p p.blocks

-- byte n is one of the part's; of its block i
pub record In (p : Part) (n : ℕ) : Type 0 where
  pub from : p.start ≤ n
  pub below : n < end p

pub record InBlock (p : Part) (i n : ℕ) : Type 0 where
  pub from : block p i ≤ n
  pub below : n < block p i + p.size

-- each part starts where the one before it ends, the first at a; the last ends at e
abbrev pub Abut : ℕ → List Part → ℕ → Type 0
Abut a [] e = a ≡ e
Abut a (p ∷ ps) e = (p.start ≡ a) × Abut (end p) ps e

-- ---- the parts

pub abut : Abut 0 plan store_size
abut = (refl, (refl, (refl, (refl, (refl, refl)))))

abbrev pub nowhere : Part
nowhere = record { start = 0; size = 0; blocks = 0 }

-- no byte is in two parts
pub apart : (i j n : ℕ) → i < j → j < length plan → In (get_or plan i nowhere) n → In (get_or plan j nowhere) n → ⊥
apart i j n = go 0 plan abut i j
  where
    since : (a : ℕ) (ps : List Part) → Abut a ps store_size → (k : ℕ) → k < length ps → In (get_or ps k nowhere) n → a ≤ n
    since a [] t k h x = absurd (omega arith)
    since a (p ∷ ps) t zero h x = omega (arith, t.0, x.from)
    since a (p ∷ ps) t (suc k) h x = omega (arith, t.0, since (end p) ps t.1 k (omega arith) x)

    go : (a : ℕ) (ps : List Part) → Abut a ps store_size → (k l : ℕ) → k < l → l < length ps → In (get_or ps k nowhere) n → In (get_or ps l nowhere) n → ⊥
    go a [] t k l h g x y = omega arith
    go a (p ∷ ps) t k zero h g x y = omega arith
    go a (p ∷ ps) t zero (suc l) h g x y = omega (arith, x.below, since (end p) ps t.1 l (omega arith) y)
    go a (p ∷ ps) t (suc k) (suc l) h g x y = go (end p) ps t.1 k l (omega arith) (omega arith) x y

-- ---- the blocks of any part

-- each lies in it
pub block_in : (p : Part) (i n : ℕ) → i < p.blocks → InBlock p i n → In p n
block_in p i n h x =
    let s : p.size * suc i ≡ p.size * i + p.size = mul-suc p.size i in
    let m : p.size * suc i ≤ p.size * p.blocks = mul-le-mul_left p.size (omega arith) in
    record { from = omega (arith, x.from); below = omega (arith, x.below, s, m) }

-- no byte is in two of them
pub blocks-apart : (p : Part) (i j n : ℕ) → i < j → InBlock p i n → InBlock p j n → ⊥
blocks-apart p i j n h x y =
    let s : p.size * suc i ≡ p.size * i + p.size = mul-suc p.size i in
    let m : p.size * suc i ≤ p.size * j = mul-le-mul_left p.size h in
    omega (arith, x.below, y.from, s, m)

-- ---- the places that the code computes

pub running-block : running_at ≡ block step_values 0
running-block = refl

pub waiting-block : (i : ℕ) → waiting_at i ≡ block step_values (1 + i)
waiting-block i = omega arith

pub result-block : (i : ℕ) → result_at i ≡ block result_values i
result-block i = refl

pub notification-block : (i : ℕ) → notification_at i ≡ block notification_values i
notification-block i = refl

pub held-block : held_at ≡ block held_frame 0
held-block = refl

pub report-block : (i : ℕ) → report_at i ≡ block reports i
report-block i = refl

-- the scan response takes the rest of its report's block
pub response-block : (i : ℕ) → (response_at i ≡ report_at i + data_size) × (response_at i + data_size ≡ block reports i + reports.size)
response-block i = (omega arith, omega arith)

-- ---- the output: a frame for the running step and for each that waits

pub output-frames : output_size ≡ (1 + most_steps) * frame_size
output-frames = refl
