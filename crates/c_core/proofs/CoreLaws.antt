-- What each return asks, from what the callees ensure.
use Prim.Native.Nat.{ℕ, ◌%◌}
use mathlib.Core.Path.{◌≡◌, refl, ap, ◌∙◌}
use mathlib.Core.List.{List}
use lib.ListN.{get_or, set, replicate}
use Rattle.state.specs.Fresh.{no_options}
use Rattle.state.specs.declared.Running.{Running}
use Rattle.words.specs.declared.Flat.{Flat}
use Rattle.words.specs.Words.{two16, two32, step_of}
use Rattle.state_core.specs.declared.Core.{Core}
use Rattle.state_core.specs.Fresh.{fresh_core}
use Rattle.c_core.specs.Layout.{core_size, flag_in, flat_in, running_in, bearer_in, counters_in, counts_in, options_in, core_in}

-- ---- words that say a core

flat-law : (w : List ℕ) (f : Flat) → get_or w 7 0 % 256 ≡ f.kind → flag_in (get_or w 8 0) ≡ f.flag → get_or w 9 0 % two32 ≡ f.ms.0
    → get_or w 10 0 % two16 ≡ f.size → get_or w 11 0 ≡ f.uuid.low → get_or w 12 0 ≡ f.uuid.high → get_or w 13 0 % 256 ≡ f.aim
    → get_or w 14 0 % two16 ≡ f.latency → get_or w 15 0 % two16 ≡ f.timeout → get_or w 16 0 % two16 ≡ f.interval
    → flat_in w ≡ f
flat-law w f e₀ e₁ e₂ e₃ e₄ e₅ e₆ e₇ e₈ e₉ = rw (e₀, e₁, e₂, e₃, e₄, e₅, e₆, e₇, e₈, e₉)

running-law : (w : List ℕ) (r : Running) → step_of (flat_in w) ≡ r.step
    → get_or w 0 0 ≡ r.deadline.0 → get_or w 1 0 % two32 ≡ r.index → get_or w 2 0 % two16 ≡ r.cursor
    → get_or w 3 0 % 256 ≡ r.len → get_or w 4 0 % 256 ≡ r.phase
    → flag_in (get_or w 5 0) ≡ r.active → flag_in (get_or w 6 0) ≡ r.dated
    → running_in w ≡ r
running-law w r s e₀ e₁ e₂ e₃ e₄ e₅ e₆ = rw (s, e₀, e₁, e₂, e₃, e₄, e₅, e₆)

-- f is the running step taken apart
pub core-law : (w : List ℕ) (c : Core) (f : Flat) → step_of f ≡ c.running.step
    → get_or w 0 0 ≡ c.running.deadline.0 → get_or w 1 0 % two32 ≡ c.running.index → get_or w 2 0 % two16 ≡ c.running.cursor
    → get_or w 3 0 % 256 ≡ c.running.len → get_or w 4 0 % 256 ≡ c.running.phase
    → flag_in (get_or w 5 0) ≡ c.running.active → flag_in (get_or w 6 0) ≡ c.running.dated
    → get_or w 7 0 % 256 ≡ f.kind → flag_in (get_or w 8 0) ≡ f.flag → get_or w 9 0 % two32 ≡ f.ms.0
    → get_or w 10 0 % two16 ≡ f.size → get_or w 11 0 ≡ f.uuid.low → get_or w 12 0 ≡ f.uuid.high → get_or w 13 0 % 256 ≡ f.aim
    → get_or w 14 0 % two16 ≡ f.latency → get_or w 15 0 % two16 ≡ f.timeout → get_or w 16 0 % two16 ≡ f.interval
    → bearer_in w ≡ c.bearer → counters_in w ≡ c.counters → counts_in w ≡ c.counts
    → get_or w 32 0 ≡ c.reports → get_or w 33 0 ≡ c.key_count → flag_in (get_or w 36 0) ≡ c.options.strict
    → core_in w ≡ c
unfolding core_in
core-law w c f s e₀ e₁ e₂ e₃ e₄ e₅ e₆ e₇ e₈ e₉ e₁₀ e₁₁ e₁₂ e₁₃ e₁₄ e₁₅ e₁₆ b k n r q o =
    let step : step_of (flat_in w) ≡ c.running.step = ap step_of (flat-law w f e₇ e₈ e₉ e₁₀ e₁₁ e₁₂ e₁₃ e₁₄ e₁₅ e₁₆) ∙ s in
    rw (running-law w c.running step e₀ e₁ e₂ e₃ e₄ e₅ e₆, b, k, n, r, q, o)

-- ---- words that are all 0, and all 0 but for the options

pub fresh-core : core_in (replicate core_size 0) ≡ fresh_core no_options
unfolding core_in step_of
fresh-core = refl

pub fresh-core-with : (x : ℕ) → core_in (set (replicate core_size 0) 36 x) ≡ fresh_core (options_in x)
unfolding core_in step_of
fresh-core-with x = refl
