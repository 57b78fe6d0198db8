-- Worked steps: a wait for 9 ms on the characteristic of halves 4 and 5, with no age and with one of 100,000 ms, which is 1 x 65,536 + 34,464.
use Rattle.std.specs.Prelude.{ℕ, ◌≡◌, refl, List, [], ◌∷◌}
use Rattle.notifications.specs.declared.Age.TheVariants.{Any, Within}
use Rattle.state.specs.declared.Step.TheVariants.{WaitNotification}
use Rattle.words.specs.Words.{step_of}
use Rattle.c_steps.specs.Steps.{placed_at}

abbrev plain : List ℕ
plain = 8 ∷ 0 ∷ 9 ∷ 0 ∷ 4 ∷ 5 ∷ 0 ∷ 34464 ∷ 1 ∷ 0 ∷ 7 ∷ 2 ∷ []

abbrev aged : List ℕ
aged = 8 ∷ 1 ∷ 9 ∷ 0 ∷ 4 ∷ 5 ∷ 0 ∷ 34464 ∷ 1 ∷ 0 ∷ 7 ∷ 2 ∷ []

-- without the flag the other words say nothing
pub plain-wait : (placed_at plain 0).step ≡ WaitNotification (record { low = 4; high = 5 }) (record { 0 = 9 }) Any
unfolding step_of
plain-wait = refl

pub aged-wait : (placed_at aged 0).step ≡ WaitNotification (record { low = 4; high = 5 }) (record { 0 = 9 }) (Within (record { 0 = 100000 }))
unfolding step_of
aged-wait = refl
