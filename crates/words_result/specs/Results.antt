-- The table of results, with how many of it are kept.
use Rattle.std.specs.Prelude.{ℕ, List}
use Rattle.state.specs.declared.Results.{Results}
use Rattle.words.specs.Tables.{results_in}

abbrev pub results_as : List ℕ → ℕ → Results
results_as w n = record { kept = results_in w; count = n }
