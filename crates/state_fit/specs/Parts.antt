-- The two parts of fit as the code takes them: the core by itself, and what is in use of the tables.
use Rattle.std.specs.Prelude.{ℕ, Bool, ◌&&◌, List, take}
use Rattle.gatt_characteristics.specs.Characteristic.{rises}
use Rattle.notifications.specs.Kept.{values_fit, links_fit}
use Rattle.state_rules.specs.Fit.{results_fit, steps_fit}
use Rattle.state_rules.specs.Parts.{head_fits}
use Rattle.words.specs.Tables.{steps_in, results_in, characteristics_in, notifications_in}
use Rattle.state_core.specs.declared.Core.{Core}

abbrev pub core_fits : Core → Bool
core_fits c = head_fits c.counts c.counters c.bearer c.running c.reports c.key_count

-- of so many waiting steps, results, characteristics and notifications, and of the link count
abbrev pub tables_fit : List ℕ → ℕ → ℕ → ℕ → ℕ → ℕ → Bool
tables_fit w waiting results characteristics notifications links =
    (((steps_fit (take waiting (steps_in w)) && results_fit (take results (results_in w)))
    && rises (take characteristics (characteristics_in w)))
    && values_fit (take notifications (notifications_in w)))
    && links_fit links (take notifications (notifications_in w))
