-- The notifications that the words hold, with how many of them are kept.
use Rattle.std.specs.Prelude.{ℕ, List}
use Rattle.notifications.specs.declared.Notifications.{Notifications}
use Rattle.words.specs.Tables.{notifications_in}

abbrev pub kept_in : List ℕ → ℕ → Notifications
kept_in w n = record { kept = notifications_in w; count = n }
