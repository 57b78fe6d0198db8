-- What a batch accepts, of a step's first word.
use Rattle.std.specs.Prelude.{ℕ, ◌/◌, ◌%◌, Bool, ◌&&◌, ◌||◌, eqb, leb}
use Rattle.state_kinds.specs.Kinds.{exchange_mtu, write, wait_notification}
use Rattle.state_places.specs.Sizes.{value_size}
use Rattle.state_rules.specs.Steps.{implies, most_mtu}
use Rattle.words.specs.Words.{two48}

abbrev pub word_fits : ℕ → Bool
word_fits a =
    implies (eqb (a % 256) write || eqb (a % 256) wait_notification) (leb (a / two48 % 256) value_size)
    && implies (eqb (a % 256) exchange_mtu) (leb (a / two48) most_mtu)
