-- The bytes in hand, as the code lends them: those held, then those fed.
use Rattle.std.specs.Prelude.{ℕ, List, ◌++◌}
use Rattle.h4_stream.specs.declared.Hand.{Hand}

abbrev pub bytes_of : Hand → List ℕ
bytes_of hand = hand.held.now ++ hand.fed.now
