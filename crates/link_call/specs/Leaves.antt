-- What a refused fragment leaves, to the last bit: everything as it was, but for refusal 7, which empties what is held (01, 'Refusal numbers').
use Rattle.std.specs.Prelude.{ℕ, List, eqb}
use Rattle.bytes_base.specs.Choice.{pick}
use Rattle.state_refusals.specs.Refusals.{long_frame}
use Rattle.state_core.specs.declared.Core.{Core}
use Rattle.state_core.specs.Reading.{with_bearer}
use Rattle.central_answers.specs.Answers.{Leaves}

-- nothing is held of a frame
abbrev pub emptied : Core → Core
emptied c = with_bearer c (record { held = 0; link = c.bearer.link; present = c.bearer.present; closed = c.bearer.closed })

abbrev pub FragmentLeaves : ℕ → Core → Core → List ℕ → List ℕ → List ℕ → List ℕ → Type 0
FragmentLeaves why core after w v s t = Leaves why (pick (eqb why long_frame) (emptied core) core) after w v s t
