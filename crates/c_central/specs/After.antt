-- What C has after a call, as the outcome of that call; and what it has after a refused one.
use Rattle.std.specs.Prelude.{ℕ, ◌≡◌, List, set, eqb}
use Rattle.bytes_base.specs.Choice.{pick}
use Rattle.state_refusals.specs.Refusals.{accepted, long_frame}
use Rattle.script_rules.specs.Outcome.{Outcome, Quiet}
use Rattle.radio_rules.specs.Hearing as hearing
use Rattle.state_core.specs.declared.Core.{Core}
use Rattle.state_core.specs.Reading.{central}
use Rattle.c_core.specs.Layout.{core_in}
use Rattle.c_told.specs.Told.{refusal_in, sent_in, action_in, answer_words, refusal_words, advertised_words}

-- ---- all that a call gives and changes, read off what C has then

-- of a call that may send
abbrev pub outcome : List ℕ → List ℕ → List ℕ → List ℕ → List ℕ → Outcome
outcome told core tables store out = record { state = central (core_in core) tables; refusal = refusal_in told; sent = sent_in told; store = store; out = out }

-- of one that sends nothing
abbrev pub quiet : List ℕ → List ℕ → List ℕ → List ℕ → Quiet
quiet told core tables store = record { state = central (core_in core) tables; refusal = refusal_in told; store = store }

-- of the radio's
abbrev pub heard : List ℕ → List ℕ → List ℕ → List ℕ → hearing.Outcome
heard told core tables store = record { state = central (core_in core) tables; refusal = refusal_in told; action = action_in told; store = store }

-- ---- what is told is those numbers and nothing else: words without a meaning are 0

abbrev pub Answered : List ℕ → Type 0
Answered told = told ≡ answer_words (refusal_in told) (sent_in told)

abbrev pub Refused : List ℕ → Type 0
Refused told = told ≡ refusal_words (refusal_in told)

abbrev pub Acted : List ℕ → Type 0
Acted told = told ≡ advertised_words (refusal_in told) (action_in told)

-- ---- the words of a core

-- what a refused fragment leaves of them: too long a frame empties what is held (word 17) and nothing else
abbrev pub emptied_if : ℕ → List ℕ → List ℕ
emptied_if why w = pick (eqb why long_frame) (set w 17 0) w

-- w become v: they say c after an accepted call, and they stay after a refused one
abbrev pub Given : ℕ → Core → List ℕ → List ℕ → Type 0
Given why c w v = (why ≡ accepted → core_in v ≡ c) × ((why ≡ accepted → ⊥) → v ≡ w)

abbrev pub GivenFragment : ℕ → Core → List ℕ → List ℕ → Type 0
GivenFragment why c w v = (why ≡ accepted → core_in v ≡ c) × ((why ≡ accepted → ⊥) → v ≡ emptied_if why w)

-- ---- a refused call leaves every word and byte

abbrev pub Kept : List ℕ → List ℕ → List ℕ → List ℕ → List ℕ → List ℕ → List ℕ → List ℕ → List ℕ → Type 0
Kept told core tables store out core' tables' store' out' =
    (refusal_in told ≡ accepted → ⊥) → (core' ≡ core) × (tables' ≡ tables) × (store' ≡ store) × (out' ≡ out)

abbrev pub KeptFragment : List ℕ → List ℕ → List ℕ → List ℕ → List ℕ → List ℕ → List ℕ → List ℕ → List ℕ → Type 0
KeptFragment told core tables store out core' tables' store' out' =
    (refusal_in told ≡ accepted → ⊥) → (core' ≡ emptied_if (refusal_in told) core) × (tables' ≡ tables) × (store' ≡ store) × (out' ≡ out)

abbrev pub KeptQuietly : List ℕ → List ℕ → List ℕ → List ℕ → List ℕ → List ℕ → List ℕ → Type 0
KeptQuietly told core tables store core' tables' store' =
    (refusal_in told ≡ accepted → ⊥) → (core' ≡ core) × (tables' ≡ tables) × (store' ≡ store)
