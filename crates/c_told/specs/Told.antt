-- What a call that changes the state tells, in 8 words, and what those words say.
use Rattle.std.specs.Prelude.{ℕ, List, [], ◌∷◌, Option, Some, None, get_or, eqb}
use Rattle.bytes_base.specs.Choice.{pick}
use Rattle.state.specs.declared.Sent.{Sent}
use Rattle.state.specs.declared.LinkRequest.{LinkRequest}
use Rattle.state.specs.declared.LinkRequest.TheVariants as request
use Rattle.radio_match.specs.declared.AdvAction.{AdvAction}
use Rattle.radio_match.specs.declared.AdvAction.TheVariants as action

-- ---- of a call that may send: refusal | frames | bytes | request: 0 none, 1 update, 2 terminate | interval | latency | timeout | reason

abbrev pub request_words : Option LinkRequest → List ℕ
request_words None = 0 ∷ 0 ∷ 0 ∷ 0 ∷ 0 ∷ []
request_words (Some (request.Update interval latency timeout)) = 1 ∷ interval ∷ latency ∷ timeout ∷ 0 ∷ []
request_words (Some (request.Terminate reason)) = 2 ∷ 0 ∷ 0 ∷ 0 ∷ reason ∷ []

abbrev pub answer_words : ℕ → Sent → List ℕ
answer_words why s = why ∷ s.frames ∷ s.bytes ∷ request_words s.request

unfoldable pub refusal_in : List ℕ → ℕ
refusal_in w = get_or w 0 0

abbrev pub request_in : List ℕ → Option LinkRequest
request_in w =
    pick (eqb (get_or w 3 0) 0) None
    (pick (eqb (get_or w 3 0) 1) (Some (request.Update (get_or w 4 0) (get_or w 5 0) (get_or w 6 0))) (Some (request.Terminate (get_or w 7 0))))

unfoldable pub sent_in : List ℕ → Sent
sent_in w = record { frames = get_or w 1 0; bytes = get_or w 2 0; request = request_in w }

-- ---- of a call that sends nothing: its refusal alone

abbrev pub refusal_words : ℕ → List ℕ
refusal_words why = why ∷ 0 ∷ 0 ∷ 0 ∷ 0 ∷ 0 ∷ 0 ∷ 0 ∷ []

-- ---- of an advertisement: refusal | action: 0 none, 1 scan request, 2 connect | interval | latency | timeout

abbrev pub advertised_words : ℕ → AdvAction → List ℕ
advertised_words why action.Nothing = why ∷ 0 ∷ 0 ∷ 0 ∷ 0 ∷ 0 ∷ 0 ∷ 0 ∷ []
advertised_words why action.ScanRequest = why ∷ 1 ∷ 0 ∷ 0 ∷ 0 ∷ 0 ∷ 0 ∷ 0 ∷ []
advertised_words why (action.Connect p) = why ∷ 2 ∷ p.interval ∷ p.latency ∷ p.timeout ∷ 0 ∷ 0 ∷ 0 ∷ []

unfoldable pub action_in : List ℕ → AdvAction
action_in w =
    pick (eqb (get_or w 1 0) 0) action.Nothing
    (pick (eqb (get_or w 1 0) 1) action.ScanRequest (action.Connect (record { interval = get_or w 2 0; latency = get_or w 3 0; timeout = get_or w 4 0 })))
