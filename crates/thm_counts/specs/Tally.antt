-- What `refused_steps`, `notified` and `links` count: the steps that the calls handed in, the notifications and the links among what came in with them.
use Rattle.std.specs.Prelude.{ℕ, ◌+◌, Bool, ◌&&◌, List, [], ◌∷◌, length, get_or, leb}
use Rattle.bytes_base.specs.Choice.{pick, among}
use Rattle.att_pdu.specs.Numbers.{op_handle_value_ntf, op_handle_value_ind}
use Rattle.script_rules.specs.World.{Held}
use Rattle.script_rules.specs.BatchSteps.{steps}
use Rattle.thm_trail.specs.Calls.{Call, batch, timer, connected, disconnected, advertising, scan_response, fragment, reads, does, left, done?}
use Rattle.thm_trail.specs.Trail.{News, link-came, link-went, att-heard}

-- ---- steps handed in

-- the steps of a call's batch
abbrev pub handed : Call → ℕ
handed (batch out at b values) = length (steps b)
handed (timer out at) = 0
handed (connected out handle at) = 0
handed (disconnected at) = 0
handed (advertising v) = 0
handed (scan_response at a d) = 0
handed (fragment out at start piece) = 0
handed (reads r) = 0

-- by a call: none where it is refused
abbrev pub hands_in : Held → Call → ℕ
hands_in h c = pick (done? h c) (handed c) 0

-- by a sequence of calls
abbrev pub handed_in : Held → List Call → ℕ
handed_in h [] = 0
handed_in h (c ∷ cs) = hands_in h c + handed_in (left (does h c)) cs

-- ---- notifications and indications heard

-- an opcode of theirs and a handle at least (Core Vol 3 Part F 3.4.7)
abbrev pub is_notice : List ℕ → Bool
is_notice p = among (get_or p 0 0) (op_handle_value_ntf ∷ op_handle_value_ind ∷ []) && leb 3 (length p)

abbrev pub noticed : List News → ℕ
noticed [] = 0
noticed (link-came handle ∷ l) = noticed l
noticed (link-went ∷ l) = noticed l
noticed (att-heard p ∷ l) = pick (is_notice p) 1 0 + noticed l

-- ---- links that came (02, One)

abbrev pub links_came : List News → ℕ
links_came [] = 0
links_came (link-came handle ∷ l) = 1 + links_came l
links_came (link-went ∷ l) = links_came l
links_came (att-heard p ∷ l) = links_came l
