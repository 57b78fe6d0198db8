-- A response (Core Vol 3 Part F 3.4; 01, 'Rules of the link'): it counts if it is pending + 1, or an error naming pending. What the
-- running step does with it: the MTU, the walk of discovery, a write, a read.
use Rattle.std.specs.Prelude.{ℕ, get_or, eqb}
use Rattle.bytes_base.specs.Choice.{pick}
use Rattle.bytes_base.specs.Bytes.{le_at}
use Rattle.time.specs.declared.Micros.{Micros}
use Rattle.att_pdu.specs.Numbers.{op_error_rsp, op_read_rsp, op_write_rsp}
use Rattle.state.specs.declared.StepStatus.TheVariants.{Ok}
use Rattle.script_rules.specs.World.{World}
use Rattle.link_rules.specs.Payload.{payload, with_mtu}
use Rattle.link_questions.specs.declared.Asked.{Asked}
use Rattle.link_questions.specs.declared.Asked.TheVariants as asked-variants
-- the words of the crates below, for those who speak of a response
pub use Rattle.link_questions.specs.Questions.{asked_in, asked_by}
pub use Rattle.link_rules.specs.Answers.{counts, smaller_mtu, width_of}
pub use Rattle.link_rules.specs.Moves.{over, value_read, become, service_of, entries_of, range_end, after_range, unasked}
unfoldable pub use Rattle.link_rules.specs.Services.{walk_into, services_done, services_found, services_heard}
pub use Rattle.link_rules.specs.Characteristics.{descriptors_found}
unfoldable pub use Rattle.link_rules.specs.Characteristics.{characteristics_found, characteristics_heard, go_on, descriptors_heard, range_done, characteristics_done}
unfoldable pub use Rattle.link_rules.specs.Errors.{absent, failed}

-- what the running step does with an answer of n bytes
unfoldable pub present : World → Micros → ℕ → Asked → World
present w at n (asked-variants.Mtu mtu) =
    over (become w (with_mtu w.held.state (smaller_mtu (le_at 2 (payload w.held n) 1) mtu))) at Ok
present w at n (asked-variants.Services g) = services_heard w at g n (get_or (payload w.held n) 1 0)
present w at n (asked-variants.Characteristics u) = characteristics_heard w at n (get_or (payload w.held n) 1 0) (service_of w u)
present w at n (asked-variants.Descriptors u) = descriptors_heard w at n (get_or (payload w.held n) 1 0) (service_of w u)
present w at n asked-variants.Written = pick (eqb (get_or (payload w.held n) 0 0) op_write_rsp) (over w at Ok) w
present w at n asked-variants.Value = pick (eqb (get_or (payload w.held n) 0 0) op_read_rsp) (value_read w at n) w
present w at n asked-variants.Nothing = w

-- a response to the running step's request
unfoldable pub taken : World → Micros → ℕ → World
taken w at n =
    let p = payload w.held n in
    let r = w.held.state.running in
    pick r.active
    (pick (eqb (get_or p 0 0) op_error_rsp) (failed w at (get_or p 4 0) (asked_by r.step r.phase)) (present w at n (asked_by r.step r.phase)))
    w

unfoldable pub on_response : World → Micros → ℕ → World
on_response w at n =
    pick (counts w.held.state.bearer.link.pending (payload w.held n)) (taken (become w (unasked w.held.state)) at n) w
