-- on_timer, on_connected and on_disconnected: each is refused, or does its work.
use Rattle.std.specs.Prelude.{ℕ, List, length, eqb}
use Rattle.bytes_base.specs.Choice.{pick}
use Rattle.time.specs.declared.Micros.{Micros}
use Rattle.state.specs.Central.{Central}
use Rattle.state_rules.specs.Gate.{gate, gate_quiet}
use Rattle.state_rules.specs.Refusals.{accepted, counter_full}
use Rattle.state_rules.specs.Fit.{most_links}
use Rattle.script_rules.specs.Outcome.{Outcome, Quiet, begins, done, refused, quietly, quietly_refused}
pub use Rattle.script_rules.specs.Comings.{linked, unlinked, timed_out, due, closing, given_up, is_connect, greeted, link_counted, with_new_link, goes_on, cut_status, silent}
unfoldable pub use Rattle.script_rules.specs.Comings.{expire, connect, cut_off, lose}

unfoldable pub on_timer : Central → List ℕ → List ℕ → Micros → Outcome
on_timer c store out at =
    let g = gate c (length store) (length out) at in
    pick (eqb g accepted) (done (expire (begins c store out) at)) (refused c g store out)

-- 5 behind 1 to 3: no more links can be counted (02, One)
abbrev pub gate_connected : Central → ℕ → ℕ → Micros → ℕ
gate_connected c store out at =
    let g = gate c store out at in
    pick (eqb g accepted) (pick (eqb c.counters.links most_links) counter_full accepted) g

unfoldable pub on_connected : Central → List ℕ → List ℕ → ℕ → Micros → Outcome
on_connected c store out handle at =
    let g = gate_connected c (length store) (length out) at in
    pick (eqb g accepted) (done (connect (begins c store out) handle at)) (refused c g store out)

unfoldable pub on_disconnected : Central → List ℕ → Micros → Quiet
on_disconnected c store at =
    let g = gate_quiet c (length store) at in
    pick (eqb g accepted) (quietly (lose (record { state = c; store = store }) at)) (quietly_refused c g store)
