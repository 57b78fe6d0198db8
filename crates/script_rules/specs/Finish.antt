-- A step ends: its result is kept, with its value in the store (01, 'Sizes': 64 results, the oldest goes).
use Rattle.std.specs.Prelude.{ℕ, false, length}
use Rattle.bytes_base.specs.Choice.{pick}
use Rattle.lists.specs.Queue.{pushed, onto}
use Rattle.lists.specs.Blocks.{Part, stored}
use Rattle.state_places.specs.Sizes.{most_results, result_size, result_at}
use Rattle.time.specs.declared.Micros.{Micros}
use Rattle.state.specs.Central.{with_running, with_bearer, with_results}
pub use Rattle.state.specs.Kept.{kept}
use Rattle.state.specs.declared.Running.{Running}
use Rattle.state.specs.declared.Link.{Link}
use Rattle.state.specs.declared.Bearer.{Bearer}
use Rattle.state.specs.declared.StepResult.{StepResult}
use Rattle.state.specs.declared.StepStatus.{StepStatus}
use Rattle.state.specs.declared.Results.{Results}
pub use Rattle.link_record.specs.Record.{answered, with_link}
use Rattle.script_rules.specs.World.{Held}

-- the results' part of the store
abbrev pub result_part : Part
result_part = record { base = result_at 0; size = result_size; most = most_results }

-- one result more
unfoldable pub pushed_result : Results → StepResult → Results
pushed_result rs r =
    let l = pushed most_results (kept rs) r in
    record { kept = onto rs.kept l; count = length l }

-- no step runs
abbrev pub idle : Running → Running
idle r = record { deadline = r.deadline; step = r.step; index = r.index; cursor = r.cursor; len = r.len; phase = r.phase; active = false; dated = r.dated }

-- the running step's result: the n bytes of the store from `from` on are its value; `heard` is what an aged wait passed on, else 0
unfoldable pub ended : Held → Micros → StepStatus → ℕ → ℕ → ℕ → Held
ended h at status from n heard =
    let c = h.state in
    record {
      state = with_results
          (with_bearer (with_running c (idle c.running)) (with_link c.bearer (answered c.bearer.link)))
          (pushed_result c.results (record { index = c.running.index; at = at; status = status; len = n; heard = heard }));
      store = stored result_part c.results.count h.store from n h.store;
    }

-- where no step runs, nothing
unfoldable pub finish : Held → Micros → StepStatus → ℕ → ℕ → ℕ → Held
finish h at status from n heard = pick h.state.running.active (ended h at status from n heard) h
