-- THE PROMISES (demand 3), of every list of calls from a fresh state of any options with any store contents, refused calls included.
--
-- `taken`: every step ever taken in, counted from the calls; `log`: every result ever given, dropped ones too, with its value, read off the
-- tables of the worlds that the calls pass through (thm_trail/specs/Log.antt). `heard`: what came in, from the calls and their refusals alone
-- (thm_heard/specs/Heard.antt; `silence`: no link yet). `events`: what came in, the requests among the bytes written, and the results, in
-- their order (thm_heard/specs/Events.antt). `OnWire`: thm_wire/specs/Wire.antt. `handed_in`, `noticed`, `links_came`: thm_counts/specs/Tally.antt.
-- `brought`, `notices_of`, `links_of`: everything heard, and how many links there were, from the calls and their refusals alone
-- (thm_waits/specs/Notices.antt). `wait_from`, `values_of`, `Passed`, `Names`: thm_waits/specs/Waits.antt. `finished`, `Spent`: thm_closed/specs/Closed.antt.
use Rattle.std.specs.Prelude.{ℕ, zero, suc, ◌+◌, ◌-◌, ◌<◌, ◌≡◌, true, ◌&&◌, List, [], ◌∷◌, ◌++◌, None, Ok, length, drop, get_or}
use Rattle.std.proofs.Common.{sym, ap, ◌∙◌, arith, length-drop, eq-eqb}
use Rattle.state_places.specs.Sizes.{store_size, most_results, most_notifications}
use Rattle.lists.specs.Queue.{newest}
use Rattle.lists.specs.Blocks.{Valued}
use Rattle.time.specs.declared.Micros.{Micros}
use Rattle.time.specs.declared.Millis.{Millis}
use Rattle.uuid_value.specs.declared.Uuid.{Uuid}
use Rattle.notifications.specs.declared.Age.TheVariants.{Within}
use Rattle.state.specs.Fresh.{no_queued}
use Rattle.state.specs.declared.Options.{Options}
use Rattle.state.specs.declared.StepResult.{StepResult}
use Rattle.state.specs.declared.Step.TheVariants.{Read, WaitNotification}
use Rattle.state.specs.declared.StepStatus.TheVariants.{Ok}
use Rattle.state_rules.specs.Fit.{fits, awaits}
use Rattle.state_rules.specs.Refusals.{accepted, unfit}
use Rattle.state_readers.specs.Numbers.{handle_words}
use Rattle.thm_trail.specs.Calls.{Reader, timer_us, connected_handle, Call, timer, connected, disconnected, reads, time_of, does, left, fresh, run, gate_of}
use Rattle.thm_trail.specs.Log.{kept_results, no_valued, given_by, log, taken}
use Rattle.thm_trail.proofs.Ends.{refusal_is}
use Rattle.thm_accounting.specs.InLine.{in_line}
use Rattle.thm_accounting.proofs.Numbered.{Numbered}
use Rattle.thm_accounting.proofs.Accounting.{books}
use Rattle.thm_accounting.proofs.Times as times
use Rattle.thm_counts.specs.Tally.{handed_in, noticed, links_came}
use Rattle.thm_counts.proofs.Counted as tally
use Rattle.thm_wire.specs.Wire.{OnWire}
use Rattle.thm_wire.proofs.OnWire.{on-wire}
use Rattle.thm_requests.specs.Events.{Awaited, Answered}
use Rattle.thm_heard.specs.Heard.{silence, heard}
use Rattle.thm_heard.specs.Events.{events}
use Rattle.thm_heard.proofs.Sequences as calls
use Rattle.thm_requests.specs.Turn.{InTurn}
use Rattle.thm_links.specs.Keeps.{kept_notifications, Keeps, KeepsButStarts}
use Rattle.thm_links.proofs.Links as links
use Rattle.thm_waits.specs.Notices.{brought, notices_of, links_of}
use Rattle.thm_waits.specs.Waits.{wait_from, values_of, Passed, Names}
use Rattle.thm_waits.proofs.Sequences as waits
use Rattle.thm_closed.specs.Closed.{finished, frames_in, Spent}
use Rattle.thm_closed.proofs.Sequences as closed
use Rattle.thm_readers.specs.Said.{said, deadline_of, Heeds, link_after, refusals, SaysResults}
use Rattle.thm_readers.proofs.Results as readers
use Rattle.thm_readers.proofs.Timers.{heeds}
use Rattle.thm_readers.proofs.Links.{answers, handle-said}
use Rattle.promises.specs.Fitness as fitness

number_of : (k : ℕ) (l : List (Valued StepResult)) (i : ℕ) → Numbered k l → i < length l → (get_or l i no_valued).entry.index ≡ k + i
number_of k [] i n h = absurd (omega arith)
number_of k (x ∷ l) zero n h = n.0 ∙ omega arith
number_of k (x ∷ l) (suc i) n h = number_of (suc k) l i n.1 (omega arith) ∙ omega arith

module _ (options : Options) (store : List ℕ) (cs : List Call) where
  -- 1. Steps taken in are the results ever given, and the step that runs and those that wait.
  pub accounted : length (taken (fresh options store) cs) ≡ length (log (fresh options store) cs) + length (in_line (run (fresh options store) cs).state)
  accounted =
      let b = books options store cs in
      let e : length (in_line (run (fresh options store) cs).state) ≡ length (taken (fresh options store) cs) - length (log (fresh options store) cs) =
      ap length b.line ∙ length-drop (length (log (fresh options store) cs)) (taken (fresh options store) cs) in
      omega (arith, e, b.fewer)

  -- 2. Results are numbered 0, 1, 2, … in the order given;
  pub numbered : (i : ℕ) → i < length (log (fresh options store) cs) → (get_or (log (fresh options store) cs) i no_valued).entry.index ≡ i
  numbered i h = number_of 0 (log (fresh options store) cs) i (books options store cs).order h ∙ omega arith

  -- one for each step in the order taken in: what runs and waits are the steps behind those that have a result;
  pub in_order : in_line (run (fresh options store) cs).state ≡ drop (length (log (fresh options store) cs)) (taken (fresh options store) cs)
  in_order = (books options store cs).line

  -- and what is kept is the newest up to 64 of the log, with its values.
  pub kept-newest : kept_results (run (fresh options store) cs) ≡ newest most_results (log (fresh options store) cs)
  kept-newest = (books options store cs).table

  -- 3. A request is awaited only while the step that sent it runs, on the link that it was sent on.
  pub awaited : awaits (run (fresh options store) cs).state.bearer ≡ true
      → Awaited (events silence (fresh options store) cs) (run (fresh options store) cs).state
  awaited = calls.awaited options store cs

  -- 4. A Read that ends Ok has as its value the body of a read response, whose last fragment the same call delivered, on the link on which
  -- its request went out, after it went out.
  pub read-answered : (i : ℕ) → i < length (log (fresh options store) cs) → (u : Uuid) → (get_or (taken (fresh options store) cs) i no_queued).step ≡ Read u
      → (get_or (log (fresh options store) cs) i no_valued).entry.status ≡ Ok
      → Answered (events silence (fresh options store) cs) (get_or (log (fresh options store) cs) i no_valued)
  read-answered = calls.read-answered options store cs

  -- 5. No call sends over 65 frames, what it tells is what it wrote, whole L2CAP frames, and no ATT payload exceeds the MTU then in force.
  pub on-the-wire : (c : Call) → OnWire (run (fresh options store) cs) c (does (run (fresh options store) cs) c)
  on-the-wire = on-wire options store cs

  -- 6. Every state is fit, and no call meets refusal 1. (`Typed`: a step's milliseconds are a u32, as its type has it.)
  pub fit_stays : fitness.Typed cs → fits (run (fresh options store) cs).state ≡ true
  fit_stays t = (fitness.lasting options store cs t).fit

  pub never-unfit : fitness.Typed cs → (c : Call) → (does (run (fresh options store) cs) c).refusal ≡ unfit → ⊥
  never-unfit = fitness.never-unfit options store cs

  -- 7. Three counts are the calls' own: the steps handed in that found no place, the notifications and indications that were heard, and the
  -- links that came.
  pub refused-counted : (run (fresh options store) cs).state.counters.refused_steps + length (taken (fresh options store) cs)
      ≡ handed_in (fresh options store) cs
  refused-counted = tally.refused-counted options store cs

  pub notified-counted : (run (fresh options store) cs).state.counters.notified ≡ noticed (heard silence (fresh options store) cs)
  notified-counted = calls.notified-counted options store cs

  pub links-counted : (run (fresh options store) cs).state.counters.links ≡ links_came (heard silence (fresh options store) cs)
  links-counted = calls.links-counted options store cs

  -- 8. A lost link keeps both tables, the notifications with their bytes, `notified` and `wait_from`;
  pub lost-link-keeps : (at : Micros) → let h = run (fresh options store) cs in Keeps h (left (does h (disconnected at)))
  lost-link-keeps at = links.disconnected-keeps (run (fresh options store) cs) at

  -- so does a new one, but for what a step that it starts does by its own rule, and it is counted. (thm_links/specs/Keeps.antt)
  pub new-link-keeps : (out : List ℕ) (handle : ℕ) (at : Micros) → let h = run (fresh options store) cs in (does h (connected out handle at)).refusal ≡ accepted
      → KeepsButStarts h at (left (does h (connected out handle at)))
  new-link-keeps out handle at e =
      let h = run (fresh options store) cs in
      let c = connected out handle at in
      links.connected-keeps h out handle at (eq-eqb (gate_of h c) accepted (sym (refusal_is h c) ∙ e))

  -- 9. A result's time is the time of the call that ended its step.
  pub result-time : (c : Call) (i : ℕ) → let given = given_by (run (fresh options store) cs) c in i < length given → (get_or given i no_valued).entry.at ≡ time_of c
  result-time = times.result-time options store cs

  -- 10. A reader's first number is the refusal that its call answers with.
  pub reader-refusal : (r : Reader) → let h = run (fresh options store) cs in get_or (said h r) 0 0 ≡ (does h (reads r)).refusal
  reader-refusal = readers.reader-refusal (run (fresh options store) cs)

  -- Where the store has its size, `timer_us` says the running step's deadline, or that there is none;
  pub timer-says : fitness.Typed cs → length store ≡ store_size → let h = run (fresh options store) cs in said h timer_us ≡ deadline_of h.state.running
  timer-says t z = readers.timer-said (run (fresh options store) cs) (answers options store cs (fit_stays t) z)

  -- an accepted timer call changes nothing before the time that `timer_us` says, and from then on ends the running step;
  pub timer-heeds : (out : List ℕ) (at : Micros) → let h = run (fresh options store) cs in (does h (timer out at)).refusal ≡ accepted → Heeds h out at
  timer-heeds out at e =
      let h = run (fresh options store) cs in
      heeds (log (fresh options store) cs) (taken (fresh options store) cs) h out at (books options store cs)
      (eq-eqb (gate_of h (timer out at)) accepted (sym (refusal_is h (timer out at)) ∙ e))

  -- `connected_handle` says the handle of the last accepted connected call, while no accepted disconnected call came since;
  pub handle-says : fitness.Typed cs → length store ≡ store_size
      → said (run (fresh options store) cs) connected_handle ≡ handle_words (Ok (link_after None cs (refusals (fresh options store) cs)))
  handle-says t z = handle-said options store cs (answers options store cs (fit_stays t) z)

  -- `result` says entry i of the log while it is among the newest 64, with its value in the store, and else that there is none.
  pub result_says : fitness.Typed cs → length store ≡ store_size → SaysResults (run (fresh options store) cs) (log (fresh options store) cs)
  result_says t z =
      readers.says-results (run (fresh options store) cs) (log (fresh options store) cs) (answers options store cs (fit_stays t) z) kept-newest
      (books options store cs).order

  -- 11. A request has the number of the step that sent it, which is its place in the order taken in: as many results were given before.
  pub requests-in-turn : InTurn (taken (fresh options store) cs) 0 (events silence (fresh options store) cs)
  requests-in-turn = calls.requests-in-turn options store cs

  -- 12. The notifications that are kept are the newest 32 of everything heard, each with the time of the call that brought its last byte, the
  -- number of its link, its handle, and its value in the store;
  pub kept-heard : kept_notifications (run (fresh options store) cs) ≡ newest most_notifications (notices_of options store cs)
  kept-heard = waits.kept-heard options store cs

  -- `notified` is how many were heard, `links` how many connected calls were accepted,
  pub notified-heard : (run (fresh options store) cs).state.counters.notified ≡ length (notices_of options store cs)
  notified-heard = waits.notified-heard options store cs

  pub links-numbered : (run (fresh options store) cs).state.counters.links ≡ links_of options store cs
  links-numbered = waits.links-counted options store cs

  -- and `wait_from` how many were heard when a wait last passed, aged or not.
  pub wait-from-counted : (run (fresh options store) cs).state.counters.wait_from ≡ wait_from options store cs
  wait-from-counted = waits.wait-from-counted options store cs

  -- 13. An aged wait ends Ok only on one or more notifications that count: heard on the link that is present, at most the age before the call that
  -- ends the wait and not after it, from `wait_from` on, on the value of its characteristic as known during that call. Its result names the
  -- newest of them; their values, joined, contain the step's `contains`, as its batch handed it in.
  pub aged-wait : (c : Call) (i : ℕ) → let given = given_by (run (fresh options store) cs) c in i < length given
      → let x = (get_or given i no_valued).entry in let all = cs ++ (c ∷ []) in (u : Uuid) (ms age : Millis)
      → (get_or (taken (fresh options store) all) x.index no_queued).step ≡ WaitNotification u ms (Within age) → x.status ≡ Ok
      → Passed (run (fresh options store) cs) c (brought options store all) (wait_from options store cs) u age
      (get_or (values_of (fresh options store) all) x.index []) x
  aged-wait = waits.aged-wait options store cs

  -- Every other result names none: its `heard` is 0.
  pub heard-of-waits-alone : (c : Call) (i : ℕ) → let given = given_by (run (fresh options store) cs) c in i < length given
      → let x = (get_or given i no_valued).entry in Names (get_or (taken (fresh options store) (cs ++ (c ∷ []))) x.index no_queued).step x
  heard-of-waits-alone = waits.heard-of-waits-alone options store cs

  -- 14. In strict mode a link's bearer is finished once a step has timed out with its request awaited, until a connected call is accepted: no call
  -- after which it is finished has sent a request or a command, or ended a Read with Ok.
  pub bearer-finished : options.strict ≡ true → (c : Call) → let all = cs ++ (c ∷ []) in finished (events silence (fresh options store) all) ≡ true
      → let h = run (fresh options store) cs in Spent (taken (fresh options store) all) (given_by h c) (frames_in (does h c))
  bearer-finished = closed.spent options store cs

  -- The state says the same of the bearer: it is closed where it is finished, and in strict mode alone.
  pub closed-where-finished : (run (fresh options store) cs).state.bearer.closed ≡ (options.strict && finished (events silence (fresh options store) cs))
  closed-where-finished = closed.closed-so options store cs
