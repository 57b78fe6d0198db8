-- What each return asks, from what the callees ensure.
use Prim.Native.Nat.{ℕ, ◌+◌, ◌-◌, ◌*◌, ◌≤◌, ◌<◌}
use mathlib.Core.Path.{◌≡◌, refl, ap, ◌∙◌}
use mathlib.Core.List.{List, [], ◌∷◌, ◌++◌}
use lib.ListN.{length, take, drop, get_or, set}
use borrow.Author.Tests.{lt-ltb, le-ltb}
use mathlib.Core.Bool.{Bool, true, false}
use Rattle.bytes_base.specs.Choice.{pick}
use Rattle.bytes_base.specs.Splice.{splice, moved}
use Rattle.lists.specs.Queue.{shifted, all}
use Rattle.state_places.specs.Sizes.{most_steps, value_size, running_at, waiting_at}
use Rattle.state.specs.Central.{with_queue}
use Rattle.state.specs.Fresh.{no_queued}
use Rattle.state.specs.declared.Queue.{Queue}
use Rattle.state.specs.declared.Queued.{Queued}
use Rattle.script_rules.specs.declared.Placed.{Placed}
use Rattle.script_rules.specs.BatchSteps.{value_len, queued}
use Rattle.script_rules.specs.Waiting.{waiting, queueing, push_one, push_all, take_step}
use Rattle.script_rules.proofs.WaitingLaws.{join-law, rest-law}
use Rattle.script_rules.specs.Batches.{placed_fits}
use Rattle.script_rules.proofs.PushLaws.{Pushing, pushing-start, pushing-end}
use Rattle.words.specs.Tables.{Tables, tables, steps_in, with_steps}
use Rattle.words.proofs.RowLaws.{length-steps}
use Rattle.words_step.specs.Carried.{carried}
use Rattle.state_core.specs.declared.Core.{Core}
use Rattle.state_core.specs.Reading.{central_of, central, held}
use Rattle.script_queue.specs.declared.Line.{Line}
use Rattle.script_queue.specs.Numbers.{largest, line_of, with_line, started}

-- ---- one more

twice : (b : Bool) (x : ℕ) → pick b (pick b x 0) 0 ≡ pick b x 0
twice true x = refl
twice false x = refl

module _ (l : Line) (w s values : List ℕ) (p : Placed) where
  pub pushed-in : (w' s' : List ℕ) (n at : ℕ) → l.waiting < most_steps → n ≡ value_len p → at ≡ waiting_at l.waiting → s' ≡ splice s at values p.place n
      → tables w' ≡ with_steps (tables w) (set (steps_in w) l.waiting (carried p.step n))
      → (c : Core) → held (with_line c (record { waiting = l.waiting + 1; refused = l.refused })) w' s' ≡ push_one (held (with_line c l) w s) values p
  unfolding push_one
  pushed-in w' s' n at h e₁ e₂ e₃ put c =
      let q : Queue = (central (with_line c l) w).queue in
      let x : carried p.step n ≡ queued p = rw (e₁, twice) in
      let j : ◌≡◌ {A = Queue} (record { kept = set (steps_in w) l.waiting (carried p.step n); count = l.waiting + 1 }) (queueing q (waiting q ++ (queued p ∷ []))) =
      rw x (join-law q (queued p) (length-steps w) h) in
      ap (λ (t : Tables). record { state = central_of (with_line c (record { waiting = l.waiting + 1; refused = l.refused })) t; store = s' }) put
      ∙ ap (λ (y : Queue). record { state = with_queue (central (with_line c l) w) y; store = s' }) j
      ∙ rw (lt-ltb l.waiting most_steps h, e₃, e₂, e₁)

  pub pushed-over : most_steps ≤ l.waiting
      → (c : Core) → held (with_line c (record { waiting = l.waiting; refused = l.refused + 1 })) w s ≡ push_one (held (with_line c l) w s) values p
  unfolding push_one
  pushed-over h c = rw (le-ltb l.waiting most_steps h)

-- ---- the loop: a core is carried as its line

pub line-start : (c : Core) (l : Line) (w s values : List ℕ) (placed : List Placed) (count : ℕ) → l ≡ line_of c → length placed ≡ 64 → count ≤ most_steps
    → all (placed_fits (length values)) (take count placed) ≡ true → c.counters.refused_steps + count < largest
    → Pushing (held c w s) (held (with_line c l) w s) values placed count 0
line-start c l w s values placed count e k m f r = rw e (pushing-start (held c w s) values placed count k m f r)

pub line-end : (c r : Core) (l : Line) (w s w' s' values : List ℕ) (placed : List Placed) (count i : ℕ)
    → Pushing (held c w s) (held (with_line c l) w' s') values placed count i → count ≤ i → r ≡ with_line c l
    → held r w' s' ≡ push_all (held c w s) values (take count placed)
line-end c r l w s w' s' values placed count i v k e =
    ap (λ (x : Core). held x w' s') e ∙ pushing-end (held c w s) (held (with_line c l) w' s') values placed count i v k

-- ---- the first begins

pub took : (c r : Core) (w w' s s' : List ℕ) (q : Queued) → 0 < c.counts.waiting → c.counts.waiting ≤ most_steps
    → q ≡ get_or (steps_in w) 0 no_queued → s' ≡ moved s running_at (waiting_at 0) (value_size * c.counts.waiting)
    → tables w' ≡ with_steps (tables w) (shifted (steps_in w) (c.counts.waiting - 1)) → r ≡ started c q
    → held r w' s' ≡ take_step (held c w s)
unfolding take_step
took c r w w' s s' q h k e₁ e₂ e₃ e₄ =
    let l : Queue = (central c w).queue in
    let j : ◌≡◌ {A = Queue} (record { kept = shifted (steps_in w) (c.counts.waiting - 1); count = c.counts.waiting - 1 }) (queueing l (drop 1 (waiting l))) =
    rest-law l (shifted (steps_in w) (c.counts.waiting - 1)) (length-steps w) h k refl in
    ap (λ (x : Core). held x w' s') e₄
    ∙ ap (λ (t : Tables). record { state = central_of (started c q) t; store = s' }) e₃
    ∙ ap (λ (y : Queue). record { state = with_queue (central (started c q) w) y; store = s' }) j
    ∙ rw (e₁, e₂)
