-- Over every sequence of calls: what came in along the trails is what the calls say, and so are the events.
use Prim.Native.Nat.{ℕ, ◌+◌, ◌<◌}
use mathlib.Core.Path.{◌≡◌, refl, sym, ap, ap₂, ◌∙◌, subst}
use mathlib.Core.Bool.{Bool, true, false}
use mathlib.Core.List.{List, [], ◌∷◌, ◌++◌}
use native.Mathlib.Omega.{arith}
use lib.ListN.{length, get_or}
use borrow.Author.Tests.{eqb-true}
use Rattle.bytes_base.specs.Choice.{pick}
use Rattle.lists.specs.Blocks.{Valued}
use Rattle.uuid_value.specs.declared.Uuid.{Uuid}
use Rattle.state.specs.Fresh.{fresh_central, no_queued}
use Rattle.state.specs.declared.Options.{Options}
use Rattle.state.specs.declared.Queued.{Queued}
use Rattle.state.specs.declared.Step.TheVariants.{Read}
use Rattle.state.specs.declared.StepResult.{StepResult}
use Rattle.state.specs.declared.StepStatus.TheVariants.{Ok}
use Rattle.state_rules.specs.Fit.{awaits}
use Rattle.state_rules.specs.Refusals.{accepted}
use Rattle.script_rules.specs.World.{Held}
use Rattle.script_rules.specs.Outcome.{Outcome, done}
use Rattle.thm_trail.specs.Calls.{Call, does, left, fresh, run, gate_of, done?}
use Rattle.thm_trail.specs.Trail.{News, link-came, link-went, att-heard, Pass, final, begins, goes}
use Rattle.thm_trail.specs.Log.{no_valued, log, taken}
use Rattle.thm_trail.proofs.Ends.{refused_of, does-law, refusal_is}
use Rattle.thm_accounting.proofs.Books.{Books}
use Rattle.thm_accounting.proofs.Accounting.{books-fresh, books-call}
use Rattle.thm_counts.specs.Tally.{noticed, links_came}
use Rattle.thm_counts.proofs.Along.{along, counted_by, counted_in}
use Rattle.thm_counts.proofs.Counted as counted
use Rattle.thm_requests.specs.Turn.{InTurn}
use Rattle.thm_requests.proofs.Turns.{in-turn}
use Rattle.thm_requests.specs.Events.{Event, news_of, done_along, Awaited, Answered}
use Rattle.thm_requests.proofs.Along as trail
use Rattle.thm_requests.proofs.Sequences.{all}
use Rattle.thm_heard.specs.Heard.{Air, silence, after, news, heard, air_of}
use Rattle.thm_heard.specs.Events.{events}
use Rattle.thm_heard.proofs.Tied.{Tied}
use Rattle.thm_heard.proofs.Brings.{news_along}
use Rattle.thm_heard.proofs.Calls.{hearing, news-refused, tied-refused}

-- ---- a call

-- of a call that is done if x, answers why and leaves g
record Same (x : Bool) (a : Air) (h : Held) (c : Call) (why : ℕ) (g : Held) : Type 0 where
  events : pick x (trail.events_along (begins h c) (goes h c)) [] ≡ news_of (news a c why) ++ pick x (done_along (begins h c) (goes h c)) []
  along : pick x (news_along (goes h c)) [] ≡ news a c why
  tied : Tied (after a c why) g

same-call : (a : Air) (l : List (Valued StepResult)) (q : List Queued) (h : Held) (c : Call) → Books l q h → Tied a h → Same (done? h c) a h c (does h c).refusal (left (does h c))
same-call a l q h c k t =
    subst (λ (n : ℕ). Same (done? h c) a h c n (left (does h c))) (sym (refusal_is h c))
    (subst (λ (x : Outcome). Same (done? h c) a h c (gate_of h c) (left x)) (sym (does-law h c)) (go (done? h c) refl))
  where
    go : (x : Bool) → done? h c ≡ x → Same x a h c (gate_of h c) (left (pick x (done (final (begins h c) (goes h c))) (refused_of h c)))
    go true e =
        let y = hearing a l q h c e k t in
        subst (λ (n : ℕ). Same true a h c n (final (begins h c) (goes h c)).held) (sym (eqb-true (gate_of h c) accepted e))
        (record { events = y.brings.first; along = y.brings.along; tied = y.tied })
    go false e =
        let n = news-refused a c (gate_of h c) e in
        record { events = ap (λ (l : List News). news_of l ++ []) (sym n); along = sym n; tied = tied-refused a h c e t }

-- ---- a sequence of calls

events-same : (a : Air) (l : List (Valued StepResult)) (q : List Queued) (h : Held) (cs : List Call) → Books l q h → Tied a h → trail.events h cs ≡ events a h cs
events-same a l q h [] k t = refl
events-same a l q h (c ∷ cs) k t =
    let s = same-call a l q h c k t in
    ap₂ (λ (x y : List Event). x ++ y) s.events (events-same (after a c (does h c).refusal) _ _ (left (does h c)) cs (books-call l q h c k) s.tied)

pub tied-run : (a : Air) (l : List (Valued StepResult)) (q : List Queued) (h : Held) (cs : List Call) → Books l q h → Tied a h → Tied (air_of a h cs) (run h cs)
tied-run a l q h [] k t = t
tied-run a l q h (c ∷ cs) k t = tied-run (after a c (does h c).refusal) _ _ (left (does h c)) cs (books-call l q h c k) (same-call a l q h c k t).tied

-- ---- what is counted of what came in

module _ (f : List News → ℕ) (none : f [] ≡ 0) (append : (a b : List News) → f (a ++ b) ≡ f a + f b) where
  count-along : (ps : List Pass) → along f ps ≡ f (news_along ps)
  count-along [] = sym none
  count-along (p ∷ ps) = omega (arith, count-along ps, append p.came (news_along ps))

  count_by : (h : Held) (c : Call) → counted_by f h c ≡ f (pick (done? h c) (news_along (goes h c)) [])
  count_by h c = go (done? h c)
    where
      go : (x : Bool) → pick x (along f (goes h c)) 0 ≡ f (pick x (news_along (goes h c)) [])
      go true = count-along (goes h c)
      go false = sym none

  counts_same : (a : Air) (l : List (Valued StepResult)) (q : List Queued) (h : Held) (cs : List Call) → Books l q h → Tied a h → counted_in f h cs ≡ f (heard a h cs)
  counts_same a l q h [] k t = sym none
  counts_same a l q h (c ∷ cs) k t =
      let s = same-call a l q h c k t in
      let why = (does h c).refusal in
      let g = left (does h c) in
      let x = counts_same (after a c why) _ _ g cs (books-call l q h c k) s.tied in
      let y = count_by h c ∙ ap f s.along in
      omega (arith, x, y, append (news a c why) (heard (after a c why) g cs))

-- notifications
noticed-append : (a b : List News) → noticed (a ++ b) ≡ noticed a + noticed b
noticed-append [] b = omega arith
noticed-append (link-came handle ∷ a) b = noticed-append a b
noticed-append (link-went ∷ a) b = noticed-append a b
noticed-append (att-heard p ∷ a) b = omega (arith, noticed-append a b)

-- links
links-append : (a b : List News) → links_came (a ++ b) ≡ links_came a + links_came b
links-append [] b = omega arith
links-append (link-came handle ∷ a) b = omega (arith, links-append a b)
links-append (link-went ∷ a) b = links-append a b
links-append (att-heard p ∷ a) b = links-append a b

-- ---- from a fresh state, with any store

module _ (options : Options) (store : List ℕ) (cs : List Call) where
  unlinked : Tied silence (fresh options store)
  unfolding fresh_central
  unlinked = refl

  -- what came in along the trails is what the calls say
  pub same-events : trail.events (fresh options store) cs ≡ events silence (fresh options store) cs
  same-events = events-same silence [] [] (fresh options store) cs (books-fresh options store) unlinked

  pub tied : Tied (air_of silence (fresh options store) cs) (run (fresh options store) cs)
  tied = tied-run silence [] [] (fresh options store) cs (books-fresh options store) unlinked

  -- the promises, of the calls' news
  pub awaited : awaits (run (fresh options store) cs).state.bearer ≡ true → Awaited (events silence (fresh options store) cs) (run (fresh options store) cs).state
  awaited e = subst (λ (es : List Event). Awaited es (run (fresh options store) cs).state) same-events ((all options store cs).waits e)

  pub read-answered : (i : ℕ) → i < length (log (fresh options store) cs) → (u : Uuid) → (get_or (taken (fresh options store) cs) i no_queued).step ≡ Read u
      → (get_or (log (fresh options store) cs) i no_valued).entry.status ≡ Ok → Answered (events silence (fresh options store) cs) (get_or (log (fresh options store) cs) i no_valued)
  read-answered i p u e f = subst (λ (es : List Event). Answered es (get_or (log (fresh options store) cs) i no_valued)) same-events ((all options store cs).reads i p u e f)

  pub notified-counted : (run (fresh options store) cs).state.counters.notified ≡ noticed (heard silence (fresh options store) cs)
  notified-counted = counted.notified-counted options store cs ∙ counts_same noticed refl noticed-append silence [] [] (fresh options store) cs (books-fresh options store) unlinked

  pub links-counted : (run (fresh options store) cs).state.counters.links ≡ links_came (heard silence (fresh options store) cs)
  links-counted = counted.links-counted options store cs ∙ counts_same links_came refl links-append silence [] [] (fresh options store) cs (books-fresh options store) unlinked

  pub requests-in-turn : InTurn (taken (fresh options store) cs) 0 (events silence (fresh options store) cs)
  requests-in-turn = subst (λ (es : List Event). InTurn (taken (fresh options store) cs) 0 es) same-events (in-turn options store cs)
