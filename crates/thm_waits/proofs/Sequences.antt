-- Over every sequence of calls from a fresh state, with any store, refused calls included: what waits go by, from the calls alone.
use Prim.Native.Nat.{ℕ, zero, suc, ◌+◌, ◌<◌}
use mathlib.Core.Path.{◌≡◌, refl, sym, ap, ◌∙◌, subst}
use mathlib.Core.Bool.{Bool, true, false, false≢true}
use mathlib.Core.List.{List, [], ◌∷◌, ◌++◌, append-nil, append_assoc}
use native.Mathlib.Omega.{arith}
use lib.ListN.{length, get_or, length-append}
use lib.Dec.{eqb}
use borrow.Author.Tests.{eqb-true}
use Rattle.bytes_base.specs.Choice.{pick}
use Rattle.lists.specs.Queue.{newest}
use Rattle.lists.specs.Blocks.{Valued, valued}
use Rattle.state_places.specs.Sizes.{most_notifications}
use Rattle.time.specs.declared.Millis.{Millis}
use Rattle.uuid_value.specs.declared.Uuid.{Uuid}
use Rattle.gatt_characteristics.specs.Characteristic.{known, characteristic_with}
use Rattle.notifications.specs.declared.Notification.{Notification}
use Rattle.notifications.specs.declared.Age.TheVariants.{Within}
use Rattle.state.specs.Fresh.{fresh_central, no_queued}
use Rattle.state.specs.declared.Options.{Options}
use Rattle.state.specs.declared.Queued.{Queued}
use Rattle.state.specs.declared.Step.TheVariants.{WaitNotification}
use Rattle.state.specs.declared.StepResult.{StepResult}
use Rattle.state.specs.declared.StepStatus.TheVariants.{Ok}
use Rattle.state_rules.specs.Refusals.{accepted, long_frame}
use Rattle.script_rules.specs.World.{Held}
use Rattle.script_rules.specs.Outcome.{Outcome, done}
use Rattle.link_rules.specs.Fragment as link
use Rattle.thm_trail.specs.Calls.{Call, batch, timer, connected, disconnected, advertising, scan_response, fragment, reads, time_of, does, left, fresh, run, gate_of, done?}
use Rattle.thm_trail.specs.Trail.{News, begins, goes, final}
use Rattle.thm_trail.specs.Log.{no_valued, given_in, given_by, log, room_for, takes_in, taken}
use Rattle.thm_trail.proofs.Ends.{refused_of, does-law, refusal_is}
use Rattle.thm_accounting.proofs.Accounting.{books-fresh, books-call, taken-snoc}
use Rattle.thm_heard.specs.Heard.{Air, silence, link}
use Rattle.thm_heard.proofs.Tied.{Tied}
use Rattle.thm_heard.proofs.Calls.{news-refused}
use Rattle.thm_heard.proofs.Sequences.{tied-run}
use Rattle.thm_links.specs.Keeps.{kept_notifications}
use Rattle.thm_waits.specs.Notices.{notices_in, links_by, Brought, brings, brought_by, nothing_yet, brought, notices_of, links_of}
use Rattle.thm_waits.specs.Waits.{passed_in, wait_from_by, wait_from, values_for, values_in, values_of, Present, Passed, Names}
use Rattle.thm_waits.proofs.Counting.{Each}
use Rattle.thm_waits.proofs.Ears.{Ear, ear-same}
use Rattle.thm_waits.proofs.Line.{Small, line_values, Line}
use Rattle.thm_waits.proofs.Turns.{Fact}
use Rattle.thm_waits.proofs.Calls.{Between, many-for, small-more, Moment, did}

-- ---- a call that is refused

ear-refused : {F : ℕ} {L : List (Valued Notification)} {N : ℕ} {P : Bool} (h : Held) (c : Call) → Ear F L N P false h → Ear F L N P false (left (refused_of h c))
ear-refused h (batch out at b values) e = e
ear-refused h (timer out at) e = e
ear-refused h (connected out handle at) e = e
ear-refused h (disconnected at) e = e
ear-refused h (advertising v) e = e
ear-refused h (scan_response at a d) e = e
ear-refused {F} {L} {N} {P} h (fragment out at start piece) e = go (eqb (gate_of h (fragment out at start piece)) long_frame)
  where
    go : (b : Bool) → Ear F L N P false (record { state = pick b (link.with_held h.state 0) h.state; store = h.store })
    go true = ear-same e refl refl refl refl refl refl
    go false = e
ear-refused h (reads r) e = e

line_refused : (h : Held) (c : Call) → line_values (left (refused_of h c)) ≡ line_values h
line_refused h (batch out at b values) = refl
line_refused h (timer out at) = refl
line_refused h (connected out handle at) = refl
line_refused h (disconnected at) = refl
line_refused h (advertising v) = refl
line_refused h (scan_response at a d) = refl
line_refused h (fragment out at start piece) = go (eqb (gate_of h (fragment out at start piece)) long_frame)
  where
    go : (b : Bool) → line_values (record { state = pick b (link.with_held h.state 0) h.state; store = h.store }) ≡ line_values h
    go true = refl
    go false = refl
line_refused h (reads r) = refl

links-refused : (n : ℕ) (c : Call) (why : ℕ) → eqb why accepted ≡ false → links_by n c why ≡ n
links-refused n (batch out at b values) why e = refl
links-refused n (timer out at) why e = refl
links-refused n (connected out handle at) why e = ap (λ (x : Bool). pick x (n + 1) n) e
links-refused n (disconnected at) why e = refl
links-refused n (advertising v) why e = refl
links-refused n (scan_response at a d) why e = refl
links-refused n (fragment out at start piece) why e = refl
links-refused n (reads r) why e = refl

-- ---- a call

-- of a call that is done if x, answers why and leaves g
record Leaves (B : Brought) (F : ℕ) (l : List (Valued StepResult)) (q : List Queued) (vs : List (List ℕ)) (h : Held) (c : Call) (x : Bool) (why : ℕ) (g : Held) : Type 0 where
  P : Bool
  ear :
      Ear (pick (passed_in (q ++ pick x (room_for h c) []) (pick x (given_in (begins h c) (goes h c)) [])) (length (brings B c why).notices) F) (brings B c why).notices
      (brings B c why).links P false g
  line : Line (vs ++ pick x (values_for h c) []) (l ++ pick x (given_in (begins h c) (goes h c)) []) g
  small : Small (q ++ pick x (room_for h c) [])
  many : length (vs ++ pick x (values_for h c) []) ≡ length (q ++ pick x (room_for h c) [])
  each :
      Each (Fact (Moment (begins h c) (goes h c)) F (brings B c why).notices (brings B c why).links P (time_of c) (q ++ pick x (room_for h c) []) (vs ++ pick x (values_for h c) []))
      (pick x (given_in (begins h c) (goes h c)) [])

-- the next call counts from where this one left it
ear-next : {F : ℕ} {L : List (Valued Notification)} {N : ℕ} {P b : Bool} {g : Held} → Ear F L N P b g → Ear (pick b (length L) F) L N P false g
ear-next e = record { cells = e.cells; table = e.table; many = e.many; from = e.from; links = e.links; present = e.present }

leaves : (B : Brought) (F : ℕ) (P : Bool) (l : List (Valued StepResult)) (q : List Queued) (vs : List (List ℕ)) (h : Held) (c : Call) → Between B F P l q vs h
    → Leaves B F l q vs h c (done? h c) (does h c).refusal (left (does h c))
leaves B F P l q vs h c i =
    subst (λ (n : ℕ). Leaves B F l q vs h c (done? h c) n (left (does h c))) (sym (refusal_is h c))
    (subst (λ (x : Outcome). Leaves B F l q vs h c (done? h c) (gate_of h c) (left x)) (sym (does-law h c)) (go (done? h c) refl))
  where
    go : (x : Bool) → done? h c ≡ x → Leaves B F l q vs h c x (gate_of h c) (left (pick x (done (final (begins h c) (goes h c))) (refused_of h c)))
    go true e =
        let d = did B F P l q vs h i c e in
        let g = d.went.going in
        subst (λ (n : ℕ). Leaves B F l q vs h c true n (final (begins h c) (goes h c)).held) (sym (eqb-true (gate_of h c) accepted e))
        (record {
          P = d.P;
          ear = ear-next g.ear;
          line = g.line;
          small = small-more q h c e i.small;
          many = omega (arith, length-append vs (values_for h c), length-append q (room_for h c), i.many, many-for h c);
          each = d.went.each;
        })
    go false e =
        let why = gate_of h c in
        let same : (brings B c why).notices ≡ B.notices =
        ap (λ (t : List News). B.notices ++ notices_in (time_of c) B.links t) (news-refused B.air c why e) ∙ append-nil B.notices in
        record {
          P = P;
          ear =
              subst (λ (L : List (Valued Notification)). Ear F L (brings B c why).links P false (left (refused_of h c))) (sym same)
              (subst (λ (n : ℕ). Ear F B.notices n P false (left (refused_of h c))) (sym (links-refused B.links c why e)) (ear-refused h c i.ear));
          line =
              subst (λ (t : List (List ℕ)). Line t (l ++ []) (left (refused_of h c))) (sym (append-nil vs))
              (subst (λ (t : List (Valued StepResult)). Line vs t (left (refused_of h c))) (sym (append-nil l)) (line_refused h c ∙ i.line));
          small = subst Small (sym (append-nil q)) i.small;
          many = ap length (append-nil vs) ∙ i.many ∙ sym (ap length (append-nil q));
          each = tt;
        }

-- ---- a sequence of calls

record Reached (B : Brought) (F : ℕ) (l : List (Valued StepResult)) (q : List Queued) (vs : List (List ℕ)) (h : Held) : Type 0 where
  P : Bool
  between : Between B F P l q vs h

call : (B : Brought) (F : ℕ) (P : Bool) (l : List (Valued StepResult)) (q : List Queued) (vs : List (List ℕ)) (h : Held) (c : Call) (i : Between B F P l q vs h)
    → let now = brings B c (does h c).refusal in
    Between now (pick (passed_in (q ++ takes_in h c) (given_by h c)) (length now.notices) F) (leaves B F P l q vs h c i).P (l ++ given_by h c) (q ++ takes_in h c) (vs ++ values_in h c)
    (left (does h c))
call B F P l q vs h c i =
    let x = leaves B F P l q vs h c i in
    record {
      books = books-call l q h c i.books;
      tied = tied-run B.air l q h (c ∷ []) i.books i.tied;
      ear = x.ear;
      line = x.line;
      small = x.small;
      many = x.many;
    }

reach : (B : Brought) (F : ℕ) (P : Bool) (l : List (Valued StepResult)) (q : List Queued) (vs : List (List ℕ)) (h : Held) (cs : List Call) → Between B F P l q vs h
    → Reached (brought_by B h cs) (wait_from_by F q B h cs) (l ++ log h cs) (q ++ taken h cs) (vs ++ values_of h cs) (run h cs)
reach B F P l q vs h [] i =
    subst (λ (t : List (Valued StepResult)). Reached B F t (q ++ []) (vs ++ []) h) (sym (append-nil l))
    (subst (λ (t : List Queued). Reached B F l t (vs ++ []) h) (sym (append-nil q))
    (subst (λ (t : List (List ℕ)). Reached B F l q t h) (sym (append-nil vs)) (record { P = P; between = i })))
reach B F P l q vs h (c ∷ cs) i =
    let g = left (does h c) in
    let b = brought_by B h (c ∷ cs) in
    let n = wait_from_by F q B h (c ∷ cs) in
    let now = brings B c (does h c).refusal in
    let F' = pick (passed_in (q ++ takes_in h c) (given_by h c)) (length now.notices) F in
    subst (λ (t : List (Valued StepResult)). Reached b n t (q ++ taken h (c ∷ cs)) (vs ++ values_of h (c ∷ cs)) (run g cs)) (append_assoc l (given_by h c) (log g cs))
    (subst (λ (t : List Queued). Reached b n ((l ++ given_by h c) ++ log g cs) t (vs ++ values_of h (c ∷ cs)) (run g cs)) (append_assoc q (takes_in h c) (taken g cs))
    (subst (λ (t : List (List ℕ)). Reached b n ((l ++ given_by h c) ++ log g cs) ((q ++ takes_in h c) ++ taken g cs) t (run g cs)) (append_assoc vs (values_in h c) (values_of g cs))
    (reach now F' (leaves B F P l q vs h c i).P (l ++ given_by h c) (q ++ takes_in h c) (vs ++ values_in h c) g cs (call B F P l q vs h c i))))

-- one call more
brought-snoc : (b : Brought) (h : Held) (cs : List Call) (c : Call) → brings (brought_by b h cs) c (does (run h cs) c).refusal ≡ brought_by b h (cs ++ (c ∷ []))
brought-snoc b h [] c = refl
brought-snoc b h (d ∷ cs) c = brought-snoc (brings b d (does h d).refusal) (left (does h d)) cs c

values-snoc : (h : Held) (cs : List Call) (c : Call) → values_of h cs ++ values_in (run h cs) c ≡ values_of h (cs ++ (c ∷ []))
values-snoc h [] c = sym (append-nil (values_in h c))
values-snoc h (d ∷ cs) c =
    let g = left (does h d) in
    append_assoc (values_in h d) (values_of g cs) (values_in (run g cs) c) ∙ ap (λ (t : List (List ℕ)). values_in h d ++ t) (values-snoc g cs c)

each_at : {A : Type 0} (P : A → Type 0) (l : List A) (i : ℕ) (d : A) → Each P l → i < length l → P (get_or l i d)
each_at P [] i d e k = absurd (omega arith)
each_at P (x ∷ l) zero d e k = e.0
each_at P (x ∷ l) (suc i) d e k = each_at P l i d e.1 (omega arith)

-- ---- from a fresh state, with any store

between-fresh : (options : Options) (store : List ℕ) → Between nothing_yet 0 false [] [] [] (fresh options store)
unfolding fresh_central valued newest
between-fresh options store =
    record {
      books = books-fresh options store;
      tied = refl;
      ear = record { cells = refl; table = refl; many = refl; from = refl; links = refl; present = refl };
      line = refl;
      small = tt;
      many = refl;
    }

-- a link is there
present-so : (a : Air) (h : Held) (P : Bool) → Tied a h → h.state.bearer.present ≡ P → P ≡ true → Present a
present-so silence h P t e f = false≢true (sym t ∙ e ∙ f)
present-so (link handle partial) h P t e f = tt

module _ (options : Options) (store : List ℕ) (cs : List Call) where
  abbrev h : Held
  h = run (fresh options store) cs

  reached : Reached (brought options store cs) (wait_from options store cs) (log (fresh options store) cs) (taken (fresh options store) cs) (values_of (fresh options store) cs) h
  reached = reach nothing_yet 0 false [] [] [] (fresh options store) cs (between-fresh options store)

  -- the notifications that are kept are the newest of all heard, with their values
  pub kept-heard : kept_notifications h ≡ newest most_notifications (notices_of options store cs)
  kept-heard = reached.between.ear.table

  pub notified-heard : h.state.counters.notified ≡ length (notices_of options store cs)
  notified-heard = reached.between.ear.many

  pub links-counted : h.state.counters.links ≡ links_of options store cs
  links-counted = reached.between.ear.links

  pub wait-from-counted : h.state.counters.wait_from ≡ wait_from options store cs
  wait-from-counted = reached.between.ear.from

  module _ (c : Call) where
    abbrev past : Leaves (brought options store cs) (wait_from options store cs) (log (fresh options store) cs) (taken (fresh options store) cs) (values_of (fresh options store) cs) h c (done? h c) (does h c).refusal (left (does h c))
    past = leaves (brought options store cs) (wait_from options store cs) reached.P (log (fresh options store) cs) (taken (fresh options store) cs) (values_of (fresh options store) cs) h c reached.between

    fact : (j : ℕ) → j < length (given_by h c)
        → Fact (Moment (begins h c) (goes h c)) (wait_from options store cs) (brings (brought options store cs) c (does h c).refusal).notices (brings (brought options store cs) c (does h c).refusal).links past.P
        (time_of c) (taken (fresh options store) cs ++ takes_in h c)
        (values_of (fresh options store) cs ++ values_in h c) (get_or (given_by h c) j no_valued)
    fact j k = each_at (Fact _ _ _ _ _ _ _ _) (given_by h c) j no_valued past.each k

    -- an aged wait's Ok result
    pub aged-wait : (j : ℕ) → j < length (given_by h c) → let x = (get_or (given_by h c) j no_valued).entry in let all = cs ++ (c ∷ []) in (u : Uuid) (ms age : Millis)
        → (get_or (taken (fresh options store) all) x.index no_queued).step ≡ WaitNotification u ms (Within age) → x.status ≡ Ok
        → Passed h c (brought options store all) (wait_from options store cs) u age (get_or (values_of (fresh options store) all) x.index []) x
    aged-wait j k u ms age e f =
        let x = (get_or (given_by h c) j no_valued).entry in
        let now = brings (brought options store cs) c (does h c).refusal in
        let n = (fact j k).aged u ms age (ap (λ (t : List Queued). (get_or t x.index no_queued).step) (taken-snoc (fresh options store) cs c) ∙ e) f in
        subst (λ (b : Brought). Passed h c b (wait_from options store cs) u age (get_or (values_of (fresh options store) (cs ++ (c ∷ []))) x.index []) x) (brought-snoc nothing_yet (fresh options store) cs c)
        (subst (λ (t : List (List ℕ)). Passed h c now (wait_from options store cs) u age (get_or t x.index []) x) (values-snoc (fresh options store) cs c)
        (record {
          present = present-so now.air (left (does h c)) past.P (tied-run (brought options store cs).air _ _ h (c ∷ []) reached.between.books reached.between.tied) past.ear.present
              n.present;
          moment = n.through.hops;
          characteristic = n.characteristic;
          known-then = ap (λ (g : Held). characteristic_with u (known g.state.characteristics)) n.through.is ∙ n.known-then;
          before = n.before;
          newest = n.newest;
          some = n.some;
          named = n.named;
          front = n.stands.front;
          rest = n.stands.rest;
          contains = n.stands.is;
        }))

    -- every other result names nothing
    pub heard-of-waits-alone : (j : ℕ) → j < length (given_by h c) → let x = (get_or (given_by h c) j no_valued).entry in Names (get_or (taken (fresh options store) (cs ++ (c ∷ []))) x.index no_queued).step x
    heard-of-waits-alone j k =
        let x = (get_or (given_by h c) j no_valued).entry in
        subst (λ (t : List Queued). Names (get_or t x.index no_queued).step x) (taken-snoc (fresh options store) cs c) (fact j k).names
