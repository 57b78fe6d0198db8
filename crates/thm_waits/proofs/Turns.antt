-- What a turn of the script gives, and what it leaves of all that waits go by.
use Rattle.std.specs.Prelude.{Some, None}
use Prim.Native.Nat.{ℕ, zero, suc, ◌+◌, ◌-◌, ◌≤◌, min, max}
use mathlib.Core.Path.{◌≡◌, refl, sym, ap, ap₂, ◌∙◌, subst}
use mathlib.Core.Bool.{Bool, true, false, ◌&&◌, ◌||◌, false≢true}
use mathlib.Core.List.{List, [], ◌∷◌, ◌++◌, append-nil}
use native.Mathlib.Omega.{arith}
use lib.ListN.{length, drop, get_or, drop_of_length-le}
use lib.Seq.{drop-drop, length-take-le}
use Rattle.bytes_base.specs.Choice.{pick}
use Rattle.lists.specs.Queue.{newest, pushed}
use Rattle.lists.proofs.QueueLaws.{length-newest}
use Rattle.lists.specs.Blocks.{Valued, valued, bytes}
use Rattle.lists.proofs.BlockLaws.{length-valued, stored-below}
use Rattle.state_places.specs.Sizes.{most_steps, most_results, most_notifications, store_size, result_size, held_at, running_at, result_at}
use Rattle.time.specs.declared.Micros.{Micros}
use Rattle.time.specs.declared.Millis.{Millis}
use Rattle.time.specs.Clock.{latest}
use Rattle.uuid_value.specs.declared.Uuid.{Uuid}
use Rattle.gatt_characteristics.specs.Characteristic.{known, characteristic_with}
use Rattle.gatt_characteristics.specs.declared.Characteristic.{Characteristic}
use Rattle.notifications.specs.declared.Notification.{Notification}
use Rattle.notifications.specs.declared.Wanted.{Wanted}
use Rattle.notifications.specs.declared.Age.{Age}
use Rattle.notifications.specs.declared.Age.TheVariants.{Any, Within}
use Rattle.notifications.specs.Kept.{part, live}
use Rattle.notifications.specs.Wait as code
use Rattle.state.specs.Central.{Central, with_counters}
use Rattle.state.specs.Fresh.{no_queued}
use Rattle.state.specs.declared.Queue.{Queue}
use Rattle.state.specs.declared.Queued.{Queued}
use Rattle.state.specs.declared.Step.{Step}
use Rattle.state.specs.declared.Step.TheVariants.{WaitNotification}
use Rattle.state.specs.declared.StepResult.{StepResult}
use Rattle.state.specs.declared.Results.{Results}
use Rattle.state.specs.declared.StepStatus.{StepStatus}
use Rattle.state.specs.declared.StepStatus.TheVariants.{Ok, Timeout, NotConnected, NotFound, AttError, TooLong, Disconnected, TableFull, BearerClosed}
use Rattle.script_rules.specs.World.{Held, on_state}
use Rattle.script_rules.specs.Finish.{result_part, kept, ended, finish}
use Rattle.script_rules.specs.Waiting.{waiting}
use Rattle.script_rules.specs.Wait.{wanted, skipped, wait_passes, passed_on, passed, passing}
use Rattle.thm_trail.specs.Log.{kept_results, gave}
use Rattle.thm_accounting.specs.InLine.{in_line}
use Rattle.thm_accounting.proofs.Gives.{Whole, whole_same, finish-pushes}
use Rattle.thm_accounting.proofs.Books.{Books, none-gave, gave-pushed}
use Rattle.thm_links.specs.Keeps.{kept_notifications}
use Rattle.thm_waits.specs.Waits.{is_ok, is_wait_notification, passed_in, counts, Numbered, numbered, joined, Names, nothing, newest-of}
use Rattle.thm_waits.proofs.Counting.{Each, entries, Stands, chosen, Found, found, none_found, same_chosen, linked-then}
use Rattle.thm_waits.proofs.Leads.{Other, Leads, stays, ends_so, passes-so}
use Rattle.thm_waits.proofs.Ears.{Ear, ear-other, ear-finish, ear-passing}
use Rattle.thm_waits.proofs.Line.{Small, small-drop, line_values, Line, line_same, first_rest, line-running, line-ended}

-- what an aged wait's Ok result rests on: L was heard on N links, P tells whether one is there, F was `wait_from`, W tells of the states that the
-- call passes through
pub record Counted (W : Held → Type 0) (u : Uuid) (F : ℕ) (L : List (Valued Notification)) (N : ℕ) (P : Bool) (at : Micros) (age : Millis) (needle : List ℕ) (x : StepResult) : Type 0 where
  pub present : P ≡ true
  pub world : Held
  pub through : W world
  pub characteristic : Characteristic
  pub known-then : characteristic_with u (known world.state.characteristics) ≡ Some characteristic
  pub before : List Numbered
  pub newest : Numbered
  pub some :
      numbered (counts (record { handle = characteristic.value_handle; link = N; now = at; age = age })) (max F (length L - most_notifications)) (drop (max F (length L - most_notifications)) L)
      ≡ before ++ (newest ∷ [])
  pub named : x.heard ≡ newest.number + 1
  pub stands : Stands needle (joined (before ++ (newest ∷ [])))

-- of each result: q were taken in, vs are their values
pub record Fact (W : Held → Type 0) (F : ℕ) (L : List (Valued Notification)) (N : ℕ) (P : Bool) (at : Micros) (q : List Queued) (vs : List (List ℕ)) (x : Valued StepResult) : Type 0 where
  pub aged : (c : Uuid) (ms age : Millis) → (get_or q x.entry.index no_queued).step ≡ WaitNotification c ms (Within age) → x.entry.status ≡ Ok
      → Counted W c F L N P at age (get_or vs x.entry.index []) x.entry
  pub names : Names (get_or q x.entry.index no_queued).step x.entry

-- ---- what a wait looks at is the end of the log

entries-valued : (s : List ℕ) (i : ℕ) (l : List Notification) → entries (valued (λ y. y.len) part s i l) ≡ l
unfolding valued
entries-valued s i [] = refl
entries-valued s i (x ∷ l) = ap (λ (t : List Notification). x ∷ t) (entries-valued s (suc i) l)

drop-entries : (k : ℕ) (l : List (Valued Notification)) → drop k (entries l) ≡ entries (drop k l)
drop-entries zero l = refl
drop-entries (suc k) [] = refl
drop-entries (suc k) (x ∷ l) = drop-entries k l

module _ {F : ℕ} {L : List (Valued Notification)} {N : ℕ} {P : Bool} {b : Bool} (u : Held) (few : u.state.notifications.count ≤ most_notifications) (e : Ear F L N P b u) where
  abbrev c : Central
  c = u.state

  abbrev first : ℕ
  first = max c.counters.wait_from (length L - most_notifications)

  abbrev needle : List ℕ
  needle = bytes u.store running_at c.running.len

  count-is : c.notifications.count ≡ min (length L) most_notifications
  count-is =
      sym (length-take-le c.notifications.count c.notifications.kept (omega (arith, few, e.cells)))
      ∙ sym (length-valued (λ y. y.len) part u.store 0 (live c.notifications))
      ∙ ap length e.table
      ∙ length-newest most_notifications L

  kept-rest : drop (skipped c) (kept_notifications u) ≡ drop first L
  unfolding newest
  kept-rest =
      let z : (length L - most_notifications) + skipped c ≡ first = omega (arith, count-is, e.many) in
      ap (drop (skipped c)) e.table ∙ drop-drop (skipped c) (length L - most_notifications) L ∙ ap (λ (k : ℕ). drop k L) z

  looked : (w : Wanted) → wait_passes u w ≡ code.passes w (drop first L) needle
  looked w = ap (λ (t : List (Valued Notification)). code.passes w t needle) kept-rest

  told : (w : Wanted) (age : Millis) → passed_on c w (Within age) ≡ code.newest_counted w first 0 (entries (drop first L))
  told w age =
      let z : c.counters.notified - c.notifications.count + skipped c ≡ first = omega (arith, count-is, e.many) in
      ap₂ (λ (n : ℕ) (t : List Notification). code.newest_counted w n 0 t) z
      (ap (drop (skipped c)) (sym (entries-valued u.store 0 (live c.notifications))) ∙ drop-entries (skipped c) (kept_notifications u) ∙ ap entries kept-rest)

  -- once one has passed, none does before another is heard
  not-again : (w : Wanted) → b ≡ true → wait_passes u w ≡ true → ⊥
  not-again w f yes' =
      let z : c.counters.wait_from ≡ length L = e.from ∙ ap (λ (x : Bool). pick x (length L) F) f in
      let n : drop first L ≡ [] = drop_of_length-le L {i = first} (omega (arith, z)) in
      false≢true (sym (looked w ∙ ap (λ (t : List (Valued Notification)). code.passes w t needle) n ∙ none_found w needle) ∙ yes')

  counted-so : (W : Held → Type 0) (at : Micros) → at.0 ≤ latest → (y : Uuid) (z : Characteristic) (g : Held) → W g → characteristic_with y (known g.state.characteristics) ≡ Some z
      → (age : Millis) (x : StepResult) → b ≡ false → wait_passes u (wanted c at z.value_handle (Within age)) ≡ true
      → x.heard ≡ passed_on c (wanted c at z.value_handle (Within age)) (Within age) → Counted W y F L N P at age needle x
  counted-so W at time y z g through k-then age x f yes' h =
      record {
        present = sym e.present ∙ there;
        world = g;
        through = through;
        characteristic = z;
        known-then = k-then;
        before = k.before;
        newest = k.newest;
        some =
            ap (λ (j : ℕ). numbered (counts (record { handle = z.value_handle; link = N; now = at; age = age })) j (drop j L)) (sym first-is)
            ∙ sym (same_chosen z.value_handle N at age time first (drop first L))
            ∙ ap₂ (λ (i : Bool) (n : ℕ). chosen (record { handle = z.value_handle; age = Within age; link = pick i (Some n) None; now = at }) first (drop first L)) (sym there) (sym e.links)
            ∙ k.some;
        named = h ∙ told w age ∙ k.named;
        stands = k.stands;
      }
    where
      w : Wanted
      w = wanted c at z.value_handle (Within age)

      first-is : first ≡ max F (length L - most_notifications)
      first-is = ap (λ (j : ℕ). max j (length L - most_notifications)) (e.from ∙ ap (λ (y : Bool). pick y (length L) F) f)

      k : Found w first (drop first L) needle
      k = found w first (drop first L) needle (sym (looked w) ∙ yes')

      there : c.bearer.present ≡ true
      there = linked-then z.value_handle c.counters.links at age c.bearer.present k.newest.notice.entry k.counted

-- ---- the end of a step

low-finish : (h : Held) (at : Micros) (st : StepStatus) (from n heard a m : ℕ) → a + m ≤ result_at 0 → bytes (finish h at st from n heard).store a m ≡ bytes h.store a m
unfolding finish ended
low-finish h at st from n heard a m k = go h.state.running.active
  where
    go : (x : Bool) → bytes (pick x (ended h at st from n heard) h).store a m ≡ bytes h.store a m
    go true = stored-below result_part h.state.results.count h.store from n h.store a m k
    go false = refl

queue-finish : (h : Held) (at : Micros) (st : StepStatus) (from n heard : ℕ) → (finish h at st from n heard).state.queue ≡ h.state.queue
unfolding finish ended
queue-finish h at st from n heard = go h.state.running.active
  where
    go : (x : Bool) → (pick x (ended h at st from n heard) h).state.queue ≡ h.state.queue
    go true = refl
    go false = refl

known-finish : (h : Held) (at : Micros) (st : StepStatus) (from n heard : ℕ) → (finish h at st from n heard).state.characteristics ≡ h.state.characteristics
unfolding finish ended
known-finish h at st from n heard = go h.state.running.active
  where
    go : (x : Bool) → (pick x (ended h at st from n heard) h).state.characteristics ≡ h.state.characteristics
    go true = refl
    go false = refl

over-finish : (h : Held) (at : Micros) (st : StepStatus) (from n heard : ℕ) → (finish h at st from n heard).state.running.active ≡ false
unfolding finish ended
over-finish h at st from n heard = go h.state.running.active refl
  where
    go : (x : Bool) → h.state.running.active ≡ x → (pick x (ended h at st from n heard) h).state.running.active ≡ false
    go true e = refl
    go false e = e

idle-finish : (h : Held) (at : Micros) (st : StepStatus) (from n heard : ℕ) → h.state.running.active ≡ false → finish h at st from n heard ≡ h
unfolding finish
idle-finish h at st from n heard e = ap (λ (x : Bool). pick x (ended h at st from n heard) h) e

-- ---- small laws

or-false : (b : Bool) → (b || false) ≡ b
or-false true = refl
or-false false = refl

or-true : (b : Bool) → (b || true) ≡ true
or-true true = refl
or-true false = refl

ok-is : (st : StepStatus) → is_ok st ≡ true → st ≡ Ok
ok-is Ok e = refl
ok-is Timeout e = absurd (false≢true e)
ok-is NotConnected e = absurd (false≢true e)
ok-is NotFound e = absurd (false≢true e)
ok-is (AttError code) e = absurd (false≢true e)
ok-is TooLong e = absurd (false≢true e)
ok-is Disconnected e = absurd (false≢true e)
ok-is TableFull e = absurd (false≢true e)
ok-is BearerClosed e = absurd (false≢true e)

kept-other : {h g : Held} → Other h g → kept_results g ≡ kept_results h
kept-other o = ap₂ (λ (s : List ℕ) (r : Results). valued (λ x. x.len) result_part s 0 (kept r)) o.store o.results

line_of : (a b : Bool) (s t : Step) (n m : ℕ) (p q : Queue) → a ≡ b → s ≡ t → n ≡ m → p ≡ q
    → pick a (record { step = s; len = n } ∷ []) [] ++ waiting p ≡ pick b (record { step = t; len = m } ∷ []) [] ++ waiting q
line_of a b s t n m p q e f g i = rw (e, f, g, i)

line_other : {h g : Held} → Other h g → in_line g.state ≡ in_line h.state
line_other {h} {g} o = line_of g.state.running.active h.state.running.active g.state.running.step h.state.running.step g.state.running.len h.state.running.len
    g.state.queue h.state.queue o.active o.step o.len o.queue

-- the step that runs is the next of those taken in
pub running-is : (l : List (Valued StepResult)) (q : List Queued) (h : Held) → Books l q h → h.state.running.active ≡ true → (get_or q (length l) no_queued).step ≡ h.state.running.step
running-is l q h b a =
    let x : Queued = record { step = h.state.running.step; len = h.state.running.len } in
    let f : x ∷ waiting h.state.queue ≡ drop (length l) q = sym (ap (λ (y : Bool). pick y (x ∷ []) [] ++ waiting h.state.queue) a) ∙ b.line in
    ap (λ (y : Queued). y.step) (first_rest x no_queued (waiting h.state.queue) q (length l) f).0

-- ---- a turn

pub record Turned (W : Held → Type 0) (F : ℕ) (L : List (Valued Notification)) (N : ℕ) (P b : Bool) (at : Micros) (l : List (Valued StepResult)) (q : List Queued) (vs : List (List ℕ))
    (h g : Held) : Type 0 where
  pub ear : Ear F L N P (b || passed_in q (gave h g)) g
  pub line : Line vs (l ++ gave h g) g
  pub each : Each (Fact W F L N P at q vs) (gave h g)

module _ (W : Held → Type 0) {F : ℕ} {L : List (Valued Notification)} {N : ℕ} {P b : Bool} (at : Micros) (time : at.0 ≤ latest) (l : List (Valued StepResult)) (q : List Queued)
    (vs : List (List ℕ)) (h : Held)
    (ear : Ear F L N P b h) (books : Books l q h) (whole : Whole h) (few : h.state.notifications.count ≤ most_notifications) (short : h.state.queue.count ≤ most_steps) (small : Small q)
    (line : Line vs l h) where
  in-line : Small (in_line h.state)
  in-line = subst Small (sym books.line) (small-drop (length l) q small)

  pub turned_none : {g : Held} → gave h g ≡ [] → Ear F L N P b g → line_values g ≡ line_values h → Turned W F L N P b at l q vs h g
  turned_none {g} none e same =
      record {
        ear = subst (λ (t : List (Valued StepResult)). Ear F L N P (b || passed_in q t) g) (sym none) (subst (λ (x : Bool). Ear F L N P x g) (sym (or-false b)) e);
        line = subst (λ (t : List (Valued StepResult)). Line vs (l ++ t) g) (sym none) (subst (λ (t : List (Valued StepResult)). Line vs t g) (sym (append-nil l)) (same ∙ line));
        each = subst (Each (Fact W F L N P at q vs)) (sym none) tt;
      }

  turned-one : {g : Held} (x : Valued StepResult) → gave h g ≡ x ∷ [] → Ear F L N P (b || passed_in q (x ∷ [])) g → Line vs (l ++ (x ∷ [])) g → Fact W F L N P at q vs x
      → Turned W F L N P b at l q vs h g
  turned-one {g} x one e k f =
      record {
        ear = subst (λ (t : List (Valued StepResult)). Ear F L N P (b || passed_in q t) g) (sym one) e;
        line = subst (λ (t : List (Valued StepResult)). Line vs (l ++ t) g) (sym one) k;
        each = subst (Each (Fact W F L N P at q vs)) (sym one) (f, tt);
      }

  turned-stays : {g : Held} → Other h g → Turned W F L N P b at l q vs h g
  turned-stays {g} o =
      turned_none (none-gave l q h g books (kept-other o)) (ear-other ear o)
      (line_same h g short in-line o.active (line_other o) (λ a n k. ap (λ (s : List ℕ). bytes s a n) o.store))

  -- what is so of a step that runs, in a state u that has other parts changed
  module _ (u : Held) (o : Other h u) (on : u.state.running.active ≡ true) where
    was : h.state.running.active ≡ true
    was = sym o.active ∙ on

    step_is : (get_or q u.state.running.index no_queued).step ≡ h.state.running.step
    step_is = ap (λ (i : ℕ). (get_or q i no_queued).step) (o.index ∙ books.number was) ∙ running-is l q h books was

    value-is : bytes u.store running_at u.state.running.len ≡ get_or vs u.state.running.index []
    value-is =
        ap₂ (λ (s : List ℕ) (n : ℕ). bytes s running_at n) o.store o.len
        ∙ sym (first_rest (bytes h.store running_at h.state.running.len) [] _ vs (length l) (line-running vs l h was line)).0
        ∙ ap (λ (i : ℕ). get_or vs i []) (sym (o.index ∙ books.number was))

    waiting-small : Small (waiting h.state.queue)
    waiting-small = (subst (λ (a : Bool). Small (pick a (record { step = h.state.running.step; len = h.state.running.len } ∷ []) [] ++ waiting h.state.queue)) was in-line).1

    -- its result is given
    gives : (v : Held) (st : StepStatus) (from n heard : ℕ)
        → kept_results (finish v at st from n heard) ≡ pushed most_results (kept_results u)
        (record { entry = record { index = u.state.running.index; at = at; status = st; len = n; heard = heard }; value = bytes v.store from n })
        → gave h (finish v at st from n heard) ≡ record { entry = record { index = u.state.running.index; at = at; status = st; len = n; heard = heard }; value = bytes v.store from n } ∷ []
    gives v st from n heard r =
        let x : Valued StepResult = record { entry = record { index = u.state.running.index; at = at; status = st; len = n; heard = heard }; value = bytes v.store from n } in
        gave-pushed l q h (finish v at st from n heard) x books (o.index ∙ books.number was) (r ∙ ap (λ (t : List (Valued StepResult)). pushed most_results t x) (kept-other o))

    line-over : (v : Held) (st : StepStatus) (from n heard : ℕ) (x : Valued StepResult) → v.state.queue ≡ u.state.queue → v.store ≡ u.store
        → Line vs (l ++ (x ∷ [])) (finish v at st from n heard)
    line-over v st from n heard x k s =
        line-ended vs l x h (finish v at st from n heard) short waiting-small was (over-finish v at st from n heard) (queue-finish v at st from n heard ∙ k ∙ o.queue)
        (λ a m z. low-finish v at st from n heard a m z ∙ ap (λ (t : List ℕ). bytes t a m) (s ∙ o.store)) line

  module _ (u : Held) (st : StepStatus) (from n : ℕ) (o : Other h u) (room : from + n ≤ store_size) (little : n ≤ result_size)
      (bad : is_wait_notification h.state.running.step ≡ true → st ≡ Ok → ⊥) where
    abbrev over : Held
    over = finish u at st from n 0

    turned-ends : Turned W F L N P b at l q vs h over
    turned-ends = go u.state.running.active refl
      where
        x : Valued StepResult
        x = record { entry = record { index = u.state.running.index; at = at; status = st; len = n; heard = 0 }; value = bytes u.store from n }

        go : (a : Bool) → u.state.running.active ≡ a → Turned W F L N P b at l q vs h over
        go true on =
            turned-one x (gives u o on u st from n 0 (finish-pushes u at st from n 0 (whole_same whole (ap length o.store) o.results) room little on))
            (subst (λ (y : Bool). Ear F L N P (b || (y || false)) over) (sym (missed (is_ok st) (is_wait_notification h.state.running.step) refl refl))
            (subst (λ (y : Bool). Ear F L N P y over) (sym (or-false b)) (ear-finish u at st from n 0 little (ear-other ear o))))
            (line-over u o on u st from n 0 x refl refl)
            (record { aged = λ c ms age s k. absurd (bad (ap is_wait_notification (sym (step_is u o on) ∙ s)) k); names = nothing refl })
          where
            missed : (y z : Bool) → is_ok st ≡ y → is_wait_notification h.state.running.step ≡ z → (is_ok st && is_wait_notification (get_or q u.state.running.index no_queued).step) ≡ false
            missed true true e f = absurd (bad f (ok-is st e))
            missed true false e f = ap₂ (λ (i j : Bool). i && j) e (ap is_wait_notification (step_is u o on) ∙ f)
            missed false z e f = ap (λ (i : Bool). i && is_wait_notification (get_or q u.state.running.index no_queued).step) e
        go false off = subst (Turned W F L N P b at l q vs h) (sym (idle-finish u at st from n 0 off)) (turned-stays o)

  module _ (u : Held) (c : Uuid) (ms : Millis) (age : Age) (z : Characteristic) (o : Other h u) (found-so : characteristic_with c (known u.state.characteristics) ≡ Some z)
      (is : h.state.running.step ≡ WaitNotification c ms age) (was-on : h.state.running.active ≡ true)
      (passes : wait_passes u (wanted u.state at z.value_handle age) ≡ true) (through : W (passing u at (wanted u.state at z.value_handle age))) where
    abbrev w : Wanted
    w = wanted u.state at z.value_handle age

    abbrev v : Held
    v = on_state u (with_counters u.state (passed u.state.counters))

    abbrev heard : ℕ
    heard = passed_on u.state w age

    abbrev result : Valued StepResult
    result = record { entry = record { index = u.state.running.index; at = at; status = Ok; len = 0; heard = heard }; value = bytes v.store held_at 0 }

    on-u : u.state.running.active ≡ true
    on-u = o.active ∙ was-on

    few-u : u.state.notifications.count ≤ most_notifications
    few-u = subst (λ n. n.count ≤ most_notifications) (sym o.notifications) few

    the_step : (get_or q u.state.running.index no_queued).step ≡ WaitNotification c ms age
    the_step = step_is u o on-u ∙ is

    aged-so : (c' : Uuid) (ms' age' : Millis) → (get_or q u.state.running.index no_queued).step ≡ WaitNotification c' ms' (Within age')
        → Counted W c' F L N P at age' (get_or vs u.state.running.index []) result.entry
    aged-so c' ms' age' s =
        subst (λ (needle : List ℕ). Counted W c' F L N P at age' needle result.entry) (value-is u o on-u)
        (go b refl)
      where
        same : age ≡ Within age'
        same = let z : WaitNotification c ms age ≡ WaitNotification c' ms' (Within age') = sym the_step ∙ s in cc

        its : c ≡ c'
        its = let z : WaitNotification c ms age ≡ WaitNotification c' ms' (Within age') = sym the_step ∙ s in cc

        known_so : characteristic_with c' (known (passing u at w).state.characteristics) ≡ Some z
        known_so =
            ap (λ t. characteristic_with c' (known t)) (known-finish v at Ok held_at 0 heard)
            ∙ ap (λ (i : Uuid). characteristic_with i (known u.state.characteristics)) (sym its)
            ∙ found-so

        go : (y : Bool) → b ≡ y → Counted W c' F L N P at age' (bytes u.store running_at u.state.running.len) result.entry
        go true f = absurd (not-again u few-u (ear-other ear o) w f passes)
        go false f =
            counted-so u few-u (ear-other ear o) W at time c' z (passing u at w) through known_so age' result.entry f
            (subst (λ (a : Age). wait_passes u (wanted u.state at z.value_handle a) ≡ true) same passes)
            (ap (λ (a : Age). passed_on u.state (wanted u.state at z.value_handle a) a) same)

    names-so : Names (get_or q u.state.running.index no_queued).step result.entry
    names-so = go age refl
      where
        go : (a : Age) → age ≡ a → Names (get_or q u.state.running.index no_queued).step result.entry
        go Any e = nothing (ap (passed_on u.state w) e)
        go (Within y) e = newest-of c ms y (the_step ∙ ap (WaitNotification c ms) e) refl

    turned-passes : Turned W F L N P b at l q vs h (passing u at w)
    turned-passes =
        turned-one result (gives u o on-u v Ok held_at 0 heard (finish-pushes v at Ok held_at 0 heard (whole_same whole (ap length o.store) o.results) (omega arith) (omega arith) on-u))
        (subst (λ (y : Bool). Ear F L N P (b || (y || false)) (passing u at w)) (sym (ap is_wait_notification the_step))
        (subst (λ (y : Bool). Ear F L N P y (passing u at w)) (sym (or-true b)) (ear-passing u at w (ear-other ear o))))
        (line-over u o on-u v Ok held_at 0 heard result refl refl)
        (record { aged = λ c' ms' age' s k. aged-so c' ms' age' s; names = names-so })

  pub turn : {g : Held} → W g → Leads at h g → Turned W F L N P b at l q vs h g
  turn k (stays o) = turned-stays o
  turn k (ends_so u st from n o room little bad e) = subst (Turned W F L N P b at l q vs h) (sym e) (turned-ends u st from n o room little bad)
  turn k (passes-so u c ms age z o f is on passes e) = subst (Turned W F L N P b at l q vs h) (sym e) (turned-passes u c ms age z o f is on passes (subst W e k))
