-- Each edit of what thm_waits promises, tried under must-fail, makes a promise false, as in Untrue.antt.
use Rattle.std.specs.Prelude.{ℕ, zero, suc, ◌+◌, ◌-◌, ◌*◌, ◌<◌, max, ◌≡◌, refl, Bool, true, false, ◌&&◌, ◌||◌, List, [], ◌∷◌, ◌++◌, length, take, drop, get_or, eqb, leb, Option, Some, None}
use Rattle.std.proofs.Common.{sym, ap, ap₂, ◌∙◌, subst, arith, take_all, eq-eqb}
use Rattle.std.proofs.lemmas.Bool.{false≢true}
use Rattle.bytes_base.specs.Choice.{pick}
use Rattle.bytes_base.specs.Bytes.{le_at}
use Rattle.lists.specs.Queue.{newest}
use Rattle.lists.specs.Blocks.{Valued}
use Rattle.state_places.specs.Sizes.{most_notifications}
use Rattle.time.specs.declared.Micros.{Micros}
use Rattle.time.specs.declared.Millis.{Millis}
use Rattle.uuid_value.specs.declared.Uuid.{Uuid}
use Rattle.att_pdu.specs.Numbers.{op_handle_value_ind}
use Rattle.gatt_characteristics.specs.Characteristic.{known, characteristic_with}
use Rattle.gatt_characteristics.specs.declared.Characteristic.{Characteristic}
use Rattle.notifications.specs.declared.Notification.{Notification}
use Rattle.notifications.specs.declared.Age.TheVariants.{Within}
use Rattle.notifications.specs.Wait.{starts, contains}
use Rattle.state.specs.Fresh.{no_options, no_queued}
use Rattle.state.specs.declared.Queued.{Queued}
use Rattle.state.specs.declared.Step.{Step}
use Rattle.state.specs.declared.Step.TheVariants.{WaitNotification, Capture}
use Rattle.state.specs.declared.StepResult.{StepResult}
use Rattle.state.specs.declared.StepStatus.TheVariants.{Ok}
use Rattle.script_rules.specs.World.{Held}
use Rattle.thm_trail.specs.Calls.{Call, batch, timer, connected, disconnected, advertising, scan_response, fragment, reads, time_of, does, left, run}
use Rattle.thm_trail.specs.Trail.{News, link-came, link-went, att-heard, Pass, begins, goes, final}
use Rattle.thm_trail.specs.Log.{no_valued, given_by, takes_in, taken}
use Rattle.thm_counts.specs.Tally.{is_notice}
use Rattle.thm_heard.specs.Heard.{after, news}
use Rattle.thm_links.specs.Keeps.{kept_notifications}
use Rattle.thm_waits.specs.Notices.{notices_in, links_by, Brought, brings, nothing_yet, brought}
use Rattle.thm_waits.specs.Waits as waits
use Rattle.thm_waits.specs.Waits.{Terms, Numbered, numbered, passed_in, wait_from, values_of, Present}
use Rattle.promises_shown.specs.Opened.{opened}
use Rattle.promises_shown.specs.Sequences as calls
use Rattle.promises_shown.specs.Sequences.{fresh, store, at, ms, step, level}
use Rattle.promises_shown.specs.Known.{knowing, known_store, knows, from-there}
use Rattle.promises_shown.specs.Waiting as shown

-- ---- an aged wait, by other rules

pub record Rules : Type 0 where
  pub handle_of : Characteristic → ℕ
  pub counts : Terms → Notification → Bool
  pub first : Brought → ℕ → ℕ
  pub named : ℕ → ℕ
  pub joined : List Numbered → List ℕ

pub record Passed (r : Rules) (h : Held) (c : Call) (b : Brought) (from : ℕ) (u : Uuid) (age : Millis) (needle : List ℕ) (x : StepResult) : Type 0 where
  pub present : Present b.air
  pub moment : ℕ
  pub characteristic : Characteristic
  pub known-then : characteristic_with u (known (final (begins h c) (take moment (goes h c))).held.state.characteristics) ≡ Some characteristic
  pub before : List Numbered
  pub newest : Numbered
  pub some :
      numbered (r.counts (record { handle = r.handle_of characteristic; link = b.links; now = time_of c; age = age })) (r.first b from) (drop (r.first b from) b.notices)
      ≡ before ++ (newest ∷ [])
  pub heard : x.heard ≡ r.named newest.number
  pub front : List ℕ
  pub rest : List ℕ
  pub stands : r.joined (before ++ (newest ∷ [])) ≡ front ++ (needle ++ rest)

abbrev pub AgedWait : Rules → Type 0
AgedWait r =
    (store : List ℕ) (cs : List Call) (c : Call) (i : ℕ) → let given = given_by (run (fresh store) cs) c in i < length given
    → let x = (get_or given i no_valued).entry in let all = cs ++ (c ∷ []) in (u : Uuid) (ms age : Millis)
    → (get_or (taken (fresh store) all) x.index no_queued).step ≡ WaitNotification u ms (Within age) → x.status ≡ Ok
    → Passed r (run (fresh store) cs) c (brought no_options store all) (wait_from no_options store cs) u age (get_or (values_of (fresh store) all) x.index []) x

-- what the rules say at a list of calls that was computed
at-calls : (r : Rules) (ds : List Call) (c : Call) (t n : ℕ) (b : Brought) (value : List ℕ) → shown.Comes ds c (shown.passed_at t n) b shown.aged value → AgedWait r
    → Passed r (run (fresh store) (shown.before ds c)) c b 0 level (ms 2) value (shown.passed_at t n)
at-calls r ds c t n b value k p = moved (shown.brought-is ds c k) (shown.from_is ds c k)
    (ap (λ (y : StepResult). get_or (values_of (fresh store) (shown.before ds c ++ (c ∷ []))) y.index []) x-is ∙ shown.value-is ds c k) x-is there
  where
    given : List (Valued StepResult)
    given = given_by (run (fresh store) (shown.before ds c)) c

    given_is : given ≡ record { entry = shown.passed_at t n; value = [] } ∷ []
    given_is = shown.gives-x ds c k

    x-is : (get_or given 0 no_valued).entry ≡ shown.passed_at t n
    x-is = ap (λ (l : List (Valued StepResult)). (get_or l 0 no_valued).entry) given_is

    there :
        Passed r (run (fresh store) (shown.before ds c)) c (brought no_options store (shown.before ds c ++ (c ∷ []))) (wait_from no_options store (shown.before ds c)) level (ms 2)
        (get_or (values_of (fresh store) (shown.before ds c ++ (c ∷ []))) (get_or given 0 no_valued).entry.index [])
        (get_or given 0 no_valued).entry
    there =
        p store (shown.before ds c) c 0 (subst (λ (l : List (Valued StepResult)). 0 < length l) (sym given_is) (omega arith)) level (ms 1000) (ms 2)
        (ap (λ (y : StepResult). (get_or (taken (fresh store) (shown.before ds c ++ (c ∷ []))) y.index no_queued).step) x-is ∙ shown.step_is ds c k) (ap (λ (y : StepResult). y.status) x-is)

    moved : {a b : Brought} {f g : ℕ} {v w : List ℕ} {x y : StepResult} → a ≡ b → f ≡ g → v ≡ w → x ≡ y → Passed r (run (fresh store) (shown.before ds c)) c a f level (ms 2) v x
        → Passed r (run (fresh store) (shown.before ds c)) c b g level (ms 2) w y
    moved {a} {b} {f} {g} {v} {w} {x} {y} e i j m z =
        subst (λ (s : StepResult). Passed r (run (fresh store) (shown.before ds c)) c b g level (ms 2) w s) m
        (subst (λ (s : List ℕ). Passed r (run (fresh store) (shown.before ds c)) c b g level (ms 2) s x) j
        (subst (λ (s : ℕ). Passed r (run (fresh store) (shown.before ds c)) c b s level (ms 2) v x) i
        (subst (λ (s : Brought). Passed r (run (fresh store) (shown.before ds c)) c s f level (ms 2) v x) e z)))

-- none counts
not_none : (l : List Numbered) (x : Numbered) → ◌≡◌ {A = List Numbered} [] (l ++ (x ∷ [])) → ⊥
not_none [] x e = let n : ◌≡◌ {A = ℕ} 0 1 = ap length e in omega arith
not_none (y ∷ l) x e = let n : ◌≡◌ {A = ℕ} 0 (suc (length (l ++ (x ∷ [])))) = ap length e in omega (arith, n)

-- the last of one, and of two
last-of-one : (a : Numbered) (l : List Numbered) (x : Numbered) → a ∷ [] ≡ l ++ (x ∷ []) → a ≡ x
last-of-one a [] x e = cc
last-of-one a (y ∷ l) x e = absurd (not_none l x (ap (drop 1) e))

last-of-two : (a b : Numbered) (l : List Numbered) (x : Numbered) → a ∷ b ∷ [] ≡ l ++ (x ∷ []) → b ≡ x
last-of-two a b [] x e = let n : ◌≡◌ {A = ℕ} 2 1 = ap length e in absurd (omega arith)
last-of-two a b (y ∷ l) x e = last-of-one b l x (ap (drop 1) e)

-- the handle of the value
abbrev pub value_of : Characteristic → ℕ
value_of x = x.value_handle

-- ---- the one notification of a list of calls does not count

abbrev pub by_counts : (Terms → Notification → Bool) → Rules
by_counts f = record { handle_of = value_of; counts = f; first = waits.first_of; named = λ n. n + 1; joined = waits.joined }

-- heard at a time
abbrev pub one : ℕ → Valued Notification
one t = shown.heard_at t 0xFFFF 1 (0x64 ∷ [])

none-counts : (f : Terms → Notification → Bool) (h : Held) (c : Call) (t now n : ℕ) → time_of c ≡ at now
    → ((handle : ℕ) → f (record { handle = handle; link = 1; now = at now; age = ms 2 }) (one t).entry ≡ false)
    → Passed (by_counts f) h c (shown.after (one t ∷ [])) 0 level (ms 2) [] (shown.passed_at now n) → ⊥
none-counts f h c t now n e out y =
    not_none y.before y.newest
    (sym
    (ap (λ (i : Micros). pick (f (record { handle = y.characteristic.value_handle; link = 1; now = i; age = ms 2 }) (one t).entry) (record { number = 0; notice = one t } ∷ []) [] ++ []) e
    ∙ ap (λ (g : Bool). pick g (record { number = 0; notice = one t } ∷ []) [] ++ []) (out y.characteristic.value_handle))
    ∙ y.some)

-- the notification is of the present link
abbrev pub counts_before : Terms → Notification → Bool
counts_before t x = eqb x.handle t.handle && eqb (x.link + 1) t.link && leb x.at.0 t.now.0 && leb t.now.0 (x.at.0 + t.age.0 * 1000)

pub counts-of-the-link-before : AgedWait (by_counts counts_before) → ⊥
counts-of-the-link-before p =
    none-counts counts_before _ _ 7 7 1 refl (λ handle. fails (eqb 0xFFFF handle)) (at-calls (by_counts counts_before) (shown.waits 6 ∷ []) (shown.tells 7 (0x64 ∷ [])) 7 1 _ [] shown.comes-then p)
  where
    fails : (a : Bool) → (a && false && true && true) ≡ false
    fails true = refl
    fails false = refl

-- it is a millisecond old
abbrev pub counts_micros : Terms → Notification → Bool
counts_micros t x = eqb x.handle t.handle && eqb x.link t.link && leb x.at.0 t.now.0 && leb t.now.0 (x.at.0 + t.age.0)

pub age-in-microseconds : AgedWait (by_counts counts_micros) → ⊥
age-in-microseconds p =
    none-counts counts_micros _ _ 6 1006 1 refl (λ handle. fails (eqb 0xFFFF handle))
    (at-calls (by_counts counts_micros) (shown.tells 6 (0x64 ∷ []) ∷ []) (shown.waits 1006) 1006 1 _ [] shown.came-before p)
  where
    fails : (a : Bool) → (a && true && true && false) ≡ false
    fails true = refl
    fails false = refl

-- it comes with the call that ends the wait
abbrev pub counts_past : Terms → Notification → Bool
counts_past t x = eqb x.handle t.handle && eqb x.link t.link && leb (x.at.0 + 1) t.now.0 && leb t.now.0 (x.at.0 + t.age.0 * 1000)

pub counts-before-now-alone : AgedWait (by_counts counts_past) → ⊥
counts-before-now-alone p =
    none-counts counts_past _ _ 7 7 1 refl (λ handle. fails (eqb 0xFFFF handle)) (at-calls (by_counts counts_past) (shown.waits 6 ∷ []) (shown.tells 7 (0x64 ∷ [])) 7 1 _ [] shown.comes-then p)
  where
    fails : (a : Bool) → (a && true && false && true) ≡ false
    fails true = refl
    fails false = refl

-- ---- its handle is that of the value

abbrev pub declaration_of : Characteristic → ℕ
declaration_of x = x.declaration

abbrev pub by_declaration : Rules
by_declaration = record { handle_of = declaration_of; counts = waits.counts; first = waits.first_of; named = λ n. n + 1; joined = waits.joined }

-- all through the call the battery level is known, with its declaration at FFFE
abbrev waiting : Held
waiting = run knows (shown.waits 6 ∷ [])

abbrev telling : Call
telling = shown.tells 7 (0x64 ∷ [])

abbrev here : Characteristic
here = record { declaration = 0xFFFE; value_handle = 0xFFFF; uuid = level; properties = 0x02; cccd = None }

abbrev seen : List Pass → Option Characteristic
seen ps = characteristic_with level (known (final (begins waiting telling) ps).held.state.characteristics)

three-hops : length (goes waiting telling) ≡ 3
unfolding opened knowing known_store
three-hops = refl

at-end : seen (goes waiting telling) ≡ Some here
unfolding opened knowing known_store
at-end = refl

known_through : (k : ℕ) → seen (take k (goes waiting telling)) ≡ Some here
unfolding opened knowing known_store
known_through zero = refl
known_through (suc zero) = refl
known_through (suc (suc zero)) = refl
known_through (suc (suc (suc k))) = ap seen (take_all (suc (suc (suc k))) (goes waiting telling) (omega (arith, three-hops))) ∙ at-end

pub handle-of-the-declaration : AgedWait by_declaration → ⊥
handle-of-the-declaration p =
    none (subst (λ (g : Held). Passed by_declaration g telling (shown.after (one 7 ∷ [])) 0 level (ms 2) [] (shown.passed_at 7 1)) (from-there (shown.waits 6 ∷ []))
    (at-calls by_declaration (shown.waits 6 ∷ []) telling 7 1 _ [] shown.comes-then p))
  where
    none : Passed by_declaration waiting telling (shown.after (one 7 ∷ [])) 0 level (ms 2) [] (shown.passed_at 7 1) → ⊥
    none y =
        let e : Some here ≡ Some y.characteristic = sym (known_through y.moment) ∙ y.known-then in
        let i : here ≡ y.characteristic = cc in
        not_none y.before y.newest
        (ap (λ (x : Characteristic). pick (waits.counts (record { handle = x.declaration; link = 1; now = at 7; age = ms 2 }) (one 7).entry)
        (record { number = 0; notice = one 7 } ∷ []) [] ++ []) i ∙ y.some)

-- ---- another would be the newest

abbrev pub counts_any : Terms → Notification → Bool
counts_any t x = eqb x.link t.link && leb x.at.0 t.now.0 && leb t.now.0 (x.at.0 + t.age.0 * 1000)

-- the result names number 0, and another handle's came after it
pub counts-of-any-handle : AgedWait (by_counts counts_any) → ⊥
counts-of-any-handle p = named _ (at-calls (by_counts counts_any) (shown.tells 6 (0x64 ∷ []) ∷ shown.tells_other 7 ∷ []) (shown.waits 8) 8 1 _ [] shown.other_after p)
  where
    named : (h : Held) → Passed (by_counts counts_any) h (shown.waits 8) (shown.after (one 6 ∷ shown.heard_at 7 0x0005 0 [] ∷ [])) 0 level (ms 2) [] (shown.passed_at 8 1) → ⊥
    named h y =
        let e = last-of-two (record { number = 0; notice = one 6 }) (record { number = 1; notice = shown.heard_at 7 0x0005 0 [] }) y.before y.newest y.some in
        let n : 1 ≡ y.newest.number = ap (λ (x : Numbered). x.number) e in
        omega (arith, n, y.heard)

-- ---- where it counts from, and what it names

abbrev pub first_later : Brought → ℕ → ℕ
first_later b from = max (from + 1) (length b.notices - most_notifications)

abbrev pub from_later : Rules
from_later = record { handle_of = value_of; counts = waits.counts; first = first_later; named = λ n. n + 1; joined = waits.joined }

pub counts-from-one-later : AgedWait from_later → ⊥
counts-from-one-later p = none _ (at-calls from_later (shown.waits 6 ∷ []) (shown.tells 7 (0x64 ∷ [])) 7 1 _ [] shown.comes-then p)
  where
    none : (h : Held) → Passed from_later h (shown.tells 7 (0x64 ∷ [])) (shown.after (one 7 ∷ [])) 0 level (ms 2) [] (shown.passed_at 7 1) → ⊥
    none h y = not_none y.before y.newest y.some

abbrev pub number_alone : Rules
number_alone = record { handle_of = value_of; counts = waits.counts; first = waits.first_of; named = λ n. n; joined = waits.joined }

pub names-its-number-alone : AgedWait number_alone → ⊥
names-its-number-alone p = named _ (at-calls number_alone (shown.waits 6 ∷ []) (shown.tells 7 (0x64 ∷ [])) 7 1 _ [] shown.comes-then p)
  where
    named : (h : Held) → Passed number_alone h (shown.tells 7 (0x64 ∷ [])) (shown.after (one 7 ∷ [])) 0 level (ms 2) [] (shown.passed_at 7 1) → ⊥
    named h y = go (waits.counts (record { handle = y.characteristic.value_handle; link = 1; now = at 7; age = ms 2 }) (one 7).entry) y.some
      where
        go : (b : Bool) → pick b (record { number = 0; notice = one 7 } ∷ []) [] ++ [] ≡ y.before ++ (y.newest ∷ []) → ⊥
        go true e =
            let n : 0 ≡ y.newest.number = ap (λ (x : Numbered). x.number) (last-of-one (record { number = 0; notice = one 7 }) y.before y.newest e) in
            omega (arith, n, y.heard)
        go false e = not_none y.before y.newest e

-- ---- how the values are joined

abbrev pub joined_back : List Numbered → List ℕ
joined_back [] = []
joined_back (x ∷ l) = joined_back l ++ x.notice.value

abbrev pub newest_first : Rules
newest_first = record { handle_of = value_of; counts = waits.counts; first = waits.first_of; named = λ n. n + 1; joined = joined_back }

-- what stands in others is found there
found_first : (xs rest : List ℕ) → starts xs (xs ++ rest) ≡ true
unfolding starts
found_first [] rest = refl
found_first (x ∷ xs) rest = ap₂ (λ (a b : Bool). a && b) (eq-eqb x x refl) (found_first xs rest)

found : (x : ℕ) (xs front rest : List ℕ) → contains (x ∷ xs) (front ++ (x ∷ (xs ++ rest))) ≡ true
unfolding contains
found x xs [] rest = ap (λ (a : Bool). a || contains (x ∷ xs) (xs ++ rest)) (found_first (x ∷ xs) rest)
found x xs (y ∷ front) rest = go (starts (x ∷ xs) (y ∷ (front ++ (x ∷ (xs ++ rest))))) (found x xs front rest)
  where
    go : (a : Bool) → contains (x ∷ xs) (front ++ (x ∷ (xs ++ rest))) ≡ true → (a || contains (x ∷ xs) (front ++ (x ∷ (xs ++ rest)))) ≡ true
    go true e = refl
    go false e = e

not_there : contains (0x52 ∷ 0x45 ∷ []) (0x45 ∷ 0x45 ∷ 0x46 ∷ 0x52 ∷ []) ≡ false
unfolding contains starts
not_there = refl

-- 46 52, then 45 45; the wait looks for 52 45
abbrev pair : List (Valued Notification)
pair = shown.heard_at 6 0xFFFF 2 (0x46 ∷ 0x52 ∷ []) ∷ shown.heard_at 7 0xFFFF 2 (0x45 ∷ 0x45 ∷ []) ∷ []

pub joined-newest-first : AgedWait newest_first → ⊥
joined-newest-first p = missing _ (at-calls newest_first (shown.tells 6 (0x46 ∷ 0x52 ∷ []) ∷ shown.tells 7 (0x45 ∷ 0x45 ∷ []) ∷ []) (shown.looks 8) 8 2 _ (0x52 ∷ 0x45 ∷ []) shown.two-joined p)
  where
    missing : (h : Held) → Passed newest_first h (shown.looks 8) (shown.after pair) 0 level (ms 2) (0x52 ∷ 0x45 ∷ []) (shown.passed_at 8 2) → ⊥
    missing h y = go (eqb 0xFFFF y.characteristic.value_handle) y.some
      where
        go : (a : Bool)
            → pick (a && true && true && true) (record { number = 0; notice = shown.heard_at 6 0xFFFF 2 (0x46 ∷ 0x52 ∷ []) } ∷ []) []
            ++ (pick (a && true && true && true) (record { number = 1; notice = shown.heard_at 7 0xFFFF 2 (0x45 ∷ 0x45 ∷ []) } ∷ []) [] ++ [])
            ≡ y.before ++ (y.newest ∷ []) → ⊥
        go true e = false≢true (sym not_there ∙ ap (contains (0x52 ∷ 0x45 ∷ [])) (ap joined_back e ∙ y.stands) ∙ found 0x52 (0x45 ∷ []) y.front y.rest)
        go false e = not_none y.before y.newest e

-- ---- `wait_from`

abbrev pub wait_from_before : ℕ → List Queued → Brought → Held → List Call → ℕ
wait_from_before n q b h [] = n
wait_from_before n q b h (c ∷ cs) =
    let all = q ++ takes_in h c in
    let now = brings b c (does h c).refusal in
    wait_from_before (pick (passed_in all (given_by h c)) (length b.notices) n) all now (left (does h c)) cs

abbrev pub passes : List Call
passes = shown.waits 6 ∷ shown.tells 7 (0x64 ∷ []) ∷ []

moved_to : (run knows passes).state.counters.wait_from ≡ 1
unfolding opened knowing known_store
moved_to = refl

edited-to : wait_from_before 0 [] nothing_yet (fresh store) (calls.known ++ passes) ≡ 0
unfolding opened
edited-to = refl

pub wait-from-before-the-call : ((store : List ℕ) (cs : List Call) → (run (fresh store) cs).state.counters.wait_from ≡ wait_from_before 0 [] nothing_yet (fresh store) cs) → ⊥
wait-from-before-the-call p =
    omega (arith, sym moved_to ∙ sym (ap (λ (h : Held). h.state.counters.wait_from) (from-there passes)) ∙ p store (calls.known ++ passes) ∙ edited-to)

-- ---- what every other result names

pub data NamesOne (s : Step) (x : StepResult) : Type 0 where
  first_one : x.heard ≡ 1 → NamesOne s x
  newest-of : (u : Uuid) (ms age : Millis) → s ≡ WaitNotification u ms (Within age) → x.status ≡ Ok → NamesOne s x

-- a step that is done at once
captured : given_by (run (fresh store) []) (step 1 (Capture true)) ≡ record { entry = record { index = 0; at = at 1; status = Ok; len = 0; heard = 0 }; value = [] } ∷ []
unfolding opened
captured = refl

captures : (get_or (taken (fresh store) (step 1 (Capture true) ∷ [])) 0 no_queued).step ≡ Capture true
unfolding opened
captures = refl

pub every-result-names-one :
    ((store : List ℕ) (cs : List Call) (c : Call) (i : ℕ) → let given = given_by (run (fresh store) cs) c in i < length given
    → let x = (get_or given i no_valued).entry in NamesOne (get_or (taken (fresh store) (cs ++ (c ∷ []))) x.index no_queued).step x) → ⊥
every-result-names-one p = named _ (taken (fresh store) (step 1 (Capture true) ∷ [])) (ap (λ (l : List (Valued StepResult)). (get_or l 0 no_valued).entry) captured) captures
    (p store [] (step 1 (Capture true)) 0 (subst (λ (l : List (Valued StepResult)). 0 < length l) (sym captured) (omega arith)))
  where
    named : (x : StepResult) (q : List Queued) → x ≡ record { index = 0; at = at 1; status = Ok; len = 0; heard = 0 } → (get_or q 0 no_queued).step ≡ Capture true
        → NamesOne (get_or q x.index no_queued).step x → ⊥
    named x q e f (first_one n) = omega (arith, n, ap (λ (y : StepResult). y.heard) e)
    named x q e f (newest-of u ms age s k) =
        let z : Capture true ≡ WaitNotification u ms (Within age) = sym f ∙ sym (ap (λ (y : StepResult). (get_or q y.index no_queued).step) e) ∙ s in
        let n : ◌≡◌ {A = ℕ} 0 1 = cc in
        omega arith

-- ---- what is heard

abbrev pub notices_wide : Micros → ℕ → List News → List (Valued Notification)
notices_wide at link [] = []
notices_wide at link (link-came handle ∷ l) = notices_wide at link l
notices_wide at link (link-went ∷ l) = notices_wide at link l
notices_wide at link (att-heard p ∷ l) =
    pick (is_notice p)
    (record { entry = record { at = at; handle = le_at 2 p 1; len = length p - 3; indication = eqb (get_or p 0 0) op_handle_value_ind; link = link }; value = drop 2 p } ∷ [])
    []
    ++ notices_wide at link l

-- what is brought, by another reading of a call
abbrev pub brought_as : (Micros → ℕ → List News → List (Valued Notification)) → (ℕ → Call → ℕ → ℕ) → Brought → Held → List Call → Brought
brought_as notices links b h [] = b
brought_as notices links b h (c ∷ cs) =
    let why = (does h c).refusal in
    brought_as notices links (record { air = after b.air c why; links = links b.links c why; notices = b.notices ++ notices (time_of c) b.links (news b.air c why) }) (left (does h c)) cs

-- a notification with a byte of value, on a new link
abbrev notified : List Call
notified = calls.linked ++ (calls.att 2 (0x1B ∷ 0x03 ∷ 0x00 ∷ 0xA5 ∷ []) ∷ [])

abbrev size_of : List (Valued Notification) → ℕ
size_of [] = 0
size_of (x ∷ l) = length x.value

record Notified : Type 0 where
  kept-is : size_of (kept_notifications (run (fresh store) notified)) ≡ 1
  edited-is : size_of (newest most_notifications (brought_as notices_wide links_by nothing_yet (fresh store) notified).notices) ≡ 2

one-notified : Notified
unfolding opened
one-notified = record { kept-is = refl; edited-is = refl }

pub value-with-half-the-handle :
    ((store : List ℕ) (cs : List Call) → kept_notifications (run (fresh store) cs) ≡ newest most_notifications (brought_as notices_wide links_by nothing_yet (fresh store) cs).notices) → ⊥
value-with-half-the-handle p = omega (arith, sym one-notified.kept-is ∙ ap size_of (p store notified) ∙ one-notified.edited-is)

-- a connected call that lends no output
abbrev pub links_any : ℕ → Call → ℕ → ℕ
links_any n (batch out at b values) why = n
links_any n (timer out at) why = n
links_any n (connected out handle at) why = n + 1
links_any n (disconnected at) why = n
links_any n (advertising v) why = n
links_any n (scan_response at a d) why = n
links_any n (fragment out at start piece) why = n
links_any n (reads r) why = n

abbrev unmet : List Call
unmet = connected [] 64 (at 1) ∷ []

record Unmet : Type 0 where
  links-is : (run (fresh store) unmet).state.counters.links ≡ 0
  edited-is : (brought_as notices_in links_any nothing_yet (fresh store) unmet).links ≡ 1

none-met : Unmet
unfolding opened
none-met = record { links-is = refl; edited-is = refl }

pub links-of-refused-calls :
    ((store : List ℕ) (cs : List Call) → (run (fresh store) cs).state.counters.links ≡ (brought_as notices_in links_any nothing_yet (fresh store) cs).links) → ⊥
links-of-refused-calls p = omega (arith, sym none-met.links-is ∙ p store unmet ∙ none-met.edited-is)
