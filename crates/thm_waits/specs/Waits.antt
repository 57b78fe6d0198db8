-- What an aged wait ends Ok on (02, One): of everything heard, what counts; the newest of it, which its result names; what it contains.
use Rattle.std.specs.Prelude.{ℕ, ◌+◌, ◌-◌, ◌*◌, max, ◌≡◌, Bool, true, false, ◌&&◌, ◌||◌, List, [], ◌∷◌, ◌++◌, length, take, drop, get_or, eqb, leb, Some}
use Rattle.bytes_base.specs.Choice.{pick}
use Rattle.lists.specs.Blocks.{Valued, bytes}
use Rattle.state_places.specs.Sizes.{most_notifications, most_steps}
use Rattle.time.specs.declared.Micros.{Micros}
use Rattle.time.specs.declared.Millis.{Millis}
use Rattle.uuid_value.specs.declared.Uuid.{Uuid}
use Rattle.gatt_characteristics.specs.Characteristic.{known, characteristic_with}
use Rattle.gatt_characteristics.specs.declared.Characteristic.{Characteristic}
use Rattle.notifications.specs.declared.Notification.{Notification}
use Rattle.notifications.specs.declared.Age.TheVariants.{Within}
use Rattle.state.specs.Fresh.{no_queued}
use Rattle.state.specs.declared.Options.{Options}
use Rattle.state.specs.declared.Queued.{Queued}
use Rattle.state.specs.declared.Step.{Step}
use Rattle.state.specs.declared.Step.TheVariants.{WaitNotification}
use Rattle.state.specs.declared.StepResult.{StepResult}
use Rattle.state.specs.declared.StepStatus.{StepStatus}
use Rattle.state.specs.declared.StepStatus.TheVariants.{Ok, Timeout, NotConnected, NotFound, AttError, TooLong, Disconnected, TableFull, BearerClosed}
use Rattle.state_kinds.specs.Kinds.{kind_of, wait_notification}
use Rattle.script_rules.specs.World.{Held}
use Rattle.script_rules.specs.declared.Placed.{Placed}
use Rattle.script_rules.specs.BatchSteps.{steps, value_len}
use Rattle.thm_trail.specs.Calls.{Call, batch, timer, connected, disconnected, advertising, scan_response, fragment, reads, time_of, does, left, fresh, done?}
use Rattle.thm_trail.specs.Trail.{final, begins, goes}
use Rattle.thm_trail.specs.Log.{given_by, takes_in}
use Rattle.thm_heard.specs.Heard.{Air, silence, link}
use Rattle.thm_waits.specs.Notices.{Brought, brings, nothing_yet}

-- ---- `wait_from`: how many were heard when the last wait passed

abbrev pub is_ok : StepStatus → Bool
is_ok Ok = true
is_ok Timeout = false
is_ok NotConnected = false
is_ok NotFound = false
is_ok (AttError code) = false
is_ok TooLong = false
is_ok Disconnected = false
is_ok TableFull = false
is_ok BearerClosed = false

abbrev pub is_wait_notification : Step → Bool
is_wait_notification s = eqb (kind_of s) wait_notification

-- whether a wait passed: one of these results is a WaitNotification's, and Ok; q are the steps taken in, each result has its step's number
abbrev pub passed_in : List Queued → List (Valued StepResult) → Bool
passed_in q [] = false
passed_in q (x ∷ l) = (is_ok x.entry.status && is_wait_notification (get_or q x.entry.index no_queued).step) || passed_in q l

-- n before these calls, when q were taken in and b was brought
abbrev pub wait_from_by : ℕ → List Queued → Brought → Held → List Call → ℕ
wait_from_by n q b h [] = n
wait_from_by n q b h (c ∷ cs) =
    let all = q ++ takes_in h c in
    let now = brings b c (does h c).refusal in
    wait_from_by (pick (passed_in all (given_by h c)) (length now.notices) n) all now (left (does h c)) cs

abbrev pub wait_from : Options → List ℕ → List Call → ℕ
wait_from options store cs = wait_from_by 0 [] nothing_yet (fresh options store) cs

-- ---- `contains`: what a batch hands in with each step that it has room for, in the order of `taken`

abbrev pub values_at : List ℕ → List Placed → List (List ℕ)
values_at values [] = []
values_at values (p ∷ ps) = bytes values p.place (value_len p) ∷ values_at values ps

abbrev pub values_for : Held → Call → List (List ℕ)
values_for h (batch out at b values) = values_at values (take (most_steps - h.state.queue.count) (steps b))
values_for h (timer out at) = []
values_for h (connected out handle at) = []
values_for h (disconnected at) = []
values_for h (advertising v) = []
values_for h (scan_response at a d) = []
values_for h (fragment out at start piece) = []
values_for h (reads r) = []

abbrev pub values_in : Held → Call → List (List ℕ)
values_in h c = pick (done? h c) (values_for h c) []

abbrev pub values_of : Held → List Call → List (List ℕ)
values_of h [] = []
values_of h (c ∷ cs) = values_in h c ++ values_of (left (does h c)) cs

-- ---- what counts

-- what an aged wait goes by when it passes: the handle of its characteristic's value, the number of the link that is present, the time of the call, the age
pub record Terms : Type 0 where
  pub handle : ℕ
  pub link : ℕ
  pub now : Micros
  pub age : Millis

-- of that handle, of that link, not after now, at most the age before now
abbrev pub counts : Terms → Notification → Bool
counts t x = eqb x.handle t.handle && eqb x.link t.link && leb x.at.0 t.now.0 && leb t.now.0 (x.at.0 + t.age.0 * 1000)

-- a notification with its number: they are numbered from 0 in the order heard
pub record Numbered : Type 0 where
  pub number : ℕ
  pub notice : Valued Notification

-- those of a list that pass a test; the first of the list has number n
abbrev pub numbered : (Notification → Bool) → ℕ → List (Valued Notification) → List Numbered
numbered f n [] = []
numbered f n (x ∷ l) = pick (f x.entry) (record { number = n; notice = x } ∷ []) [] ++ numbered f (n + 1) l

-- their values, end to end
abbrev pub joined : List Numbered → List ℕ
joined [] = []
joined (x ∷ l) = x.notice.value ++ joined l

-- from `wait_from` on, of those that are kept: the newest 32
abbrev pub first_of : Brought → ℕ → ℕ
first_of b from = max from (length b.notices - most_notifications)

abbrev pub counted : Brought → ℕ → Terms → List Numbered
counted b from t = numbered (counts t) (first_of b from) (drop (first_of b from) b.notices)

-- ---- the promise

abbrev pub Present : Air → Type 0
Present silence = ⊥
Present (link handle partial) = Unit {0}

-- of the Ok result x of an aged wait on u, given by the call c in h: b was brought then, from was `wait_from`
pub record Passed (h : Held) (c : Call) (b : Brought) (from : ℕ) (u : Uuid) (age : Millis) (needle : List ℕ) (x : StepResult) : Type 0 where
  pub present : Present b.air
  -- its characteristic, as known in a world that the call passes through, so many hops in
  pub moment : ℕ
  pub characteristic : Characteristic
  pub known-then : characteristic_with u (known (final (begins h c) (take moment (goes h c))).held.state.characteristics) ≡ Some characteristic
  -- one or more count, and the result names the newest
  pub before : List Numbered
  pub newest : Numbered
  pub some : counted b from (record { handle = characteristic.value_handle; link = b.links; now = time_of c; age = age }) ≡ before ++ (newest ∷ [])
  pub named : x.heard ≡ newest.number + 1
  -- `contains` stands in their values
  pub front : List ℕ
  pub rest : List ℕ
  pub contains : joined (before ++ (newest ∷ [])) ≡ front ++ (needle ++ rest)

-- what a result names, by its step
pub data Names (s : Step) (x : StepResult) : Type 0 where
  nothing : x.heard ≡ 0 → Names s x
  newest-of : (u : Uuid) (ms age : Millis) → s ≡ WaitNotification u ms (Within age) → x.status ≡ Ok → Names s x
