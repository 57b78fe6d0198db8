-- What waits go by, along a sequence of calls: the notifications that are kept, how many were heard, where a wait counts from, the links.
use Prim.Native.Nat.{ℕ, zero, suc, ◌+◌, ◌-◌, ◌*◌, ◌≤◌, ◌<◌}
use mathlib.Core.Path.{◌≡◌, refl, sym, ap, ap₂, ◌∙◌}
use mathlib.Core.Bool.{Bool, true, false}
use mathlib.Core.List.{List, [], ◌∷◌, ◌++◌}
use native.Mathlib.Omega.{arith}
use lib.ListN.{length, take, drop, get_or, length-append, length-drop}
use lib.Seq.{drop-drop, length-take-le, take-nil}
use lib.Dec.{eqb, ltb}
use borrow.Author.Tests.{ltb-true}
use Rattle.bytes_base.specs.Choice.{pick}
use Rattle.bytes_base.specs.Bytes.{le_at}
use Rattle.bytes_base.specs.Splice.{splice}
use Rattle.bytes_base.proofs.SpliceLaws.{moved_down}
use Rattle.lists.specs.Queue.{newest, pushed}
use Rattle.lists.proofs.QueueLaws.{pushed-newest, length-onto, pushed-within}
use Rattle.lists.specs.Blocks.{Valued, valued, bytes, place, lowered, stored}
use Rattle.lists.proofs.BlockLaws.{drop_past, lowered-past, valued_same, valued-stored}
use Rattle.state_places.specs.Sizes.{most_steps, most_results, most_notifications, store_size, value_size, result_size, held_at, running_at, waiting_at, notification_at}
use Rattle.time.specs.declared.Micros.{Micros}
use Rattle.att_pdu.specs.Numbers.{op_handle_value_ind}
use Rattle.notifications.specs.declared.Notification.{Notification}
use Rattle.notifications.specs.declared.Notifications.{Notifications}
use Rattle.notifications.specs.Kept.{part, live, values_fit, keeping, kept_value}
use Rattle.notifications.proofs.KeptLaws.{live-keeping}
use Rattle.state.specs.Central.{with_counters}
use Rattle.state.specs.declared.Counters.{Counters}
use Rattle.state.specs.declared.StepStatus.{StepStatus}
use Rattle.state.specs.declared.StepStatus.TheVariants.{Ok}
use Rattle.script_rules.specs.World.{Held, on_state}
use Rattle.script_rules.specs.Finish.{result_part, ended, finish}
use Rattle.script_rules.specs.Waiting.{take_step}
use Rattle.script_rules.specs.Wait.{passed, passing}
use Rattle.notifications.specs.declared.Wanted.{Wanted}
use Rattle.link_rules.specs.Payload.{payload_at, payload_size, payload}
use Rattle.link_rules.specs.Replies.{keep_one}
use Rattle.thm_links.specs.Keeps.{kept_notifications}
use Rattle.thm_links.proofs.Leaves.{kept_from}
use Rattle.thm_waits.specs.Notices.{notice_of}
use Rattle.thm_waits.proofs.Leads.{Other}

-- L was heard, on N links, P tells whether one is there; a wait counts from the end of L where b, else from F on
pub record Ear (F : ℕ) (L : List (Valued Notification)) (N : ℕ) (P : Bool) (b : Bool) (h : Held) : Type 0 where
  pub cells : length h.state.notifications.kept ≡ most_notifications
  pub table : kept_notifications h ≡ newest most_notifications L
  pub many : h.state.counters.notified ≡ length L
  pub from : h.state.counters.wait_from ≡ pick b (length L) F
  pub links : h.state.counters.links ≡ N
  pub present : h.state.bearer.present ≡ P

module _ {F : ℕ} {L : List (Valued Notification)} {N : ℕ} {P : Bool} {b : Bool} where
  -- the same notifications, with the same values
  pub ear-kept : {h g : Held} → Ear F L N P b h → g.state.notifications ≡ h.state.notifications → g.state.counters.notified ≡ h.state.counters.notified
      → g.state.counters.wait_from ≡ h.state.counters.wait_from → g.state.counters.links ≡ h.state.counters.links
      → g.state.bearer.present ≡ h.state.bearer.present → kept_notifications g ≡ kept_notifications h → Ear F L N P b g
  ear-kept e n m f l p s =
      record {
        cells = ap (λ (x : Notifications). length x.kept) n ∙ e.cells;
        table = s ∙ e.table;
        many = m ∙ e.many;
        from = f ∙ e.from;
        links = l ∙ e.links;
        present = p ∙ e.present;
      }

  -- no byte from their part on has changed
  pub ear-same : {h g : Held} → Ear F L N P b h → g.state.notifications ≡ h.state.notifications → g.state.counters.notified ≡ h.state.counters.notified
      → g.state.counters.wait_from ≡ h.state.counters.wait_from → g.state.counters.links ≡ h.state.counters.links
      → g.state.bearer.present ≡ h.state.bearer.present → drop (notification_at 0) g.store ≡ drop (notification_at 0) h.store → Ear F L N P b g
  ear-same {h} {g} e n m f l p s = ear-kept e n m f l p (kept_from h g n s)

  pub ear-other : {h g : Held} → Ear F L N P b h → Other h g → Ear F L N P b g
  ear-other e o =
      ear-same e o.notifications (ap (λ (k : Counters). k.notified) o.counters) (ap (λ (k : Counters). k.wait_from) o.counters)
      (ap (λ (k : Counters). k.links) o.counters) o.present (ap (drop (notification_at 0)) o.store)

-- ---- a step ends: its value stands below the notifications

above : (count : ℕ) (src : List ℕ) (from n : ℕ) (s : List ℕ) → n ≤ result_size → drop (notification_at 0) (stored result_part count src from n s) ≡ drop (notification_at 0) s
unfolding stored
above count src from n s m = go (ltb count most_results) refl
  where
    go : (b : Bool) → ltb count most_results ≡ b
        → drop (notification_at 0) (pick b (splice s (place result_part count) src from n) (splice (lowered result_part s) (place result_part 63) src from n)) ≡ drop (notification_at 0) s
    go true e = let r : count < most_results = ltb-true count most_results e in drop_past s (place result_part count) src from n (notification_at 0) (omega (arith, r, m))
    go false e =
        drop_past (lowered result_part s) (place result_part 63) src from n (notification_at 0) (omega (arith, m))
        ∙ lowered-past result_part s (notification_at 0) (omega arith) (omega arith)

module _ {F : ℕ} {L : List (Valued Notification)} {N : ℕ} {P : Bool} where
  pub ear-finish : {b : Bool} (h : Held) (at : Micros) (st : StepStatus) (from n heard : ℕ) → n ≤ result_size → Ear F L N P b h → Ear F L N P b (finish h at st from n heard)
  unfolding finish ended
  ear-finish {b} h at st from n heard m e = go h.state.running.active
    where
      go : (x : Bool) → Ear F L N P b (pick x (ended h at st from n heard) h)
      go true = ear-same e refl refl refl refl refl (above h.state.results.count h.store from n h.store m)
      go false = e

  -- a wait passes: all that was heard is behind it
  pub ear-passing : {b : Bool} (h : Held) (at : Micros) (w : Wanted) → Ear F L N P b h → Ear F L N P true (passing h at w)
  ear-passing h at w e = ear-finish (on_state h (with_counters h.state (passed h.state.counters))) at Ok held_at 0 _ (omega arith) before
    where
      before : Ear F L N P true (on_state h (with_counters h.state (passed h.state.counters)))
      before = record { cells = e.cells; table = e.table; many = e.many; from = e.many; links = e.links; present = e.present }

  -- the first waiting step is taken: the steps' values stand below
  pub ear-take : {b : Bool} (h : Held) → h.state.queue.count ≤ most_steps → Ear F L N P b h → Ear F L N P b (take_step h)
  unfolding take_step
  ear-take h few e =
      let n = value_size * h.state.queue.count in
      ear-same e refl refl refl refl refl
      (ap (drop (notification_at 0)) (moved_down h.store running_at (waiting_at 0) n (omega arith))
      ∙ drop_past h.store running_at h.store (waiting_at 0) n (notification_at 0) (omega (arith, few)))

-- no byte below what is held of a frame has changed
pub kept-below : (h g : Held) → values_fit (live h.state.notifications) ≡ true → length (live h.state.notifications) ≤ most_notifications
    → g.state.notifications ≡ h.state.notifications → ((a n : ℕ) → a + n ≤ held_at → bytes g.store a n ≡ bytes h.store a n) → kept_notifications g ≡ kept_notifications h
kept-below h g fit few e below =
    ap (λ (x : Notifications). valued (λ y. y.len) part g.store 0 (live x)) e
    ∙ valued_same (λ y. y.len) part g.store h.store 0 0 (live h.state.notifications) fit
    (λ k b n m. below (place part (0 + k)) n (omega (arith, b, m, few)))

-- ---- a notification is kept

drop-take : {A : Type 0} (k n : ℕ) (l : List A) → drop k (take n l) ≡ take (n - k) (drop k l)
drop-take zero n l = let z : n ≡ n - 0 = omega arith in ap (λ (m : ℕ). take m l) z
drop-take (suc k) zero l = let z : 0 - suc k ≡ 0 = omega arith in sym (ap (λ (m : ℕ). take m (drop (suc k) l)) z)
drop-take (suc k) (suc n) [] = sym (take-nil (suc n - suc k))
drop-take (suc k) (suc n) (x ∷ l) = let z : n - k ≡ suc n - suc k = omega arith in drop-take k n l ∙ ap (λ (m : ℕ). take m (drop k l)) z

module _ (h : Held) (at : Micros) (n : ℕ) (store : length h.store ≡ store_size) (short : n ≤ payload_size) where
  abbrev p : List ℕ
  p = payload h n

  abbrev x : Notification
  x = record { at = at; handle = le_at 2 p 1; len = n - 3; indication = eqb (get_or p 0 0) op_handle_value_ind; link = h.state.counters.links }

  pub long : length p ≡ n
  long = length-take-le n (drop payload_at h.store) (omega (arith, length-drop payload_at h.store, store, short))

  value-is : bytes h.store (payload_at + 3) (n - 3) ≡ drop 3 p
  value-is = ap (take (n - 3)) (sym (drop-drop 3 payload_at h.store)) ∙ sym (drop-take 3 n (drop payload_at h.store))

  module _ {F : ℕ} {L : List (Valued Notification)} {N : ℕ} {P : Bool} (few : h.state.notifications.count ≤ most_notifications) (fit : values_fit (live h.state.notifications) ≡ true)
      (e : Ear F L N P false h) where
    abbrev l : List Notification
    l = live h.state.notifications

    count-is : length l ≡ h.state.notifications.count
    count-is = length-take-le h.state.notifications.count h.state.notifications.kept (omega (arith, few, e.cells))

    new_is : record { entry = x; value = bytes h.store (payload_at + 3) (n - 3) } ≡ notice_of at N p
    new_is =
        ap₂ (λ (k : ℕ) (v : List ℕ). record { entry = record { at = at; handle = le_at 2 p 1; len = n - 3; indication = eqb (get_or p 0 0) op_handle_value_ind; link = k }; value = v }) e.links value-is
        ∙ ap (λ (m : ℕ). record { entry = record { at = at; handle = le_at 2 p 1; len = m - 3; indication = eqb (get_or p 0 0) op_handle_value_ind; link = N }; value = drop 3 p }) (sym long)

    table_is : valued (λ y. y.len) part (kept_value h.store h.state.notifications.count (payload_at + 3) (n - 3)) 0 (live (keeping h.state.notifications x)) ≡ newest most_notifications
        (L ++ (notice_of at N p ∷ []))
    table_is =
        ap (valued (λ y. y.len) part (kept_value h.store h.state.notifications.count (payload_at + 3) (n - 3)) 0) (live-keeping h.state.notifications x)
        ∙ ap (λ (c : ℕ). valued (λ y. y.len) part (stored part c h.store (payload_at + 3) (n - 3) h.store) 0 (pushed most_notifications l x)) (sym count-is)
        ∙ valued-stored (λ y. y.len) part h.store h.store (payload_at + 3) l x (omega (arith, store)) (omega (arith, store, short)) (omega arith) (omega (arith, count-is, few)) fit
        (omega (arith, short))
        ∙ ap₂ (λ (t : List (Valued Notification)) (y : Valued Notification). pushed most_notifications t y) e.table new_is
        ∙ pushed-newest most_notifications L (notice_of at N p)

    pub ear-keep : Ear F (L ++ (notice_of at N p ∷ [])) N P false (keep_one h at (le_at 2 p 1) (n - 3) (eqb (get_or p 0 0) op_handle_value_ind))
    unfolding keep_one keeping
    ear-keep =
        record {
          cells = length-onto h.state.notifications.kept (pushed most_notifications l x) (omega (arith, pushed-within most_notifications l x, e.cells)) ∙ e.cells;
          table = table_is;
          many = omega (arith, e.many, length-append L (notice_of at N p ∷ []));
          from = e.from;
          links = e.links;
          present = e.present;
        }
