-- A notification that is kept: what the state and the store then are, and that the wait check may look at them.
use Prim.Native.Nat.{ℕ, ◌+◌, ◌-◌, ◌≤◌, ◌<◌}
use mathlib.Core.Path.{◌≡◌, refl, sym, ap, ap₂, subst, ◌∙◌}
use mathlib.Core.Bool.{Bool, true}
use mathlib.Core.List.{List}
use native.Mathlib.Omega.{arith}
use lib.ListN.{length, length-take}
use lib.Dec.{leb}
use borrow.Author.Tests.{le-leb}
use Rattle.bytes_base.specs.Bytes.{le_at}
use Rattle.state_places.specs.Sizes.{store_size, value_size, most_notifications}
use Rattle.lists.specs.Queue.{pushed}
use Rattle.lists.proofs.QueueLaws.{length-pushed, pushed-within, all-pushed}
use Rattle.lists.specs.Blocks.{bytes}
use Rattle.time.specs.declared.Micros.{Micros}
use Rattle.notifications.specs.Kept.{live, values_fit, keeping, kept_value}
use Rattle.notifications.proofs.KeptLaws.{live-keeping, length-kept}
use Rattle.notifications.specs.declared.Notification.{Notification}
use Rattle.notifications.specs.declared.Notifications.{Notifications}
use Rattle.state.specs.Central.{Central}
use Rattle.state.specs.declared.Counters.{Counters}
use Rattle.state.specs.declared.Counts.{Counts}
use Rattle.state.specs.declared.Sent.{Sent}
use Rattle.script_rules.specs.World.{Held, Told, told}
use Rattle.script_rules.specs.Nearly.{Nearly}
use Rattle.script_rules.specs.Wait.{Looks, check_wait}
use Rattle.link_rules.specs.Payload.{payload_at, Reads}
use Rattle.link_rules.specs.Replies.{noted, keep_one, confirmed, notice}
use Rattle.words.specs.Tables.{Tables, tables, with_notifications}
use Rattle.state_rules.specs.Fit.{most_notified}
use Rattle.words_notification.specs.Kept.{kept_in}
use Rattle.state_core.specs.declared.Core.{Core}
use Rattle.state_core.specs.declared.Turn.{Turn}
use Rattle.state_core.specs.Reading.{central_of, central, held, world}

-- ---- one is kept

abbrev one : Micros → ℕ → ℕ → Bool → ℕ → Notification
one at handle n indication link = record { at = at; handle = handle; len = n; indication = indication; link = link }

abbrev more-heard : Counts → ℕ → Counts
more-heard n k = record { waiting = n.waiting; results = n.results; services = n.services; characteristics = n.characteristics; notifications = k }

abbrev heard-by : Core → Counters → ℕ → Core
heard-by c k n = record { running = c.running; bearer = c.bearer; counters = k; counts = more-heard c.counts n; reports = c.reports; key_count = c.key_count; options = c.options }

pub keep-law : (c : Core) (w w' st st' : List ℕ) (at : Micros) (handle n : ℕ) (indication : Bool) (k : Counters) (more : ℕ)
    → st' ≡ kept_value st c.counts.notifications (payload_at + 3) n
    → (tables w' ≡ with_notifications (tables w) (keeping (kept_in w c.counts.notifications) (one at handle n indication c.counters.links)).kept)
    × (more ≡ (keeping (kept_in w c.counts.notifications) (one at handle n indication c.counters.links)).count)
    → k ≡ noted c.counters
    → held (heard-by c k more) w' st' ≡ keep_one (held c w st) at handle n indication
unfolding keep_one
keep-law c w w' st st' at handle n indication k more e₁ e₂ e₃ =
    ap (λ (t : Tables). record { state = central_of (heard-by c k more) t; store = st' }) e₂.0 ∙ rw (e₃, e₂.1, e₁)

-- ---- what the check goes by

module _ (c : Notifications) (x : Notification) where
  kept-count : (keeping c x).count ≡ length (pushed most_notifications (live c) x)
  unfolding keeping
  kept-count = refl

  few : (keeping c x).count ≤ most_notifications
  few = omega (arith, kept-count, pushed-within most_notifications (live c) x)

  counted : (notified : ℕ) → c.count ≤ notified → (keeping c x).count ≤ notified + 1
  counted notified h = omega (arith, kept-count, length-pushed most_notifications (live c) x, length-take c.count c.kept)

  fit : values_fit (live c) ≡ true → x.len ≤ value_size → values_fit (live (keeping c x)) ≡ true
  fit f h = rw (live-keeping c x) (all-pushed (λ (y : Notification). leb y.len value_size) most_notifications (live c) x f (le-leb x.len value_size h))

module _ (h : Held) (at : Micros) (handle n : ℕ) (indication : Bool) where
  looks : Nearly h.state → n ≤ value_size → h.state.counters.notified < most_notified → Looks (keep_one h at handle n indication).state
  unfolding keep_one
  looks f m room =
      let x : Notification = one at handle n indication h.state.counters.links in
      let c : Notifications = h.state.notifications in
      record {
        results = f.results.few;
        characteristics = f.peer.characteristics;
        notifications = few c x;
        values = fit c x f.heard.values m;
        kept = counted c x h.state.counters.notified f.tally.kept;
        notified = omega arith;
      }

  as_long : length (keep_one h at handle n indication).store ≡ length h.store
  unfolding keep_one
  as_long = length-kept h.store h.state.notifications.count (payload_at + 3) n

module _ (t : Turn) (w st out : List ℕ) (at : Micros) (n : ℕ) (indication : Bool) (q : Reads n (world t w st out)) where
  pub may-look : t.core.counters.notified < most_notified → (k : Core) (w' st' : List ℕ) (handle : ℕ) → held k w' st' ≡ keep_one (held t.core w st) at handle (n - 3) indication
      → (length st' ≡ store_size) × Looks (central k w')
  may-look room k w' st' handle e = (
    ap (λ (h : Held). length h.store) e ∙ as_long (held t.core w st) at handle (n - 3) indication ∙ q.ready.store,
    subst (λ (c : Central). Looks c) (sym (ap (λ (h : Held). h.state) e))
        (looks (held t.core w st) at handle (n - 3) indication q.nearly (omega (arith, q.short)) room),
  )

  pub notice-law : (k r : Core) (s : Sent) (w' w'' st' st'' out' : List ℕ) (handle : ℕ) → handle ≡ le_at 2 (bytes st payload_at n) 1
      → told s out' ≡ confirmed (told t.sent out) indication
      → held k w' st' ≡ keep_one (held t.core w st) at handle (n - 3) indication → held r w'' st'' ≡ check_wait (held k w' st') at
      → world (record { core = r; sent = s }) w'' st'' out' ≡ notice (world t w st out) at n indication
  unfolding notice
  notice-law k r s w' w'' st' st'' out' handle e₁ e₂ e₃ e₄ =
      ap₂ (λ (h : Held) (x : Told). record { held = h; told = x })
      (e₄
      ∙ ap (λ (h : Held). check_wait h at) e₃
      ∙ ap (λ (v : ℕ). check_wait (keep_one (held t.core w st) at v (n - 3) indication) at) e₁)
      e₂
