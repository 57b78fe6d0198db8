-- What each return of `passed_on` and of its parts asks.
use Prim.Native.Nat.{ℕ, ◌+◌, ◌-◌, ◌≤◌, ◌<◌}
use mathlib.Core.Path.{◌≡◌, sym, ap, ◌∙◌}
use mathlib.Core.Bool.{true}
use mathlib.Core.List.{List}
use native.Mathlib.Omega.{arith}
use lib.ListN.{length, take, get_or}
use lib.Seq.{get_or-take, length-take-le}
use lib.Dec.{eqb}
use borrow.Author.Tests.{lt-ltb, le-ltb, le-leb, lt-leb}
use Rattle.std.specs.Prelude.{Option, None, Some, Ok, Err}
use Rattle.state_places.specs.Sizes.{store_size, most_notifications, notification_at}
use Rattle.notifications.specs.declared.Notification.{Notification}
use Rattle.state.specs.Central.{Central}
use Rattle.state.specs.Fresh.{no_notification}
use Rattle.state_rules.specs.Fit.{fits, kept}
use Rattle.state_refusals.specs.declared.Refusal.{Refusal}
use Rattle.state_refusals.specs.Refusals.{accepted, number}
use Rattle.state_refusals.specs.Refused.{refusal_number}
use Rattle.state_rules.specs.Gate.{gate_reader}
use Rattle.state_rules.proofs.GateLaws.{passed-reader}
use Rattle.state_rules.proofs.PastGate.{refuses-by, tells-by, refusal-by}
use Rattle.state_readers.specs.declared.Passed.{Passed}
use Rattle.state_readers.specs.Readers.{span, heard_by, in_place, named, named_in, passed_on}

-- ---- the two ways past the gate

module _ (c : Central) (store : ℕ) where
  pub passed-refused : (index : ℕ) (why : Refusal) → number why ≡ gate_reader c store → Err why ≡ passed_on c store index
  unfolding passed_on
  passed-refused index why e = refuses-by (gate_reader c store) (named_in c (heard_by index (kept c.results))) why e

  module _ (e : accepted ≡ gate_reader c store) where
    pub passed-told : (index heard : ℕ) (x : Option Passed) → heard ≡ heard_by index (kept c.results) → x ≡ named_in c heard → Ok x ≡ passed_on c store index
    unfolding passed_on
    passed-told index heard x f g =
        tells-by (gate_reader c store) (named_in c (heard_by index (kept c.results))) x e (g ∙ ap (λ (n : ℕ). named_in c n) f)

    -- what the gate has shown of the notifications
    pub few-notifications : c.notifications.count ≤ most_notifications
    few-notifications = (passed-reader c store (sym e)).fit.head.notifications

    pub all-notified : c.notifications.count ≤ c.counters.notified
    all-notified = (passed-reader c store (sym e)).fit.head.kept

-- ---- the one of a number, of the first k of l

module _ (n heard k : ℕ) (l : List Notification) (g : k ≤ length l) where
  size : length (take k l) ≡ k
  size = length-take-le k l g

  pub named-before : heard ≤ n → None ≡ named n (take k l) heard
  unfolding named
  named-before h = rw (le-ltb n heard h)

  pub named-behind : (i : ℕ) → n < heard → i ≡ heard - 1 - n → k ≤ i → None ≡ named n (take k l) heard
  unfolding named
  named-behind i h e f = rw (lt-ltb n heard h, lt-leb heard (n + length (take k l)) (omega (arith, size)))

  pub named_here : (i : ℕ) (x : Notification) (p m : ℕ) → n < heard → i ≡ heard - 1 - n → i < k
      → x ≡ get_or l i no_notification → p ≡ notification_at i → m ≡ x.len
      → Some (record { at = x.at; link = x.link; handle = x.handle; indication = x.indication; value = span p m }) ≡ named n (take k l) heard
  unfolding named
  named_here i x p m h e f a q s =
      let y : x ≡ get_or (take k l) i no_notification = a ∙ sym (get_or-take k l i no_notification f) in
      rw (lt-ltb n heard h, le-leb heard (n + length (take k l)) (omega (arith, size)), ← e, q, s, ap (λ (z : Notification). in_place i z) (sym y))

-- ---- the refusal of an answer is the gate's

pub passed-refusal : (c : Central) (store index : ℕ) → refusal_number (passed_on c store index) ≡ gate_reader c store
unfolding passed_on
passed-refusal c store index = refusal-by (named_in c (heard_by index (kept c.results))) (fits c) (eqb store store_size) true
