-- A notification put into words is read again, and the other tables stay; what the loops over the table ask.
use Prim.Native.Nat.{ℕ, ◌+◌, ◌-◌, ◌*◌, ◌/◌, ◌%◌, ◌<◌, ◌≤◌}
use mathlib.Core.Path.{◌≡◌, refl, sym, ap, ◌∙◌}
use mathlib.Core.Bool.{Bool, true, false}
use mathlib.Core.List.{List}
use native.Mathlib.Omega.{arith}
use lib.ListN.{length, take, drop, get_or, set, length-set}
use lib.Seq.{get_or-set_same, get_or-set_other}
use lib.Dec.{eqb, leb}
use mir.Val.{bool_byte}
use borrow.Author.Tests.{le-leb, lt-leb, leb-true, leb-false}
use Rattle.bytes_base.specs.Choice.{pick}
use Rattle.state_places.specs.Sizes.{value_size}
use Rattle.lists.specs.Queue.{all, shifted}
use Rattle.lists.specs.Blocks.{fitting}
use Rattle.state.specs.Fresh.{no_notification}
use Rattle.notifications.specs.declared.Notification.{Notification}
use Rattle.notifications.specs.declared.Notifications.{Notifications}
use Rattle.notifications.specs.Kept.{values_fit, links_fit, keeping}
use Rattle.notifications.proofs.KeepLaws.{keeping-room, keeping-full}
use Rattle.words.specs.Words.{two16, two56, bit_at, notification_of}
use Rattle.words.specs.Tables.{Tables, word, tables, with_notifications, notifications_in}
use Rattle.words.specs.Rows.{Same, Lowered}
use Rattle.words.proofs.TableLaws.{table-set, table-lowered}
use Rattle.words.proofs.RowLaws.{steps-same, results_same, services-same, characteristics-same, who-same, heard-same, keys-same, length-notifications, notification-at}
use Rattle.words.proofs.SearchLaws.{all-row}
use Rattle.words_notification.specs.Kept.{kept_in}

-- 245 * 2^56
abbrev pub length_end : ℕ
length_end = 17654110539292344320

-- ---- one notification

-- a flag as the library numbers it
pub flag-number : (b : Bool) → bool_byte b ≡ pick b 1 0
flag-number true = refl
flag-number false = refl

pub flag-small : (b : Bool) → bool_byte b < 2
flag-small true = omega arith
flag-small false = omega arith

one_bit : (b : Bool) → eqb (pick b 1 0) 1 ≡ b
one_bit true = refl
one_bit false = refl

pub word_read : (x : Notification) (f : ℕ) → f ≡ pick x.indication 1 0 → f < 2 → x.handle < 65536
    → notification_of x.at.0 (x.handle + 65536 * f + 72057594037927936 * x.len) x.link ≡ x
unfolding notification_of
word_read x f e b h =
    let n : ℕ = x.handle + 65536 * f + 72057594037927936 * x.len in
    let p : n % 65536 ≡ x.handle = omega arith in
    let q : n / 65536 ≡ f + 1099511627776 * x.len = omega arith in
    let r : (f + 1099511627776 * x.len) % 2 ≡ f = omega arith in
    let s : n / 72057594037927936 ≡ x.len = omega arith in
    rw (p, q, r, s, e, one_bit x.indication)

pub word-say : (w : List ℕ) (i len : ℕ) → i < 32 → len ≡ get_or w (704 + i) 0 / two56
    → record { at = record { 0 = get_or w (672 + i) 0 }; handle = get_or w (704 + i) 0 % two16; len = len; indication = bit_at two16 (get_or w (704 + i) 0); link = get_or w (1056 + i) 0 }
    ≡ get_or (notifications_in w) i no_notification
unfolding notification_of
word-say w i len h e = rw (e, notification-at w i h)

-- ---- all tables: v has the words of w but those of the notifications, and reads l there

pub alone : (w v : List ℕ) (l : List Notification) → Same 0 672 w v → Same 736 1056 w v → Same 1088 1152 w v → notifications_in v ≡ l
    → tables v ≡ with_notifications (tables w) l
alone w v l below between above e =
    rw (
      steps-same w v (λ p a b. below p (omega arith) (omega arith)),
      results_same w v (λ p a b. below p (omega arith) (omega arith)) above,
      services-same w v (λ p a b. below p (omega arith) (omega arith)),
      characteristics-same w v (λ p a b. below p (omega arith) (omega arith)),
      who-same w v (λ p a b. between p (omega arith) (omega arith)),
      heard-same w v (λ p a b. between p (omega arith) (omega arith)),
      keys-same w v (λ p a b. between p (omega arith) (omega arith)),
      e,
    )

-- what the words of place k say
abbrev placed : List ℕ → ℕ → Notification
placed w k = notification_of (word w 672 k) (word w 704 k) (word w 1056 k)

-- three words put: the place has them, and every other word is as it was
module _ (w : List ℕ) (i t x link : ℕ) (long : length w ≡ 1152) (b : i < 32) where
  abbrev with : List ℕ
  with = set (set (set w (672 + i) t) (704 + i) x) (1056 + i) link

  other : (p : ℕ) → (p ≡ 672 + i → ⊥) → (p ≡ 704 + i → ⊥) → (p ≡ 1056 + i → ⊥) → get_or with p 0 ≡ get_or w p 0
  other p n₀ n₁ n₂ =
      get_or-set_other (set (set w (672 + i) t) (704 + i) x) (1056 + i) p link 0 n₂
      ∙ get_or-set_other (set w (672 + i) t) (704 + i) p x 0 n₁
      ∙ get_or-set_other w (672 + i) p t 0 n₀

  there : placed with i ≡ notification_of t x link
  there =
      let w₁ : List ℕ = set w (672 + i) t in
      let w₂ : List ℕ = set w₁ (704 + i) x in
      let l₁ : length w₁ ≡ 1152 = length-set w (672 + i) t ∙ long in
      let l₂ : length w₂ ≡ 1152 = length-set w₁ (704 + i) x ∙ l₁ in
      let e₀ : get_or with (672 + i) 0 ≡ t =
      get_or-set_other w₂ (1056 + i) (672 + i) link 0 (λ e. omega arith)
      ∙ get_or-set_other w₁ (704 + i) (672 + i) x 0 (λ e. omega arith)
      ∙ get_or-set_same w (672 + i) t 0 (omega arith) in
      let e₁ : get_or with (704 + i) 0 ≡ x =
      get_or-set_other w₂ (1056 + i) (704 + i) link 0 (λ e. omega arith) ∙ get_or-set_same w₁ (704 + i) x 0 (omega arith) in
      let e₂ : get_or with (1056 + i) 0 ≡ link = get_or-set_same w₂ (1056 + i) link 0 (omega arith) in
      rw (e₀, e₁, e₂)

  elsewhere : (k : ℕ) → k < 32 → (k ≡ i → ⊥) → placed with k ≡ placed w k
  elsewhere k h n =
      rw (
        other (672 + k) (λ e. n (omega arith)) (λ e. omega arith) (λ e. omega arith),
        other (704 + k) (λ e. omega arith) (λ e. n (omega arith)) (λ e. omega arith),
        other (1056 + k) (λ e. omega arith) (λ e. omega arith) (λ e. n (omega arith)),
      )

  put-there : (y : Notification) → notification_of t x link ≡ y → notifications_in with ≡ set (notifications_in w) i y
  unfolding notifications_in
  put-there y e = table-set 32 (λ k. placed with k) (λ k. placed w k) i y b (there ∙ e) elsewhere

  pub put-law : (y : Notification) → notification_of t x link ≡ y → tables with ≡ with_notifications (tables w) (set (notifications_in w) i y)
  put-law y e =
      alone w with (set (notifications_in w) i y)
      (λ p a c. other p (λ n. omega arith) (λ n. omega arith) (λ n. omega arith))
      (λ p a c. other p (λ n. omega arith) (λ n. omega arith) (λ n. omega arith))
      (λ p a c. other p (λ n. omega arith) (λ n. omega arith) (λ n. omega arith))
      (put-there y e)

-- three rows moved down
module _ (w v u o : List ℕ) (d : Lowered w v 672 31) (g : Lowered v u 704 31) (h : Lowered u o 1056 31) where
  down-there : notifications_in o ≡ shifted (notifications_in w) 31
  unfolding notifications_in
  down-there =
      table-lowered 32 31 (λ k. placed o k) (λ k. placed w k) (omega arith) low high
    where
      low : (k : ℕ) → k < 31 → placed o k ≡ placed w (k + 1)
      low k b =
          let at : (r : ℕ) → get_or w (r + k + 1) 0 ≡ word w r (k + 1) = λ r. let e : r + k + 1 ≡ r + (k + 1) = omega arith in ap (λ (p : ℕ). get_or w p 0) e in
          let e₀ : word o 672 k ≡ word w 672 (k + 1) =
          h.below (672 + k) (omega arith) ∙ g.below (672 + k) (omega arith) ∙ d.moved (672 + k) (omega arith) (omega arith) ∙ at 672 in
          let e₁ : word o 704 k ≡ word w 704 (k + 1) =
          h.below (704 + k) (omega arith) ∙ g.moved (704 + k) (omega arith) (omega arith) ∙ d.above (704 + k + 1) (omega arith) ∙ at 704 in
          let e₂ : word o 1056 k ≡ word w 1056 (k + 1) =
          h.moved (1056 + k) (omega arith) (omega arith) ∙ g.above (1056 + k + 1) (omega arith) ∙ d.above (1056 + k + 1) (omega arith) ∙ at 1056 in
          rw (e₀, e₁, e₂)

      high : (k : ℕ) → 31 ≤ k → k < 32 → placed o k ≡ placed w k
      high k b c =
          let e₀ : word o 672 k ≡ word w 672 k = h.below (672 + k) (omega arith) ∙ g.below (672 + k) (omega arith) ∙ d.above (672 + k) (omega arith) in
          let e₁ : word o 704 k ≡ word w 704 k = h.below (704 + k) (omega arith) ∙ g.above (704 + k) (omega arith) ∙ d.above (704 + k) (omega arith) in
          let e₂ : word o 1056 k ≡ word w 1056 k = h.above (1056 + k) (omega arith) ∙ g.above (1056 + k) (omega arith) ∙ d.above (1056 + k) (omega arith) in
          rw (e₀, e₁, e₂)

  pub down-law : tables o ≡ with_notifications (tables w) (shifted (notifications_in w) 31)
  down-law =
      alone w o (shifted (notifications_in w) 31)
      (λ p a b. h.below p (omega arith) ∙ g.below p (omega arith) ∙ d.below p (omega arith))
      (λ p a b. h.below p (omega arith) ∙ g.above p (omega arith) ∙ d.above p (omega arith))
      (λ p a b. h.above p (omega arith) ∙ g.above p (omega arith) ∙ d.above p (omega arith))
      down-there

-- ---- one more

pub keep-room : (w v : List ℕ) (n : ℕ) (x : Notification) → n < 32 → tables v ≡ with_notifications (tables w) (set (notifications_in w) n x)
    → (tables v ≡ with_notifications (tables w) (keeping (kept_in w n) x).kept) × (n + 1 ≡ (keeping (kept_in w n) x).count)
keep-room w v n x h e =
    let k : record { kept = set (notifications_in w) n x; count = n + 1 } ≡ keeping (kept_in w n) x = keeping-room (kept_in w n) x (length-notifications w) h in
    (e ∙ ap (λ (y : Notifications). with_notifications (tables w) y.kept) k, ap (λ (y : Notifications). y.count) k)

pub keep-full : (w v u : List ℕ) (n : ℕ) (x : Notification) → 32 ≤ n → tables v ≡ with_notifications (tables w) (shifted (notifications_in w) 31)
    → tables u ≡ with_notifications (tables v) (set (notifications_in v) 31 x)
    → (tables u ≡ with_notifications (tables w) (keeping (kept_in w n) x).kept) × (32 ≡ (keeping (kept_in w n) x).count)
keep-full w v u n x h e f =
    let b : notifications_in v ≡ shifted (notifications_in w) 31 = ap (λ (y : Tables). y.notifications) e in
    let k : record { kept = set (notifications_in v) 31 x; count = 32 } ≡ keeping (kept_in w n) x =
    keeping-full (kept_in w n) x (notifications_in v) (length-notifications w) h b in (
      f
          ∙ ap (λ (y : Tables). with_notifications y (set (notifications_in v) 31 x)) e
          ∙ ap (λ (y : Notifications). with_notifications (tables w) y.kept) k,
      ap (λ (y : Notifications). y.count) k,
    )

-- ---- a field of each of the first n is small enough

-- words are the n words from r on, each of which tells whether a field of the notification in its place is small enough
module _ (w words : List ℕ) (n r most bound : ℕ) (few : n ≤ 32) (long : length w ≡ 1152) (room : r ≤ 1056) (e : words ≡ take n (drop r w)) where
  fits-law : (f : Notification → ℕ) (result : Bool) → ((k : ℕ) → leb (f (placed w k)) bound ≡ leb (word w r k) most)
      → result ≡ all (λ x. leb x most) words → result ≡ fitting f bound (take n (notifications_in w))
  unfolding notifications_in
  fits-law f result same h =
      h
      ∙ ap (all (λ x. leb x most)) e
      ∙ all-row (λ (x : Notification). leb (f x) bound) (λ x. leb x most) w 32 n r (placed w) no_notification few (omega arith) (λ k b. same k)

below : (x : ℕ) → leb (x / two56) value_size ≡ leb x (length_end - 1)
below x = go (leb x (length_end - 1)) refl
  where
    go : (b : Bool) → leb x (length_end - 1) ≡ b → leb (x / two56) value_size ≡ b
    go true e = le-leb (x / two56) value_size (omega (arith, leb-true x (length_end - 1) e))
    go false e = lt-leb (x / two56) value_size (omega (arith, leb-false x (length_end - 1) e))

module _ (w words : List ℕ) (n : ℕ) (result : Bool) (few : n ≤ 32) (long : length w ≡ 1152) where
  pub values-law : words ≡ take n (drop 704 w) → result ≡ all (λ x. leb x (length_end - 1)) words → result ≡ values_fit (take n (notifications_in w))
  unfolding notification_of
  values-law e h = fits-law w words n 704 (length_end - 1) value_size few long (omega arith) e (λ x. x.len) result (λ k. below (word w 704 k)) h

  pub links-law : (links : ℕ) → words ≡ take n (drop 1056 w) → result ≡ all (λ x. leb x links) words → result ≡ links_fit links (take n (notifications_in w))
  unfolding notification_of
  links-law links e h = fits-law w words n 1056 links links few long (omega arith) e (λ x. x.link) result (λ k. refl) h
