-- Along a trail: what each hop gives, and what it leaves of all that waits go by.
use Prim.Native.Nat.{ℕ, ◌+◌, ◌-◌, ◌≤◌}
use mathlib.Core.Path.{◌≡◌, refl, sym, ap, ◌∙◌, subst}
use mathlib.Core.Bool.{Bool, true, false, ◌&&◌, ◌||◌, false≢true}
use mathlib.Core.List.{List, [], ◌∷◌, ◌++◌, append-nil, append_assoc}
use native.Mathlib.Omega.{arith}
use lib.ListN.{length, get_or}
use lib.Seq.{length-take-le}
use lib.Dec.{eqb, leb}
use Rattle.bytes_base.specs.Choice.{pick, among}
use Rattle.bytes_base.specs.Bytes.{le_at}
use Rattle.lists.proofs.QueueLaws.{pushed-within}
use Rattle.lists.specs.Blocks.{Valued}
use Rattle.lists.proofs.BlockLaws.{length-stored, stored-below}
use Rattle.state_places.specs.Sizes.{most_steps, most_notifications, held_at}
use Rattle.time.specs.declared.Micros.{Micros}
use Rattle.time.specs.Clock.{latest}
use Rattle.l2cap.specs.Numbers.{cid_att}
use Rattle.att_pdu.specs.Numbers.{op_handle_value_ntf, op_handle_value_ind}
use Rattle.notifications.specs.declared.Notification.{Notification}
use Rattle.notifications.specs.Kept.{part, live, keeping}
use Rattle.state.specs.Fresh.{no_queued}
use Rattle.state.specs.declared.Counters.{Counters}
use Rattle.state.specs.declared.Queued.{Queued}
use Rattle.state.specs.declared.Running.{Running}
use Rattle.state.specs.declared.Queue.{Queue}
use Rattle.state.specs.declared.StepResult.{StepResult}
use Rattle.state.specs.declared.StepStatus.{StepStatus}
use Rattle.state.specs.declared.StepStatus.TheVariants.{Ok}
use Rattle.script_rules.specs.World.{Held, World, on_held}
use Rattle.script_rules.specs.Sound.{Sound}
use Rattle.script_rules.specs.Start.{ends}
use Rattle.script_rules.specs.Script.{can_go, step_once}
use Rattle.script_rules.specs.Waiting.{waiting, take_step}
use Rattle.script_rules.proofs.AdvanceLaws.{GoesOn, goes_on_lem}
use Rattle.script_rules.proofs.KeepWaiting.{Took, take-keeps}
use Rattle.link_rules.specs.Payload.{payload_at, payload}
use Rattle.link_rules.specs.Channel.{on_channel}
use Rattle.link_rules.specs.Replies.{keep_one}
use Rattle.thm_trail.specs.Trail.{News, att-heard, Pass, final, came_on}
use Rattle.thm_trail.specs.Log.{kept_results, up_to, newer, gave, given_in}
use Rattle.thm_trail.proofs.Hops.{NotWell, Still, still-values, Open, Hop, ended, began, meets, parts, still, acted, At, Hops, none, more, AllAt}
use Rattle.thm_accounting.specs.InLine.{running_one, in_line}
use Rattle.thm_accounting.proofs.Gives.{Whole, whole_same, nothing, Apart, apart, kept-values}
use Rattle.thm_accounting.proofs.Channels.{apart-keep}
use Rattle.thm_accounting.proofs.Books.{Books, whole, none-gave, kept-take, books-take, whole_take, books-gives, sound-hop, books-hop}
use Rattle.thm_heard.proofs.Brings.{Quiet}
use Rattle.thm_waits.specs.Notices.{notice_of, notices_in}
use Rattle.thm_waits.specs.Waits.{is_ok, is_wait_notification, passed_in}
use Rattle.thm_waits.proofs.Counting.{Each, each_append}
use Rattle.thm_waits.proofs.Leads.{Leads, other_none, ends_so}
use Rattle.thm_waits.proofs.Starts.{Kind, plain, waits, kind, leads_any}
use Rattle.thm_waits.proofs.Channels.{kept_first, tells, tells_on, leads-channel}
use Rattle.thm_waits.proofs.Ears.{Ear, ear-kept, ear-take, kept-below, long, ear-keep}
use Rattle.thm_waits.proofs.Line.{Small, small-drop, line_values, Line, line_same, line-take}
use Rattle.thm_waits.proofs.Turns.{Fact, Turned, turned_none, turn}

-- L was heard on N links, P tells whether one is there, a wait counts from F on, or from the end of L where b; l was given, q was taken in, with the values vs
pub record Going (F : ℕ) (L : List (Valued Notification)) (N : ℕ) (P b : Bool) (l : List (Valued StepResult)) (q : List Queued) (vs : List (List ℕ)) (w : World) : Type 0 where
  pub sound : Sound 65 w
  pub books : Books l q w.held
  pub ear : Ear F L N P b w.held
  pub line : Line vs l w.held

-- new was given on the way; W tells of the states that the call passes through
pub record Went (W : Held → Type 0) (F : ℕ) (L : List (Valued Notification)) (N : ℕ) (P b : Bool) (at : Micros) (l : List (Valued StepResult)) (q : List Queued) (vs : List (List ℕ)) (v : World)
    (new : List (Valued StepResult)) : Type 0 where
  pub going : Going F L N P (b || passed_in q new) (l ++ new) q vs v
  pub each : Each (Fact W F L N P at q vs) new

-- the same table of results before
gave-from : (h m g : Held) → kept_results m ≡ kept_results h → gave m g ≡ gave h g
gave-from h m g e = ap (λ (z : List (Valued StepResult)). newer (up_to z) (kept_results g)) e

none_came : (x : News) (l : List News) → ◌≡◌ {A = List News} (x ∷ l) [] → ⊥
none_came x l e = let n : length (x ∷ l) ≡ 0 = ap length e in omega (arith, n)

still-taken : (h : Held) → (take_step h).state.notifications ≡ h.state.notifications
unfolding take_step
still-taken h = refl

module _ (W : Held → Type 0) {F : ℕ} {L : List (Valued Notification)} {N : ℕ} {P b : Bool} (at : Micros) (time : at.0 ≤ latest) (l : List (Valued StepResult)) (q : List Queued)
    (vs : List (List ℕ)) (small : Small q) where
  -- a hop, by what it does to what is held
  went-hop : {w : World} {p : Pass} (x : Hop w p) → Going F L N P b l q vs w → Turned W F L N P b at l q vs w.held p.to.held
      → Went W F L N P b at l q vs p.to (gave w.held p.to.held)
  went-hop x g t = record { going = record { sound = sound-hop x g.sound; books = books-hop l q x g.sound g.books; ear = t.ear; line = t.line }; each = t.each }

  -- by what leads on from a state m that has the same results
  from-there : (w : World) (m : Held) {g : Held} → kept_results m ≡ kept_results w.held → Turned W F L N P b at l q vs m g → Turned W F L N P b at l q vs w.held g
  from-there w m {g} e t =
      record {
        ear = subst (λ (x : List (Valued StepResult)). Ear F L N P (b || passed_in q x) g) (gave-from w.held m g e) t.ear;
        line = subst (λ (x : List (Valued StepResult)). Line vs (l ++ x) g) (gave-from w.held m g e) t.line;
        each = subst (Each (Fact W F L N P at q vs)) (gave-from w.held m g e) t.each;
      }

  turned : {w : World} {g : Held} → W g → Going F L N P b l q vs w → Leads at w.held g → Turned W F L N P b at l q vs w.held g
  turned {w} k g x = turn W at time l q vs w.held g.ear g.books (whole w g.sound g.books.sizes) g.sound.nearly.heard.notifications g.sound.nearly.waits.few small
      g.line k x

  -- a step ends by the clock, a new link or a lost one
  turned-ended : (w : World) (st : StepStatus) → NotWell w st → W (ends w.held at st) → Going F L N P b l q vs w → Turned W F L N P b at l q vs w.held (ends w.held at st)
  turned-ended w st n k g = turned k g (ends_so w.held st held_at 0 (other_none w.held) (omega arith) (omega arith) (bad (kind w.held.state.running.step)) refl)
    where
      bad : Kind w.held.state.running.step → is_wait_notification w.held.state.running.step ≡ true → st ≡ Ok → ⊥
      bad (plain p) e f = false≢true (sym p ∙ e)
      bad (waits c ms age s) e f = n.wait c ms age s f

  -- the next step begins
  turned-began : (w : World) → can_go w.held.state ≡ true → W (step_once w at).held → Going F L N P b l q vs w → Turned W F L N P b at l q vs w.held (step_once w at).held
  turned-began w c there g =
      from-there w m (kept-take w.held k few)
      (turn W at time l q vs m (ear-take w.held few g.ear) taken (whole_take w.held k) t.nearly.heard.notifications t.nearly.waits.few small
      (line-take vs l q w.held g.sound.ready.store few small o g.books taken g.line) there (leads_any (on_held w m) at))
    where
      m : Held
      m = take_step w.held

      k : Whole w.held
      k = whole w g.sound g.books.sizes

      few : w.held.state.queue.count ≤ most_steps
      few = g.sound.nearly.waits.few

      o : GoesOn w.held.state
      o = goes_on_lem w.held.state c

      t : Took w.held m
      t = take-keeps w.held g.sound.nearly o.some o.idle

      taken : Books l q m
      taken = books-take l q w.held k few o g.books

  -- the script stands still
  turned-still : (w : World) (g : Held) → Still w.held g → Going F L N P b l q vs w → Turned W F L N P b at l q vs w.held g
  turned-still w g t x =
      turned_none W at time l q vs w.held x.ear x.books k few x.sound.nearly.waits.few small x.line
      (none-gave l q w.held g x.books (kept-values w.held g k t.results (still-values t)))
      (ear-kept x.ear t.notifications (ap (λ (c : Counters). c.notified) t.counters) (ap (λ (c : Counters). c.wait_from) t.counters)
      (ap (λ (c : Counters). c.links) t.counters) t.present
      (kept-below w.held g x.sound.nearly.heard.values
      (omega (arith, few, length-take-le w.held.state.notifications.count w.held.state.notifications.kept (omega (arith, few, x.ear.cells)))) t.notifications t.below))
      (line_same w.held g x.sound.nearly.waits.few (subst Small (sym x.books.line) (small-drop (length l) q small)) (ap (λ (r : Running). r.active) t.running)
      (same_line g.state.running w.held.state.running g.state.queue w.held.state.queue t.running t.queue) (λ a n z. t.below a n (omega (arith, z))))
    where
      k : Whole w.held
      k = whole w x.sound x.books.sizes

      few : w.held.state.notifications.count ≤ most_notifications
      few = x.sound.nearly.heard.notifications

      same_line : (r s : Running) (p t : Queue) → r ≡ s → p ≡ t → running_one r ++ waiting p ≡ running_one s ++ waiting t
      same_line r s p t e f = rw (e, f)

  -- a frame on another channel than the attribute channel
  turned-elsewhere : (w : World) (channel n : ℕ) → Open at n w → eqb channel cid_att ≡ false → W (on_channel w at channel n).held → Going F L N P b l q vs w
      → Turned W F L N P b at l q vs w.held (on_channel w at channel n).held
  turned-elsewhere w channel n o e k g =
      turned k g (subst (λ (x : Bool). Leads at (kept_first w.held at n (pick x (tells (payload w.held n) n) false)) (on_channel w at channel n).held) e
      (leads-channel w at channel n o.short))

  -- a hop with which nothing comes in
  pub went-quiet : {w : World} {p : Pass} (x : Hop w p) → At at x → p.came ≡ [] → W p.to.held → Going F L N P b l q vs w → Went W F L N P b at l q vs p.to (gave w.held p.to.held)
  went-quiet (ended w t st n) e c y g = went-hop (ended w t st n) g
      (subst (λ (i : Micros). Turned W F L N P b at l q vs w.held (ends w.held i st)) (sym e) (turned-ended w st n (subst (λ (i : Micros). W (ends w.held i st)) e y) g))
  went-quiet (began w t k o) e c y g = went-hop (began w t k o) g
      (subst (λ (i : Micros). Turned W F L N P b at l q vs w.held (step_once w i).held) (sym e) (turned-began w o (subst (λ (i : Micros). W (step_once w i).held) e y) g))
  went-quiet (meets w handle few) e c y g = absurd (none_came _ _ c)
  went-quiet (parts w) e c y g = absurd (none_came _ _ c)
  went-quiet (still w i t) e c y g = went-hop (still w i t) g (turned-still w i t g)
  went-quiet (acted w t channel n o s) e c y g =
      went-hop (acted w t channel n o s) g
      (subst (λ (i : Micros). Turned W F L N P b at l q vs w.held (on_channel w i channel n).held) (sym e)
      (turned-elsewhere w channel n (subst (λ (i : Micros). Open i n w) e o) (off (eqb channel cid_att) c) (subst (λ (i : Micros). W (on_channel w i channel n).held) e y) g))
    where
      off : (x : Bool) → pick x (att-heard (payload w.held n) ∷ []) [] ≡ [] → x ≡ false
      off true z = absurd (none_came _ _ z)
      off false z = refl

-- ---- a notification comes

module _ (h : Held) (at : Micros) (handle n : ℕ) (indication : Bool) where
  kept_whole : Whole h → Whole (keep_one h at handle n indication)
  unfolding keep_one
  kept_whole k = whole_same k (length-stored part h.state.notifications.count h.store (payload_at + 3) n h.store) refl

  kept-few : (keep_one h at handle n indication).state.notifications.count ≤ most_notifications
  unfolding keep_one keeping
  kept-few = pushed-within most_notifications (live h.state.notifications) (record { at = at; handle = handle; len = n; indication = indication; link = h.state.counters.links })

  kept-short : h.state.queue.count ≤ most_steps → (keep_one h at handle n indication).state.queue.count ≤ most_steps
  unfolding keep_one
  kept-short k = k

  kept_line : h.state.queue.count ≤ most_steps → Small (in_line h.state) → line_values (keep_one h at handle n indication) ≡ line_values h
  unfolding keep_one
  kept_line few small =
      line_same h (keep_one h at handle n indication) few small refl refl
      (λ a m z. stored-below part h.state.notifications.count h.store (payload_at + 3) n h.store a m (omega (arith, z)))

books-apart : (l : List (Valued StepResult)) (q : List Queued) (h m : Held) → Whole h → Apart h m → Books l q h → Books l q m
books-apart l q h m k a b =
    let e : l ++ gave h m ≡ l = ap (λ (t : List (Valued StepResult)). l ++ t) (none-gave l q h m b (apart k a).results) ∙ append-nil l in
    subst (λ (t : List (Valued StepResult)). Books t q m) e (books-gives {at = record { 0 = 0 }} l q h m b (nothing (apart k a)))

module _ (W : Held → Type 0) {F : ℕ} {L : List (Valued Notification)} {N : ℕ} {P : Bool} (at : Micros) (time : at.0 ≤ latest) (l : List (Valued StepResult)) (q : List Queued)
    (vs : List (List ℕ)) (small : Small q) where
  -- it is kept first, and then what runs looks at it
  turned-told : (w : World) (channel n : ℕ) → Open at n w → tells_on channel (payload w.held n) n ≡ true → W (on_channel w at channel n).held → Going F L N P false l q vs w
      → Turned W F (L ++ (notice_of at N (payload w.held n) ∷ [])) N P false at l q vs w.held (on_channel w at channel n).held
  turned-told w channel n o e there g =
      from-there W at time l q vs small w m (apart k a).results
      (turn W at time l q vs m ear (books-apart l q h m k a g.books) (kept_whole h at handle (n - 3) indication k) (kept-few h at handle (n - 3) indication)
      (kept-short h at handle (n - 3) indication short) small (kept_line h at handle (n - 3) indication short (subst Small (sym g.books.line) (small-drop (length l) q small)) ∙ g.line) there
      (subst (λ (x : Bool). Leads at (kept_first h at n x) (on_channel w at channel n).held) e (leads-channel w at channel n o.short)))
    where
      h : Held
      h = w.held

      p : List ℕ
      p = payload h n

      handle : ℕ
      handle = le_at 2 p 1

      indication : Bool
      indication = eqb (get_or p 0 0) op_handle_value_ind

      m : Held
      m = keep_one h at handle (n - 3) indication

      k : Whole h
      k = whole w g.sound g.books.sizes

      short : h.state.queue.count ≤ most_steps
      short = g.sound.nearly.waits.few

      a : Apart h m
      a = apart-keep h at handle (n - 3) indication

      ear : Ear F (L ++ (notice_of at N p ∷ [])) N P false m
      ear = ear-keep h at n k.store o.short g.sound.nearly.heard.notifications g.sound.nearly.heard.values g.ear

  -- a frame that is read: what comes in is heard
  pub went-acted : (w : World) (channel n : ℕ) (o : Open at n w) (s : Sound 65 (on_channel w at channel n)) → W (on_channel w at channel n).held → Going F L N P false l q vs w
      → let v = on_channel w at channel n in Went W F (L ++ notices_in at N (came_on channel (payload w.held n))) N P false at l q vs v (gave w.held v.held)
  went-acted w channel n o s there g = record { going = record { sound = s; books = books-hop l q x g.sound g.books; ear = t.ear; line = t.line }; each = t.each }
    where
      p : List ℕ
      p = payload w.held n

      x : Hop w (record { came = came_on channel p; to = on_channel w at channel n })
      x = acted w at channel n o s

      size : length p ≡ n
      size = long w.held at n o.sound.ready.store o.short

      quiet : eqb channel cid_att ≡ false → Turned W F (L ++ []) N P false at l q vs w.held (on_channel w at channel n).held
      quiet e = subst (λ (k : List (Valued Notification)). Turned W F k N P false at l q vs w.held (on_channel w at channel n).held) (sym (append-nil L))
          (turned-elsewhere W at time l q vs small w channel n o e there g)

      none_told : tells p n ≡ false → Leads at w.held (on_channel w at channel n).held
      none_told e =
          subst (λ (y : Bool). Leads at (kept_first w.held at n y) (on_channel w at channel n).held) (go (eqb channel cid_att)) (leads-channel w at channel n o.short)
        where
          go : (c : Bool) → pick c (tells p n) false ≡ false
          go true = e
          go false = refl

      by : (c : Bool) → eqb channel cid_att ≡ c → (y : Bool) → tells p n ≡ y
          → Turned W F (L ++ (pick c (pick y (notice_of at N p ∷ []) [] ++ []) [])) N P false at l q vs w.held (on_channel w at channel n).held
      by true e true f = turned-told w channel n o (ap (λ (c : Bool). pick c (tells p n) false) e ∙ f) there g
      by true e false f =
          subst (λ (k : List (Valued Notification)). Turned W F k N P false at l q vs w.held (on_channel w at channel n).held) (sym (append-nil L))
          (turned W at time l q vs small there g (none_told f))
      by false e y f = quiet e

      same : (c : Bool) → notices_in at N (pick c (att-heard p ∷ []) []) ≡ pick c (pick (tells p n) (notice_of at N p ∷ []) [] ++ []) []
      same true = ap (λ (k : ℕ). pick (among (get_or p 0 0) (op_handle_value_ntf ∷ op_handle_value_ind ∷ []) && leb 3 k) (notice_of at N p ∷ []) [] ++ []) size
      same false = refl

      t : Turned W F (L ++ notices_in at N (came_on channel p)) N P false at l q vs w.held (on_channel w at channel n).held
      t =
          subst (λ (k : List (Valued Notification)). Turned W F (L ++ k) N P false at l q vs w.held (on_channel w at channel n).held) (sym (same (eqb channel cid_att)))
          (by (eqb channel cid_att) refl (tells p n) refl)

-- ---- trails

passed-append : (q : List Queued) (a c : List (Valued StepResult)) → passed_in q (a ++ c) ≡ (passed_in q a || passed_in q c)
passed-append q [] c = refl
passed-append q (x ∷ a) c = ap (λ (y : Bool). this || y) (passed-append q a c) ∙ or_assoc this (passed_in q a) (passed_in q c)
  where
    this : Bool
    this = is_ok x.entry.status && is_wait_notification (get_or q x.entry.index no_queued).step

    or_assoc : (i j k : Bool) → (i || (j || k)) ≡ ((i || j) || k)
    or_assoc true j k = refl
    or_assoc false j k = refl

module _ (W : Held → Type 0) {F : ℕ} {L : List (Valued Notification)} {N : ℕ} {P : Bool} (at : Micros) (time : at.0 ≤ latest) (q : List Queued) (vs : List (List ℕ)) (small : Small q) where
  pub went_then : {b : Bool} (l a c : List (Valued StepResult)) (v u : World) → Went W F L N P b at l q vs v a → Went W F L N P (b || passed_in q a) at (l ++ a) q vs u c
      → Went W F L N P b at l q vs u (a ++ c)
  went_then {b} l a c v u x y =
      record {
        going =
            subst (λ (z : Bool). Going F L N P z (l ++ (a ++ c)) q vs u) (sym (ap (λ (z : Bool). b || z) (passed-append q a c) ∙ or_assoc b (passed_in q a) (passed_in q c)))
            (subst (λ (z : List (Valued StepResult)). Going F L N P ((b || passed_in q a) || passed_in q c) z q vs u) (append_assoc l a c) y.going);
        each = each_append (Fact W F L N P at q vs) a c x.each y.each;
      }
    where
      or_assoc : (i j k : Bool) → (i || (j || k)) ≡ ((i || j) || k)
      or_assoc true j k = refl
      or_assoc false j k = refl

  -- nothing was given
  pub went-none : {b : Bool} (l : List (Valued StepResult)) (w : World) → Going F L N P b l q vs w → Went W F L N P b at l q vs w []
  went-none {b} l w g =
      record {
        going = subst (λ (z : Bool). Going F L N P z (l ++ []) q vs w) (sym (or-false b)) (subst (λ (z : List (Valued StepResult)). Going F L N P b z q vs w) (sym (append-nil l)) g);
        each = tt;
      }
    where
      or-false : (z : Bool) → (z || false) ≡ z
      or-false true = refl
      or-false false = refl

  pub went-hops : {b : Bool} (l : List (Valued StepResult)) {w : World} {ps : List Pass} (xs : Hops w ps) → AllAt at xs → Quiet ps → Each (λ (p : Pass). W p.to.held) ps
      → Going F L N P b l q vs w → Went W F L N P b at l q vs (final w ps) (given_in w ps)
  went-hops l (none {w}) t c k g = went-none l w g
  went-hops {b} l (more {w} {p} {ps} x xs) t c k g =
      let y = went-quiet W at time l q vs small x t.0 c.0 k.0 g in
      went_then l (gave w.held p.to.held) (given_in p.to ps) p.to (final p.to ps) y (went-hops {b = b || passed_in q (gave w.held p.to.held)} (l ++ gave w.held p.to.held) xs t.1 c.1 k.1 y.going)
