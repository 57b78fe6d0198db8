-- The standing of the bearer along a trail; and on a bearer that is finished no request and no command goes out, and no Read ends Ok.
use Prim.Native.Nat.{ℕ}
use mathlib.Core.Path.{◌≡◌, refl, sym, ap, ap₂, ◌∙◌, subst}
use mathlib.Core.Bool.{Bool, true, false, not, ◌&&◌, ◌||◌, false≢true}
use mathlib.Core.List.{List, [], ◌∷◌, ◌++◌}
use native.Mathlib.Omega.{arith}
use lib.ListN.{length, get_or}
use lib.Dec.{eqb}
use borrow.Author.Tests.{eqb-true}
use Rattle.bytes_base.specs.Choice.{pick}
use Rattle.bytes_base.proofs.TestLaws.{both}
use Rattle.state_places.specs.Sizes.{held_at}
use Rattle.lists.specs.Blocks.{Valued}
use Rattle.time.specs.declared.Micros.{Micros}
use Rattle.uuid_value.specs.declared.Uuid.{Uuid}
use Rattle.l2cap.specs.Numbers.{cid_att}
use Rattle.state.specs.Fresh.{no_queued}
use Rattle.state.specs.declared.Link.{Link}
use Rattle.state.specs.declared.Options.{Options}
use Rattle.state.specs.declared.Queued.{Queued}
use Rattle.state.specs.declared.Step.TheVariants.{Read}
use Rattle.state.specs.declared.StepResult.{StepResult}
use Rattle.state.specs.declared.StepStatus.{StepStatus}
use Rattle.state.specs.declared.StepStatus.TheVariants.{Ok, Timeout, NotConnected, NotFound, AttError, TooLong, Disconnected, TableFull, BearerClosed}
use Rattle.state_rules.specs.Fit.{awaits}
use Rattle.script_rules.specs.World.{Held, World, on_held}
use Rattle.script_rules.specs.Ready.{Ready}
use Rattle.script_rules.specs.Send.{send}
use Rattle.script_rules.specs.Waiting.{take_step}
use Rattle.script_rules.specs.Start.{ends}
use Rattle.script_rules.specs.Sound.{Sound}
use Rattle.script_rules.specs.Script.{can_go, step_once}
use Rattle.script_rules.proofs.UnlinkedLaws.{step-unlinked}
use Rattle.script_rules.proofs.AdvanceLaws.{GoesOn, goes_on_lem}
use Rattle.link_rules.specs.Payload.{payload}
use Rattle.link_rules.specs.Responses.{become, counts, unasked}
use Rattle.link_rules.specs.Channel.{on_channel}
use Rattle.thm_trail.specs.Trail.{link-came, link-went, att-heard, Pass, pass, final, met, parted, came_on}
use Rattle.thm_trail.specs.Log.{gave, given_in}
use Rattle.thm_trail.proofs.Hops.{Open, NotWell, Still, Hop, ended, began, meets, parts, still, acted, Hops, none, more, Steadily, Steady, AllSteady}
use Rattle.thm_wire.specs.Wire.{Sent, sent_in, sent_along, frames_of}
use Rattle.thm_accounting.proofs.Numbered.{Numbered}
use Rattle.thm_accounting.proofs.Gives.{Gives, nothing, one, Whole, finish-pushes}
use Rattle.thm_accounting.proofs.Starts.{gives-ends, gives-start}
use Rattle.thm_accounting.proofs.Channels.{gives-channel}
use Rattle.thm_accounting.proofs.Books.{Books, none-gave, gave-pushed, kept-take, whole_take, whole, sound-hop, books-hop}
use Rattle.thm_requests.specs.Events.{Event, asked, asked_in, news_of, results_of}
use Rattle.thm_requests.proofs.Along.{events_in, events_along}
use Rattle.thm_requests.proofs.Asks.{As, itself, Reply, mute, replies, voiced, Asking, Asks, calm, none as unawaited, asks}
use Rattle.thm_requests.proofs.Starts.{asks-start}
use Rattle.thm_requests.proofs.Channels.{asks-taken}
use Rattle.thm_requests.proofs.Watch.{sent-none, sent-one, hushed-none, runs_on, idle-none}
use Rattle.thm_requests.proofs.Reading as reading
use Rattle.thm_requests.proofs.Good.{Badly, nothing-given, not-ok, AtMost, no, yes, hop-most, idle-gave, running-is, still-gave, poorly-given, ended-badly, began-badly, one_same, not-one}
use Rattle.thm_requests.proofs.Turns.{numbered-on}
use Rattle.thm_heard.proofs.Keeps.{Bears, bears-then, keeps-take, keeps-start, keeps-ends}
use Rattle.thm_heard.proofs.Channels.{bears-channel}
use Rattle.thm_closed.specs.Closed.{is_timeout, Standing, untried, standing, Silent, Unread}
use Rattle.thm_closed.proofs.Frames.{counted_is, Mild, unmoved, rested, mild-reply, mild-channel}
use Rattle.thm_closed.proofs.Begins.{mute-start}
use Rattle.thm_closed.proofs.Stands.{and-false, or-false, pick_same, pending_of, Stands, none-pending, pending-same, over-pending, idle-ends, standing-append, alike, rests}

-- ---- what went out

pub silent-none : (l : List Sent) → l ≡ [] → Silent (frames_of l)
silent-none l e = subst (λ (t : List Sent). Silent (frames_of t)) (sym e) tt

pub silent-as : (w v : World) → As w.told v.told → Silent (frames_of (sent_in w v))
silent-as w v a = silent-none (sent_in w v) (sent-none w v a)

silent-reply : (w v : World) → Ready 64 w → Reply w.told v.told → Silent (frames_of (sent_in w v))
silent-reply w v r (mute a) = silent-as w v a
silent-reply w v r (replies channel payload c m e f a) = subst (λ (t : List Sent). Silent (frames_of t)) (sym (sent-one w v channel payload r c m a)) (f, tt)

pub silent-append : (a b : List Sent) → Silent (frames_of a) → Silent (frames_of b) → Silent (frames_of (a ++ b))
silent-append [] b x y = y
silent-append (z ∷ a) b x y = (x.0, silent-append a b x.1 y)

-- ---- what was given

pub unread-none : (q : List Queued) (m : List (Valued StepResult)) → m ≡ [] → Unread q m
unread-none q m e = subst (λ (t : List (Valued StepResult)). Unread q t) (sym e) tt

pub unread-append : (q : List Queued) (a b : List (Valued StepResult)) → Unread q a → Unread q b → Unread q (a ++ b)
unread-append q [] b x y = y
unread-append q (z ∷ a) b x y = (x.0, unread-append q a b x.1 y)

-- what ends badly
pub unread-badly : (l : List (Valued StepResult)) (q : List Queued) {w : World} {p : Pass} (x : Hop w p) → Sound 65 w → Books l q w.held
    → ((u : Uuid) → (get_or q (length l) no_queued).step ≡ Read u → Badly w.held p.to.held) → Unread q (gave w.held p.to.held)
unread-badly l q {w} {p} x s b bad = go (hop-most l q x s b)
  where
    m : List (Valued StepResult)
    m = gave w.held p.to.held

    go : AtMost w.held p.to.held → Unread q m
    go (no e) = unread-none q m e
    go (yes y e) = subst (λ (t : List (Valued StepResult)). Unread q t) (sym e)
        ((λ u f g. by u (sym (ap (λ (n : ℕ). (get_or q n no_queued).step) place) ∙ f) g), tt)
      where
        place : y.entry.index ≡ length l
        place = (subst (λ (t : List (Valued StepResult)). Numbered (length l) t) e (numbered-on l m q p.to.held (books-hop l q x s b))).0

        by : (u : Uuid) → (get_or q (length l) no_queued).step ≡ Read u → y.entry.status ≡ Ok → ⊥
        by u f g = so (bad u f)
          where
            so : Badly w.held p.to.held → ⊥
            so (nothing-given a) = not-one y m a e
            so (not-ok v a never) = never (ap (λ (c : Valued StepResult). c.entry.status) (one_same v y (sym a ∙ e)) ∙ g)

-- ---- a hop

-- s stood before, t stands after
pub record Goes (o : Options) (q : List Queued) (s t : Standing) (w v : World) : Type 0 where
  pub stands : Stands o t v.held
  pub before : t.finished ≡ true → s.finished ≡ true
  pub silent : o.strict ≡ true → s.finished ≡ true → Silent (frames_of (sent_in w v))
  pub unread : o.strict ≡ true → s.finished ≡ true → Unread q (gave w.held v.held)

-- the events of a hop
abbrev pub after : Standing → World → Pass → Standing
after s w p = standing s (events_in w p)

-- what came, what was asked, what was given
after_is : (s : Standing) (w : World) (p : Pass) (a : List Event) → asked_in p.to.held.state.running.index (sent_in w p.to) ≡ a
    → after s w p ≡ standing (standing (standing s (news_of p.came)) a) (results_of (gave w.held p.to.held))
after_is s w p a e =
    let m = results_of (gave w.held p.to.held) in
    standing-append s (news_of p.came) _
    ∙ ap (λ (t : List Event). standing (standing s (news_of p.came)) (t ++ m)) e
    ∙ standing-append (standing s (news_of p.came)) a m

-- nothing was asked, nothing is awaited
after-rests : (s : Standing) (w : World) (p : Pass) → asked_in p.to.held.state.running.index (sent_in w p.to) ≡ []
    → (standing s (news_of p.came)).awaited ≡ 0
    → after s w p ≡ standing s (news_of p.came)
after-rests s w p e f = after_is s w p [] e ∙ rests (standing s (news_of p.came)) (gave w.held p.to.held) f

-- a request went out, and nothing was given
after-asks : (s : Standing) (w : World) (p : Pass) (op : ℕ)
    → asked_in p.to.held.state.running.index (sent_in w p.to) ≡ asked p.to.held.state.running.index op ∷ []
    → gave w.held p.to.held ≡ [] → after s w p ≡ record { awaited = op; finished = (standing s (news_of p.came)).finished }
after-asks s w p op e f =
    after_is s w p (asked p.to.held.state.running.index op ∷ []) e
    ∙ ap (λ (m : List (Valued StepResult)). standing (record { awaited = op; finished = (standing s (news_of p.came)).finished }) (results_of m)) f

-- one request
asked-one : (w u v : World) → u.told ≡ w.told → Ready 64 w → (a : Asking u v)
    → asked_in v.held.state.running.index (sent_in w v) ≡ asked v.held.state.running.index (get_or a.pdu 0 0) ∷ []
asked-one w u v same r a =
    let i = v.held.state.running.index in
    ap (asked_in i) (sent-one w v cid_att a.pdu r (omega arith) a.short (subst (λ t. As (send t cid_att a.pdu) v.told) same a.told))
    ∙ ap (λ (x : Bool). pick x (asked i (get_or a.pdu 0 0) ∷ []) [] ++ []) a.request

quiet-asked : (w v : World) → As w.told v.told → (i : ℕ) → asked_in i (sent_in w v) ≡ []
quiet-asked w v a i = ap (asked_in i) (sent-none w v a)

-- on to a state that bears the same
stands_on : (o : Options) (s t : Standing) (h g : Held) → Stands o s h → Bears h g → t.finished ≡ s.finished → t.awaited ≡ pending_of g.state.bearer
    → (o.strict ≡ true → s.finished ≡ true → t.awaited ≡ 0) → Stands o t g
stands_on o s t h g k b e f q =
    record {
      options = b.options ∙ k.options;
      awaited = f;
      closed = b.closed ∙ k.closed ∙ ap (λ (x : Bool). o.strict && x) (sym e);
      quiet = λ a c. q a (sym e ∙ c);
    }

-- the flag of a bearer that is finished is up, in strict mode
is-closed : (o : Options) (s : Standing) (h : Held) → Stands o s h → o.strict ≡ true → s.finished ≡ true → h.state.bearer.closed ≡ true
is-closed o s h k a b = k.closed ∙ ap₂ ◌&&◌ a b

in-time : (st : StepStatus) → (st ≡ Timeout → ⊥) → is_timeout st ≡ false
in-time Ok n = refl
in-time Timeout n = absurd (n refl)
in-time NotConnected n = refl
in-time NotFound n = refl
in-time (AttError code) n = refl
in-time TooLong n = refl
in-time Disconnected n = refl
in-time TableFull n = refl
in-time BearerClosed n = refl

-- the result of the running step
ended-given : (l : List (Valued StepResult)) (q : List Queued) (w : World) (at : Micros) (st : StepStatus) → Sound 65 w → Books l q w.held
    → w.held.state.running.active ≡ true
    → gave w.held (ends w.held at st) ≡ reading.result_of w.held at st held_at 0 ∷ []
ended-given l q w at st k b a =
    gave-pushed l q w.held (ends w.held at st) (reading.result_of w.held at st held_at 0) b (b.number a)
    (finish-pushes w.held at st held_at 0 0 (whole w k b.sizes) (omega arith) (omega arith) a)

-- a step that runs ends
pub after-ended : (l : List (Valued StepResult)) (q : List Queued) (s : Standing) (w : World) (at : Micros) (st : StepStatus) → Sound 65 w
    → Books l q w.held → w.held.state.running.active ≡ true
    → after s w (pass (on_held w (ends w.held at st))) ≡ record { awaited = 0; finished = s.finished || (is_timeout st && not (eqb s.awaited 0)) }
after-ended l q s w at st k b a =
    let v = on_held w (ends w.held at st) in
    after_is s w (pass v) [] (quiet-asked w v (itself w.told) v.held.state.running.index)
    ∙ ap (λ (m : List (Valued StepResult)). standing s (results_of m)) (ended-given l q w at st k b a)

-- where the script stands still nothing happens
pub still_after : (l : List (Valued StepResult)) (q : List Queued) (s : Standing) (w : World) (g : Held) → Still w.held g → Sound 65 w
    → Books l q w.held → after s w (pass (on_held w g)) ≡ s
still_after l q s w g t k b =
    let v = on_held w g in
    after_is s w (pass v) [] (quiet-asked w v (itself w.told) g.state.running.index)
    ∙ ap (λ (m : List (Valued StepResult)). standing s (results_of m)) (still-gave l q w g k b t)

-- neither true at once
not-both : (a b : Bool) → (a && b) ≡ false → a ≡ true → b ≡ true → ⊥
not-both a b e f g = false≢true (sym e ∙ ap₂ ◌&&◌ f g)

-- no number counts where nothing is awaited
uncounted : (n : ℕ) (p : List ℕ) → n ≡ 0 → counts n p ≡ true → ⊥
uncounted n p e c = false≢true (ap (λ (k : ℕ). counts k p) (sym e) ∙ c)

module _ (o : Options) (s : Standing) (l : List (Valued StepResult)) (q : List Queued) where
  -- t stands after the hop
  goes_by : (w : World) (p : Pass) (t : Standing) → after s w p ≡ t → t.finished ≡ s.finished → Stands o t p.to.held
      → (o.strict ≡ true → s.finished ≡ true → Silent (frames_of (sent_in w p.to)))
      → (o.strict ≡ true → s.finished ≡ true → Unread q (gave w.held p.to.held))
      → Goes o q s (after s w p) w p.to
  goes_by w p t e fin i mutes bad =
      record {
        stands = subst (λ (z : Standing). Stands o z p.to.held) (sym e) i;
        before = λ c. sym fin ∙ sym (ap (λ (z : Standing). z.finished) e) ∙ c;
        silent = mutes;
        unread = bad;
      }

  -- nothing is asked, nothing is awaited before and after
  goes-rests : (w : World) (p : Pass) → let r = standing s (news_of p.came) in Stands o s w.held → Bears w.held p.to.held → r.awaited ≡ 0
      → r.finished ≡ s.finished
      → asked_in p.to.held.state.running.index (sent_in w p.to) ≡ [] → pending_of p.to.held.state.bearer ≡ 0
      → (o.strict ≡ true → s.finished ≡ true → Silent (frames_of (sent_in w p.to)))
      → (o.strict ≡ true → s.finished ≡ true → Unread q (gave w.held p.to.held))
      → Goes o q s (after s w p) w p.to
  goes-rests w p i b zero fin none-asked none-awaited mutes bad =
      let r = standing s (news_of p.came) in
      goes_by w p r (after-rests s w p none-asked zero) fin (stands_on o s r w.held p.to.held i b fin (zero ∙ sym none-awaited) (λ a c. zero)) mutes bad

  -- a request goes out, on a bearer that is not finished
  goes-asks : (w : World) (p : Pass) (op : ℕ) → Stands o s w.held → Bears w.held p.to.held → (standing s (news_of p.came)).finished ≡ s.finished
      → asked_in p.to.held.state.running.index (sent_in w p.to) ≡ asked p.to.held.state.running.index op ∷ [] → gave w.held p.to.held ≡ []
      → pending_of p.to.held.state.bearer ≡ op → (o.strict ≡ true → s.finished ≡ true → ⊥) → Goes o q s (after s w p) w p.to
  goes-asks w p op i b fin one-asked none-given awaits-op unspent =
      let r : Standing = record { awaited = op; finished = (standing s (news_of p.came)).finished } in
      goes_by w p r (after-asks s w p op one-asked none-given) fin
      (stands_on o s r w.held p.to.held i b fin (sym awaits-op) (λ a c. absurd (unspent a c))) (λ a c. absurd (unspent a c))
      (λ a c. absurd (unspent a c))

  -- ---- a step begins

  module _ (w : World) (at : Micros) (x : Hop w (pass (step_once w at))) (g : can_go w.held.state ≡ true) (k : Sound 65 w) (b : Books l q w.held)
      (i : Stands o s w.held) where
    abbrev u : World
    u = on_held w (take_step w.held)

    abbrev v : World
    v = step_once w at

    onto : GoesOn w.held.state
    onto = goes_on_lem w.held.state g

    bears : Bears w.held v.held
    bears = bears-then (keeps-take w.held k.nearly.waits.few).bears (keeps-start u at).bears

    none-awaited : s.awaited ≡ 0
    none-awaited = i.awaited ∙ none-pending w.held.state.bearer (idle-none w k onto.idle)

    ready : Ready 64 w
    ready = record {
      store = k.ready.store;
      out = k.ready.out;
      results = k.ready.results;
      frames = omega (arith, k.budget, onto.some);
      bytes = k.ready.bytes;
    }

    bad : Unread q (gave w.held v.held)
    bad = unread-badly l q x k b (λ y f. began-badly l q w at y k g b f)

    -- nothing is asked
    rests-began : ((j : ℕ) → asked_in j (sent_in w v) ≡ []) → pending_of v.held.state.bearer ≡ 0
        → (o.strict ≡ true → s.finished ≡ true → Silent (frames_of (sent_in w v)))
        → Goes o q s (after s w (pass v)) w v
    rests-began e f m = goes-rests w (pass v) i bears none-awaited refl (e v.held.state.running.index) f m (λ a c. bad)

    asks-begun : Asks u v
    unfolding take_step
    asks-begun = asks-start u at refl k.nearly.linked.mtu_high

    still-zero : v.held.state.bearer.link.pending ≡ w.held.state.bearer.link.pending → pending_of v.held.state.bearer ≡ 0
    still-zero e = pending-same w.held.state.bearer v.held.state.bearer e bears.present ∙ sym i.awaited ∙ none-awaited

    -- with no link
    began-alone : w.held.state.bearer.present ≡ false → Goes o q s (after s w (pass v)) w v
    began-alone e =
        let a : As w.told v.told = subst (λ (t : World). As w.told t.told) (sym (step-unlinked w at e)) (itself w.told) in
        rests-began (quiet-asked w v a) (ap (λ (y : Bool). pick y v.held.state.bearer.link.pending 0) (bears.present ∙ e)) (λ c d. silent-as w v a)

    -- on a bearer that is finished
    began-mute : As w.told v.told → Goes o q s (after s w (pass v)) w v
    unfolding take_step send
    began-mute a = rests-began (quiet-asked w v a) (go asks-begun) (λ c d. silent-as w v a)
      where
        go : Asks u v → pending_of v.held.state.bearer ≡ 0
        go (calm c) = still-zero c.pending
        go (unawaited e y) = none-pending v.held.state.bearer e
        go (asks z) = absurd (omega (arith, z.told.frames, a.frames))

    -- on one that is not
    began-open : w.held.state.bearer.present ≡ true → (o.strict && s.finished) ≡ false → Asks u v → Goes o q s (after s w (pass v)) w v
    unfolding take_step
    began-open e unspent (calm c) =
        rests-began (λ j. hushed-none j w v ready c.voice) (still-zero c.pending) (λ a d. absurd (not-both o.strict s.finished unspent a d))
    began-open e unspent (unawaited f y) =
        rests-began (λ j. hushed-none j w v ready y) (none-pending v.held.state.bearer f) (λ a d. absurd (not-both o.strict s.finished unspent a d))
    began-open e unspent (asks a) =
        goes-asks w (pass v) (get_or a.pdu 0 0) i bears refl (asked-one w u v refl ready a)
        (none-gave l q w.held v.held b
        (runs_on (gives-start u at (whole_take w.held (whole w k b.sizes))) a.active
        ∙ kept-take w.held (whole w k b.sizes) k.nearly.waits.few))
        (ap₂ (λ (y : Bool) (n : ℕ). pick y n 0) (bears.present ∙ e) a.opcode) (not-both o.strict s.finished unspent)

    goes-began : Goes o q s (after s w (pass v)) w v
    unfolding take_step
    goes-began = go w.held.state.bearer.present refl (o.strict && s.finished) refl
      where
        go : (y : Bool) → w.held.state.bearer.present ≡ y → (z : Bool) → (o.strict && s.finished) ≡ z → Goes o q s (after s w (pass v)) w v
        go false e z f = began-alone e
        go true e false f = began-open e f asks-begun
        go true e true f =
            let c = both o.strict s.finished f in
            began-mute (mute-start u at (ap (λ (y : Options). y.strict) i.options ∙ c.0) (i.closed ∙ f))

  -- ---- a step ends, and not by a timeout

  module _ (w : World) (at : Micros) (st : StepStatus) (n : NotWell w st) (k : Sound 65 w) (b : Books l q w.held) (i : Stands o s w.held) where
    abbrev over : World
    over = on_held w (ends w.held at st)

    goes-ended : Hop w (pass over) → (st ≡ Timeout → ⊥) → Goes o q s (after s w (pass over)) w over
    goes-ended x not_late = go w.held.state.running.active refl
      where
        mutes : Silent (frames_of (sent_in w over))
        mutes = silent-as w over (itself w.told)

        bad : Unread q (gave w.held over.held)
        bad = unread-badly l q x k b (λ u f. ended-badly l q w at st u n k b f)

        asked-none : asked_in over.held.state.running.index (sent_in w over) ≡ []
        asked-none = quiet-asked w over (itself w.told) over.held.state.running.index

        go : (a : Bool) → w.held.state.running.active ≡ a → Goes o q s (after s w (pass over)) w over
        go true a =
            let t : Standing = record { awaited = 0; finished = s.finished } in
            let e : after s w (pass over) ≡ t =
            after-ended l q s w at st k b a
            ∙ alike refl (ap (λ (y : Bool). s.finished || (y && not (eqb s.awaited 0))) (in-time st not_late) ∙ or-false s.finished) in
            goes_by w (pass over) t e refl
            (stands_on o s t w.held over.held i (keeps-ends w.held at st).bears refl (sym (over-pending w.held at st a)) (λ c d. refl))
            (λ c d. mutes) (λ c d. bad)
        go false a =
            let e : after s w (pass over) ≡ s =
            after_is s w (pass over) [] asked-none
            ∙ ap (λ (m : List (Valued StepResult)). standing s (results_of m))
            (idle-gave l q w.held over.held b (gives-ends w.held at st (whole w k b.sizes)) a) in
            goes_by w (pass over) s e refl (subst (λ (h : Held). Stands o s h) (sym (idle-ends w.held at st a)) i) (λ c d. mutes) (λ c d. bad)

  -- ---- a link comes, or goes; the script stands still

  goes-meets : (w : World) (handle : ℕ) → Books l q w.held → Stands o s w.held
      → let p : Pass = record { came = link-came handle ∷ []; to = met w handle } in Goes o q s (after s w p) w (met w handle)
  goes-meets w handle b i =
      let v = met w handle in
      let p : Pass = record { came = link-came handle ∷ []; to = v } in
      let e : after s w p ≡ untried = after-rests s w p (quiet-asked w v (itself w.told) v.held.state.running.index) refl in
      record {
        stands = subst (λ (t : Standing). Stands o t v.held) (sym e)
            (record { options = i.options; awaited = refl; closed = sym (and-false o.strict); quiet = λ a c. refl });
        before = λ c. absurd (false≢true (sym (ap (λ (t : Standing). t.finished) e) ∙ c));
        silent = λ a c. silent-as w v (itself w.told);
        unread = λ a c. unread-none q (gave w.held v.held) (none-gave l q w.held v.held b refl);
      }

  goes_parts : (w : World) → Books l q w.held → Stands o s w.held
      → let p : Pass = record { came = link-went ∷ []; to = parted w } in Goes o q s (after s w p) w (parted w)
  goes_parts w b i =
      let v = parted w in
      let p : Pass = record { came = link-went ∷ []; to = v } in
      let t : Standing = record { awaited = 0; finished = s.finished } in
      goes_by w p t (after-rests s w p (quiet-asked w v (itself w.told) v.held.state.running.index) refl) refl
      (record { options = i.options; awaited = refl; closed = i.closed; quiet = λ a c. refl })
      (λ a c. silent-as w v (itself w.told)) (λ a c. unread-none q (gave w.held v.held) (none-gave l q w.held v.held b refl))

  goes-still : (w : World) (g : Held) (t : Still w.held g) → Steadily w.held g → Sound 65 w → Books l q w.held → Stands o s w.held
      → Goes o q s (after s w (pass (on_held w g))) w (on_held w g)
  goes-still w g t d k b i =
      let v = on_held w g in
      let e : after s w (pass v) ≡ s = still_after l q s w g t k b in
      goes_by w (pass v) s e refl
      (record {
        options = d.options ∙ i.options;
        awaited = i.awaited ∙ sym (pending-same w.held.state.bearer g.state.bearer (ap (λ (y : Link). y.pending) t.link) t.present);
        closed = d.closed ∙ i.closed;
        quiet = i.quiet;
      })
      (λ a c. silent-as w v (itself w.told)) (λ a c. unread-none q (gave w.held g) (still-gave l q w g k b t))

  -- ---- a frame is read

  module _ (w : World) (at : Micros) (channel n : ℕ) (y : Open at n w) (k : Sound 65 w) (b : Books l q w.held) (i : Stands o s w.held) where
    abbrev heard : World
    heard = on_channel w at channel n

    abbrev bytes : List ℕ
    bytes = payload w.held n

    abbrev pending : ℕ
    pending = w.held.state.bearer.link.pending

    abbrev hop : Pass
    hop = record { came = came_on channel bytes; to = heard }

    room : Ready 64 w
    room = record { store = k.ready.store; out = k.ready.out; results = k.ready.results; frames = omega (arith, y.unsent); bytes = k.ready.bytes }

    kept : Whole w.held
    kept = whole w k b.sizes

    gives : Gives at w.held heard.held
    gives = gives-channel w at channel n y.short kept

    linked : Bears w.held heard.held
    linked = bears-channel w at channel n

    -- a link is there
    awaited-is : s.awaited ≡ pending
    awaited-is = i.awaited ∙ ap (λ (z : Bool). pick z pending 0) y.present

    none-finished : o.strict ≡ true → s.finished ≡ true → pending ≡ 0
    none-finished a c = sym awaited-is ∙ i.quiet a c

    -- no Read ends well where nothing is awaited
    unheard : pending ≡ 0 → (u : Uuid) → (get_or q (length l) no_queued).step ≡ Read u → Badly w.held heard.held
    unheard z u f = go w.held.state.running.active refl
      where
        by : w.held.state.running.active ≡ true → reading.ReadBy w at channel n heard → Badly w.held heard.held
        by a (reading.poorly e) = poorly-given l q w.held heard.held b a e
        by a (reading.value r) = absurd (uncounted pending bytes z r.counted)

        go : (a : Bool) → w.held.state.running.active ≡ a → Badly w.held heard.held
        go true a = by a (reading.read_by u w at n y.short (running-is l q w.held u b a f) kept a channel)
        go false a = nothing-given (idle-gave l q w.held heard.held b gives a)

    -- it is no answer that counts
    goes-mild : standing s (news_of (came_on channel bytes)) ≡ s → Mild w heard → Hop w hop → Goes o q s (after s w hop) w heard
    goes-mild e m x = go m
      where
        mutes : Silent (frames_of (sent_in w heard))
        mutes = silent-reply w heard room (mild-reply m)

        bad : o.strict ≡ true → s.finished ≡ true → Unread q (gave w.held heard.held)
        bad a c = unread-badly l q x k b (unheard (none-finished a c))

        none-asked : asked_in heard.held.state.running.index (sent_in w heard) ≡ []
        none-asked = hushed-none heard.held.state.running.index w heard room (voiced (mild-reply m))

        none-given : heard.held.state.running.active ≡ w.held.state.running.active → Gives at w.held heard.held
            → gave w.held heard.held ≡ []
        none-given f (nothing r) = none-gave l q w.held heard.held b r.results
        none-given f (one r) = absurd (false≢true (sym r.is ∙ f ∙ r.was))

        go : Mild w heard → Goes o q s (after s w hop) w heard
        go (unmoved a c d r) =
            let f : after s w hop ≡ s =
            after_is s w hop [] none-asked
            ∙ ap (λ (g : List (Valued StepResult)). standing (standing s (news_of (came_on channel bytes))) (results_of g)) (none-given d gives)
            ∙ e in
            goes_by w hop s f refl
            (stands_on o s s w.held heard.held i linked refl
            (i.awaited ∙ sym (pending-same w.held.state.bearer heard.held.state.bearer a c)) i.quiet) (λ g h. mutes) bad
        go (rested a c r) =
            goes-rests w hop i linked (ap (λ (t : Standing). t.awaited) e ∙ i.awaited ∙ none-pending w.held.state.bearer a)
            (ap (λ (t : Standing). t.finished) e) none-asked
            (none-pending heard.held.state.bearer c) (λ g h. mutes) bad

    -- it is the answer
    module _ (e : channel ≡ cid_att) (c : counts pending bytes ≡ true) where
      abbrev answered : World
      answered = become w (unasked w.held.state)

      news-is : standing s (news_of (came_on channel bytes)) ≡ record { awaited = 0; finished = s.finished }
      news-is =
          ap (λ (m : ℕ). standing s (news_of (came_on m bytes))) e
          ∙ alike (ap (λ (m : ℕ). pick (counts m bytes) 0 s.awaited) awaited-is ∙ ap (λ (z : Bool). pick z 0 s.awaited) c) refl

      unspent : o.strict ≡ true → s.finished ≡ true → ⊥
      unspent a f = uncounted pending bytes (none-finished a f) c

      asked-for : Asks answered heard
      asked-for =
          let z : awaits w.held.state.bearer ≡ true = ap₂ ◌&&◌ y.present (both (not (eqb pending 0)) _ c).0 in
          subst (λ (t : World). Asks answered t) (sym (counted_is w at n channel e (k.nearly.asks.request z) c)) (asks-taken answered at n)

      goes-counted : Asks answered heard → Goes o q s (after s w hop) w heard
      goes-counted (calm z) =
          goes-rests w hop i linked (ap (λ (t : Standing). t.awaited) news-is) (ap (λ (t : Standing). t.finished) news-is)
          (hushed-none heard.held.state.running.index w heard room z.voice)
          (ap (λ (m : ℕ). pick heard.held.state.bearer.present m 0) z.pending ∙ pick_same heard.held.state.bearer.present)
          (λ a f. absurd (unspent a f)) (λ a f. absurd (unspent a f))
      goes-counted (unawaited z t) =
          goes-rests w hop i linked (ap (λ (t : Standing). t.awaited) news-is) (ap (λ (t : Standing). t.finished) news-is)
          (hushed-none heard.held.state.running.index w heard room t)
          (none-pending heard.held.state.bearer z) (λ a f. absurd (unspent a f)) (λ a f. absurd (unspent a f))
      goes-counted (asks a) =
          goes-asks w hop (get_or a.pdu 0 0) i linked (ap (λ (t : Standing). t.finished) news-is) (asked-one w answered heard refl room a)
          (none-gave l q w.held heard.held b (runs_on gives a.active))
          (ap₂ (λ (z : Bool) (m : ℕ). pick z m 0) (linked.present ∙ y.present) a.opcode) unspent

    goes-acted : Hop w hop → Goes o q s (after s w hop) w heard
    goes-acted x = go (eqb channel cid_att) refl (counts pending bytes) refl
      where
        mild : (eqb channel cid_att ≡ true → counts pending bytes ≡ false) → Mild w heard
        mild f = mild-channel w at n k.nearly.asks.att channel f

        go : (d : Bool) → eqb channel cid_att ≡ d → (c : Bool) → counts pending bytes ≡ c → Goes o q s (after s w hop) w heard
        go true d true c = let e = eqb-true channel cid_att d in goes-counted e c (asked-for e c)
        go true d false c =
            goes-mild
            (ap (λ (z : Bool). standing s (news_of (pick z (att-heard bytes ∷ []) []))) d
            ∙ alike (ap (λ (m : ℕ). pick (counts m bytes) 0 s.awaited) awaited-is ∙ ap (λ (z : Bool). pick z 0 s.awaited) c) refl)
            (mild (λ f. c)) x
        go false d c f = goes-mild (ap (λ (z : Bool). standing s (news_of (pick z (att-heard bytes ∷ []) []))) d) (mild (λ g. absurd (false≢true (sym d ∙ g)))) x

  goes-hop : {w : World} {p : Pass} (x : Hop w p) → Steady x → Sound 65 w → Books l q w.held → Stands o s w.held → Goes o q s (after s w p) w p.to
  goes-hop (ended w at st n) d k b i = goes-ended w at st n k b i (ended w at st n) d
  goes-hop (began w at t g) d k b i = goes-began w at (began w at t g) g k b i
  goes-hop (meets w handle few) d k b i = goes-meets w handle b i
  goes-hop (parts w) d k b i = goes_parts w b i
  goes-hop (still w g t) d k b i = goes-still w g t d k b i
  goes-hop (acted w at channel n y t) d k b i = goes-acted w at channel n y k b i (acted w at channel n y t)

-- ---- a trail

-- s stood before it
pub record Done (o : Options) (q : List Queued) (s : Standing) (w : World) (ps : List Pass) : Type 0 where
  pub stands : Stands o (standing s (events_along w ps)) (final w ps).held
  pub silent : o.strict ≡ true → (standing s (events_along w ps)).finished ≡ true → Silent (frames_of (sent_along w ps))
  pub unread : o.strict ≡ true → (standing s (events_along w ps)).finished ≡ true → Unread q (given_in w ps)

-- where no timer call ends a step, a bearer that is finished was so before
pub record Through (o : Options) (q : List Queued) (s : Standing) (w : World) (ps : List Pass) : Type 0 where
  pub done : Done o q s w ps
  pub before : (standing s (events_along w ps)).finished ≡ true → s.finished ≡ true

pub through : (o : Options) (s : Standing) (l : List (Valued StepResult)) (q : List Queued) {w : World} {ps : List Pass} (xs : Hops w ps) → AllSteady xs
    → Sound 65 w → Books l q w.held
    → Stands o s w.held → Through o q s w ps
through o s l q none d k b i = record { done = record { stands = i; silent = λ a c. tt; unread = λ a c. tt }; before = λ c. c }
through o s l q (more {w} {p} {ps} x xs) d k b i =
    let t = after s w p in
    let g = goes-hop o s l q x d.0 k b i in
    let r = through o t (l ++ gave w.held p.to.held) q xs d.1 (sound-hop x k) (books-hop l q x k b) g.stands in
    let e : standing s (events_along w (p ∷ ps)) ≡ standing t (events_along p.to ps) = standing-append s (events_in w p) (events_along p.to ps) in
    let same : (standing s (events_along w (p ∷ ps))).finished ≡ true → (standing t (events_along p.to ps)).finished ≡ true =
    λ c. sym (ap (λ (z : Standing). z.finished) e) ∙ c in
    record {
      done = record {
        stands = subst (λ (z : Standing). Stands o z (final p.to ps).held) (sym e) r.done.stands;
        silent = λ a c. silent-append (sent_in w p.to) (sent_along p.to ps) (g.silent a (g.before (r.before (same c)))) (r.done.silent a (same c));
        unread = λ a c. unread-append q (gave w.held p.to.held) (given_in p.to ps) (g.unread a (g.before (r.before (same c))))
            (r.done.unread a (same c));
      };
      before = λ c. g.before (r.before (same c));
    }
