-- A request is awaited only by the step that sent it, on the link that it was sent on.
use Prim.Native.Nat.{ℕ, ◌+◌, ◌≤◌}
use mathlib.Core.Path.{◌≡◌, refl, sym, ap, ◌∙◌, subst}
use mathlib.Core.Bool.{Bool, true, false, false≢true}
use mathlib.Core.List.{List, [], ◌∷◌, ◌++◌, append-nil, append_assoc}
use native.Mathlib.Omega.{arith}
use lib.ListN.{length, take, drop, get_or, take-append-drop, drop_of_length-le, length-take}
use lib.Seq.{length-take-le}
use lib.Dec.{eqb}
use Rattle.bytes_base.specs.Choice.{pick}
use Rattle.lists.specs.Blocks.{Valued}
use Rattle.time.specs.declared.Micros.{Micros}
use Rattle.l2cap.specs.Numbers.{cid_att}
use Rattle.l2cap.specs.Frame.{l2cap_frame}
use Rattle.state.specs.Central.{Central}
use Rattle.state.specs.declared.Queued.{Queued}
use Rattle.state.specs.declared.Running.{Running}
use Rattle.state.specs.declared.StepResult.{StepResult}
use Rattle.state_rules.specs.Fit.{awaits}
use Rattle.state_rules.specs.Steps.{most_mtu}
use Rattle.script_rules.specs.World.{Held, Told, World, on_held}
use Rattle.script_rules.specs.Send.{send}
use Rattle.script_rules.specs.Ready.{Ready}
use Rattle.script_rules.specs.Waiting.{take_step}
use Rattle.script_rules.specs.Start.{start}
use Rattle.script_rules.specs.Sound.{Sound}
use Rattle.script_rules.specs.Script.{can_go, step_once}
use Rattle.script_rules.proofs.AdvanceLaws.{GoesOn, goes_on_lem}
use Rattle.link_rules.specs.Payload.{payload}
use Rattle.link_rules.specs.Channel.{on_channel}
use Rattle.thm_trail.specs.Trail.{link-came, link-went, att-heard, Pass, pass, met, parted, came_on}
use Rattle.thm_trail.specs.Log.{kept_results, gave}
use Rattle.thm_trail.proofs.Hops.{Still, Hop, ended, began, meets, parts, still, acted, still-values}
use Rattle.thm_wire.specs.Wire.{sent_in, as_sent, written, mtu_of}
use Rattle.thm_wire.proofs.Bytes.{sent-frame, sent-written}
use Rattle.thm_accounting.proofs.Gives.{Gives, nothing, one, Whole, kept-values}
use Rattle.thm_accounting.proofs.Starts.{gives-ends, gives-start}
use Rattle.thm_accounting.proofs.Channels.{gives-channel}
pub use Rattle.thm_accounting.proofs.Books.{none-gave}
use Rattle.thm_accounting.proofs.Books.{Books, kept-take, whole_take, whole}
use Rattle.thm_requests.specs.Events.{Event, came, asked, result, asked_in, news_of, results_of, Calm, Awaited}
use Rattle.thm_requests.proofs.Along.{events_in}
use Rattle.thm_requests.proofs.Asks.{As, itself, Voice, hushed, speaks, Calmly, Asking, Asks, calm, none, asks, same-wait, asks-finish}
use Rattle.thm_requests.proofs.Starts.{asks-start}
use Rattle.thm_requests.proofs.Channels.{asks-channel}

-- ---- what is read of the frames

-- nothing goes out
pub sent-none : (w v : World) → As w.told v.told → sent_in w v ≡ []
sent-none w v a =
    let n = w.told.sent.bytes in
    let e : written w v ≡ [] =
    ap (λ (k : ℕ). drop n (take k v.told.out)) a.bytes
    ∙ drop_of_length-le (take n v.told.out) {i = n} (omega (arith, length-take n v.told.out)) in
    ap (as_sent (mtu_of w)) e

-- one frame goes out
pub sent-one : (w v : World) (channel : ℕ) (payload : List ℕ) → Ready 64 w → channel ≤ 65535 → length payload ≤ most_mtu → As (send w.told channel payload) v.told
    → sent_in w v ≡ record { frame = record { channel = channel; payload = payload }; mtu = mtu_of w } ∷ []
sent-one w v channel payload r c m a =
    let t = w.told in
    let n = t.sent.bytes in
    let o = t.out in
    let room : n + (4 + length payload) ≤ length o = omega (arith, r.bytes, r.frames, r.out, m) in
    let e : written w v ≡ l2cap_frame channel payload =
    ap (λ (k : ℕ). drop n (take k v.told.out)) a.bytes
    ∙ ap (λ (l : List ℕ). drop n (take (send t channel payload).sent.bytes l)) a.out
    ∙ sent-written t channel payload (take n o) o (omega (arith, m)) room (sym (length-take-le n o (omega (arith, room)))) (sym (take-append-drop n o)) in
    ap (as_sent (mtu_of w)) e ∙ sent-frame channel payload (mtu_of w) c (omega (arith, m))

-- what is no request is no event
pub hushed-none : (i : ℕ) (w v : World) → Ready 64 w → Voice w.told v.told → asked_in i (sent_in w v) ≡ []
hushed-none i w v r (hushed a) = ap (asked_in i) (sent-none w v a)
hushed-none i w v r (speaks channel payload c m e a) =
    ap (asked_in i) (sent-one w v channel payload r c m a)
    ∙ ap (λ (b : Bool). pick b (asked i (get_or payload 0 0) ∷ []) [] ++ []) e

-- ---- lists of events

pub calm-append : (a b : List Event) → Calm a → Calm b → Calm (a ++ b)
calm-append [] b x y = y
calm-append (came (link-came handle) ∷ a) b x y = absurd x
calm-append (came link-went ∷ a) b x y = absurd x
calm-append (came (att-heard p) ∷ a) b x y = calm-append a b x y
calm-append (asked i op ∷ a) b x y = absurd x
calm-append (result z ∷ a) b x y = absurd x

pub calm-news : (channel : ℕ) (p : List ℕ) → Calm (news_of (came_on channel p))
calm-news channel p = go (eqb channel cid_att)
  where
    go : (b : Bool) → Calm (news_of (pick b (att-heard p ∷ []) []))
    go true = tt
    go false = tt

-- a step that runs on gave nothing
pub runs_on : {at : Micros} {h g : Held} → Gives at h g → g.state.running.active ≡ true → kept_results g ≡ kept_results h
runs_on (nothing r) e = r.results
runs_on (one x) e = absurd (false≢true (sym x.is ∙ e))

-- ---- the invariant

abbrev pub Waits : List Event → Held → Type 0
Waits es h = awaits h.state.bearer ≡ true → Awaited es h.state

pub waits-none : (es : List Event) (h : Held) → awaits h.state.bearer ≡ false → Waits es h
waits-none es h e f = absurd (false≢true (sym e ∙ f))

-- more that is calm
calmer : (es new : List Event) (c d : Central) → Calm new → d.running.active ≡ c.running.active → d.running.index ≡ c.running.index
    → d.bearer.link.pending ≡ c.bearer.link.pending → Awaited es c → Awaited (es ++ new) d
calmer es new c d k a i p w =
    record {
      runs = a ∙ w.runs;
      before = w.before;
      after = w.after ++ new;
      split =
          ap (λ (t : List Event). t ++ new) w.split
          ∙ append_assoc w.before (asked c.running.index c.bearer.link.pending ∷ w.after) new
          ∙ ap (λ (n : ℕ). w.before ++ (asked n c.bearer.link.pending ∷ (w.after ++ new))) (sym i)
          ∙ ap (λ (n : ℕ). w.before ++ (asked d.running.index n ∷ (w.after ++ new))) (sym p);
      calm = calm-append w.after new w.calm k;
    }

-- what a hop's events are, where nothing was given
events-are : (w : World) (p : Pass) (a : List Event) → asked_in p.to.held.state.running.index (sent_in w p.to) ≡ a → gave w.held p.to.held ≡ []
    → events_in w p ≡ news_of p.came ++ a
events-are w p a e g =
    ap (λ (t : List Event). news_of p.came ++ (t ++ results_of (gave w.held p.to.held))) e
    ∙ ap (λ (t : List (Valued StepResult)). news_of p.came ++ (a ++ results_of t)) g
    ∙ ap (λ (t : List Event). news_of p.came ++ t) (append-nil a)

-- the wait goes on
waits-calm : (es : List Event) (w : World) (p : Pass) → Ready 64 w → Calm (news_of p.came) → (p.to.held.state.running.active ≡ true → gave w.held p.to.held ≡ [])
    → Calmly w p.to → Waits es w.held → Waits (es ++ events_in w p) p.to.held
waits-calm es w p r k g c i e =
    let v = p.to in
    let b : awaits w.held.state.bearer ≡ true =
    sym (same-wait v.held.state.bearer.link.pending w.held.state.bearer.link.pending v.held.state.bearer.present w.held.state.bearer.present c.pending c.present) ∙ e in
    let a = i b in
    let n : events_in w p ≡ news_of p.came = events-are w p [] (hushed-none v.held.state.running.index w v r c.voice) (g (c.active ∙ a.runs)) ∙ append-nil (news_of p.came) in
    subst (λ (t : List Event). Awaited (es ++ t) v.held.state) (sym n)
    (calmer es (news_of p.came) w.held.state v.held.state k c.active c.index c.pending a)

-- a request goes out, from a world u that has sent what w has
waits-asks : (es : List Event) (w u : World) (p : Pass) → u.told ≡ w.told → Ready 64 w → (p.to.held.state.running.active ≡ true → gave w.held p.to.held ≡ [])
    → Asking u p.to → Waits (es ++ events_in w p) p.to.held
waits-asks es w u p same r g b e =
    record {
      runs = b.active;
      before = es ++ news_of p.came;
      after = [];
      split =
          ap (λ (t : List Event). es ++ t) n
          ∙ sym (append_assoc es (news_of p.came) (asked i (get_or b.pdu 0 0) ∷ []))
          ∙ ap (λ (k : ℕ). (es ++ news_of p.came) ++ (asked i k ∷ [])) (sym b.opcode);
      calm = tt;
    }
  where
    v : World
    v = p.to

    i : ℕ
    i = v.held.state.running.index

    told : As (send w.told cid_att b.pdu) v.told
    told = subst (λ (t : Told). As (send t cid_att b.pdu) v.told) same b.told

    one-asked : asked_in i (sent_in w v) ≡ asked i (get_or b.pdu 0 0) ∷ []
    one-asked =
        ap (asked_in i) (sent-one w v cid_att b.pdu r (omega arith) b.short told)
        ∙ ap (λ (x : Bool). pick x (asked i (get_or b.pdu 0 0) ∷ []) [] ++ []) b.request

    n : events_in w p ≡ news_of p.came ++ (asked i (get_or b.pdu 0 0) ∷ [])
    n = events-are w p (asked i (get_or b.pdu 0 0) ∷ []) one-asked (g b.active)

-- any hop that begins in the world itself
waits-any : {at : Micros} (es : List Event) (l : List (Valued StepResult)) (q : List Queued) (w : World) (p : Pass) → Ready 64 w → Calm (news_of p.came) → Books l q w.held → Gives at w.held p.to.held
    → Asks w p.to → Waits es w.held → Waits (es ++ events_in w p) p.to.held
waits-any es l q w p r k b g (calm c) i = waits-calm es w p r k (λ e. none-gave l q w.held p.to.held b (runs_on g e)) c i
waits-any es l q w p r k b g (none e v) i = waits-none (es ++ events_in w p) p.to.held e
waits-any es l q w p r k b g (asks a) i = waits-asks es w w p refl r (λ e. none-gave l q w.held p.to.held b (runs_on g e)) a

-- a hop in which nothing goes out
waits-hushed : (es : List Event) (l : List (Valued StepResult)) (q : List Queued) (w : World) (g : Held) → Books l q w.held → (g.state.running.active ≡ true → kept_results g ≡ kept_results w.held)
    → Asks w (on_held w g) → Waits es w.held → Waits (es ++ events_in w (pass (on_held w g))) g
unfolding send
waits-hushed es l q w g b k (calm c) i e =
    let v = on_held w g in
    let f : awaits w.held.state.bearer ≡ true =
    sym (same-wait g.state.bearer.link.pending w.held.state.bearer.link.pending g.state.bearer.present w.held.state.bearer.present c.pending c.present) ∙ e in
    let a = i f in
    let n : events_in w (pass v) ≡ [] =
    events-are w (pass v) [] (ap (asked_in g.state.running.index) (sent-none w v (itself w.told))) (none-gave l q w.held g b (k (c.active ∙ a.runs))) in
    subst (λ (t : List Event). Awaited (es ++ t) g.state) (sym n) (calmer es [] w.held.state g.state tt c.active c.index c.pending a)
waits-hushed es l q w g b k (none x v) i e = absurd (false≢true (sym x ∙ e))
waits-hushed es l q w g b k (asks a) i e = absurd (omega (arith, a.told.frames))

calm-still : (w : World) (g : Held) → Still w.held g → Calmly w (on_held w g)
calm-still w g s =
    record {
      pending = ap (λ l. l.pending) s.link;
      present = s.present;
      active = ap (λ (r : Running). r.active) s.running;
      index = ap (λ (r : Running). r.index) s.running;
      voice = hushed (itself w.told);
    }

-- nothing is awaited where no step runs
pub idle-none : (w : World) → Sound 65 w → w.held.state.running.active ≡ false → awaits w.held.state.bearer ≡ false
idle-none w s e = go (awaits w.held.state.bearer) refl
  where
    go : (b : Bool) → awaits w.held.state.bearer ≡ b → b ≡ false
    go true f = absurd (false≢true (sym e ∙ s.nearly.asks.asking f))
    go false f = refl

waits-began : (es : List Event) (l : List (Valued StepResult)) (q : List Queued) (w : World) (at : Micros) → Sound 65 w → can_go w.held.state ≡ true → Books l q w.held
    → Waits (es ++ events_in w (pass (step_once w at))) (step_once w at).held
unfolding take_step
waits-began es l q w at s g b = go (asks-start u at refl s.nearly.linked.mtu_high)
  where
    u : World
    u = on_held w (take_step w.held)

    o : GoesOn w.held.state
    o = goes_on_lem w.held.state g

    r : Ready 64 w
    r = record { store = s.ready.store; out = s.ready.out; results = s.ready.results; frames = omega (arith, s.budget, o.some); bytes = s.ready.bytes }

    k : Whole w.held
    k = whole w s b.sizes

    kept : (start u at).held.state.running.active ≡ true → gave w.held (start u at).held ≡ []
    kept e =
        none-gave l q w.held (start u at).held b
        (runs_on (gives-start u at (whole_take w.held k)) e ∙ kept-take w.held k s.nearly.waits.few)

    go : Asks u (start u at) → Waits (es ++ events_in w (pass (start u at))) (start u at).held
    go (calm c) =
        waits-none _ (start u at).held
        (same-wait (start u at).held.state.bearer.link.pending w.held.state.bearer.link.pending (start u at).held.state.bearer.present w.held.state.bearer.present c.pending c.present
        ∙ idle-none w s o.idle)
    go (none e v) = waits-none _ (start u at).held e
    go (asks a) = waits-asks es w u (pass (start u at)) refl r kept a

pub waits-hop : (es : List Event) (l : List (Valued StepResult)) (q : List Queued) {w : World} {p : Pass} → Hop w p → Sound 65 w → Books l q w.held → Waits es w.held
    → Waits (es ++ events_in w p) p.to.held
waits-hop es l q (ended w at st n) s b i = waits-hushed es l q w _ b (runs_on (gives-ends w.held at st (whole w s b.sizes))) (asks-finish w at st _ 0 0) i
waits-hop es l q (began w at t g) s b i = waits-began es l q w at s g b
waits-hop es l q (meets w handle few) s b i = waits-none _ (met w handle).held refl
waits-hop es l q (parts w) s b i = waits-none _ (parted w).held refl
waits-hop es l q (still w g t) s b i = waits-hushed es l q w g b (λ e. kept-values w.held g (whole w s b.sizes) t.results (still-values t)) (calm (calm-still w g t)) i
waits-hop es l q (acted w at channel n o t) s b i =
    waits-any es l q w (record { came = came_on channel (payload w.held n); to = on_channel w at channel n }) (record { store = s.ready.store; out = s.ready.out; results = s.ready.results; frames = omega (arith, o.unsent); bytes = s.ready.bytes })
    (calm-news channel (payload w.held n)) b (gives-channel w at channel n o.short (whole w s b.sizes)) (asks-channel w at channel n) i
