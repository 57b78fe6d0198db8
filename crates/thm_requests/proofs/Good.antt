-- A Read ends well only by the value of a read response that came after its request went out, on the same link, and at once.
use Prim.Native.Nat.{ℕ, zero, suc, ◌+◌, ◌-◌, ◌<◌}
use mathlib.Core.Path.{◌≡◌, refl, sym, ap, ◌∙◌, subst}
use mathlib.Core.Bool.{Bool, true, false, not, ◌&&◌, false≢true}
use mathlib.Core.List.{List, [], ◌∷◌, ◌++◌, append-nil, append_assoc}
use native.Mathlib.Omega.{arith}
use lib.ListN.{length, take, drop, get_or, length-append, get_or-append}
use lib.Seq.{get_or_at, get_or-drop, drop-drop}
use lib.Dec.{eqb, ltb}
use borrow.Author.Tests.{ltb-true, ltb-false, eqb-true}
use Rattle.bytes_base.specs.Choice.{pick}
use Rattle.state_places.specs.Sizes.{most_results}
use Rattle.lists.specs.Blocks.{Valued, bytes}
use Rattle.lists.specs.Queue.{pushed}
use Rattle.time.specs.declared.Micros.{Micros}
use Rattle.uuid_value.specs.declared.Uuid.{Uuid}
use Rattle.att_pdu.specs.Numbers.{op_error_rsp, op_read_req, op_read_rsp}
use Rattle.state.specs.Fresh.{no_queued}
use Rattle.state.specs.declared.Queued.{Queued}
use Rattle.state.specs.declared.Step.TheVariants.{Read}
use Rattle.state.specs.declared.StepResult.{StepResult}
use Rattle.state.specs.declared.StepStatus.{StepStatus}
use Rattle.state.specs.declared.StepStatus.TheVariants.{Ok}
use Rattle.state_rules.proofs.FitLaws.{both}
use Rattle.script_rules.specs.World.{Held, World, on_held}
use Rattle.script_rules.specs.Waiting.{take_step, waiting}
use Rattle.script_rules.specs.Start.{ends, start}
use Rattle.script_rules.specs.Sound.{Sound}
use Rattle.script_rules.specs.Script.{can_go, step_once}
use Rattle.script_rules.proofs.AdvanceLaws.{goes_on_lem}
use Rattle.link_rules.specs.Payload.{payload_at, payload}
use Rattle.link_rules.specs.Responses.{counts}
use Rattle.link_rules.specs.Channel.{on_channel}
use Rattle.thm_trail.specs.Trail.{att-heard, Pass, met, parted, came_on}
use Rattle.thm_trail.specs.Log.{kept_results, no_valued, up_to, newer, gave}
use Rattle.thm_trail.proofs.Hops.{Open, NotWell, Still, Hop, ended, began, meets, parts, still, acted, still-values}
use Rattle.thm_wire.specs.Wire.{sent_in}
use Rattle.thm_accounting.proofs.Gives.{Gives, nothing, one, Whole, kept-values}
use Rattle.thm_accounting.proofs.Starts.{gives-ends, gives-start}
use Rattle.thm_accounting.proofs.Channels.{gives-channel}
use Rattle.thm_accounting.proofs.Books.{Books, gave-pushed, books-take, kept-take, whole_take, whole}
use Rattle.thm_requests.specs.Events.{Event, came, asked, result, asked_in, news_of, results_of, Awaited, Answered}
use Rattle.thm_requests.proofs.Along.{events_in}
use Rattle.thm_requests.proofs.Asks.{As}
use Rattle.thm_requests.proofs.Reading as reading
use Rattle.thm_requests.proofs.Watch.{Waits, none-gave, sent-none}

-- l was given, q was taken in: of each Read that ended well
abbrev pub Good : List Event → List (Valued StepResult) → List Queued → Type 0
Good es l q = (i : ℕ) → i < length l → (u : Uuid) → (get_or q i no_queued).step ≡ Read u → (get_or l i no_valued).entry.status ≡ Ok → Answered es (get_or l i no_valued)

longer : (es new : List Event) (x : Valued StepResult) → Answered es x → Answered (es ++ new) x
longer es new x a =
    record {
      before = a.before;
      between = a.between;
      after = a.after ++ new;
      payload = a.payload;
      split =
          ap (λ (t : List Event). t ++ new) a.split
          ∙ append_assoc a.before (asked x.entry.index op_read_req ∷ (a.between ++ (came (att-heard a.payload) ∷ result x ∷ a.after))) new
          ∙ ap (λ (t : List Event). a.before ++ (asked x.entry.index op_read_req ∷ t)) (append_assoc a.between (came (att-heard a.payload) ∷ result x ∷ a.after) new);
      calm = a.calm;
      opcode = a.opcode;
      value = a.value;
    }

-- what a hop gives while a Read runs: nothing, or a result that is not Ok
pub data Badly (h g : Held) : Type 0 where
  nothing-given : gave h g ≡ [] → Badly h g
  not-ok : (x : Valued StepResult) → gave h g ≡ x ∷ [] → (x.entry.status ≡ Ok → ⊥) → Badly h g

-- or a result that is Ok, and was answered
pub data Ends (new : List Event) (es : List Event) (h g : Held) : Type 0 where
  badly : Badly h g → Ends new es h g
  well : (x : Valued StepResult) → gave h g ≡ x ∷ [] → Answered (es ++ new) x → Ends new es h g

-- ---- what was given

pub data AtMost (h g : Held) : Type 0 where
  no : gave h g ≡ [] → AtMost h g
  yes : (x : Valued StepResult) → gave h g ≡ x ∷ [] → AtMost h g

at_most : {at : Micros} (l : List (Valued StepResult)) (q : List Queued) (h g : Held) → Books l q h → Gives at h g → AtMost h g
at_most l q h g b (nothing r) = no (none-gave l q h g b r.results)
at_most l q h g b (one e) = yes e.new (gave-pushed l q h g e.new b (e.index ∙ b.number e.was) e.results)

-- where no step runs, none ends
pub idle-gave : {at : Micros} (l : List (Valued StepResult)) (q : List Queued) (h g : Held) → Books l q h → Gives at h g → h.state.running.active ≡ false → gave h g ≡ []
idle-gave l q h g b (nothing r) e = none-gave l q h g b r.results
idle-gave l q h g b (one x) e = absurd (false≢true (sym e ∙ x.was))

-- where the script stands still, none ends
pub still-gave : (l : List (Valued StepResult)) (q : List Queued) (w : World) (g : Held) → Sound 65 w → Books l q w.held → Still w.held g → gave w.held g ≡ []
still-gave l q w g s b t = none-gave l q w.held g b (kept-values w.held g (whole w s b.sizes) t.results (still-values t))

-- of the running step
pub poorly-given : (l : List (Valued StepResult)) (q : List Queued) (h g : Held) → Books l q h → h.state.running.active ≡ true → reading.Poorly h g → Badly h g
poorly-given l q h g b a (reading.unended f) = nothing-given (none-gave l q h g b f)
poorly-given l q h g b a (reading.ended y j bad f) = not-ok y (gave-pushed l q h g y b (j ∙ b.number a) f) bad

-- the step that runs is the next of those taken in
pub head-is : (n : ℕ) (q : List Queued) (x : Queued) (t : List Queued) → x ∷ t ≡ drop n q → get_or q n no_queued ≡ x
head-is n q x t e =
    let z : n + 0 ≡ n = omega arith in
    sym (ap (λ (k : ℕ). get_or q k no_queued) z) ∙ sym (get_or-drop n q 0 no_queued) ∙ ap (λ (y : List Queued). get_or y 0 no_queued) (sym e)

pub running-is : (l : List (Valued StepResult)) (q : List Queued) (h : Held) (u : Uuid) → Books l q h → h.state.running.active ≡ true
    → (get_or q (length l) no_queued).step ≡ Read u → h.state.running.step ≡ Read u
running-is l q h u b a e =
    let x : Queued = record { step = h.state.running.step; len = h.state.running.len } in
    let f : x ∷ waiting h.state.queue ≡ drop (length l) q = sym (ap (λ (y : Bool). pick y (x ∷ []) [] ++ waiting h.state.queue) a) ∙ b.line in
    sym (ap (λ (y : Queued). y.step) (head-is (length l) q x (waiting h.state.queue) f)) ∙ e

-- ---- a read response

drop-one : (n : ℕ) (l : List ℕ) → drop 1 (take n l) ≡ take (n - 1) (drop 1 l)
drop-one zero l = refl
drop-one (suc n) [] = let z : suc n - 1 ≡ n = omega arith in nil n ∙ ap (λ (k : ℕ). take k []) (sym z)
  where
    nil : (k : ℕ) → ◌≡◌ {A = List ℕ} [] (take k [])
    nil zero = refl
    nil (suc k) = refl
drop-one (suc n) (x ∷ l) = let z : suc n - 1 ≡ n = omega arith in ap (λ (k : ℕ). take k l) (sym z)

body_is : (s : List ℕ) (n : ℕ) → bytes s (payload_at + 1) (n - 1) ≡ drop 1 (bytes s payload_at n)
body_is s n = ap (take (n - 1)) (sym (drop-drop 1 payload_at s)) ∙ sym (drop-one n (drop payload_at s))

-- the request that a read response counts for is a read request
which-request : (pending : ℕ) (p : List ℕ) → counts pending p ≡ true → get_or p 0 0 ≡ op_read_rsp → (not (eqb pending 0) ≡ true) × (pending ≡ op_read_req)
which-request pending p c o =
    let k = both (not (eqb pending 0)) (pick (eqb (get_or p 0 0) op_error_rsp) (eqb (get_or p 1 0) pending) (eqb (get_or p 0 0) (pending + 1))) c in
    let e : eqb op_read_rsp (pending + 1) ≡ true =
    sym (ap (λ (x : ℕ). pick (eqb x op_error_rsp) (eqb (get_or p 1 0) pending) (eqb x (pending + 1))) o) ∙ k.1 in
    (k.0, omega (arith, eqb-true op_read_rsp (pending + 1) e))

module _ (es : List Event) (l : List (Valued StepResult)) (q : List Queued) (w : World) (at : Micros) (channel n : ℕ) (o : Open at n w) (b : Books l q w.held) (i : Waits es w.held) where
  abbrev v : World
  v = on_channel w at channel n

  abbrev hop : Pass
  hop = record { came = came_on channel (payload w.held n); to = v }

  abbrev x : Valued StepResult
  x = reading.result_of w.held at Ok (payload_at + 1) (n - 1)

  answered-by : w.held.state.running.active ≡ true → reading.Answers w at channel n v → Ends (events_in w hop) es w.held v.held
  answered-by a r = well x given (subst (λ (t : List Event). Answered (es ++ t) x) (sym events-are) shown)
    where
      p : List ℕ
      p = payload w.held n

      given : gave w.held v.held ≡ x ∷ []
      given = gave-pushed l q w.held v.held x b (b.number a) r.results

      k : (not (eqb w.held.state.bearer.link.pending 0) ≡ true) × (w.held.state.bearer.link.pending ≡ op_read_req)
      k = which-request w.held.state.bearer.link.pending p r.counted r.opcode

      waits : Awaited es w.held.state
      waits = i (ap (λ (y : Bool). y && not (eqb w.held.state.bearer.link.pending 0)) o.present ∙ k.0)

      quiet_told : As w.told v.told
      quiet_told = record { frames = ap (λ t. t.sent.frames) r.told; bytes = ap (λ t. t.sent.bytes) r.told; out = ap (λ t. t.out) r.told }

      events-are : events_in w hop ≡ came (att-heard p) ∷ result x ∷ []
      events-are =
          ap (λ (c : ℕ). news_of (came_on c p) ++ (asked_in v.held.state.running.index (sent_in w v) ++ results_of (gave w.held v.held))) r.att
          ∙ ap (λ t. came (att-heard p) ∷ (asked_in v.held.state.running.index t ++ results_of (gave w.held v.held))) (sent-none w v quiet_told)
          ∙ ap (λ (t : List (Valued StepResult)). came (att-heard p) ∷ results_of t) given

      shown : Answered (es ++ (came (att-heard p) ∷ result x ∷ [])) x
      shown =
          record {
            before = waits.before;
            between = waits.after;
            after = [];
            payload = p;
            split =
                ap (λ (t : List Event). t ++ (came (att-heard p) ∷ result x ∷ [])) waits.split
                ∙ append_assoc waits.before (asked w.held.state.running.index w.held.state.bearer.link.pending ∷ waits.after) (came (att-heard p) ∷ result x ∷ [])
                ∙ ap (λ (c : ℕ). waits.before ++ (asked w.held.state.running.index c ∷ (waits.after ++ (came (att-heard p) ∷ result x ∷ [])))) k.1;
            calm = waits.calm;
            opcode = r.opcode;
            value = body_is w.held.store n;
          }

  pub read-ends : (u : Uuid) → Whole w.held → w.held.state.running.active ≡ true → w.held.state.running.step ≡ Read u → Ends (events_in w hop) es w.held v.held
  read-ends u k a e = go (reading.read_by u w at n o.short e k a channel)
    where
      go : reading.ReadBy w at channel n v → Ends (events_in w hop) es w.held v.held
      go (reading.poorly f) = badly (poorly-given l q w.held v.held b a f)
      go (reading.value r) = answered-by a r

-- ---- hops

-- a step that ends otherwise: no Read ends well so
pub ended-badly : (l : List (Valued StepResult)) (q : List Queued) (w : World) (at : Micros) (st : StepStatus) (u : Uuid) → NotWell w st → Sound 65 w → Books l q w.held
    → (get_or q (length l) no_queued).step ≡ Read u → Badly w.held (ends w.held at st)
ended-badly l q w at st u n s b e = go w.held.state.running.active refl
  where
    k : Whole w.held
    k = whole w s b.sizes

    go : (x : Bool) → w.held.state.running.active ≡ x → Badly w.held (ends w.held at st)
    go true a = poorly-given l q w.held (ends w.held at st) b a (reading.poorly-ends w.held at st (λ f. n.read u (running-is l q w.held u b a e) f) k a)
    go false a = nothing-given (idle-gave l q w.held (ends w.held at st) b (gives-ends w.held at st k) a)

-- a Read that begins
pub began-badly : (l : List (Valued StepResult)) (q : List Queued) (w : World) (at : Micros) (u : Uuid) → Sound 65 w → can_go w.held.state ≡ true → Books l q w.held
    → (get_or q (length l) no_queued).step ≡ Read u → Badly w.held (step_once w at).held
unfolding take_step
began-badly l q w at u s g b e =
    go (reading.poorly-start t at u (running-is l q t.held u b' refl e) (whole_take w.held k) refl)
  where
    t : World
    t = on_held w (take_step w.held)

    k : Whole w.held
    k = whole w s b.sizes

    b' : Books l q (take_step w.held)
    b' = books-take l q w.held k s.nearly.waits.few (goes_on_lem w.held.state g) b

    same : kept_results (take_step w.held) ≡ kept_results w.held
    same = kept-take w.held k s.nearly.waits.few

    go : reading.Poorly t.held (start t at).held → Badly w.held (start t at).held
    go (reading.unended f) = nothing-given (none-gave l q w.held (start t at).held b (f ∙ same))
    go (reading.ended y j bad f) =
        not-ok y (gave-pushed l q w.held (start t at).held y b (j ∙ b'.number refl) (f ∙ ap (λ (z : List (Valued StepResult)). pushed most_results z y) same)) bad

hop-ends : (es : List Event) (l : List (Valued StepResult)) (q : List Queued) {w : World} {p : Pass} → Hop w p → Sound 65 w → Books l q w.held → Waits es w.held → (u : Uuid)
    → (get_or q (length l) no_queued).step ≡ Read u → Ends (events_in w p) es w.held p.to.held
hop-ends es l q (ended w at st n) s b i u e = badly (ended-badly l q w at st u n s b e)
hop-ends es l q (began w at t g) s b i u e = badly (began-badly l q w at u s g b e)
hop-ends es l q (meets w handle few) s b i u e = badly (nothing-given (none-gave l q w.held (met w handle).held b refl))
hop-ends es l q (parts w) s b i u e = badly (nothing-given (none-gave l q w.held (parted w).held b refl))
hop-ends es l q (still w g t) s b i u e = badly (nothing-given (still-gave l q w g s b t))
hop-ends es l q (acted w at channel n o t) s b i u e = go w.held.state.running.active refl
  where
    go : (x : Bool) → w.held.state.running.active ≡ x
        → Ends (events_in w (record { came = came_on channel (payload w.held n); to = on_channel w at channel n })) es w.held (on_channel w at channel n).held
    go true a = read-ends es l q w at channel n o b i u (whole w s b.sizes) a (running-is l q w.held u b a e)
    go false a = badly (nothing-given (idle-gave l q w.held (on_channel w at channel n).held b (gives-channel w at channel n o.short (whole w s b.sizes)) a))

pub hop-most : (l : List (Valued StepResult)) (q : List Queued) {w : World} {p : Pass} → Hop w p → Sound 65 w → Books l q w.held → AtMost w.held p.to.held
hop-most l q (ended w at st n) s b = at_most l q w.held _ b (gives-ends w.held at st (whole w s b.sizes))
hop-most l q (began w at t g) s b = go (at_most l q (take_step w.held) (step_once w at).held (books-take l q w.held k s.nearly.waits.few (goes_on_lem w.held.state g) b) (gives-start (on_held w (take_step w.held)) at (whole_take w.held k)))
  where
    k : Whole w.held
    k = whole w s b.sizes

    same : gave w.held (step_once w at).held ≡ gave (take_step w.held) (step_once w at).held
    same = ap (λ (z : List (Valued StepResult)). newer (up_to z) (kept_results (step_once w at).held)) (sym (kept-take w.held k s.nearly.waits.few))

    go : AtMost (take_step w.held) (step_once w at).held → AtMost w.held (step_once w at).held
    go (no e) = no (same ∙ e)
    go (yes x e) = yes x (same ∙ e)
hop-most l q (meets w handle few) s b = no (none-gave l q w.held (met w handle).held b refl)
hop-most l q (parts w) s b = no (none-gave l q w.held (parted w).held b refl)
hop-most l q (still w g t) s b = no (still-gave l q w g s b t)
hop-most l q (acted w at channel n o t) s b = at_most l q w.held _ b (gives-channel w at channel n o.short (whole w s b.sizes))

-- ---- the invariant

good_more : (es new : List Event) (l : List (Valued StepResult)) (q : List Queued) → Good es l q → Good (es ++ new) l q
good_more es new l q g i h u e f = longer es new (get_or l i no_valued) (g i h u e f)

pub one_same : {A : Type 0} (x y : A) → ◌≡◌ {A = List A} (x ∷ []) (y ∷ []) → x ≡ y
one_same x y e = cc

pub not-one : {A : Type 0} (x : A) (m : List A) → m ≡ [] → m ≡ x ∷ [] → ⊥
not-one x m e f = let n : length m ≡ 0 = ap length e in let k : length m ≡ 1 = ap length f in omega (arith, n, k)

pub good-hop : (es : List Event) (l : List (Valued StepResult)) (q : List Queued) {w : World} {p : Pass} → Hop w p → Sound 65 w → Books l q w.held → Waits es w.held → Good es l q
    → Good (es ++ events_in w p) (l ++ gave w.held p.to.held) q
good-hop es l q {w} {p} x s b i g = go (hop-most l q x s b)
  where
    new : List Event
    new = events_in w p

    m : List (Valued StepResult)
    m = gave w.held p.to.held

    go : AtMost w.held p.to.held → Good (es ++ new) (l ++ m) q
    go (no e) = subst (λ (t : List (Valued StepResult)). Good (es ++ new) (l ++ t) q) (sym e) (subst (λ (t : List (Valued StepResult)). Good (es ++ new) t q) (sym (append-nil l)) (good_more es new l q g))
    go (yes y e) = subst (λ (t : List (Valued StepResult)). Good (es ++ new) (l ++ t) q) (sym e) each
      where
        each : Good (es ++ new) (l ++ (y ∷ [])) q
        each j h u f k = by (ltb j (length l)) refl
          where
            last : j ≡ length l → Answered (es ++ new) (get_or (l ++ (y ∷ [])) j no_valued)
            last z = ends_so (hop-ends es l q x s b i u (sym (ap (λ (n : ℕ). (get_or q n no_queued).step) z) ∙ f))
              where
                here : get_or (l ++ (y ∷ [])) j no_valued ≡ y
                here = get_or_at l y [] no_valued j (sym z)

                ends_so : Ends new es w.held p.to.held → Answered (es ++ new) (get_or (l ++ (y ∷ [])) j no_valued)
                ends_so (badly (nothing-given a)) = absurd (not-one y m a e)
                ends_so (badly (not-ok v a bad)) =
                    let t : y ≡ v = one_same y v (sym e ∙ a) in
                    absurd (bad (sym (ap (λ (c : Valued StepResult). c.entry.status) (here ∙ t)) ∙ k))
                ends_so (well v a r) =
                    let t : y ≡ v = one_same y v (sym e ∙ a) in
                    subst (λ (c : Valued StepResult). Answered (es ++ new) c) (sym (here ∙ t)) r

            by : (c : Bool) → ltb j (length l) ≡ c → Answered (es ++ new) (get_or (l ++ (y ∷ [])) j no_valued)
            by true c =
                let a : j < length l = ltb-true j (length l) c in
                let z : get_or (l ++ (y ∷ [])) j no_valued ≡ get_or l j no_valued = get_or-append l (y ∷ []) no_valued j a in
                subst (λ (t : Valued StepResult). Answered (es ++ new) t) (sym z) (longer es new (get_or l j no_valued) (g j a u f (sym (ap (λ (t : Valued StepResult). t.entry.status) z) ∙ k)))
            by false c = last (omega (arith, h, ltb-false j (length l) c, length-append l (y ∷ [])))
