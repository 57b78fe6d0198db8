-- What each return of an exported call asks, from what the callees ensure: f is what the call does, whichever it is.
use Prim.Native.Nat.{ℕ, zero, suc}
use mathlib.Core.Path.{◌≡◌, refl, sym, ap, ◌∙◌}
use mathlib.Core.List.{List}
use Rattle.std.specs.Prelude.{⊤}
use native.Mathlib.Omega.{arith}
use lib.Dec.{eqb}
use Rattle.bytes_base.specs.Choice.{pick}
use Rattle.state.specs.Central.{Central}
use Rattle.state.specs.declared.Address.{Address}
use Rattle.state.specs.declared.Sent.{Sent}
use Rattle.state_refusals.specs.Refusals.{accepted, long_frame, told_number}
use Rattle.script_rules.specs.declared.Batch.{Batch}
use Rattle.script_rules.specs.Outcome.{Outcome, Quiet}
use Rattle.radio_match.specs.declared.AdvAction.{AdvAction}
use Rattle.radio_match.specs.declared.AdvAction.TheVariants as action
use Rattle.radio_rules.specs.Hearing as hearing
use Rattle.state_core.specs.declared.Core.{Core}
use Rattle.state_core.specs.Reading.{central}
use Rattle.central_answers.specs.declared.Answer.{Answer}
use Rattle.central_answers.specs.Answers as answers
use Rattle.link_call.specs.Leaves.{emptied, FragmentLeaves}
use Rattle.radio_calls.specs.Outcomes as radio
use Rattle.c_core.specs.Layout.{core_in}
use Rattle.c_told.specs.Told.{refusal_in, sent_in, action_in, answer_words, refusal_words, advertised_words}
use Rattle.c_told.proofs.ToldLaws.{answer-refusal, answer-sent, quiet-refusal, quiet-action, advertised-refusal, advertised-action}
use Rattle.c_central.specs.After.{outcome, quiet, heard, Answered, Refused, Acted, emptied_if, Given, GivenFragment, Kept, KeptFragment, KeptQuietly}
use Rattle.c_central.proofs.WordLaws.{left-core}

by-refusal : {A : Type 0} (n : ℕ) → (n ≡ accepted → A) → ((n ≡ accepted → ⊥) → A) → A
by-refusal zero f g = f refl
by-refusal (suc n) f g = g (λ e. omega arith)

-- whichever way out, the words say the answer's core c: a refused call leaves the words `left` of k
said : (why : ℕ) (c k : Core) (left core' : List ℕ) → core_in left ≡ k → ((why ≡ accepted → ⊥) → c ≡ k)
    → (why ≡ accepted → core_in core' ≡ c) → ((why ≡ accepted → ⊥) → core' ≡ left) → core_in core' ≡ c
said why c k left core' h l m n = by-refusal why m (λ z. ap core_in (n z) ∙ h ∙ sym (l z))

-- ---- a call that may send

module _ (f : Central → Outcome) (core tables store out : List ℕ) (d : Core) (e : d ≡ core_in core)
    (a : Answer Core Sent) (tables' store' out' : List ℕ) (g : answers.outcome a tables' store' out' ≡ f (central d tables))
    (left : List ℕ) (k : Core) (h : core_in left ≡ k)
    (l : answers.Leaves (told_number a.refusal) k a.state tables tables' store store' × (((told_number a.refusal) ≡ 0 → ⊥) → out' ≡ out))
    (core' told : List ℕ) (t : told ≡ answer_words (told_number a.refusal) a.gives)
    (m : (told_number a.refusal) ≡ accepted → core_in core' ≡ a.state) (n : ((told_number a.refusal) ≡ accepted → ⊥) → core' ≡ left) where
  why : refusal_in told ≡ (told_number a.refusal)
  why = ap refusal_in t ∙ answer-refusal (told_number a.refusal) a.gives

  what : sent_in told ≡ a.gives
  what = ap sent_in t ∙ answer-sent (told_number a.refusal) a.gives

  does : outcome told core' tables' store' out' ≡ f (central (core_in core) tables)
  does =
      let o : outcome told core' tables' store' out' ≡ answers.outcome a tables' store' out' =
      rw (said (told_number a.refusal) a.state k left core' h (λ z. (l.0 z).0) m n, why, what) in
      o ∙ g ∙ ap (λ (x : Core). f (central x tables)) e

  keeps : (refusal_in told ≡ accepted → ⊥) → (core' ≡ left) × (tables' ≡ tables) × (store' ≡ store) × (out' ≡ out)
  keeps z = let y : (told_number a.refusal) ≡ accepted → ⊥ = λ x. z (why ∙ x) in (n y, (l.0 y).1, (l.0 y).2, l.1 y)

  tells : Answered told
  tells = let x : answer_words (refusal_in told) (sent_in told) ≡ answer_words (told_number a.refusal) a.gives = rw (why, what) in t ∙ sym x

  answered : (refusal_in told ≡ (told_number a.refusal)) × (outcome told core' tables' store' out' ≡ f (central (core_in core) tables))
      × ((refusal_in told ≡ accepted → ⊥) → (core' ≡ left) × (tables' ≡ tables) × (store' ≡ store) × (out' ≡ out)) × Answered told
  answered = (why, does, keeps, tells)

module _ (f : Central → Outcome) (core tables store out : List ℕ) (d : Core) (e : d ≡ core_in core)
    (a : Answer Core Sent) (tables' store' out' : List ℕ) (g : answers.outcome a tables' store' out' ≡ f (central d tables)) where
  pub exported :
      (l : answers.Leaves (told_number a.refusal) d a.state tables tables' store store' × (((told_number a.refusal) ≡ 0 → ⊥) → out' ≡ out))
      (core' told : List ℕ) (m : (told ≡ answer_words (told_number a.refusal) a.gives) × Given (told_number a.refusal) a.state core core')
      → (outcome told core' tables' store' out' ≡ f (central (core_in core) tables))
      × (Kept told core tables store out core' tables' store' out' × Answered told)
  exported l core' told m =
      let r = answered f core tables store out d e a tables' store' out' g core d (sym e) l core' told m.0 m.1.0 m.1.1 in
      (r.1, (r.2, r.3))

  pub exported-fragment :
      (l : FragmentLeaves (told_number a.refusal) d a.state tables tables' store store' × (((told_number a.refusal) ≡ 0 → ⊥) → out' ≡ out))
      (core' told : List ℕ) (m : (told ≡ answer_words (told_number a.refusal) a.gives) × GivenFragment (told_number a.refusal) a.state core core')
      → (outcome told core' tables' store' out' ≡ f (central (core_in core) tables))
      × (KeptFragment told core tables store out core' tables' store' out' × Answered told)
  exported-fragment l core' told m =
      let k = pick (eqb (told_number a.refusal) long_frame) (emptied d) d in
      let r =
      answered f core tables store out d e a tables' store' out' g (emptied_if (told_number a.refusal) core) k (left-core (told_number a.refusal) core d e)
      l core' told m.0 m.1.0 m.1.1 in
      (r.1, (λ z. let q = r.2 z in (q.0 ∙ ap (λ (x : ℕ). emptied_if x core) (sym r.0), q.1, q.2, q.3), r.3))

-- of a batch that is told in words
pub exported-batch : (f : Batch → Central → Outcome) (core tables store out : List ℕ) (d : Core) (e : d ≡ core_in core) (b batch : Batch) (i : b ≡ batch)
    (a : Answer Core Sent) (tables' store' out' : List ℕ) (g : answers.outcome a tables' store' out' ≡ f b (central d tables))
    (l : answers.Leaves (told_number a.refusal) d a.state tables tables' store store' × (((told_number a.refusal) ≡ 0 → ⊥) → out' ≡ out))
    (core' told : List ℕ) (m : (told ≡ answer_words (told_number a.refusal) a.gives) × Given (told_number a.refusal) a.state core core')
    → (outcome told core' tables' store' out' ≡ f batch (central (core_in core) tables))
    × (Kept told core tables store out core' tables' store' out' × Answered told)
exported-batch f core tables store out d e b batch i a tables' store' out' g l core' told m =
    exported (f batch) core tables store out d e a tables' store' out' (g ∙ ap (λ (x : Batch). f x (central d tables)) i) l core' told m

-- ---- a call that sends nothing

keeps-quietly : (why : ℕ) (d c : Core) (core tables store core' tables' store' told : List ℕ) → refusal_in told ≡ why
    → answers.Leaves why d c tables tables' store store' → Given why c core core' → KeptQuietly told core tables store core' tables' store'
keeps-quietly why d c core tables store core' tables' store' told r l m z =
    let y : why ≡ accepted → ⊥ = λ x. z (r ∙ x) in (m.1 y, (l y).1, (l y).2)

refused-whole : (why : ℕ) (told : List ℕ) → told ≡ refusal_words why → Refused told
refused-whole why told t =
    let x : refusal_words (refusal_in told) ≡ refusal_words why = ap refusal_words (ap refusal_in t ∙ quiet-refusal why) in t ∙ sym x

module _ (f : Central → Quiet) (core tables store : List ℕ) (d : Core) (e : d ≡ core_in core)
    (a : Answer Core ⊤) (tables' store' : List ℕ) (g : answers.quiet a tables' store' ≡ f (central d tables))
    (l : answers.Leaves (told_number a.refusal) d a.state tables tables' store store')
    (core' told : List ℕ) (m : (told ≡ refusal_words (told_number a.refusal)) × Given (told_number a.refusal) a.state core core') where
  pub exported-quietly : (quiet told core' tables' store' ≡ f (central (core_in core) tables)) × (KeptQuietly told core tables store core' tables' store' × Refused told)
  exported-quietly =
      let why : refusal_in told ≡ (told_number a.refusal) = ap refusal_in m.0 ∙ quiet-refusal (told_number a.refusal) in
      let o : quiet told core' tables' store' ≡ answers.quiet a tables' store' =
      rw (said (told_number a.refusal) a.state d core core' (sym e) (λ z. (l z).0) m.1.0 m.1.1, why) in (
        o ∙ g ∙ ap (λ (x : Core). f (central x tables)) e,
        (keeps-quietly (told_number a.refusal) d a.state core tables store core' tables' store' told why l m.1, refused-whole (told_number a.refusal) told m.0),
      )

-- ---- the radio's, from an address that is told as a number

abbrev hearing-of : Core → ℕ → AdvAction → List ℕ → List ℕ → hearing.Outcome
hearing-of c why act tables store = record { state = central c tables; refusal = why; action = act; store = store }

module _ (f : Address → Central → hearing.Outcome) (core tables store : List ℕ) (d : Core) (e : d ≡ core_in core)
    (who address : Address) (i : who ≡ address) where
  hears : (why : ℕ) (c : Core) (act : AdvAction) (tables' store' : List ℕ) → hearing-of c why act tables' store' ≡ f who (central d tables)
      → answers.Leaves why d c tables tables' store store' → (core' told : List ℕ) → refusal_in told ≡ why → action_in told ≡ act → Given why c core core'
      → heard told core' tables' store' ≡ f address (central (core_in core) tables)
  hears why c act tables' store' g l core' told r s m =
      let o : heard told core' tables' store' ≡ hearing-of c why act tables' store' =
      rw (said why c d core core' (sym e) (λ z. (l z).0) m.0 m.1, r, s) in
      o ∙ g ∙ ap (λ (x : Address). f x (central d tables)) i ∙ ap (λ (x : Core). f address (central x tables)) e

  pub exported-action : (a : Answer Core AdvAction) (tables' store' : List ℕ) → radio.outcome a tables' store' ≡ f who (central d tables)
      → answers.Leaves (told_number a.refusal) d a.state tables tables' store store'
      → (core' told : List ℕ) → (told ≡ advertised_words (told_number a.refusal) a.gives) × Given (told_number a.refusal) a.state core core'
      → (heard told core' tables' store' ≡ f address (central (core_in core) tables)) × (KeptQuietly told core tables store core' tables' store' × Acted told)
  exported-action a tables' store' g l core' told m =
      let why : refusal_in told ≡ (told_number a.refusal) = ap refusal_in m.0 ∙ advertised-refusal (told_number a.refusal) a.gives in
      let act : action_in told ≡ a.gives = ap action_in m.0 ∙ advertised-action (told_number a.refusal) a.gives in
      let x : advertised_words (refusal_in told) (action_in told) ≡ advertised_words (told_number a.refusal) a.gives = rw (why, act) in (
        hears (told_number a.refusal) a.state a.gives tables' store' g l core' told why act m.1,
        (keeps-quietly (told_number a.refusal) d a.state core tables store core' tables' store' told why l m.1, m.0 ∙ sym x),
      )

  pub exported-response : (a : Answer Core ⊤) (tables' store' : List ℕ) → radio.taken a tables' store' ≡ f who (central d tables)
      → answers.Leaves (told_number a.refusal) d a.state tables tables' store store'
      → (core' told : List ℕ) → (told ≡ refusal_words (told_number a.refusal)) × Given (told_number a.refusal) a.state core core'
      → (heard told core' tables' store' ≡ f address (central (core_in core) tables)) × (KeptQuietly told core tables store core' tables' store' × Refused told)
  exported-response a tables' store' g l core' told m =
      let why : refusal_in told ≡ (told_number a.refusal) = ap refusal_in m.0 ∙ quiet-refusal (told_number a.refusal) in
      let act : action_in told ≡ action.Nothing = ap action_in m.0 ∙ quiet-action (told_number a.refusal) in (
        hears (told_number a.refusal) a.state action.Nothing tables' store' g l core' told why act m.1,
        (keeps-quietly (told_number a.refusal) d a.state core tables store core' tables' store' told why l m.1, refused-whole (told_number a.refusal) told m.0),
      )

-- ---- a call that only reads

pub exported-reading : {A : Type 0} (f : Core → A) (words : A → List ℕ) (core : List ℕ) (d : Core) (x : A) (told : List ℕ)
    → told ≡ words x → x ≡ f d → d ≡ core_in core → told ≡ words (f (core_in core))
exported-reading f words core d x told t g e = t ∙ ap words g ∙ ap (λ (z : Core). words (f z)) e
