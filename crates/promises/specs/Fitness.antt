-- Fit goes to fit over every sequence of calls, so none meets refusal 1.
use Rattle.std.specs.Prelude.{ℕ, ◌≡◌, Bool, true, false, ◌&&◌, List, [], ◌∷◌, ◌++◌, length, eqb, leb}
use Rattle.std.proofs.Common.{sym, ap, ◌∙◌, arith}
use Rattle.std.proofs.lemmas.Bool.{false≢true}
use Rattle.bytes_base.specs.Choice.{pick}
use Rattle.state_places.specs.Sizes.{most_keys, data_size}
use Rattle.lists.specs.Blocks.{Valued}
use Rattle.state.specs.Central.{Central}
use Rattle.state.specs.declared.Options.{Options}
use Rattle.state.specs.declared.Queue.{Queue}
use Rattle.state.specs.declared.Queued.{Queued}
use Rattle.state.specs.declared.Running.{Running}
use Rattle.state.specs.declared.StepResult.{StepResult}
use Rattle.state_rules.specs.Fit.{fits, waiting, most_notified, most_links}
use Rattle.state_rules.proofs.FitLaws as fit-laws
use Rattle.state_rules.specs.Gate.{first_refusal, gate, gate_quiet}
use Rattle.state_rules.specs.Refusals.{accepted, unfit, bad_batch, counter_full, long_data, long_frame, keys_full}
use Rattle.script_rules.specs.World.{Held}
use Rattle.script_rules.specs.Timed.{Narrow, narrow, narrow_all}
use Rattle.script_rules.specs.Batch.{gate_batch, batch_fits, counters_fit}
use Rattle.thm_fit.specs.Lasting.{Lasting, narrow_batch}
use Rattle.thm_fit.proofs.FitGoesToFit.{fresh-lasts, push-steps-lasts, on-timer-lasts, on-connected-lasts, on-disconnected-lasts}
use Rattle.thm_fit.proofs.FragmentLasts.{on-fragment-lasts}
use Rattle.radio_rules.specs.Hearing as radio
use Rattle.radio_rules.proofs.Keeps as radio-keeps
use Rattle.link_rules.specs.Fragment.{gate_fragment, held_fits}
use Rattle.thm_trail.specs.Calls.{Call, batch, timer, connected, disconnected, advertising, scan_response, fragment, reads, does, left, fresh, run, gate_of}
use Rattle.thm_trail.specs.Log.{given_by, takes_in}
pub use Rattle.thm_trail.proofs.Ends.{refusal_is}
use Rattle.thm_trail.proofs.Goes.{Off, radio-off, response-off}
use Rattle.thm_accounting.proofs.Books.{Books}
use Rattle.thm_accounting.proofs.Accounting.{books-fresh, books-call}

-- ---- calls as their types allow

-- a step's milliseconds are a u32
abbrev pub typed : Call → Bool
typed (batch out at b values) = narrow_batch b
typed (timer out at) = true
typed (connected out handle at) = true
typed (disconnected at) = true
typed (advertising v) = true
typed (scan_response at a d) = true
typed (fragment out at start piece) = true
typed (reads r) = true

abbrev pub Typed : List Call → Type 0
Typed [] = Unit {0}
Typed (c ∷ cs) = (typed c ≡ true) × Typed cs

-- ---- fit goes to fit

off-narrow : (c d : Central) → Off c d → Narrow c → Narrow d
off-narrow c d o n =
    record {
      running = λ e. ap (λ (r : Running). narrow r.step) o.running ∙ n.running (sym (ap (λ (r : Running). r.active) o.running) ∙ e);
      waiting = ap (λ (q : Queue). narrow_all (waiting q)) o.queue ∙ n.waiting;
    }

lasts-call : (l : List (Valued StepResult)) (q : List Queued) (h : Held) (c : Call) → typed c ≡ true → Books l q h → Lasting h.state → Lasting (left (does h c)).state
lasts-call l q h (batch out at b values) t k f = push-steps-lasts h.state f h.store out at b values t
lasts-call l q h (timer out at) t k f = on-timer-lasts h.state f h.store out at
lasts-call l q h (connected out handle at) t k f = on-connected-lasts h.state f h.store out handle at
lasts-call l q h (disconnected at) t k f = on-disconnected-lasts h.state f h.store at
lasts-call l q h (advertising v) t k f =
    let s = radio-keeps.advertised-sound h.state h.store (fit-laws.fit_of h.state f.fit) k.sizes.reports k.sizes.keys v in
    record { fit = fit-laws.of-fit _ s.fit; narrow = off-narrow h.state _ (radio-off h.state h.store v) f.narrow }
lasts-call l q h (scan_response at a d) t k f =
    let s = radio-keeps.responded-sound h.state h.store (fit-laws.fit_of h.state f.fit) k.sizes.reports k.sizes.keys at a d in
    record { fit = fit-laws.of-fit _ s.fit; narrow = off-narrow h.state _ (response-off h.state h.store at a d) f.narrow }
lasts-call l q h (fragment out at start piece) t k f = on-fragment-lasts h.state f h.store out at start piece
lasts-call l q h (reads r) t k f = f

lasts-run : (l : List (Valued StepResult)) (q : List Queued) (h : Held) (cs : List Call) → Typed cs → Books l q h → Lasting h.state → Lasting (run h cs).state
lasts-run l q h [] t k f = f
lasts-run l q h (c ∷ cs) t k f = lasts-run (l ++ given_by h c) (q ++ takes_in h c) (left (does h c)) cs t.1 (books-call l q h c k) (lasts-call l q h c t.0 k f)

pub lasting : (options : Options) (store : List ℕ) (cs : List Call) → Typed cs → Lasting (run (fresh options store) cs).state
lasting options store cs t = lasts-run [] [] (fresh options store) cs t (books-fresh options store) (fresh-lasts options)

-- ---- the refusal

-- a fit state is never refused for itself
first-fit : (f : Bool) → f ≡ true → (x y : Bool) → first_refusal f x y ≡ unfit → ⊥
unfolding first_refusal
first-fit true e true true h = omega arith
first-fit true e true false h = omega arith
first-fit true e false y h = omega arith
first-fit false e x y h = false≢true e

-- nor by a refusal that comes later
later : (g : ℕ) → (g ≡ unfit → ⊥) → (x : Bool) (n : ℕ) → (n ≡ unfit → ⊥) → pick x n g ≡ unfit → ⊥
later g a true n b h = b h
later g a false n b h = a h

batch-later : (x y : Bool) → ◌≡◌ {A = ℕ} (pick x (pick y accepted counter_full) bad_batch) unfit → ⊥
batch-later true true h = omega arith
batch-later true false h = omega arith
batch-later false y h = omega arith

fragment-later : (x y : Bool) → ◌≡◌ {A = ℕ} (pick x counter_full (pick y accepted long_frame)) unfit → ⊥
fragment-later true y h = omega arith
fragment-later false true h = omega arith
fragment-later false false h = omega arith

connected-later : (x : Bool) → ◌≡◌ {A = ℕ} (pick x counter_full accepted) unfit → ⊥
connected-later true h = omega arith
connected-later false h = omega arith

one_later : (x : Bool) (n : ℕ) → (n ≡ unfit → ⊥) → ◌≡◌ {A = ℕ} (pick x accepted n) unfit → ⊥
one_later true n b h = omega arith
one_later false n b h = b h

gate-fit : (h : Held) (c : Call) → fits h.state ≡ true → gate_of h c ≡ unfit → ⊥
unfolding gate_batch gate_fragment radio.refusal radio.then_data
gate-fit h (batch out at b values) f =
    let g = gate h.state (length h.store) (length out) at in
    later g (first-fit (fits h.state) f _ _) (eqb g accepted) _ (batch-later (batch_fits (length values) b) (counters_fit h.state.counters h.state.queue.count b.count))
gate-fit h (timer out at) f = first-fit (fits h.state) f _ _
gate-fit h (connected out handle at) f =
    let g = gate h.state (length h.store) (length out) at in
    later g (first-fit (fits h.state) f _ _) (eqb g accepted) _ (connected-later (eqb h.state.counters.links most_links))
gate-fit h (disconnected at) f = first-fit (fits h.state) f _ _
gate-fit h (advertising v) f =
    let g = gate_quiet h.state (length h.store) v.at in
    let d = radio.then_data g (length v.bytes) in
    later d (later g (first-fit (fits h.state) f _ _) (eqb g accepted) _ (one_later (leb (length v.bytes) data_size) long_data (λ e. omega arith))) (eqb d accepted) _
    (two (radio.due h.state v && eqb h.state.keys.count most_keys))
  where
    two : (x : Bool) → ◌≡◌ {A = ℕ} (pick x keys_full accepted) unfit → ⊥
    two true e = omega arith
    two false e = omega arith
gate-fit h (scan_response at a d) f =
    let g = gate_quiet h.state (length h.store) at in
    later g (first-fit (fits h.state) f _ _) (eqb g accepted) _ (one_later (leb (length d) data_size) long_data (λ e. omega arith))
gate-fit h (fragment out at start piece) f =
    let g = gate h.state (length h.store) (length out) at in
    later g (first-fit (fits h.state) f _ _) (eqb g accepted) _
    (fragment-later (eqb h.state.counters.notified most_notified) (held_fits h.state.bearer start (length piece)))
gate-fit h (reads r) f = first-fit (fits h.state) f _ _

pub never-unfit : (options : Options) (store : List ℕ) (cs : List Call) → Typed cs → (c : Call) → (does (run (fresh options store) cs) c).refusal ≡ unfit → ⊥
never-unfit options store cs t c e =
    let h = run (fresh options store) cs in
    gate-fit h c (lasting options store cs t).fit (sym (refusal_is h c) ∙ e)
