-- What the words of an answer say is that answer.
use Prim.Native.Nat.{ℕ}
use Rattle.std.specs.Prelude.{List, Option, Some, None, Result, Ok, Err}
use mathlib.Core.Path.{◌≡◌, refl, sym, ap, ◌∙◌}
use Rattle.state_refusals.specs.declared.Refusal.{Refusal}
use Rattle.state_refusals.specs.Refusals.{number}
use Rattle.state.specs.declared.Sent.{Sent}
use Rattle.state.specs.declared.LinkRequest.{LinkRequest}
use Rattle.state.specs.declared.LinkRequest.TheVariants as request
use Rattle.radio_match.specs.declared.AdvAction.{AdvAction}
use Rattle.radio_match.specs.declared.AdvAction.TheVariants as action
use Rattle.c_told.specs.Told.{answer_words, refusal_in, sent_in, refusal_words, advertised_words, action_in}
use Rattle.c_told.specs.Read.{by_number, told_words}

pub answer-refusal : (why : ℕ) (s : Sent) → refusal_in (answer_words why s) ≡ why
unfolding refusal_in
answer-refusal why s = refl

by-request : (why frames bytes : ℕ) (q : Option LinkRequest)
    → ◌≡◌ {A = Sent} (sent_in (answer_words why (record { frames = frames; bytes = bytes; request = q }))) (record { frames = frames; bytes = bytes; request = q })
unfolding sent_in
by-request why frames bytes None = refl
by-request why frames bytes (Some (request.Update interval latency timeout)) = refl
by-request why frames bytes (Some (request.Terminate reason)) = refl

pub answer-sent : (why : ℕ) (s : Sent) → sent_in (answer_words why s) ≡ s
answer-sent why s = by-request why s.frames s.bytes s.request

pub quiet-refusal : (why : ℕ) → refusal_in (refusal_words why) ≡ why
unfolding refusal_in
quiet-refusal why = refl

pub advertised-refusal : (why : ℕ) (a : AdvAction) → refusal_in (advertised_words why a) ≡ why
unfolding refusal_in
advertised-refusal why action.Nothing = refl
advertised-refusal why action.ScanRequest = refl
advertised-refusal why (action.Connect p) = refl

pub advertised-action : (why : ℕ) (a : AdvAction) → action_in (advertised_words why a) ≡ a
unfolding action_in
advertised-action why action.Nothing = refl
advertised-action why action.ScanRequest = refl
advertised-action why (action.Connect p) = refl

-- what was sent, with its request named
pub answer-law : (why : ℕ) (s : Sent) (q : Option LinkRequest) → s.request ≡ q
    → answer_words why (record { frames = s.frames; bytes = s.bytes; request = q }) ≡ answer_words why s
answer-law why s q e = ap (λ (x : Option LinkRequest). answer_words why (record { frames = s.frames; bytes = s.bytes; request = x })) (sym e)

pub quiet-action : (why : ℕ) → action_in (refusal_words why) ≡ action.Nothing
unfolding action_in
quiet-action why = refl

-- an answer that is handed on with the number of its refusal is told as the answer itself
told_words-by_number : {A : Type 0} (refused : ℕ → List ℕ) (words : Result A Refusal → List ℕ) → ((why : Refusal) → refused (number why) ≡ words (Err why))
    → (x : Result A Refusal) → told_words refused words (by_number x) ≡ words x
told_words-by_number refused words h (Err why) = h why
told_words-by_number refused words h (Ok x) = refl

pub handed-on : {A : Type 0} (refused : ℕ → List ℕ) (words : Result A Refusal → List ℕ) → ((why : Refusal) → refused (number why) ≡ words (Err why))
    → (x : Result A Refusal) (y : Result A ℕ) (told : List ℕ) → told ≡ told_words refused words y → y ≡ by_number x → told ≡ words x
handed-on refused words h x y told t n = t ∙ ap (told_words refused words) n ∙ told_words-by_number refused words h x
