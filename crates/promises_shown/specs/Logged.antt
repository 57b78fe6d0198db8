-- The log is the results among the events, and the events of a list of calls are those of its parts: so one pass computes both.
use Rattle.std.specs.Prelude.{ℕ, ◌≡◌, refl, Bool, true, false, List, [], ◌∷◌, ◌++◌, get_or}
use Rattle.std.proofs.Common.{sym, ap, ◌∙◌, append_assoc}
use Rattle.bytes_base.specs.Choice.{pick}
use Rattle.lists.specs.Blocks.{Valued}
use Rattle.state.specs.declared.StepResult.{StepResult}
use Rattle.script_rules.specs.World.{Held, World}
use Rattle.thm_trail.specs.Calls.{Call, does, left, run, done?}
use Rattle.thm_trail.specs.Trail.{News, Pass, begins, goes}
use Rattle.thm_trail.specs.Log.{gave, given_in, given_by, log}
use Rattle.thm_wire.specs.Wire.{Sent, sent_in}
use Rattle.thm_requests.specs.Events.{Event, came, asked, result, asks_for, asked_in, news_of, results_of, done_in, done_along, done_by}
use Rattle.thm_heard.specs.Heard.{Air, after, news, air_of}
use Rattle.thm_heard.specs.Events.{events_by, events}

abbrev pub results_in : List Event → List (Valued StepResult)
results_in [] = []
results_in (came x ∷ es) = results_in es
results_in (asked i op ∷ es) = results_in es
results_in (result x ∷ es) = x ∷ results_in es

in_both : (a b : List Event) → results_in (a ++ b) ≡ results_in a ++ results_in b
in_both [] b = refl
in_both (came x ∷ a) b = in_both a b
in_both (asked i op ∷ a) b = in_both a b
in_both (result x ∷ a) b = ap (λ (l : List (Valued StepResult)). x ∷ l) (in_both a b)

behind-news : (l : List News) (es : List Event) → results_in (news_of l ++ es) ≡ results_in es
behind-news [] es = refl
behind-news (x ∷ l) es = behind-news l es

behind-asked : (i : ℕ) (l : List Sent) (es : List Event) → results_in (asked_in i l ++ es) ≡ results_in es
behind-asked i [] es = refl
behind-asked i (x ∷ l) es = go (asks_for x.frame.channel x.frame.payload) (behind-asked i l es)
  where
    go : (b : Bool) → results_in (asked_in i l ++ es) ≡ results_in es → results_in ((pick b (asked i (get_or x.frame.payload 0 0) ∷ []) [] ++ asked_in i l) ++ es) ≡ results_in es
    go true e = e
    go false e = e

of-results : (l : List (Valued StepResult)) → results_in (results_of l) ≡ l
of-results [] = refl
of-results (x ∷ l) = ap (λ (k : List (Valued StepResult)). x ∷ k) (of-results l)

in-hop : (w v : World) → results_in (done_in w v) ≡ gave w.held v.held
in-hop w v =
    let r = results_of (gave w.held v.held) in
    behind-asked v.held.state.running.index (sent_in w v) r ∙ of-results (gave w.held v.held)

along : (w : World) (ps : List Pass) → results_in (done_along w ps) ≡ given_in w ps
along w [] = refl
along w (p ∷ ps) =
    in_both (done_in w p.to) (done_along p.to ps)
    ∙ ap (λ (l : List (Valued StepResult)). l ++ results_in (done_along p.to ps)) (in-hop w p.to)
    ∙ ap (λ (l : List (Valued StepResult)). gave w.held p.to.held ++ l) (along p.to ps)

by_call : (a : Air) (h : Held) (c : Call) → results_in (events_by a h c) ≡ given_by h c
by_call a h c = behind-news (news a c (does h c).refusal) (done_by h c) ∙ go (done? h c)
  where
    go : (b : Bool) → results_in (pick b (done_along (begins h c) (goes h c)) []) ≡ pick b (given_in (begins h c) (goes h c)) []
    go true = along (begins h c) (goes h c)
    go false = refl

pub log-of : (a : Air) (h : Held) (cs : List Call) → results_in (events a h cs) ≡ log h cs
log-of a h [] = refl
log-of a h (c ∷ cs) =
    let g = left (does h c) in
    let b = after a c (does h c).refusal in
    in_both (events_by a h c) (events b g cs)
    ∙ ap (λ (l : List (Valued StepResult)). l ++ results_in (events b g cs)) (by_call a h c)
    ∙ ap (λ (l : List (Valued StepResult)). given_by h c ++ l) (log-of b g cs)

pub events-join :
    (a : Air) (h : Held) (cs ds : List Call) (b : Air) (g : Held) (x y : List Event) → air_of a h cs ≡ b → run h cs ≡ g → events a h cs ≡ x → events b g ds ≡ y
    → events a h (cs ++ ds) ≡ x ++ y
events-join a h [] ds b g x y s r p q = ap (λ (k : Air). events k h ds) s ∙ ap (λ (k : Held). events b k ds) r ∙ q ∙ ap (λ (l : List Event). l ++ y) p
events-join a h (c ∷ cs) ds b g x y s r p q =
    let h' = left (does h c) in
    let a' = after a c (does h c).refusal in
    ap (λ (l : List Event). events_by a h c ++ l) (events-join a' h' cs ds b g (events a' h' cs) y s r refl q)
    ∙ sym (append_assoc (events_by a h c) (events a' h' cs) y)
    ∙ ap (λ (l : List Event). l ++ y) p
