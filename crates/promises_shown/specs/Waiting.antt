-- Aged waits, computed: the battery level is known, and a WaitNotification on it has an age of 2 milliseconds.
use Rattle.std.specs.Prelude.{ℕ, ◌≡◌, refl, false, List, [], ◌∷◌, ◌++◌, get_or}
use Rattle.std.proofs.Common.{sym, ap, ◌∙◌, append_assoc}
use Rattle.lists.specs.Blocks.{Valued}
use Rattle.notifications.specs.declared.Notification.{Notification}
use Rattle.notifications.specs.declared.Age.TheVariants.{Within}
use Rattle.state.specs.Fresh.{no_options, no_queued}
use Rattle.state.specs.declared.Queued.{Queued}
use Rattle.state.specs.declared.Step.{Step}
use Rattle.state.specs.declared.Step.TheVariants.{DiscoverCharacteristics, WaitNotification}
use Rattle.state.specs.declared.StepResult.{StepResult}
use Rattle.state.specs.declared.StepStatus.TheVariants.{Ok}
use Rattle.script_rules.specs.World.{Held}
use Rattle.thm_trail.specs.Calls.{Call, batch, connected, disconnected, does, left, run}
use Rattle.thm_trail.specs.Log.{given_by, takes_in, taken}
use Rattle.thm_heard.specs.Heard.{link}
use Rattle.thm_waits.specs.Notices.{Brought, brings, brought_by, nothing_yet, brought}
use Rattle.thm_waits.specs.Waits.{wait_from, values_in, values_of}
use Rattle.promises.specs.Promises.{wait-from-counted}
use Rattle.promises_shown.specs.Opened.{opened}
use Rattle.promises_shown.specs.Sequences.{fresh, store, out, at, ms, placed, only, step, att, battery, level, known}
use Rattle.promises_shown.specs.Known.{knowing, known_store, knows, known_is, from-there}

abbrev pub aged : Step
aged = WaitNotification level (ms 1000) (Within (ms 2))

-- the wait begins
abbrev pub waits : ℕ → Call
waits t = step t aged

-- it has a `contains`: 52 45
abbrev pub looks : ℕ → Call
looks t = batch out (at t) (only (placed aged 2)) (0x52 ∷ 0x45 ∷ [])

-- a notification of the battery level, whose handle is FFFF, and one of another handle
abbrev pub tells : ℕ → List ℕ → Call
tells t value = att t (0x1B ∷ 0xFF ∷ 0xFF ∷ value)

abbrev pub tells_other : ℕ → Call
tells_other t = att t (0x1B ∷ 0x05 ∷ 0x00 ∷ [])

-- ---- after `known`

-- a link, and nothing heard; the discovery was taken in
abbrev pub linked : Brought
linked = record { air = link 64 []; links = 1; notices = [] }

brought-known : brought no_options store known ≡ linked
unfolding opened
brought-known = refl

taken-known : taken (fresh store) known ≡ record { step = DiscoverCharacteristics battery; len = 0 } ∷ []
unfolding opened
taken-known = refl

values-known : values_of (fresh store) known ≡ [] ∷ []
unfolding opened
values-known = refl

brought-after : (b : Brought) (h : Held) (cs ds : List Call) → brought_by b h (cs ++ ds) ≡ brought_by (brought_by b h cs) (run h cs) ds
brought-after b h [] ds = refl
brought-after b h (c ∷ cs) ds = brought-after (brings b c (does h c).refusal) (left (does h c)) cs ds

taken-after : (h : Held) (cs ds : List Call) → taken h (cs ++ ds) ≡ taken h cs ++ taken (run h cs) ds
taken-after h [] ds = refl
taken-after h (c ∷ cs) ds = ap (λ (l : List Queued). takes_in h c ++ l) (taken-after (left (does h c)) cs ds)
    ∙ sym (append_assoc (takes_in h c) (taken (left (does h c)) cs) (taken (run (left (does h c)) cs) ds))

values-after : (h : Held) (cs ds : List Call) → values_of h (cs ++ ds) ≡ values_of h cs ++ values_of (run h cs) ds
values-after h [] ds = refl
values-after h (c ∷ cs) ds =
    ap (λ (l : List (List ℕ)). values_in h c ++ l) (values-after (left (does h c)) cs ds) ∙ sym (append_assoc (values_in h c) (values_of (left (does h c)) cs) (values_of (run (left (does h c)) cs) ds))

module _ (ds : List Call) (c : Call) where
  abbrev pub before : List Call
  before = known ++ ds

  all-is : before ++ (c ∷ []) ≡ known ++ (ds ++ (c ∷ []))
  all-is = append_assoc known ds (c ∷ [])

  -- c, after these calls, gives x alone; then b is brought, and the step of x is s, with this value
  pub record Comes (x : StepResult) (b : Brought) (s : Step) (value : List ℕ) : Type 0 where
    pub given : given_by (run knows ds) c ≡ record { entry = x; value = [] } ∷ []
    pub brings-b : brought_by linked knows (ds ++ (c ∷ [])) ≡ b
    pub from : (run knows ds).state.counters.wait_from ≡ 0
    pub is : (get_or (record { step = DiscoverCharacteristics battery; len = 0 } ∷ taken knows (ds ++ (c ∷ []))) x.index no_queued).step ≡ s
    pub has : get_or ([] ∷ values_of knows (ds ++ (c ∷ []))) x.index [] ≡ value

  module _ {x : StepResult} {b : Brought} {s : Step} {value : List ℕ} (k : Comes x b s value) where
    pub gives-x : given_by (run (fresh store) before) c ≡ record { entry = x; value = [] } ∷ []
    gives-x = ap (λ (h : Held). given_by h c) (from-there ds) ∙ k.given

    pub brought-is : brought no_options store (before ++ (c ∷ [])) ≡ b
    brought-is =
        ap (brought no_options store) all-is
        ∙ brought-after nothing_yet (fresh store) known (ds ++ (c ∷ []))
        ∙ ap (λ (y : Brought). brought_by y (run (fresh store) known) (ds ++ (c ∷ []))) brought-known
        ∙ ap (λ (h : Held). brought_by linked h (ds ++ (c ∷ []))) known_is
        ∙ k.brings-b

    pub from_is : wait_from no_options store before ≡ 0
    from_is = sym (wait-from-counted no_options store before) ∙ ap (λ (h : Held). h.state.counters.wait_from) (from-there ds) ∙ k.from

    pub step_is : (get_or (taken (fresh store) (before ++ (c ∷ []))) x.index no_queued).step ≡ s
    step_is =
        ap (λ (l : List Queued). (get_or l x.index no_queued).step)
        (ap (taken (fresh store)) all-is
        ∙ taken-after (fresh store) known (ds ++ (c ∷ []))
        ∙ ap (λ (h : Held). taken (fresh store) known ++ taken h (ds ++ (c ∷ []))) known_is
        ∙ ap (λ (l : List Queued). l ++ taken knows (ds ++ (c ∷ []))) taken-known)
        ∙ k.is

    pub value-is : get_or (values_of (fresh store) (before ++ (c ∷ []))) x.index [] ≡ value
    value-is =
        ap (λ (l : List (List ℕ)). get_or l x.index [])
        (ap (values_of (fresh store)) all-is
        ∙ values-after (fresh store) known (ds ++ (c ∷ []))
        ∙ ap (λ (h : Held). values_of (fresh store) known ++ values_of h (ds ++ (c ∷ []))) known_is
        ∙ ap (λ (l : List (List ℕ)). l ++ values_of knows (ds ++ (c ∷ []))) values-known)
        ∙ k.has

-- ---- waits that pass

-- what is heard: at a time, on link 1
abbrev pub heard_at : ℕ → ℕ → ℕ → List ℕ → Valued Notification
heard_at t handle n value = record { entry = record { at = at t; handle = handle; len = n; indication = false; link = 1 }; value = value }

-- the wait's result: it ends at a time, and names the notification before number n
abbrev pub passed_at : ℕ → ℕ → StepResult
passed_at t n = record { index = 1; at = at t; status = Ok; len = 0; heard = n }

abbrev pub after : List (Valued Notification) → Brought
after l = record { air = link 64 []; links = 1; notices = l }

-- the notification comes while the wait runs: the result names it, number 0
pub comes-then : Comes (waits 6 ∷ []) (tells 7 (0x64 ∷ [])) (passed_at 7 1) (after (heard_at 7 0xFFFF 1 (0x64 ∷ []) ∷ [])) aged []
unfolding opened knowing known_store
comes-then = record { given = refl; brings-b = refl; from = refl; is = refl; has = refl }

-- it came a millisecond before the wait begins
pub came-before : Comes (tells 6 (0x64 ∷ []) ∷ []) (waits 1006) (passed_at 1006 1) (after (heard_at 6 0xFFFF 1 (0x64 ∷ []) ∷ [])) aged []
unfolding opened knowing known_store
came-before = record { given = refl; brings-b = refl; from = refl; is = refl; has = refl }

-- another handle's came after it: the result names number 0 all the same
pub other_after : Comes (tells 6 (0x64 ∷ []) ∷ tells_other 7 ∷ []) (waits 8) (passed_at 8 1) (after (heard_at 6 0xFFFF 1 (0x64 ∷ []) ∷ heard_at 7 0x0005 0 [] ∷ [])) aged []
unfolding opened knowing known_store
other_after = record { given = refl; brings-b = refl; from = refl; is = refl; has = refl }

-- 46 52 and 45 45 make 52 45, and the newer is named
pub two-joined :
    Comes (tells 6 (0x46 ∷ 0x52 ∷ []) ∷ tells 7 (0x45 ∷ 0x45 ∷ []) ∷ []) (looks 8) (passed_at 8 2)
    (after (heard_at 6 0xFFFF 2 (0x46 ∷ 0x52 ∷ []) ∷ heard_at 7 0xFFFF 2 (0x45 ∷ 0x45 ∷ []) ∷ [])) aged (0x52 ∷ 0x45 ∷ [])
unfolding opened knowing known_store
two-joined = record { given = refl; brings-b = refl; from = refl; is = refl; has = refl }

-- ---- and waits that do not

-- a microsecond too old; of the link before; after now, on a clock that ran back
pub record Waits : Type 0 where
  pub old : given_by (run knows (tells 6 (0x64 ∷ []) ∷ [])) (waits 2007) ≡ []
  pub link-before : given_by (run knows (tells 6 (0x64 ∷ []) ∷ disconnected (at 7) ∷ connected out 64 (at 8) ∷ [])) (waits 9) ≡ []
  pub later-than-now : given_by (run knows (tells 6 (0x64 ∷ []) ∷ [])) (waits 5) ≡ []

pub waits-on : Waits
unfolding opened knowing known_store
waits-on = record { old = refl; link-before = refl; later-than-now = refl }
