-- Each refusal is given: from a fresh state, or after some calls from it (8: Full.antt); refusals 1 and 5 from a state that is written down. All
-- of it is computed.
use Rattle.std.specs.Prelude.{ℕ, ◌≡◌, refl, true, false, List, [], ◌∷◌, replicate}
use Rattle.state.specs.Central.{with_counters, with_notifications}
use Rattle.state.specs.Fresh.{fresh_central, no_notification}
use Rattle.state.specs.declared.Step.TheVariants.{ExchangeMtu, Write, Wait}
use Rattle.state_rules.specs.Fit.{fits}
use Rattle.script_rules.specs.World.{Held}
use Rattle.thm_trail.specs.Calls.{Call, batch, timer, connected, scan_response, fragment, does, run}
use Rattle.promises_shown.specs.Sequences.{fresh, store, out, at, ms, placed, only, step, each, address, heard, linked, level}
use Rattle.promises_shown.specs.Opened.{opened}

-- what is said of each call of a list
abbrev pub refusals : Held → List Call → List ℕ
refusals h [] = []
refusals h (c ∷ cs) = (does h c).refusal ∷ refusals h cs

-- ---- states written down

-- a fresh state but for its counters
abbrev pub counting : ℕ → ℕ → ℕ → ℕ → ℕ → Held
counting number refused notified from links =
    record {
      state = with_counters fresh_central (record { next_index = number; refused_steps = refused; notified = notified; wait_from = from; links = links });
      store = store;
    }

-- wait_from is beyond notified
abbrev pub unfitted : Held
unfitted = counting 0 0 0 1 0

-- one link was counted, and one notification is kept, heard on a link of this number
abbrev pub heard_on : ℕ → Held
heard_on link =
    record {
      state = with_notifications (counting 0 0 1 0 1).state (record { kept = record { at = at 1; handle = 3; len = 0; indication = false; link = link } ∷ replicate 31 no_notification; count = 1 });
      store = store;
    }

-- 2^62 were notified, 2^62 steps refused, all numbers given, 2^62 links counted
abbrev pub notified_out : Held
notified_out = counting 0 0 4611686018427387904 0 0

abbrev pub refused_out : Held
refused_out = counting 0 4611686018427387904 0 0 0

abbrev pub numbered_out : Held
numbered_out = counting 4294967295 0 0 0 0

abbrev pub linked_out : Held
linked_out = counting 0 0 0 0 4611686018427387904

-- ---- what comes of them

pub record Refuses : Type 0 where
  pub one : refusals unfitted each ≡ 1 ∷ 1 ∷ 1 ∷ 1 ∷ 1 ∷ 1 ∷ 1 ∷ 1 ∷ 1 ∷ 1 ∷ 1 ∷ []
  -- 2^62 + 1 links; a notification of a link to come, and of the one that was counted
  pub one-links : (does (counting 0 0 0 0 4611686018427387905) (connected out 64 (at 1))).refusal ≡ 1
  pub one-to-come : (does (heard_on 2) (timer out (at 1))).refusal ≡ 1
  pub one-not : (does (heard_on 1) (timer out (at 1))).refusal ≡ 0
  -- a store of another size; an output that is too short
  pub two : refusals (run (fresh (0 ∷ store)) []) each ≡ 2 ∷ 2 ∷ 2 ∷ 2 ∷ 2 ∷ 2 ∷ 2 ∷ 2 ∷ 2 ∷ 2 ∷ 2 ∷ []
  pub two_out : (does (run (fresh store) []) (timer (replicate 16314 0) (at 1))).refusal ≡ 2
  -- 2^62 is the latest time
  pub three : (does (run (fresh store) []) (timer out (at 4611686018427387905))).refusal ≡ 3
  pub three-not : (does (run (fresh store) []) (timer out (at 4611686018427387904))).refusal ≡ 0
  -- an MTU of 248; 65 steps; a value of 245 bytes; a value that is not inside the lent bytes
  pub four : (does (run (fresh store) []) (step 1 (ExchangeMtu 248))).refusal ≡ 4
  pub four-many : (does (run (fresh store) []) (batch out (at 1) (record { steps = replicate 64 (placed (Wait (ms 1)) 0); count = 65 }) [])).refusal ≡ 4
  pub four-long : (does (run (fresh store) []) (batch out (at 1) (only (placed (Write level true) 245)) (replicate 245 0))).refusal ≡ 4
  pub four-outside : (does (run (fresh store) []) (batch out (at 1) (only (placed (Write level true) 2)) (0 ∷ []))).refusal ≡ 4
  pub five-fragment : (fits notified_out.state ≡ true) × ((does notified_out (fragment out (at 1) true [])).refusal ≡ 5)
  pub five-refused : (fits refused_out.state ≡ true) × ((does refused_out (step 1 (Wait (ms 1)))).refusal ≡ 5)
  pub five-numbers : (fits numbered_out.state ≡ true) × ((does numbered_out (step 1 (Wait (ms 1)))).refusal ≡ 5)
  pub five-not : (does (counting 4294967294 0 0 0 0) (step 1 (Wait (ms 1)))).refusal ≡ 0
  -- where 2^62 links were counted, a connected call and no other; 3 comes first
  pub five-links : refusals linked_out each ≡ 0 ∷ 0 ∷ 5 ∷ 0 ∷ 0 ∷ 0 ∷ 0 ∷ 0 ∷ 0 ∷ 0 ∷ 0 ∷ []
  pub five-links-late : (does linked_out (connected out 64 (at 4611686018427387905))).refusal ≡ 3
  pub five-links-not : (does (counting 0 0 0 0 4611686018427387903) (connected out 64 (at 1))).refusal ≡ 0
  pub six : (does (run (fresh store) []) (heard 0 (replicate 32 0))).refusal ≡ 6
  pub six-response : (does (run (fresh store) []) (scan_response (at 1) (address 0) (replicate 32 0))).refusal ≡ 6
  pub seven : (does (run (fresh store) linked) (fragment out (at 2) true (replicate 252 0))).refusal ≡ 7
  pub seven-not : (does (run (fresh store) linked) (fragment out (at 2) true (replicate 251 0))).refusal ≡ 0
  -- nothing else stands in the way of any call
  pub none : refusals (run (fresh store) []) each ≡ 0 ∷ 0 ∷ 0 ∷ 0 ∷ 0 ∷ 0 ∷ 0 ∷ 0 ∷ 0 ∷ 0 ∷ 0 ∷ []

pub refuses : Refuses
unfolding opened
refuses =
    record {
      one = refl;
      one-links = refl;
      one-to-come = refl;
      one-not = refl;
      two = refl;
      two_out = refl;
      three = refl;
      three-not = refl;
      four = refl;
      four-many = refl;
      four-long = refl;
      four-outside = refl;
      five-fragment = (refl, refl);
      five-refused = (refl, refl);
      five-numbers = (refl, refl);
      five-not = refl;
      five-links = refl;
      five-links-late = refl;
      five-links-not = refl;
      six = refl;
      six-response = refl;
      seven = refl;
      seven-not = refl;
      none = refl;
    }
