-- What happens, in order, over a sequence of calls: in each call what came in with it, from the calls alone, then the requests that went out
-- and the results given.
use Rattle.std.specs.Prelude.{List, [], ◌∷◌, ◌++◌}
use Rattle.script_rules.specs.World.{Held}
use Rattle.thm_trail.specs.Calls.{Call, does, left}
use Rattle.thm_requests.specs.Events.{Event, news_of, done_by}
use Rattle.thm_heard.specs.Heard.{Air, after, news}

-- what came in with a call, and what was done
abbrev pub events_by : Air → Held → Call → List Event
events_by a h c = news_of (news a c (does h c).refusal) ++ done_by h c

-- by a sequence of calls
abbrev pub events : Air → Held → List Call → List Event
events a h [] = []
events a h (c ∷ cs) = events_by a h c ++ events (after a c (does h c).refusal) (left (does h c)) cs
