-- What happens, with what came in read off the trails too. thm_heard shows that it is what the calls say.
use mathlib.Core.List.{List, [], ◌∷◌, ◌++◌}
use Rattle.bytes_base.specs.Choice.{pick}
use Rattle.script_rules.specs.World.{Held, World}
use Rattle.thm_trail.specs.Calls.{Call, does, left, done?}
use Rattle.thm_trail.specs.Trail.{Pass, begins, goes}
use Rattle.thm_requests.specs.Events.{Event, news_of, done_in}

-- in a hop: what came in, then what was done
abbrev pub events_in : World → Pass → List Event
events_in w p = news_of p.came ++ done_in w p.to

-- along a trail
abbrev pub events_along : World → List Pass → List Event
events_along w [] = []
events_along w (p ∷ ps) = events_in w p ++ events_along p.to ps

-- by a call: none where it is refused
abbrev pub events_by : Held → Call → List Event
events_by h c = pick (done? h c) (events_along (begins h c) (goes h c)) []

-- by a sequence of calls
abbrev pub events : Held → List Call → List Event
events h [] = []
events h (c ∷ cs) = events_by h c ++ events (left (does h c)) cs
