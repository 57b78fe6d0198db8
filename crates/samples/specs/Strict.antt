-- Strict mode row by row (02, Four): which timeouts close the bearer, which steps a closed bearer bars, and how those end.
use Rattle.std.specs.Prelude.{ℕ, ◌≡◌, refl, List, [], ◌∷◌, Bool, true, false, ◌&&◌, get_or, eqb}
use Rattle.lists.specs.Queue.{newest}
use Rattle.uuid_value.specs.declared.Uuid.{Uuid}
use Rattle.time.specs.declared.Millis.{Millis}
use Rattle.gatt_services.specs.declared.Services.{Services}
use Rattle.notifications.specs.declared.Age.TheVariants.{Any}
use Rattle.state.specs.Central.{Central, with_running, with_bearer, with_services}
use Rattle.state.specs.Fresh.{no_result, fresh_central, fresh_with}
use Rattle.state.specs.declared.StepStatus.{StepStatus}
use Rattle.state.specs.declared.StepStatus.TheVariants.{Ok, Timeout, NotConnected, NotFound, AttError, TooLong, Disconnected, TableFull, BearerClosed}
use Rattle.state.specs.declared.Bearer.{Bearer}
use Rattle.state.specs.declared.Running.{Running}
use Rattle.state.specs.declared.Target.TheVariants as target
use Rattle.state.specs.declared.Step.{Step}
use Rattle.state.specs.declared.Step.TheVariants.{Scan, Connect, ExchangeMtu, DiscoverServices, DiscoverCharacteristics, Subscribe, Write, Read, WaitNotification, Wait, Disconnect, Capture, CaptureSecrets}
use Rattle.script_rules.specs.Waiting.{begun}
use Rattle.script_rules.specs.Timeouts.{closing}
use Rattle.script_rules.specs.Start.{barred, start_on, start}
use Rattle.script_rules.specs.Finish.{pushed_result, ended, finish}
use Rattle.script_rules.specs.Outcome.{begins}
use Rattle.samples.specs.Table.{same}

pub data Row : Type 0 where
  -- strict mode; a step that its deadline ends, and the opcode that is awaited then (0: none); whether the bearer is closed then
  Closes : Bool → Step → ℕ → Bool → Row
  -- strict mode; whether the bearer is closed; a step that begins on the link; whether it is barred
  Bars : Bool → Bool → Step → Bool → Row
  -- a step that begins on a closed bearer, with one service and no characteristic known; whether it ends BearerClosed; how many services are known then
  Ends : Step → Bool → ℕ → Row

-- any UUID will do
abbrev pub battery : Uuid
battery = record { low = 0x2A19; high = 0 }

abbrev pub second : Millis
second = record { 0 = 1000 }

abbrev pub runs : Step → Running
runs step = begun (record { step = step; len = 0 }) 0

abbrev pub over : ℕ → Bool → Bearer
over pending closed = record { held = 0; link = record { handle = 64; mtu = 23; pending = pending; terminating = false }; present = true; closed = closed }

unfoldable pub table : List Row
table =
    Closes true (Read battery) 0x0A true
    ∷ Closes true DiscoverServices 0x10 true
    -- nothing is awaited: the link is another than the one that the request went out on
    ∷ Closes true (Read battery) 0 false
    ∷ Closes true (WaitNotification battery second Any) 0 false
    -- the old mode
    ∷ Closes false (Read battery) 0x0A false
    -- what could send ATT
    ∷ Bars true true (ExchangeMtu 185) true
    ∷ Bars true true DiscoverServices true
    ∷ Bars true true (DiscoverCharacteristics battery) true
    ∷ Bars true true (Subscribe battery false) true
    ∷ Bars true true (Write battery true) true
    ∷ Bars true true (Write battery false) true
    ∷ Bars true true (Read battery) true
    -- and what could not
    ∷ Bars true true (Scan second) false
    ∷ Bars true true (Connect target.Any 24 0 100 second) false
    ∷ Bars true true (WaitNotification battery second Any) false
    ∷ Bars true true (Wait second) false
    ∷ Bars true true Disconnect false
    ∷ Bars true true (Capture true) false
    ∷ Bars true true (CaptureSecrets true) false
    -- an open bearer; the old mode, whatever the flag says
    ∷ Bars true false (Read battery) false
    ∷ Bars false true (Read battery) false
    -- before the lookup, which would find nothing; and nothing is forgotten
    ∷ Ends (Read battery) true 1
    ∷ Ends DiscoverServices true 1
    ∷ []

-- ---- a step begins

abbrev pub one : Services
one = record { kept = fresh_central.services.kept; count = 1 }

abbrev pub closed : Step → Central
closed step = with_services (with_bearer (with_running (fresh_with (record { strict = true })) (runs step)) (over 0 true)) one

abbrev pub is_closed : StepStatus → Bool
is_closed Ok = false
is_closed Timeout = false
is_closed NotConnected = false
is_closed NotFound = false
is_closed (AttError code) = false
is_closed TooLong = false
is_closed Disconnected = false
is_closed TableFull = false
is_closed BearerClosed = true

unfoldable pub begun_on : Step → Central
begun_on step = (start (begins (closed step) [] []) (record { 0 = 0 })).held.state

unfoldable pub holds : Row → Bool
holds (Closes strict step pending closed) = same (closing (record { strict = strict }) (runs step) (over pending false)).closed closed
holds (Bars strict closed step is_barred) = same (barred (record { strict = strict }) (over 0 closed) step) is_barred
holds (Ends step ends services) =
    let c = begun_on step in
    same (is_closed (get_or c.results.kept 0 no_result).status) ends && eqb c.services.count services

unfoldable pub agree : List Row → Bool
agree [] = true
agree (r ∷ rs) = holds r && agree rs

pub strict-holds : agree table ≡ true
unfolding agree table holds same begun_on fresh_central start start_on finish ended pushed_result newest
strict-holds = refl
