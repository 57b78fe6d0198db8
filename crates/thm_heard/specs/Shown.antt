-- The definition at work: fragments on a link that has the handle 64, as they come in over the air.
use Rattle.std.specs.Prelude.{ℕ, ◌≡◌, refl, Bool, true, false, List, [], ◌∷◌}
use Rattle.bytes_base.specs.Bytes.{le}
use Rattle.time.specs.declared.Micros.{Micros}
use Rattle.state_rules.specs.Refusals.{long_frame}
use Rattle.thm_trail.specs.Calls.{Call, connected, disconnected, fragment}
use Rattle.thm_trail.specs.Trail.{att-heard}
use Rattle.thm_heard.specs.Heard.{silence, link, after, news}

abbrev now : Micros
now = record { 0 = 0 }

abbrev piece : Bool → List ℕ → Call
piece start bytes = fragment [] now start bytes

-- a notification of the handle 3 with the value A5 (Core Vol 3 Part F 3.4.7.1), in a frame of 4 bytes for channel 4, and a byte too much
abbrev first : Call
first = piece true (0x04 ∷ 0x00 ∷ 0x04 ∷ 0x00 ∷ 0x1B ∷ [])

abbrev second : Call
second = piece false (0x03 ∷ 0x00 ∷ 0xA5 ∷ 0xFF ∷ [])

-- two fragments make one notification: nothing is heard of the first, and nothing is held after the second
pub shown-first : news (link 64 []) first 0 ≡ []
unfolding le
shown-first = refl

pub shown-second : news (after (link 64 []) first 0) second 0 ≡ att-heard (0x1B ∷ 0x03 ∷ 0x00 ∷ 0xA5 ∷ []) ∷ []
unfolding le
shown-second = refl

pub shown-empty : after (after (link 64 []) first 0) second 0 ≡ link 64 []
unfolding le
shown-empty = refl

-- a continuation on nothing is dropped, and so is all that comes without a link
pub shown-dropped : after (link 64 []) second 0 ≡ link 64 []
shown-dropped = refl

pub shown-unlinked : news silence first 0 ≡ []
shown-unlinked = refl

-- a start clears what is held; refusal 7 empties it; another refusal changes nothing
pub shown-start : after (after (link 64 []) first 0) first 0 ≡ after (link 64 []) first 0
unfolding le
shown-start = refl

pub shown-long : after (after (link 64 []) first 0) second long_frame ≡ link 64 []
unfolding le
shown-long = refl

pub shown-refused : after (after (link 64 []) first 0) second 3 ≡ after (link 64 []) first 0
unfolding le
shown-refused = refl

-- a new link has its own handle and nothing held
pub shown-link : after (after (link 64 []) first 0) (connected [] 65 now) 0 ≡ link 65 []
unfolding le
shown-link = refl

-- with no link nothing is held
pub shown-gone : after (after (link 64 []) first 0) (disconnected now) 0 ≡ silence
unfolding le
shown-gone = refl
