-- Connect matching goes on listed alone (02, Five): a Connect to a service is met exactly where the three-way answer is 'listed'.
use Prim.Native.Nat.{ℕ}
use mathlib.Core.Path.{◌≡◌, sym}
use mathlib.Core.List.{List}
use Rattle.uuid_value.specs.Value.{num}
use Rattle.uuid_value.specs.declared.Uuid.{Uuid}
use Rattle.adv_presence.specs.Presences.{is_listed, presence_in}
use Rattle.adv_presence.proofs.Presences.{listed-exactly}
use Rattle.state.specs.declared.Target.TheVariants as target
use Rattle.radio_match.specs.Matching.{reaches}

pub connect-on-listed : (u : Uuid) (who : ℕ) (bytes response : List ℕ)
    → reaches (target.Service u) who bytes response ≡ is_listed (presence_in (num u) bytes response)
unfolding reaches
connect-on-listed u who bytes response = sym (listed-exactly (num u) bytes response)
