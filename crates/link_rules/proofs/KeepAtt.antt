-- A payload of the attribute channel keeps what holds through a call, whatever its opcode.
use Prim.Native.Nat.{ℕ, ◌+◌, ◌≤◌}
use mathlib.Core.Path.{◌≡◌}
use mathlib.Core.Bool.{◌&&◌}
use mathlib.Core.List.{[], ◌∷◌}
use lib.ListN.{get_or}
use lib.Dec.{eqb, leb}
use Rattle.bytes_base.specs.Choice.{among}
use Rattle.bytes_base.specs.Bytes.{le_at}
use Rattle.time.specs.declared.Micros.{Micros}
use Rattle.time.specs.Clock.{latest}
use Rattle.att_pdu.specs.Numbers.{op_exchange_mtu_req, op_handle_value_ntf, op_handle_value_ind, err_invalid_handle, err_request_not_supported, err_attribute_not_found}
use Rattle.state_rules.specs.Fit.{most_notified}
use Rattle.script_rules.specs.World.{World}
use Rattle.script_rules.specs.Ready.{Ready}
use Rattle.script_rules.specs.Nearly.{Nearly}
use Rattle.script_rules.proofs.KeepTurns.{Goes}
use Rattle.link_rules.specs.Payload.{payload_size, payload}
use Rattle.link_rules.specs.Att.{searches, accesses, silent, other_request, by_opcode, on_att}
use Rattle.link_rules.proofs.KeepWork.{goes-pick, goes-not}
use Rattle.link_rules.proofs.KeepReplies.{goes-refuse, goes-exchange, goes-notice}
use Rattle.link_rules.proofs.KeepResponses.{goes-response}

module _ (k : ℕ) (w : World) (at : Micros) (n : ℕ) (few : k ≤ 64) (l : at.0 ≤ latest) (ready : Ready k w) (f : Nearly w.held.state)
    (short : n ≤ payload_size) (room : w.held.state.counters.notified + 1 ≤ most_notified) where
  goes-opcode : (op handle : ℕ) → Goes (k + 1) w (by_opcode w at n op handle)
  unfolding by_opcode
  goes-opcode op handle =
      goes-pick (k + 1) w (among op (op_handle_value_ntf ∷ op_handle_value_ind ∷ []) && leb 3 n) _ _
      (goes-notice k w at n (eqb op op_handle_value_ind) few ready f short room)
      (goes-pick (k + 1) w (eqb op op_exchange_mtu_req) _ _
      (goes-exchange k w handle few ready f)
      (goes-pick (k + 1) w (among op searches) _ _
      (goes-refuse k w few ready f op handle err_attribute_not_found)
      (goes-pick (k + 1) w (among op accesses) _ _
      (goes-refuse k w few ready f op handle err_invalid_handle)
      (goes-pick (k + 1) w (among op silent) _ _
      (goes-not k w ready f)
      (goes-pick (k + 1) w (other_request op) _ _
      (goes-refuse k w few ready f op 0 err_request_not_supported)
      (goes-response k w at n few l ready f short))))))

  pub goes-payload : Goes (k + 1) w (on_att w at n)
  unfolding on_att
  goes-payload =
      let p = payload w.held n in
      goes-pick (k + 1) w (eqb n 0) _ _ (goes-not k w ready f) (goes-opcode (get_or p 0 0) (le_at 2 p 1))
