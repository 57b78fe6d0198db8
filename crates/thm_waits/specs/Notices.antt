-- Everything that is heard, from the calls alone (02, One): each notification and indication, in the order heard, with the time of the call
-- that brought its last byte, the number of its link, its handle and its value. Nothing is read off the state or the store; of a call's
-- answer only its refusal's number counts.
use Rattle.std.specs.Prelude.{ℕ, ◌+◌, ◌-◌, List, [], ◌∷◌, ◌++◌, length, drop, get_or, eqb}
use Rattle.bytes_base.specs.Choice.{pick}
use Rattle.bytes_base.specs.Bytes.{le_at}
use Rattle.lists.specs.Blocks.{Valued}
use Rattle.time.specs.declared.Micros.{Micros}
use Rattle.att_pdu.specs.Numbers.{op_handle_value_ind}
use Rattle.notifications.specs.declared.Notification.{Notification}
use Rattle.state.specs.declared.Options.{Options}
use Rattle.state_rules.specs.Refusals.{accepted}
use Rattle.script_rules.specs.World.{Held}
use Rattle.thm_trail.specs.Calls.{Call, batch, timer, connected, disconnected, advertising, scan_response, fragment, reads, time_of, does, left, fresh}
use Rattle.thm_trail.specs.Trail.{News, link-came, link-went, att-heard}
use Rattle.thm_counts.specs.Tally.{is_notice}
use Rattle.thm_heard.specs.Heard.{Air, silence, after, news}

-- a payload of an opcode, a handle and a value (Core Vol 3 Part F 3.4.7), heard at a time on a link by its number
abbrev pub notice_of : Micros → ℕ → List ℕ → Valued Notification
notice_of at link p =
    record {
      entry = record { at = at; handle = le_at 2 p 1; len = length p - 3; indication = eqb (get_or p 0 0) op_handle_value_ind; link = link };
      value = drop 3 p;
    }

-- the notifications and indications among what comes in
abbrev pub notices_in : Micros → ℕ → List News → List (Valued Notification)
notices_in at link [] = []
notices_in at link (link-came handle ∷ l) = notices_in at link l
notices_in at link (link-went ∷ l) = notices_in at link l
notices_in at link (att-heard p ∷ l) = pick (is_notice p) (notice_of at link p ∷ []) [] ++ notices_in at link l

-- links are counted by connected calls: the number after a call, with its refusal's number
abbrev pub links_by : ℕ → Call → ℕ → ℕ
links_by n (batch out at b values) why = n
links_by n (timer out at) why = n
links_by n (connected out handle at) why = pick (eqb why accepted) (n + 1) n
links_by n (disconnected at) why = n
links_by n (advertising v) why = n
links_by n (scan_response at a d) why = n
links_by n (fragment out at start piece) why = n
links_by n (reads r) why = n

-- what calls have brought: what is there (a link, the bytes held of a frame), how many links there were, everything heard
pub record Brought : Type 0 where
  pub air : Air
  pub links : ℕ
  pub notices : List (Valued Notification)

-- with one call more
abbrev pub brings : Brought → Call → ℕ → Brought
brings b c why =
    record {
      air = after b.air c why;
      links = links_by b.links c why;
      notices = b.notices ++ notices_in (time_of c) b.links (news b.air c why);
    }

-- with a sequence of calls more
abbrev pub brought_by : Brought → Held → List Call → Brought
brought_by b h [] = b
brought_by b h (c ∷ cs) = brought_by (brings b c (does h c).refusal) (left (does h c)) cs

-- before the first call
abbrev pub nothing_yet : Brought
nothing_yet = record { air = silence; links = 0; notices = [] }

-- by all calls since
abbrev pub brought : Options → List ℕ → List Call → Brought
brought options store cs = brought_by nothing_yet (fresh options store) cs

abbrev pub notices_of : Options → List ℕ → List Call → List (Valued Notification)
notices_of options store cs = (brought options store cs).notices

abbrev pub links_of : Options → List ℕ → List Call → ℕ
links_of options store cs = (brought options store cs).links
