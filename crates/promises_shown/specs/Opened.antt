-- All that is opened where a list of calls is computed: the definitions that the calls stand on.
use Rattle.bytes_base.specs.Bytes.{le, le_bytes, le_at}
use Rattle.bytes_base.specs.Choice.{among}
use Rattle.bytes_base.specs.Splice.{splice, moved}
use Rattle.lists.specs.Blocks.{valued, lowered, stored}
use Rattle.lists.specs.Cut.{chunks, entries}
use Rattle.lists.specs.First.{first}
use Rattle.lists.specs.Queue.{newest, shifted, all}
use Rattle.lists.specs.Taken as table
use Rattle.l2cap.specs.Frame.{l2cap_frame, framed, att_framed}
use Rattle.gatt_characteristics.specs.Characteristic as characteristic
use Rattle.gatt_descriptors.specs.Range.{declared_in, stop, first_range}
use Rattle.gatt_descriptors.specs.Named.{give, given, given_all, after}
use Rattle.gatt_services.specs.Service as service
use Rattle.uuid_value.specs.Value.{att_uuid, att_bytes}
use Rattle.time.specs.Clock.{later}
use Rattle.state.specs.Fresh.{fresh_central}
use Rattle.state_rules.specs.Fit.{counts_fit, fits}
use Rattle.state_rules.specs.Gate.{first_refusal}
use Rattle.state_rules.specs.Steps.{step_fits}
use Rattle.script_rules.specs.Batch.{batch_fits, counters_fit, gate_batch, push_steps}
use Rattle.script_rules.specs.Discovery.{discover_services, ask_range, discover_descriptors, discover_characteristics}
use Rattle.script_rules.specs.Events.{expire, connect, cut_off, lose, on_timer, on_connected, on_disconnected}
use Rattle.script_rules.specs.Finish.{pushed_result, ended, finish}
use Rattle.script_rules.specs.Script.{advances, advance}
use Rattle.script_rules.specs.Send.{send, request}
use Rattle.script_rules.specs.Start.{start_alone, discover_in, subscribe_at, subscribe, write, read, disconnect, start_linked, start_on, start}
use Rattle.script_rules.specs.Wait.{check_one, check_for, check_wait}
use Rattle.script_rules.specs.Waiting.{push_one, push_all, take_step}
use Rattle.link_rules.specs.Att.{by_opcode, on_att}
use Rattle.link_rules.specs.Channel.{on_channel}
use Rattle.link_rules.specs.Fragment.{gathered, held_fits, gate_fragment}
use Rattle.link_rules.specs.Link.{frame_read, gather, hear, on_fragment}
use Rattle.link_rules.specs.Replies.{reply, on_signaling, on_smp, refuse, exchange, keep_one, notice}
use Rattle.link_rules.specs.Responses as responses
use Rattle.thm_trail.specs.Calls.{blank}
use Rattle.thm_trail.specs.Log.{up_to, newer}
use Rattle.thm_trail.specs.Trail.{onwards, timer_trail, connected_trail, disconnected_trail, fragment_trail}
use Rattle.notifications.specs.Kept.{keeping}
use Rattle.notifications.specs.Wait.{counts, any, seen, starts, contains, passes, newest_counted}
use Rattle.adv_reports.specs.Key.{key, seek}
use Rattle.adv_reports.specs.Reports.{heard_first}
use Rattle.radio_match.specs.Matching.{listens, asks, reaches, chosen}
use Rattle.radio_rules.specs.Hearing.{then_data, refusal, acted, heard, advertised, scan_responded}

unfoldable pub opened : Unit {0}
unfolding
    le
    le_bytes
    le_at
    among
    splice
    moved
    valued
    lowered
    stored
    chunks
    entries
    first
    newest
    shifted
    all
    table.taken
    l2cap_frame
    framed
    att_framed
    characteristic.up_from
    characteristic.without
    characteristic.put
    characteristic.enter
    characteristic.told
    characteristic.with-one
    declared_in
    stop
    first_range
    give
    given
    given_all
    after
    service.told
    service.with-one
    att_uuid
    att_bytes
    later
    fresh_central
    counts_fit
    fits
    first_refusal
    step_fits
    batch_fits
    counters_fit
    gate_batch
    push_steps
    discover_services
    ask_range
    discover_descriptors
    discover_characteristics
    expire
    connect
    cut_off
    lose
    on_timer
    on_connected
    on_disconnected
    pushed_result
    ended
    finish
    advances
    advance
    send
    request
    start_alone
    discover_in
    subscribe_at
    subscribe
    write
    read
    disconnect
    start_linked
    start_on
    start
    check_one
    check_for
    check_wait
    push_one
    push_all
    take_step
    by_opcode
    on_att
    on_channel
    gathered
    held_fits
    gate_fragment
    frame_read
    gather
    hear
    on_fragment
    reply
    on_signaling
    on_smp
    refuse
    exchange
    keep_one
    notice
    responses.walk_into
    responses.services_done
    responses.services_found
    responses.services_heard
    responses.characteristics_found
    responses.characteristics_heard
    responses.go_on
    responses.descriptors_heard
    responses.range_done
    responses.characteristics_done
    responses.absent
    responses.failed
    responses.present
    responses.taken
    responses.on_response
    blank
    up_to
    newer
    onwards
    timer_trail
    connected_trail
    disconnected_trail
    fragment_trail
    keeping
    counts
    any
    seen
    starts
    contains
    passes
    newest_counted
    key
    seek
    heard_first
    listens
    asks
    reaches
    chosen
    then_data
    refusal
    acted
    heard
    advertised
    scan_responded
opened = tt
