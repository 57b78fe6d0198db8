use Prim.Native.Nat.{ℕ}
use mathlib.Core.Path.{refl, ap, ◌∙◌}
use mathlib.Core.List.{List}
use native.Mathlib.Omega.{arith}
use Rattle.state_refusals.proofs.RefusalLaws.{not-accepted}
use Rattle.radio_match.specs.Matching.{chosen}
use Rattle.radio_rules.specs.Hearing.{adv}
use Rattle.state_core.specs.Reading.{central}
use Rattle.radio_calls.specs.Kept.{reports_in}
use Rattle.radio_calls.proofs.AdvertisingLaws.{told, gave, going_of, refused-law, open-law, open-passed, quiet-law, full-law, key-place, put-asked, put-chosen, store_length}
use Rattle.radio_calls.proofs.on_advertising.Goals as goal

pub returns-in-Err : goal.returns-in-Err
returns-in-Err c =
    let a = c.args in
    let gate = c.gate_quiet-gate in
    let v = adv a.at a.channel a.pdu a.address a.«data».now a.to_central in
    let s = a.store.now in
    let k = central a.core a.tables.now in
    let both = told a.core a.tables.now s _ _ _ c.refuse.ensures (refused-law k s v _ _ gate.ensures c.in-Err.ensures (not-accepted c.in-Err.why)) in
    record { store_after = both.0; refused = both.1 }

pub returns-then-not-is_listening : goal.returns-then-not-is_listening
returns-then-not-is_listening c =
    let a = c.args in
    let gate = c.gate_quiet-gate in
    let v = adv a.at a.channel a.pdu a.address a.«data».now a.to_central in
    let s = a.store.now in
    let k = central a.core a.tables.now in
    let clear = open-law k s v _ _ gate.ensures c.in_default.ensures refl in
    let hears = c.is_listening in
    let deaf = c.if-not-is_listening.true in
    let both = told a.core a.tables.now s _ _ _ c.done.ensures (quiet-law k s v clear _ hears.ensures deaf) in
    record { store_after = both.0; refused = both.1 }

pub is_due-new-requires : goal.is_due-new-requires
is_due-new-requires c =
    let a = c.args in
    let gate = c.gate_quiet-gate in
    let v = adv a.at a.channel a.pdu a.address a.«data».now a.to_central in
    let s = a.store.now in
    let k = central a.core a.tables.now in
    let clear = open-law k s v _ _ gate.ensures c.in_default.ensures refl in
    let passed = open-passed k s v clear in
    passed.gate.fit.head.keys

pub returns-then-keys_full : goal.returns-then-keys_full
returns-then-keys_full c =
    let a = c.args in
    let gate = c.gate_quiet-gate in
    let v = adv a.at a.channel a.pdu a.address a.«data».now a.to_central in
    let s = a.store.now in
    let k = central a.core a.tables.now in
    let clear = open-law k s v _ _ gate.ensures c.in_default.ensures refl in
    let keyed = c.key_of-key in
    let asking = c.is_asking-asks in
    let new = c.is_due-new in
    let full = c.keys_full in
    let none = c.if-keys_full.true in
    let both = told a.core a.tables.now s _ _ _ c.refuse-then-keys_full.ensures
    (full-law k s v clear _ _ _ _ keyed.ensures asking.ensures new.ensures full.ensures none) in
    record { store_after = both.0; refused = both.1 }

pub keep-kept-requires : goal.keep-kept-requires
keep-kept-requires c =
    let a = c.args in
    let gate = c.gate_quiet-gate in
    let v = adv a.at a.channel a.pdu a.address a.«data».now a.to_central in
    let s = a.store.now in
    let k = central a.core a.tables.now in
    let clear = open-law k s v _ _ gate.ensures c.in_default.ensures refl in
    let passed = open-passed k s v clear in
    (passed.gate.fit.head.reports, passed.short)

pub put_key-requires : goal.put_key-requires
put_key-requires c =
    let a = c.args in
    let gate = c.gate_quiet-gate in
    let v = adv a.at a.channel a.pdu a.address a.«data».now a.to_central in
    let s = a.store.now in
    let k = central a.core a.tables.now in
    let clear = open-law k s v _ _ gate.ensures c.in_default.ensures refl in
    let passed = open-passed k s v clear in
    let hears = c.is_listening in
    let keyed = c.key_of-key in
    let asking = c.is_asking-asks in
    let new = c.is_due-new in
    let full = c.keys_full in
    let heard = c.if-not-is_listening.false in
    let room = c.if-keys_full.false in
    let going = going_of k s v _ _ _ _ _ _ _ gate.ensures c.in_default.ensures refl
    hears.ensures heard keyed.ensures asking.ensures new.ensures full.ensures room in
    let due = c.if-new.true in
    key-place k s v _ _ going due passed.gate.fit.head.keys

pub overflow_add-o : goal.overflow_add-o
overflow_add-o c =
    let a = c.args in
    let gate = c.gate_quiet-gate in
    let v = adv a.at a.channel a.pdu a.address a.«data».now a.to_central in
    let s = a.store.now in
    let k = central a.core a.tables.now in
    let clear = open-law k s v _ _ gate.ensures c.in_default.ensures refl in
    let passed = open-passed k s v clear in
    let hears = c.is_listening in
    let keyed = c.key_of-key in
    let asking = c.is_asking-asks in
    let new = c.is_due-new in
    let full = c.keys_full in
    let heard = c.if-not-is_listening.false in
    let room = c.if-keys_full.false in
    let going = going_of k s v _ _ _ _ _ _ _ gate.ensures c.in_default.ensures refl
    hears.ensures heard keyed.ensures asking.ensures new.ensures full.ensures room in
    let due = c.if-new.true in
    let place = key-place k s v _ _ going due passed.gate.fit.head.keys in
    omega (arith, place)

pub returns-then-new : goal.returns-then-new
returns-then-new c =
    let a = c.args in
    let gate = c.gate_quiet-gate in
    let v = adv a.at a.channel a.pdu a.address a.«data».now a.to_central in
    let s = a.store.now in
    let k = central a.core a.tables.now in
    let clear = open-law k s v _ _ gate.ensures c.in_default.ensures refl in
    let passed = open-passed k s v clear in
    let hears = c.is_listening in
    let keyed = c.key_of-key in
    let asking = c.is_asking-asks in
    let new = c.is_due-new in
    let full = c.keys_full in
    let heard = c.if-not-is_listening.false in
    let room = c.if-keys_full.false in
    let going = going_of k s v _ _ _ _ _ _ _ gate.ensures c.in_default.ensures refl
    hears.ensures heard keyed.ensures asking.ensures new.ensures full.ensures room in
    let kept = c.keep-kept in
    let due = c.if-new.true in
    let key = c.put_key in
    let both = gave a.core _ a.tables.now _ s _ _ _ _ c.done-then-new.ensures
    (put-asked a.core a.tables.now _ s _ v _ _ going _ _ _ kept.ensures _ due key.ensures) in
    record { store_after = both.0; refused = both.1 }

pub response_of-response-requires : goal.response_of-response-requires
response_of-response-requires c =
    let a = c.args in
    let gate = c.gate_quiet-gate in
    let v = adv a.at a.channel a.pdu a.address a.«data».now a.to_central in
    let s = a.store.now in
    let k = central a.core a.tables.now in
    let clear = open-law k s v _ _ gate.ensures c.in_default.ensures refl in
    let passed = open-passed k s v clear in
    let kept = c.keep-kept in
    let keyed = c.key_of-key in
    (store_length (reports_in a.tables.now a.core.reports) keyed.result a.«data».now s _ kept.ensures.bytes passed.gate.store, kept.ensures.within)

pub returns : goal.returns
returns c =
    let a = c.args in
    let gate = c.gate_quiet-gate in
    let v = adv a.at a.channel a.pdu a.address a.«data».now a.to_central in
    let s = a.store.now in
    let k = central a.core a.tables.now in
    let clear = open-law k s v _ _ gate.ensures c.in_default.ensures refl in
    let passed = open-passed k s v clear in
    let hears = c.is_listening in
    let keyed = c.key_of-key in
    let asking = c.is_asking-asks in
    let new = c.is_due-new in
    let full = c.keys_full in
    let heard = c.if-not-is_listening.false in
    let room = c.if-keys_full.false in
    let going = going_of k s v _ _ _ _ _ _ _ gate.ensures c.in_default.ensures refl
    hears.ensures heard keyed.ensures asking.ensures new.ensures full.ensures room in
    let kept = c.keep-kept in
    let asked = c.if-new.false in
    let choice = c.choose-action in
    let both = gave a.core _ a.tables.now _ s _ _ _ _ c.done-2.ensures
    (put-chosen a.core a.tables.now _ s _ v _ _ going _ _ _ kept.ensures _ asked
    (choice.ensures ∙ ap (λ (l : List ℕ). chosen a.core.running.step keyed.result a.«data».now l a.pdu a.to_central) c.response_of-response.ensures)) in
    record { store_after = both.0; refused = both.1 }
