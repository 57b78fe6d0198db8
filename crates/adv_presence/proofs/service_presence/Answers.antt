use Rattle.uuid_value.specs.Value.{num}
use Rattle.adv_presence.proofs.Presences.{listed-first, absent-first, unknown-first}
use Rattle.adv_presence.proofs.service_presence.Goals as goal

pub returns-in-Listed : goal.returns-in-Listed
returns-in-Listed c =
    let a = c.args in
    listed-first (num a.uuid) a.«data».now a.response.now _ c.in-Listed.ensures

pub returns-in-Absent : goal.returns-in-Absent
returns-in-Absent c =
    let a = c.args in
    let first = c.in-Absent.ensures in
    absent-first (num a.uuid) a.«data».now a.response.now _ _ first c.seek-in-Absent.ensures c.presence_of.ensures

pub returns-in-Unknown : goal.returns-in-Unknown
returns-in-Unknown c =
    let a = c.args in
    let first = c.in-Unknown.ensures in
    unknown-first (num a.uuid) a.«data».now a.response.now _ _ _ first c.seek-in-Unknown.ensures c.presence_of-in-Unknown.ensures c.beside_unknown.ensures
