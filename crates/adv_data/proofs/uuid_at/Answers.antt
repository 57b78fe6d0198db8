use mathlib.Core.Path.{◌≡◌, refl}
use native.Mathlib.Omega.{arith}
use Rattle.adv_data.proofs.Lists.{is-short, made-long, made_short}
use Rattle.adv_data.proofs.uuid_at.Goals as goal

pub returns-in-16 : goal.returns-in-16
returns-in-16 c =
    let a = c.args in
    made-long a.«data».now a.at a.width c.from_128.result (omega arith) c.in-16.is c.from_128.ensures

pub returns-in-4 : goal.returns-in-4
returns-in-4 c =
    let a = c.args in
    made_short a.«data».now a.at a.width c.from.result (omega arith) 4 c.le32.result c.in-4.is refl c.from.ensures c.le32.ensures

pub returns-in_default : goal.returns-in_default
returns-in_default c =
    let a = c.args in
    let is : a.width ≡ 2 = is-short a.width c.requires.1 (λ e. omega arith) (λ e. omega arith) in
    made_short a.«data».now a.at a.width c.from-in_default.result (omega arith) 2 c.le16.result is refl c.from-in_default.ensures c.le16.ensures
