use mathlib.Core.Path.{refl}
use Rattle.exports.proofs.Answers.{need-refuses, need-holds, need_never}
use Rattle.exports.proofs.access_need.Goals as goal

pub returns-in-Err : goal.returns-in-Err
returns-in-Err c = need-refuses _ _ _ _ _ c.in-Err.ensures _ refl _ c.number.ensures

pub returns-in-Ok-Held : goal.returns-in-Ok-Held
returns-in-Ok-Held c = need-holds _ _ _ _ _ c.in-Ok-Held.ensures _ refl _ c.in-Ok-Held.field-0-is

pub returns-in-Ok-Never : goal.returns-in-Ok-Never
returns-in-Ok-Never c = need_never _ _ _ _ _ c.in-Ok-Never.ensures _ refl _ c.in-Ok-Never.field-0-is
