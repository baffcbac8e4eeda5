use Rattle.exports.proofs.Answers.{no_leak, leak, refusal}
use Rattle.exports.proofs.access_replay.Goals as goal

pub returns-in-Ok-None : goal.returns-in-Ok-None
returns-in-Ok-None c = no_leak _ _ c.in-Ok-None.ensures c.in-Ok-None.field-0-is

pub returns-in-Ok-Some : goal.returns-in-Ok-Some
returns-in-Ok-Some c = leak _ _ c.in-Ok-Some.ensures _ c.in-Ok-Some.field-0-is

pub returns-in-Err : goal.returns-in-Err
returns-in-Err c = refusal _ _ c.in-Err.ensures _ c.number.ensures
