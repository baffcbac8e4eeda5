use Rattle.exports.proofs.Answers.{numbers-refused}
use Rattle.exports.proofs.numbers.Goals as goal

pub returns-in-Err : goal.returns-in-Err
returns-in-Err c = numbers-refused _ _ c.in-Err.is _ c.number.ensures
