use Rattle.exports.proofs.Answers.{judge-answers}
use Rattle.exports.proofs.access_judge.Goals as goal

pub returns : goal.returns
returns c = search judge-answers
