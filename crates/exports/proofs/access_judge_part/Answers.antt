use Rattle.exports.proofs.Answers.{part-answers}
use Rattle.exports.proofs.access_judge_part.Goals as goal

pub returns : goal.returns
returns c = search part-answers
