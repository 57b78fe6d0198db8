use Rattle.link_answers.proofs.AnswerLaws.{unask-law}
use Rattle.link_answers.proofs.unask.Goals as goal

pub returns : goal.returns
returns c = unask-law c.args.t _ c.answered-heard.ensures
