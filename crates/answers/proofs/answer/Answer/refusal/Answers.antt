use Rattle.answers.proofs.Telling.{has_its_own_text}
use Rattle.answers.proofs.answer.Answer.refusal.Goals as goal

pub returns-in-Refused-clause-no_other_answer_has_its_text : goal.returns-in-Refused-clause-no_other_answer_has_its_text
returns-in-Refused-clause-no_other_answer_has_its_text c = has_its_own_text c.args.self.now

pub returns-in_default-clause-no_other_answer_has_its_text : goal.returns-in_default-clause-no_other_answer_has_its_text
returns-in_default-clause-no_other_answer_has_its_text c = has_its_own_text c.args.self.now
