use Rattle.commit_log.proofs.OneClientLaws.{single_orderly, single_sound, single_answers, single_licensed, single_explained}
use Rattle.commit_log.proofs.laws.a_single_run_is_in_order.Goals as goal

pub returns-clause-orderly : goal.returns-clause-orderly
returns-clause-orderly c = single_orderly

pub returns-clause-sound : goal.returns-clause-sound
returns-clause-sound c = single_sound

pub returns-clause-answers : goal.returns-clause-answers
returns-clause-answers c = single_answers

pub returns-clause-licensed : goal.returns-clause-licensed
returns-clause-licensed c = single_licensed

pub returns-clause-explained : goal.returns-clause-explained
returns-clause-explained c = single_explained
