use Rattle.db_state.specs.declared.session.Stage.TheVariants.{Answered}
use Rattle.db_state.specs.Steps.{start}
use Rattle.db_state.proofs.GiveLaws.{given_core, start_is_bare, end_is_bare}
use Rattle.db_state.proofs.core_laws.giving_back_keeps_it.Goals as goal

pub returns-clause-anew : goal.returns-clause-anew
returns-clause-anew c = λ old new s doing core runs gives. given_core old new s doing start core runs start_is_bare gives

pub returns-clause-end : goal.returns-clause-end
returns-clause-end c = λ old new s doing core runs gives. given_core old new s doing Answered core runs end_is_bare gives
