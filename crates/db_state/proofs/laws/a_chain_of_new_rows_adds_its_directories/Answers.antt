use Rattle.db_state.proofs.ChainLaws.{quotas_chained, tree_chained, stands_chained}
use Rattle.db_state.proofs.NumberLaws.{given_chained}
use Rattle.db_state.proofs.laws.a_chain_of_new_rows_adds_its_directories.Goals as goal

pub returns : goal.returns
returns c = record { tree = tree_chained; stands = stands_chained; given = given_chained; quotas = quotas_chained }
