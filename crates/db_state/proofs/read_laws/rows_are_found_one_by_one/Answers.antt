use Rattle.db_state.proofs.ReadsFoundLaws.{leads_further, leads_whole, leads_stop}
use Rattle.db_state.proofs.read_laws.rows_are_found_one_by_one.Goals as goal

pub returns : goal.returns
returns c = record { further = leads_further; whole = leads_whole; stop = leads_stop }
