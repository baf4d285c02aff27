use Rattle.db_state.proofs.CountLaws.{stands_recounted, counts_changed, counts_removed}
use Rattle.db_state.proofs.GrowthLaws.{counts_chained}
use Rattle.db_state.proofs.row_laws.quota_rows_count_what_is_used.Goals as goal

pub returns : goal.returns
returns c = record { stands = stands_recounted; changed = counts_changed; gone = counts_removed; directories = counts_chained }
