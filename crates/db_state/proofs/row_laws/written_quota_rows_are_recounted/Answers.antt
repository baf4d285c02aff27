use Rattle.db_state.proofs.QuotaWriteLaws.{recounted_written}
use Rattle.db_state.proofs.row_laws.written_quota_rows_are_recounted.Goals as goal

pub returns : goal.returns
returns c = recounted_written
