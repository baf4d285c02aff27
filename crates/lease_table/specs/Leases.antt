-- What a lease table is to its callers.
use Rattle.row_store.specs.Table.{Table}
use Rattle.lease_table.specs.declared.lease.LeaseRow.{LeaseRow}
use Rattle.lease_table.specs.declared.reply.ReplyRow.{ReplyRow}

-- the lease rows with the keys that are ready for one, and the reply rows with theirs
pub record Leases : Type 0 where
  pub leases : Table LeaseRow
  pub replies : Table ReplyRow
