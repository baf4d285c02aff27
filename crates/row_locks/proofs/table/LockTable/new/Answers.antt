use Rattle.std.proofs.Common.{refl}
use Rattle.row_locks.proofs.KeptLemmas.{nothing_kept}
use Rattle.row_locks.proofs.table.LockTable.new.Goals as goal

pub invariant_of-result : goal.invariant_of-result
invariant_of-result c = nothing_kept c.new.result c.new-2.result
    (record { ordered = c.new.ensures.ordered; full = λ key. rw c.new.ensures.empty refl })
    (record { ordered = c.new-2.ensures.ordered; full = λ s. rw c.new-2.ensures.empty refl })
    c.new.ensures.empty c.new-2.ensures.empty
