use Rattle.std.proofs.Common.{refl}
use Rattle.db_state.proofs.DbLaws.{opening_inside}
use Rattle.db_state.proofs.db.Db.start.Goals as goal

pub invariant_of-result : goal.invariant_of-result
invariant_of-result c = rw (c.in_ok-tables.ensures.inodes, c.in_ok-tables.ensures.quotas, c.in_ok-tables.ensures.top, c.new-2.ensures, c.new-3.ensures, c.in_ok-locks.ensures, c.in_ok-seats.ensures, c.users.ensures.users)
    (opening_inside c.in_ok-settings.settings c.users.ensures.settings)

pub returns : goal.returns
returns c = rw (c.in_ok-tables.ensures.inodes, c.in_ok-tables.ensures.quotas, c.new-2.ensures, c.new-3.ensures, c.in_ok-locks.ensures, c.in_ok-seats.ensures, c.users.ensures.users, c.in_ok-settings.ensures) refl
