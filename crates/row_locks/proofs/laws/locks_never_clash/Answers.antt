use Rattle.row_locks.proofs.LockLaws.{apart-none, apart-asked, apart-given_back}
use Rattle.row_locks.proofs.laws.locks_never_clash.Goals as goal

pub returns : goal.returns
returns c = record { none = apart-none; asked = apart-asked; given_back = apart-given_back }
