use Rattle.db_state.proofs.FlagLaws.{unflagged_stays}
use Rattle.db_state.proofs.ChangeLaws.{flags_changed}
use Rattle.db_state.proofs.RemoveLaws.{flags_removed}
use Rattle.db_state.proofs.row_laws.flags_stay.Goals as goal

pub returns : goal.returns
returns c = record {
  changed = λ inodes next tree at old new there ids same k some. flags_changed inodes next tree at old new there ids same k;
  gone = flags_removed;
  none = unflagged_stays;
}
