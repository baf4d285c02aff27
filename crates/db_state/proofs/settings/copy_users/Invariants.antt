use Rattle.std.proofs.Common.{◌≡◌, take}
use Rattle.db_state.proofs.settings.copy_users.Given as goal

abbrev pub invariant-loop-user : goal.invariant-loop-user
invariant-loop-user l = l.copy ≡ record { items = take l.user-index l.user-items; room = l.users.room }
