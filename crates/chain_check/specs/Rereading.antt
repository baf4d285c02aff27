-- How a session reads the rows above its locked ones again, from the deepest upwards. This project's own.
use Rattle.std.specs.Prelude.{◌≡◌, ◌≢◌, List, [], slice_get, Some, None}
use Rattle.hops_base.specs.declared.ids.Mode.{Mode}
use Rattle.hops_base.specs.declared.ids.SessionId.{SessionId}
use Rattle.hops_base.specs.declared.key.Key.{Key}
use Rattle.inode_table.specs.declared.inode.Inode.{Inode}
use Rattle.db_state.specs.declared.session.Session.{Session}
use Rattle.db_state.specs.declared.session.Stage.{Stage}
use Rattle.db_state.specs.declared.session.Stage.TheVariants.{Reread, Commit}
use Rattle.db_state.specs.Moves.{left_in, RereadsOne}
use Rattle.db_state.specs.Reads.{Reads}
use Rattle.db_state.specs.ReadSteps.{IsFoundAgain}
use Rattle.db_state.specs.State.{State}
use Rattle.db_state.specs.Steps.{moved_by, IsRunning}
use Rattle.chain_check.specs.declared.reread.Reread as answer
use Rattle.chain_check.specs.declared.reread.Reread.TheVariants.{More, Current, Changed, Flagged}

-- the session reads rows again, and has some left
pub record HasLeft (doing : Session) (reads : Reads) (keys : List (Key × Mode)) : Type 0 where
  pub stage : doing.stage ≡ Reread reads keys
  pub some : left_in keys reads ≢ []

-- it runs, and has some left
abbrev pub IsRereading : State → SessionId → Type 0
IsRereading state s = (doing : Session) × (reads : Reads) × (keys : List (Key × Mode)) × IsRunning state s doing × HasLeft doing reads keys

-- the next row that is left is there as it was found, bears no flag, and isn't left any more: so the session comes to this stage
pub record RereadsTo (old new : State) (s : SessionId) (doing : Session) (reads reads' : Reads) (keys : List (Key × Mode)) (stage : Stage) : Type 0 where
  pub one : RereadsOne old.stored.inodes keys reads reads'
  pub plain : one.found.now.flag ≡ None
  pub moved : new ≡ moved_by old s (record doing { stage = stage })

-- the next row that is left
abbrev pub IsNextLeft : Reads → List (Key × Mode) → Key × Inode → Type 0
IsNextLeft reads keys row = slice_get (left_in keys reads) 0 ≡ Some row

-- what each answer says: there is more to read again; nothing is, and the session answers next; the row isn't there as it was found;
-- or it is, and bears a flag of another's operation
abbrev pub IsRereadStep : State → SessionId → Session → Reads → List (Key × Mode) → answer.Reread → State → Type 0
IsRereadStep old s doing reads keys More new = (reads' : Reads) × (left_in keys reads' ≢ []) × RereadsTo old new s doing reads reads' keys (Reread reads' keys)
IsRereadStep old s doing reads keys Current new = (reads' : Reads) × (left_in keys reads' ≡ []) × RereadsTo old new s doing reads reads' keys (Commit reads' keys)
IsRereadStep old s doing reads keys Changed new = (row : Key × Inode) × IsNextLeft reads keys row × (IsFoundAgain old.stored.inodes row → ⊥) × (new ≡ old)
IsRereadStep old s doing reads keys (Flagged op) new =
    (row : Key × Inode) × IsNextLeft reads keys row × ((again : IsFoundAgain old.stored.inodes row) × (again.now.flag ≡ Some op)) × (new ≡ old)

-- of whichever session it is
abbrev pub Rereads : State → SessionId → answer.Reread → State → Type 0
Rereads old s told new =
    (doing : Session) (reads : Reads) (keys : List (Key × Mode)) → IsRunning old s doing → HasLeft doing reads keys → IsRereadStep old s doing reads keys told new
