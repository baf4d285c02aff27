-- How a session passes a row that it has read again. This crate's own.
use Rattle.std.specs.Prelude.{◌≡◌, ℕ, ◌<◌, min, Bool, true, false, List, length, map as list_map, slice_set, Result, Ok, Err}
use Rattle.hops_base.specs.declared.ids.Mode.{Mode}
use Rattle.hops_base.specs.declared.ids.SessionId.{SessionId}
use Rattle.hops_base.specs.declared.key.Key.{Key}
use Rattle.row_locks.specs.Locks.{Locks}
use Rattle.db_state.specs.declared.session.Position.{Position}
use Rattle.db_state.specs.declared.session.Session.{Session}
use Rattle.db_state.specs.declared.session.Stage.{Stage}
use Rattle.db_state.specs.declared.session.Stage.TheVariants.{Reread, Commit}
use Rattle.db_state.specs.declared.view.Place.{Place}
use Rattle.db_state.specs.Reads.{Reads}
use Rattle.db_state.specs.State.{State}
use Rattle.db_state.specs.Steps.{IsRunning}
use Rattle.chain_check.specs.declared.passing.Passed.{Passed}
use Rattle.chain_check.specs.declared.reread.Reread as answer
use Rattle.chain_check.specs.declared.reread.Reread.TheVariants as told
use Rattle.chain_check.specs.declared.row.Halt.{Halt}
use Rattle.chain_check.specs.declared.row.Halt.TheVariants as halt
use Rattle.chain_check.specs.declared.search.Spot.{Spot}
use Rattle.chain_check.specs.Rereading.{HasLeft}
use Rattle.chain_check.specs.Rows.{IsPlain, IsReadAgain}
use Rattle.chain_check.specs.Search.{IsNextAt, LeavesNone, LeavesAny}

-- these are the reads of the session
abbrev pub IsRereadBy : State → SessionId → Reads → Type 0
IsRereadBy state s reads = (doing : Session) (reads' : Reads) (keys : List (Key × Mode)) → IsRunning state s doing → doing.stage ≡ Reread reads' keys → reads ≡ reads'

-- a row is left of these places
abbrev pub HasSome : Locks → SessionId → List ℕ → List Place → Type 0
HasSome locks s marks places = LeavesNone locks s marks places 0 (length places) → ⊥

-- the next row that is left is found again without a flag, and this tells whether more are left after it
pub record IsPassed (state : State) (s : SessionId) (marks : List ℕ) (places : List Place) (passed : Passed) : Type 0 where
  pub at : IsNextAt state.locks s marks places 0 passed.spot
  pub plain : IsPlain state.stored.inodes at.next.row
  pub after : LeavesAny state.locks s marks places passed.spot passed.more

-- it isn't as it was found; or it is and bears a flag
pub record IsHalt (state : State) (s : SessionId) (marks : List ℕ) (places : List Place) (why : Halt) : Type 0 where
  pub spot : Spot
  pub at : IsNextAt state.locks s marks places 0 spot
  pub so : IsReadAgain state.stored.inodes at.next.row (Err why)

-- what is told of the next row that is left
abbrev pub IsLook : State → SessionId → List ℕ → List Place → Result Passed Halt → Type 0
IsLook state s marks places (Ok passed) = IsPassed state s marks places passed
IsLook state s marks places (Err why) = IsHalt state s marks places why

-- so it is told of the session's
abbrev pub Looks : State → SessionId → Result Passed Halt → Type 0
Looks state s told = (doing : Session) (reads : Reads) (keys : List (Key × Mode)) → IsRunning state s doing → HasLeft doing reads keys → IsLook state s reads.marks reads.places told

-- what is told where the row can't be passed
abbrev pub told_of : Halt → answer.Reread
told_of halt.Changed = told.Changed
told_of (halt.Flagged op) = told.Flagged op

-- the marks once no row is left
abbrev pub lowest : List ℕ → List ℕ
lowest marks = list_map (λ (mark : ℕ). min mark 1) marks

-- the session reads rows again, and this place has a mark
abbrev pub HasReads : Stage → ℕ → Type 0
HasReads stage place = (reads : Reads) × (keys : List (Key × Mode)) × (stage ≡ Reread reads keys) × (place < length reads.marks)

-- the reads with the mark of its place lowered to a row
abbrev pub lowered_to : Reads → Spot → Reads
lowered_to reads spot = record reads { marks = slice_set reads.marks spot.place spot.row }

-- the stage past the row, and what is told there
abbrev pub stage_past : Reads → List (Key × Mode) → Spot → Bool → Stage
stage_past reads keys spot true = Reread (lowered_to reads spot) keys
stage_past reads keys spot false = Commit (record reads { marks = lowest (slice_set reads.marks spot.place spot.row) }) keys

abbrev pub told_past : Bool → answer.Reread
told_past true = told.More
told_past false = told.Current

-- so the session has passed the row
pub record IsPast (old : Position) (passed : Passed) (new : Position) (told : answer.Reread) (reads : Reads) (keys : List (Key × Mode)) : Type 0 where
  pub position : new ≡ record old { stage = stage_past reads keys passed.spot passed.more }
  pub answer : told ≡ told_past passed.more

abbrev pub Passes : Position → Passed → Position → answer.Reread → Type 0
Passes old passed new told = (reads : Reads) (keys : List (Key × Mode)) → old.stage ≡ Reread reads keys → IsPast old passed new told reads keys
