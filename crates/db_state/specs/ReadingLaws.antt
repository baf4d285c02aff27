-- Laws of what sessions have read, of how they come by it, and of the keys that they hold.
use Rattle.std.specs.Prelude.{◌≡◌, ◌≢◌, ℕ, suc, false, List, [], ◌∷◌, ◌++◌, take, slice_get, slice_set, Option, Some, None}
use Rattle.std.specs.List.{AllByRecursion}
use Rattle.hops_base.specs.Roomy.{Roomy}
use Rattle.hops_base.specs.declared.ids.ClientNo.{ClientNo}
use Rattle.hops_base.specs.declared.ids.InodeId.{InodeId}
use Rattle.hops_base.specs.declared.ids.Mode.{Mode}
use Rattle.hops_base.specs.declared.ids.SessionId.{SessionId}
use Rattle.hops_base.specs.declared.key.Key.{Key}
use Rattle.hops_base.specs.declared.key.Key.TheVariants as key
use Rattle.name_space.specs.declared.call.Call.{Call}
use Rattle.name_space.specs.declared.call.Call.TheVariants as call
use Rattle.name_space.specs.declared.reply.Reply.{Reply}
use Rattle.inode_table.specs.declared.inode.Inode.{Inode}
use Rattle.inode_table.specs.declared.inode.Kind.TheVariants.{Dir}
use Rattle.commit_log.specs.declared.note.Note.{Note}
use Rattle.commit_log.specs.declared.note.Note.TheVariants.{Took}
use Rattle.commit_log.specs.Parts.{Where, is_at, Taking, gone_in, actor}
use Rattle.commit_log.specs.Places.{gives_all}
use Rattle.commit_log.specs.Locks.{held, Sound}
use Rattle.db_state.specs.declared.outcome.Outcome.TheVariants.{Answer}
use Rattle.db_state.specs.declared.view.Place.{Place}
use Rattle.db_state.specs.declared.view.View.{View}
use Rattle.db_state.specs.declared.writes.Row.{Row}
use Rattle.db_state.specs.Stored.{Inodes, Quotas, Stored}
use Rattle.db_state.specs.Spelled.{IsTree}
use Rattle.db_state.specs.Consistent.{IsConsistent}
use Rattle.db_state.specs.Written.{committed}
use Rattle.db_state.specs.Plan.{plan}
use Rattle.db_state.specs.Current.{Leads, stops_at, is_locked, SpellsPlace, IsCurrent, SeesQuotas}
use Rattle.db_state.specs.Locked.{MayWrite, WritesOwn}
use Rattle.db_state.specs.Effects.{KeepsRows, KeepsOthers}
use Rattle.db_state.specs.Reads.{Asked, Reads, locked_by, AllRead, EndsLocked, AreReads, ReadsStand, AllFixed}
use Rattle.db_state.specs.ReadSteps.{AllPairs, LeadsTo, IsOfPath, IsInside, IsFoundAgain, IsPlaceRead, last_marks, IsViewOfReads}
use Rattle.db_state.specs.Holding.{HoldsAll, AreSameLocks, Leaves, SessionStands, StandsIn}

-- ---- rows are found one by one

-- rows that lead along a path lead on by the row of the next name
abbrev pub FoundRowsLeadFurther : Type 0
FoundRowsLeadFurther =
    (row : Inode) (names : List (List ℕ)) (rows : List (Key × Inode)) (last : Inode) (name : List ℕ) (rest : List (List ℕ)) (new : Inode)
    → last.kind ≡ Dir → LeadsTo row names rows last (name ∷ rest)
    → LeadsTo row names (rows ++ (key.Inode last.id name, new) ∷ []) new rest

-- where no name is left, the path is found whole
abbrev pub FoundRowsLeadToTheEnd : Type 0
FoundRowsLeadToTheEnd =
    (row : Inode) (names : List (List ℕ)) (rows : List (Key × Inode)) (last : Inode)
    → LeadsTo row names rows last [] → Leads row names rows None

-- where no row is found for the next name, that is the first missing one, or a file stands in its way
abbrev pub FoundRowsLeadToAGap : Type 0
FoundRowsLeadToAGap =
    (row : Inode) (names : List (List ℕ)) (rows : List (Key × Inode)) (last : Inode) (name : List ℕ) (rest : List (List ℕ))
    → LeadsTo row names rows last (name ∷ rest) → Leads row names rows (stops_at last.kind last.id name)

-- the plan of a call of one path locks the last row that was found for it
abbrev pub PathEndsLocked : Type 0
PathEndsLocked =
    (client : ClientNo) (call : Call) (place : Place) → IsOfPath call → SpellsPlace place
    → EndsLocked (plan client call (place ∷ [])) place.found.items

-- the plan of a rename locks the last row that was found for each of its places
abbrev pub RenameEndsLocked : Type 0
RenameEndsLocked =
    (client : ClientNo) (from to : List (List ℕ)) (source destination : Place) (inside : List Place)
    → SpellsPlace source → SpellsPlace destination → AllByRecursion (IsInside destination) inside
    → AllByRecursion (λ (place : Place). EndsLocked (plan client (call.Rename from to) (source ∷ destination ∷ inside)) place.found.items)
    (source ∷ destination ∷ inside)

-- ---- they are read again

-- where a session reads all locked rows again as it had found them, finds nothing at the first missing keys, and reads the
-- quota rows at the locked keys, its reads stand from the last row of each place on
abbrev pub ReadsStandOnceRead : Type 0
ReadsStandOnceRead =
    (inodes : Inodes) (next : ℕ) (quotas : Quotas) → IsTree inodes next
    → (asked : Asked) (old new : Reads) → AreReads asked old
    → AllPairs (IsPlaceRead inodes (locked_by asked old) asked.own) old.places new.places
    → new.marks ≡ last_marks new.places → SeesQuotas quotas (locked_by asked old) new.quotas
    → AreReads asked new × ReadsStand inodes quotas (locked_by asked new) new

-- the keys that the call locks stay the same by that
abbrev pub PlanStaysOnceRead : Type 0
PlanStaysOnceRead =
    (inodes : Inodes) (asked : Asked) (old new : Reads)
    → AllPairs (IsPlaceRead inodes (locked_by asked old) asked.own) old.places new.places
    → locked_by asked new ≡ locked_by asked old

-- reads that stand do so from one row further up, where that is locked or is found again
abbrev pub ReadsStandOneRowFurther : Type 0
ReadsStandOneRowFurther =
    (inodes : Inodes) (quotas : Quotas) (locked : List (Key × Mode)) (reads : Reads) → ReadsStand inodes quotas locked reads
    → (i mark : ℕ) (place : Place) (found : Key × Inode)
    → slice_get reads.marks i ≡ Some (suc mark) → slice_get reads.places i ≡ Some place
    → slice_get place.found.items mark ≡ Some found
    → (is_locked locked found.0 ≡ false → IsFoundAgain inodes found)
    → ReadsStand inodes quotas locked (record reads { marks = slice_set reads.marks i mark })

-- ---- a commit makes a view of them

-- once every row but the root's is locked or was read again, the view is current
abbrev pub ReadsThatStandAreCurrent : Type 0
ReadsThatStandAreCurrent =
    (inodes : Inodes) (next : ℕ) (quotas : Quotas) → IsTree inodes next
    → (asked : Asked) (reads : Reads) (view : View) → AreReads asked reads
    → ReadsStand inodes quotas (locked_by asked reads) reads → AllRead reads.marks
    → IsViewOfReads inodes next asked.call reads view
    → IsCurrent inodes quotas asked.own asked.client asked.call view

-- the keys that the call locks are the same by the view
abbrev pub PlanStaysInTheView : Type 0
PlanStaysInTheView =
    (inodes : Inodes) (next : ℕ) (asked : Asked) (reads : Reads) (view : View) → IsViewOfReads inodes next asked.call reads view
    → plan asked.client asked.call view.places.items ≡ locked_by asked reads

-- ---- others commit

-- what a session has read stands on beside a commit of another that holds some keys: where it writes those alone that no other
-- session can hold, keeps rows, moves none that stands above the last of its place, and leaves the session its own keys
abbrev pub ReadsStandBesideACommit : Type 0
ReadsStandBesideACommit =
    (state : Stored) (writes : List (Key × Option Row)) (notes : List Note)
    → IsConsistent state → IsConsistent (committed state writes notes) → Sound state.notes
    → (s t : SessionId) → s.0 ≢ t.0 → (asked : Asked) (reads : Reads) → StandsIn state s asked reads
    → (theirs : List (Key × Mode)) → HoldsAll (held state.notes) t theirs → AllByRecursion (MayWrite theirs state.next) writes
    → (moves : Option InodeId) → KeepsRows theirs state.next moves state.inodes (committed state writes notes).inodes
    → AllFixed moves reads.marks reads.places → HoldsAll (held (state.notes ++ notes)) s (locked_by asked reads)
    → StandsIn (committed state writes notes) s asked reads

-- it stands on once another whose own reads stand, and are all read again, has answered by writes of its own that keep rows
abbrev pub SessionStandsBesideAnAnswer : Type 0
SessionStandsBesideAnAnswer =
    (state : Stored) → IsConsistent state → Sound state.notes
    → (t : SessionId) (other : Asked) (theirs : Reads) (view : View) → StandsIn state t other theirs → AllRead theirs.marks
    → IsViewOfReads state.inodes state.next other.call theirs view
    → (reply : Reply) (writes : Roomy (Key × Option Row)) → WritesOwn view other.client other.call (Answer reply writes)
    → KeepsOthers view other.client other.call (Answer reply writes)
    → (note : Note) → IsConsistent (committed state writes.items (note ∷ []))
    → (s : SessionId) (asked : Asked) (reads : Reads) → s.0 ≢ t.0 → Leaves state.notes s note → StandsIn state s asked reads
    → StandsIn (committed state writes.items (note ∷ [])) s asked reads

-- and it stands on with one note more that leaves the session its locks
abbrev pub SessionStandsBesideANote : Type 0
SessionStandsBesideANote =
    (inodes : Inodes) (quotas : Quotas) (notes : List Note) (s : SessionId) (asked : Asked) (reads : Reads) (note : Note)
    → Leaves notes s note → SessionStands inodes quotas (held notes) s asked reads
    → SessionStands inodes quotas (held (notes ++ note ∷ [])) s asked reads

-- ---- locks

-- a note leaves a session its locks, where it isn't the session's own Gave or Did, nor a Gone of the namenode at which the
-- session was opened
abbrev pub NoteLeavesLocks : Type 0
NoteLeavesLocks =
    (before : List Note) (s : SessionId) (note : Note) → gives_all s note ≡ false
    → Where (λ node. is_at before node s ≡ false) (gone_in note) → Leaves before s note

-- so every note that another session takes, gives back, commits or meets something by leaves it them
abbrev pub NoteOfAnotherLeavesLocks : Type 0
NoteOfAnotherLeavesLocks =
    (before : List Note) (s t : SessionId) (note : Note) → actor note ≡ Some t → s.0 ≢ t.0 → Leaves before s note

-- and a session that takes one more key is left those that it holds
abbrev pub TookLeavesLocks : Type 0
TookLeavesLocks = (before : List Note) (s : SessionId) (at : Key) (mode : Mode) → Leaves before s (Took s at mode)

-- a session holds on what it holds, by a note that leaves it its locks
abbrev pub KeysAreHeldOn : Type 0
KeysAreHeldOn =
    (notes : List Note) (s : SessionId) (locked : List (Key × Mode)) (note : Note) → Leaves notes s note
    → HoldsAll (held notes) s locked → HoldsAll (held (notes ++ note ∷ [])) s locked

-- before it has taken any, a session holds none of its keys
abbrev pub NoKeyIsHeld : Type 0
NoKeyIsHeld = (locks : List Taking) (s : SessionId) → HoldsAll locks s []

-- once it holds the first of them and takes the next, it holds one more
abbrev pub NextKeyIsHeld : Type 0
NextKeyIsHeld =
    (notes : List Note) (s : SessionId) (keys : List (Key × Mode)) (n : ℕ) (k : Key × Mode) → slice_get keys n ≡ Some k
    → HoldsAll (held notes) s (take n keys) → HoldsAll (held (notes ++ Took s k.0 k.1 ∷ [])) s (take (suc n) keys)

-- whoever holds the keys of a plan holds what the plan locks
abbrev pub PlanIsHeld : Type 0
PlanIsHeld =
    (locks : List Taking) (s : SessionId) (keys locked : List (Key × Mode)) → AreSameLocks keys locked
    → HoldsAll locks s keys → HoldsAll locks s locked
