-- The parts of the core's invariant on each session: what it has read, and how the book tells of it. This project's own.
use Rattle.std.specs.Prelude.{◌≡◌, ⊤, ℕ, ◌<◌, ◌≤◌, true, false, ◌==◌, List, [], ◌∷◌, length, drop, take, Some, None, slice_get, map as list_map, MatchOption}
use Rattle.std.specs.List.{list_any, list_all, position, flat_map, AllByRecursion}
use Rattle.std.specs.FinMap as map
use Rattle.hops_base.specs.declared.ids.ClientNo.{ClientNo}
use Rattle.hops_base.specs.declared.ids.InodeId.{InodeId}
use Rattle.hops_base.specs.declared.ids.SessionId.{SessionId}
use Rattle.hops_base.specs.declared.ids.Mode.{Mode}
use Rattle.hops_base.specs.declared.key.Key.{Key}
use Rattle.hops_base.specs.declared.key.Key.TheVariants as key
use Rattle.name_space.specs.declared.call.Call.{Call}
use Rattle.name_space.specs.Call.{is_valid}
use Rattle.inode_table.specs.declared.inode.Inode.{Inode}
use Rattle.quota_table.specs.declared.quota.QuotaRow.{QuotaRow}
use Rattle.commit_log.specs.declared.note.Note.{Note}
use Rattle.commit_log.specs.Parts.{Taking, opens_session, opening_of}
use Rattle.commit_log.specs.Orderly.{ends}
use Rattle.commit_log.specs.Licensed.{is_change_beside}
use Rattle.db_state.specs.declared.session.Session.{Session}
use Rattle.db_state.specs.declared.session.Stage.{Stage}
use Rattle.db_state.specs.declared.session.Stage.TheVariants.{Resolve, Lock, Read, Reread, Commit, Answered}
use Rattle.db_state.specs.declared.view.Place.{Place}
use Rattle.db_state.specs.Stored.{Inodes, Quotas, root_key, root_row}
use Rattle.db_state.specs.Plan.{plan}
use Rattle.db_state.specs.Current.{SpellsPlace, places_of, is_locked, is_unflagged}
use Rattle.db_state.specs.PlaceOf.{IsFound}
use Rattle.db_state.specs.ReadSteps.{LeadsTo}
use Rattle.db_state.specs.Reads.{Asked, Reads, AreReads, AllRead}
use Rattle.db_state.specs.Holding.{AreSameLocks, SessionStands}
use Rattle.row_locks.specs.Plans.{IsRising}
use Rattle.db_state.specs.Stages.{is_over, rows_in, missing_in}
use Rattle.db_state.specs.State.{Sessions}

-- ---- what a session has read, by itself

-- the call as a session carries it out: no operation of its own runs yet
abbrev pub asked_as : ClientNo → Call → Asked
asked_as client call = record { client = client; call = call; own = None }

-- the call of this session, so
abbrev pub asked_in : Session → Asked
asked_in session = asked_as session.client session.call

-- the places alone, before a row was read under locks
abbrev pub unread : List Place → Reads
unread places = record { places = places; marks = []; quotas = [] }

-- the rows found for a path lead from the root's along it to its end, to its first missing name or to a file
pub record IsResolvedPlace (place : Place) : Type 0 where
  pub spells : SpellsPlace place
  pub root : slice_get place.found.items 0 ≡ Some (root_key, root_row)
  pub unflagged : list_all (λ (r : Key × Inode). is_unflagged None r.1.flag) place.found.items ≡ true

-- the rows found so far lead from the root's along the path; none was looked for yet where there is none
abbrev pub LeadAlong : List (List ℕ) → List (Key × Inode) → Type 0
LeadAlong path [] = ⊤
LeadAlong path (root ∷ rows) = (root ≡ (root_key, root_row)) × (last : Inode) × (rest : List (List ℕ)) × LeadsTo root.1 path rows last rest

-- the places so far are those of the first paths of the call; the rows found next lead along the path after them; and none of
-- the rows bears the flag of an operation
pub record IsResolving (call : Call) (places : List Place) (found : List (Key × Inode)) : Type 0 where
  pub paths : list_map (λ (place : Place). place.path) places ≡ take (length places) (places_of call places)
  pub whole : AllByRecursion IsResolvedPlace places
  pub next : MatchOption (slice_get (places_of call places) (length places)) (found ≡ []) (λ path. LeadAlong path found)
  pub unflagged : list_all (λ (r : Key × Inode). is_unflagged None r.1.flag) found ≡ true

-- the plan is that of the places, each key once and rising
pub record IsPlanned (client : ClientNo) (call : Call) (places : List Place) (keys : List (Key × Mode)) : Type 0 where
  pub are : AreReads (asked_as client call) (unread places)
  pub of : AreSameLocks keys (plan client call places)
  pub rises : IsRising keys

-- each row that was found with a quota whose key is locked has its quota row among those seen, so it hasn't lost its quota
abbrev pub AreQuotasSeen : List (Key × Mode) → Reads → Type 0
AreQuotasSeen keys reads = AllByRecursion
    (λ (r : Key × Inode). r.1.has_quota ≡ true → is_locked keys (key.Quota r.1.id) ≡ true → list_any (λ (q : InodeId × QuotaRow). q.0.0 == r.1.id.0) reads.quotas ≡ true)
    (flat_map (λ (place : Place). place.found.items) reads.places)

-- what a session has read, by itself and against the rows, by how far it has come: it resolves its paths; it has a plan for what
-- it has found; and from its Read step on what it has read stands, all of it reread where it answers
abbrev pub IsReading : Inodes → Quotas → List Taking → SessionId → Session → Stage → Type 0
IsReading inodes quotas locks s session (Resolve places found) = IsResolving session.call places.items found.items
IsReading inodes quotas locks s session (Lock places keys taken) = IsPlanned session.client session.call places.items keys × (taken < length keys)
IsReading inodes quotas locks s session (Read places keys) = IsPlanned session.client session.call places.items keys
IsReading inodes quotas locks s session (Reread reads keys) =
    IsPlanned session.client session.call reads.places keys × SessionStands inodes quotas locks s (asked_in session) reads × AreQuotasSeen keys reads
IsReading inodes quotas locks s session (Commit reads keys) =
    IsPlanned session.client session.call reads.places keys × SessionStands inodes quotas locks s (asked_in session) reads × AreQuotasSeen keys reads × AllRead reads.marks
IsReading inodes quotas locks s session Answered = ⊤

-- read chains stand: so it is for every session
abbrev pub AreReading : Inodes → Quotas → List Taking → Sessions → Type 0
AreReading inodes quotas locks sessions = (s : SessionId) (session : Session) → map.get sessions s.0 ≡ Some session
    → IsReading inodes quotas locks s session session.stage

-- every row that a session has found is as it was found, and what it has missed is missing still
abbrev pub IsStillFound : Inodes → Stage → Type 0
IsStillFound inodes stage = AllByRecursion (IsFound inodes) (rows_in stage) × AllByRecursion (λ (at : Key). map.get inodes at ≡ None) (missing_in stage)

-- so it is unless another session has committed a change since the attempt began to read
abbrev pub IsAsFound : Inodes → List Note → SessionId → Session → Type 0
IsAsFound inodes notes s session = list_any (is_change_beside s) (drop session.since notes) ≡ false → IsStillFound inodes session.stage

-- so it is for every session
abbrev pub AreAsFound : Inodes → List Note → Sessions → Type 0
AreAsFound inodes notes sessions = (s : SessionId) (session : Session) → map.get sessions s.0 ≡ Some session → IsAsFound inodes notes s session

-- each row that a session has found has an id below the next free one, so a new row is under none of the keys that it locks
abbrev pub AreOld : ℕ → Sessions → Type 0
AreOld next sessions = (s : SessionId) (session : Session) → map.get sessions s.0 ≡ Some session → AllByRecursion (λ (r : Key × Inode). r.1.id.0 < next) (rows_in session.stage)

-- ---- how the book tells of a session

-- the book has its opening, at its place and before its attempt began to read; where it is open, nothing in the book has ended
-- it; and its call is valid
pub record IsOpened (notes : List Note) (s : SessionId) (session : Session) : Type 0 where
  pub opening : opening_of notes s ≡ Some (record { session = s; client = session.client; number = session.number; node = session.node })
  pub place : position (opens_session s) notes ≡ Some session.opened
  pub since : (session.opened < session.since) × (session.since ≤ length notes)
  pub running : is_over session.stage ≡ false → list_any (ends s) notes ≡ false
  pub valid : is_valid session.call ≡ true

-- so it is for every session
abbrev pub AreOpened : List Note → Sessions → Type 0
AreOpened notes sessions = (s : SessionId) (session : Session) → map.get sessions s.0 ≡ Some session → IsOpened notes s session
