-- What a session's call is answered from. This project's own.
use Rattle.std.specs.Prelude.{◌≡◌, ℕ, ◌≤◌, Bool, List, [], ◌∷◌, length, Some, slice_get, Result, IfOk}
use Rattle.hops_base.specs.declared.ids.Mode.{Mode}
use Rattle.hops_base.specs.declared.ids.SessionId.{SessionId}
use Rattle.hops_base.specs.declared.key.Key.{Key}
use Rattle.hops_base.specs.declared.memory.NoMemory.{NoMemory}
use Rattle.name_space.specs.Script.{most_clients}
use Rattle.db_state.specs.declared.outcome.Outcome.{Outcome}
use Rattle.db_state.specs.declared.session.Position.{Position}
use Rattle.db_state.specs.declared.session.Session.{Session}
use Rattle.db_state.specs.declared.session.Stage.{Stage}
use Rattle.db_state.specs.declared.session.Stage.TheVariants.{Commit}
use Rattle.db_state.specs.declared.view.Place.{Place}
use Rattle.db_state.specs.declared.view.View.{View}
use Rattle.db_state.specs.CallsTable.{IsCallsTable}
use Rattle.db_state.specs.Current.{children_told, IsLastsChild}
use Rattle.db_state.specs.Effects.{KeepsOthers}
use Rattle.db_state.specs.Locked.{WritesOwn}
use Rattle.db_state.specs.Reads.{Reads}
use Rattle.db_state.specs.ReadSteps.{IsViewOfReads}
use Rattle.db_state.specs.State.{State}
use Rattle.db_state.specs.Steps.{IsRunning}
use Rattle.inode_ops.specs.Outcomes.{IsViewOf}
use Rattle.hops_core.specs.declared.view.Asked.{Asked}

-- ---- what is looked up for a call

-- the session is to answer the call of a client that acts for some user, and has read something for it
pub record IsToAnswer (state : State) (s : SessionId) (doing : Session) (reads : Reads) (keys : List (Key × Mode)) (place : Place) (user : List ℕ) : Type 0 where
  pub runs : IsRunning state s doing
  pub stage : doing.stage ≡ Commit reads keys
  pub read : reads.places ≡ place ∷ []
  pub acts : slice_get state.stored.settings.users doing.client.0 ≡ Some user

-- so it is of some session
abbrev pub IsCommitting : State → SessionId → Type 0
IsCommitting state s = (doing : Session) × (reads : Reads) × (keys : List (Key × Mode)) × (place : Place) × (user : List ℕ) × IsToAnswer state s doing reads keys place user

-- it is the session's call, for its client's user, one of few; with whether the last row of its place has a child, the children that
-- are told, and the next free id
pub record IsAskedFor (state : State) (doing : Session) (place : Place) (asked : Asked) : Type 0 where
  pub client : asked.client ≡ doing.client
  pub user : slice_get state.stored.settings.users doing.client.0 ≡ Some asked.user
  pub few : length state.stored.settings.users ≤ most_clients
  pub call : asked.call ≡ doing.call
  pub child : IsLastsChild state.stored.inodes place.found.items asked.has_child
  pub children : asked.children.items ≡ children_told state.stored.inodes doing.call (place ∷ [])
  pub next : asked.next.0 ≡ state.stored.next

-- of whichever session it is
abbrev pub IsAskedIn : State → SessionId → Asked → Type 0
IsAskedIn state s asked = (doing : Session) (reads : Reads) (keys : List (Key × Mode)) (place : Place) → IsRunning state s doing → doing.stage ≡ Commit reads keys
    → reads.places ≡ place ∷ [] → IsAskedFor state doing place asked

-- ---- what comes of it

-- the places, where the first says so of a child
abbrev pub with_child : Bool → List Place → List Place
with_child says [] = []
with_child says (place ∷ places) = record place { has_child = says } ∷ places

-- the view is made of the reads and of what is looked up
pub record IsMadeOf (reads : Reads) (asked : Asked) (view : View) : Type 0 where
  pub places : view.places.items ≡ with_child asked.has_child reads.places
  pub quotas : view.quotas.items ≡ reads.quotas
  pub children : view.children ≡ asked.children
  pub next : view.next ≡ asked.next

-- every such view is one that the call needs
abbrev pub IsEnough : Reads → Asked → Type 0
IsEnough reads asked = (view : View) → IsMadeOf reads asked view → IsViewOf view asked.call

-- the session is at its answer, and has read enough
abbrev pub CanOutcome : Stage → Asked → Type 0
CanOutcome stage asked = (reads : Reads) × (keys : List (Key × Mode)) × (stage ≡ Commit reads keys) × IsEnough reads asked

-- the outcome is that of the call by such a view
pub record IsOutcomeOf (reads : Reads) (asked : Asked) (outcome : Outcome) : Type 0 where
  pub view : View
  pub made : IsMadeOf reads asked view
  pub table : IsCallsTable view asked.client asked.user asked.call outcome
  pub own : WritesOwn view asked.client asked.call outcome
  pub keeps : KeepsOthers view asked.client asked.call outcome

-- so it is by the reads at this stage
abbrev pub IsOutcomeAt : Stage → Asked → Outcome → Type 0
IsOutcomeAt stage asked outcome = (reads : Reads) (keys : List (Key × Mode)) → stage ≡ Commit reads keys → IsOutcomeOf reads asked outcome

-- the session is as far as it was; and where memory sufficed, the outcome is so
abbrev pub Looks : Position → Asked → Position → Result Outcome NoMemory → Type 0
Looks old asked new told = (new ≡ old) × IfOk told (IsOutcomeAt old.stage asked)

-- the outcome is that of the session's call, for its client's user, by a view of what it has read
pub record IsOutcomeIn (state : State) (doing : Session) (reads : Reads) (outcome : Outcome) : Type 0 where
  pub view : View
  pub user : List ℕ
  pub acts : slice_get state.stored.settings.users doing.client.0 ≡ Some user
  pub viewed : IsViewOfReads state.stored.inodes state.stored.next doing.call reads view
  pub table : IsCallsTable view doing.client user doing.call outcome
  pub own : WritesOwn view doing.client doing.call outcome
  pub keeps : KeepsOthers view doing.client doing.call outcome

-- of whichever session it is
abbrev pub IsOutcome : State → SessionId → Outcome → Type 0
IsOutcome state s outcome = (doing : Session) (reads : Reads) (keys : List (Key × Mode)) → IsRunning state s doing → doing.stage ≡ Commit reads keys
    → IsOutcomeIn state doing reads outcome
