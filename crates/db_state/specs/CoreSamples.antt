-- Samples: seats, locks, sessions and states of a run of one client. Nothing but the worked examples rests on them.
use Rattle.std.specs.Prelude.{ℕ, true, false, List, [], ◌∷◌, Option, Some}
use Rattle.std.specs.FinMap as map
use Rattle.hops_base.specs.Ids.{session, client, node}
use Rattle.hops_base.specs.declared.ids.SessionId.{SessionId}
use Rattle.hops_base.specs.declared.ids.Mode.{Mode}
use Rattle.hops_base.specs.declared.ids.Mode.TheVariants.{Shared, Exclusive}
use Rattle.hops_base.specs.declared.key.Key.{Key}
use Rattle.hops_base.specs.declared.key.Key.TheVariants as key
use Rattle.row_locks.specs.Locks.{Locks}
use Rattle.commit_log.specs.declared.note.Note.{Note}
use Rattle.commit_log.specs.Samples.{ann_alone, d_key, make, yes, opens, takes, does}
use Rattle.db_state.specs.declared.session.Seat.{Seat}
use Rattle.db_state.specs.declared.session.Session.{Session}
use Rattle.db_state.specs.declared.session.Stage.{Stage}
use Rattle.db_state.specs.declared.session.Stage.TheVariants.{Lock, Read, Answered}
use Rattle.db_state.specs.Settings.{Settings}
use Rattle.db_state.specs.Stored.{opening_stored}
use Rattle.db_state.specs.State.{Sessions, State}
use Rattle.db_state.specs.Steps.{start, no_items, new_session}
use Rattle.db_state.specs.ReadSamples.{x_key, alone}

-- ---- seats and sessions

-- a seat with these numbers of the calls begun and answered, and this last session
abbrev pub seat_with : ℕ → ℕ → Option SessionId → Seat
seat_with begun answered last = record { begun = begun; answered = answered; last = last }

-- the session of the first client's first call, at this stage, opened by the first note
abbrev pub first_at : Stage → Session
first_at stage = record (new_session (client 0) 1 make (node 0) 0) { stage = stage }

-- the sessions where this is number 1, and there is no other
abbrev pub alone_in : Session → Sessions
alone_in session = map.insert map.empty 1 session

-- ---- plans and locks

-- the keys of /d and /d/x in this order
abbrev pub d_and_x : List (Key × Mode)
d_and_x = (d_key, Shared) ∷ (x_key, Exclusive) ∷ []

-- the key at this place of these is the next
abbrev pub at_key : ℕ → List (Key × Mode) → Stage
at_key n keys = Lock no_items keys n

-- all of these are taken
abbrev pub with_all : List (Key × Mode) → Stage
with_all keys = Read no_items keys

-- the session of this number holds this key so, and nobody holds another
abbrev pub one_lock : ℕ → Key → Mode → Locks
one_lock s at mode = map.insert map.empty (s, at) mode

-- the key of the quota row of /d
abbrev pub d_quota : Key
d_quota = key.Quota (record { 0 = 2 })

-- ---- states

-- ann is the only client, at the only namenode
abbrev pub one_client : Settings
one_client = record { namenodes = 1; users = ann_alone; grace = 64; stops = [] }

-- the root alone is there, with this book, these locks, this seat and these sessions
abbrev pub state_with : List Note → Locks → Seat → Sessions → State
state_with notes locks seat sessions =
    record { stored = record (opening_stored one_client) { notes = notes }; locks = locks; seats = seat ∷ []; sessions = sessions }

-- the first session has answered
abbrev pub has_answered : State
has_answered =
    state_with (opens 1 0 1 0 ∷ does 1 0 1 make yes ∷ []) map.empty (seat_with 1 1 (Some (session 1))) (alone_in (first_at Answered))

-- it asks for the key of /d, where these are the locks
abbrev pub asking : Locks → State
asking locks =
    state_with (opens 1 0 1 0 ∷ []) locks (seat_with 1 0 (Some (session 1))) (alone_in (first_at (at_key 0 (alone d_key))))

-- the notes that open the session and take the key of /d for it
abbrev pub took_d : List Note
took_d = opens 1 0 1 0 ∷ takes 1 d_key ∷ []

-- the first session, which has used hints, once it holds that key
abbrev pub holder : Session
holder = record (first_at (with_all (alone d_key))) { used_hints = true }

-- the state in which it holds that key
abbrev pub holding : State
holding = state_with took_d (one_lock 1 d_key Exclusive) (seat_with 1 0 (Some (session 1))) (alone_in holder)

-- it has begun anew, where the book had this length
abbrev pub begun_anew : ℕ → Session
begun_anew since = record (first_at start) { is_first = false; since = since }

-- the state in which it has become this, with this book and these locks
abbrev pub anew : List Note → Locks → Session → State
anew notes locks doing = state_with notes locks (seat_with 1 0 (Some (session 1))) (map.insert (alone_in holder) 1 doing)
