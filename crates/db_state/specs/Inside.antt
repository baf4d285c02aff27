-- What the whole keeps inside, beside what is seen of it.
use Rattle.std.specs.Prelude.{◌≡◌, ℕ, Bool, true, false, if◌then◌else◌, ◌+◌, ◌≤◌, List, [], ◌∷◌, length, Option, Some, None}
use Rattle.std.specs.List.{sum_by}
use Rattle.std.specs.FinMap as map
use Rattle.hops_base.specs.declared.ids.SessionId.{SessionId}
use Rattle.hops_base.specs.declared.key.Key.{Key}
use Rattle.row_locks.specs.Locks.{Locks}
use Rattle.commit_log.specs.declared.note.Note.{Note}
use Rattle.commit_log.specs.declared.note.Note.TheVariants.{Gave}
use Rattle.commit_log.specs.Orderly.{openings}
use Rattle.db_state.specs.declared.session.Seat.{Seat}
use Rattle.db_state.specs.declared.session.Session.{Session}
use Rattle.db_state.specs.declared.tables.Tables.{Tables}
use Rattle.db_state.specs.Settings.{Settings, IsSettings}
use Rattle.db_state.specs.Core.{IsCore}
use Rattle.db_state.specs.Stored.{root_key}
use Rattle.db_state.specs.Stages.{keys_in}
use Rattle.db_state.specs.State.{State, Sessions}

-- all of it as it is seen
abbrev pub whole_state : Tables → Settings → List Note → ℕ → Locks → List Seat → Sessions → State
whole_state tables settings notes next locks seats sessions = record {
  stored = record { inodes = tables.inodes.rows; quotas = tables.quotas.rows; settings = settings; notes = notes; next = next };
  locks = locks;
  seats = seats;
  sessions = sessions;
}

-- there are any
abbrev pub has_any : {A : Type 0} → List A → Bool
has_any [] = false
has_any (x ∷ xs) = true

-- 1 where it is so, else 0
abbrev pub one_if : Bool → ℕ
one_if so = if so then 1 else 0

-- 1 where the session is there and holds a key, else 0
abbrev pub one_if_holding : Option Session → ℕ
one_if_holding None = 0
one_if_holding (Some doing) = one_if (has_any (keys_in doing.stage))

-- the session of this number, where one is named
abbrev pub named_session : Sessions → Option SessionId → Option Session
named_session sessions None = None
named_session sessions (Some s) = map.get sessions s.0

-- how many of the clients' last sessions hold keys
abbrev pub holders : List Seat → Sessions → ℕ
holders seats sessions = sum_by (λ (seat : Seat). one_if_holding (named_session sessions seat.last)) seats

-- the sessions that were opened are counted, and those that hold keys; for each of these the book has room for one note more
pub record IsCounted (seats : List Seat) (sessions : Sessions) (notes : List Note) (most counted keeping : ℕ) : Type 0 where
  pub opened : counted ≡ openings notes
  pub holding : keeping ≡ holders seats sessions
  pub room : length notes + keeping ≤ most

-- the note by which a session gives back what it holds, where it holds anything
abbrev pub gave_by : SessionId → Bool → List Note
gave_by s true = Gave s ∷ []
gave_by s false = []

-- what always holds of all that is kept
pub record IsInside (state : State) (top : Key) (most counted keeping : ℕ) : Type 0 where
  pub core : IsCore state
  pub top_key : top ≡ root_key
  pub settings : IsSettings state.stored.settings
  pub counts : IsCounted state.seats state.sessions state.stored.notes most counted keeping
