-- All that the core keeps, in groups. This project's own.
use Rattle.std.specs.Prelude.{ℕ, List, None, map as list_map}
use Rattle.std.specs.FinMap as map
use Rattle.std.specs.Ordering.{nat_cmp}
use Rattle.row_locks.specs.Locks.{Locks}
use Rattle.db_state.specs.Stored.{Stored, opening_stored}
use Rattle.db_state.specs.Settings.{Settings}
use Rattle.db_state.specs.declared.session.Seat.{Seat}
use Rattle.db_state.specs.declared.session.Session.{Session}

-- the sessions by their numbers: each client's open or last one
abbrev pub Sessions : Type 0
Sessions = map.FinMap nat_cmp Session

-- the tables with the book, the settings and the next free id; the locks; the clients' seats; and the sessions
pub record State : Type 0 where
  pub stored : Stored
  pub locks : Locks
  pub seats : List Seat
  pub sessions : Sessions

-- the seat of a client that hasn't called yet
abbrev pub empty_seat : Seat
empty_seat = record { begun = 0; answered = 0; last = None }

-- all of it before anything happened, with these settings
abbrev pub opening_state : Settings → State
opening_state settings = record {
  stored = opening_stored settings;
  locks = map.empty;
  seats = list_map (λ (user : List ℕ). empty_seat) settings.users;
  sessions = map.empty;
}
