-- The locks that sessions hold, and what a lock table answers. This project's own.
use Rattle.std.specs.Prelude.{◌≡◌, ℕ, ◌≤◌, Bool, true, false, not, ◌&&◌, ◌==◌, if◌then◌else◌, Option, Some, None, refl}
use Rattle.std.specs.FinMap as map
use Rattle.std.specs.Coded.{Coded, code_by, coded×, coded_ℕ, coded_bool}
use Rattle.std.specs.Option.{option_map_or}
use Rattle.std.specs.declared.cmp.Ordering.{Ordering}
use Rattle.std.specs.Ordering.{nat_cmp, on, then_cmp}
use Rattle.hops_base.specs.declared.ids.SessionId.{SessionId}
use Rattle.hops_base.specs.declared.ids.Mode.{Mode}
use Rattle.hops_base.specs.declared.ids.Mode.TheVariants.{Shared, Exclusive}
use Rattle.hops_base.specs.declared.key.Key.{Key}
use Rattle.hops_base.specs.Key.{key_cmp, coded_key}
use Rattle.hops_base.specs.Mode.{conflict}
use Rattle.row_locks.specs.declared.ask.Ask.{Ask}
use Rattle.row_locks.specs.declared.ask.Ask.TheVariants.{Held, Busy, NoMemory}

-- locks in order: by the session's number, and then by the key
abbrev pub held_cmp : ℕ × Key → ℕ × Key → Ordering
held_cmp = then_cmp (on (λ (lock : ℕ × Key). lock.0) nat_cmp) (on (λ (lock : ℕ × Key). lock.1) key_cmp)

-- the locks that are held: by session and key, in which mode
abbrev pub Locks : Type 0
Locks = map.FinMap held_cmp Mode

-- the mode in which the session holds the key, if it does
abbrev pub mode_of : Locks → SessionId → Key → Option Mode
mode_of locks s key = map.get locks (s.0, key)

-- t is another session, and holds the key in a mode that conflicts with this one
abbrev pub keeps_away : Locks → SessionId → Key → Mode → SessionId → Bool
keeps_away locks s key mode t = not (t.0 == s.0) && option_map_or (conflict mode) (mode_of locks t key) false

-- no two sessions hold a key in modes that conflict: whoever holds one is kept away by nobody
abbrev pub AreApart : Locks → Type 0
AreApart locks = (s t : SessionId) (key : Key) (mode : Mode) → mode_of locks s key ≡ Some mode → keeps_away locks s key mode t ≡ false

-- no session keeps s away
abbrev pub IsFree : Locks → SessionId → Key → Mode → Type 0
IsFree locks s key mode = (t : SessionId) → keeps_away locks s key mode t ≡ false

-- h is the least session that keeps s away
pub record IsLeastInTheWay (locks : Locks) (s : SessionId) (key : Key) (mode : Mode) (h : SessionId) : Type 0 where
  pub keeps : keeps_away locks s key mode h ≡ true
  pub least : (t : SessionId) → keeps_away locks s key mode t ≡ true → h.0 ≤ t.0

-- who keeps s away: none where nobody does, and else the least
abbrev pub IsConflict : Locks → SessionId → Key → Mode → Option SessionId → Type 0
IsConflict locks s key mode None = IsFree locks s key mode
IsConflict locks s key mode (Some h) = IsLeastInTheWay locks s key mode h

-- what a session that asks for a lock is told, and the locks after it
abbrev pub IsAsked : Locks → SessionId → Key → Mode → Ask → Locks → Type 0
IsAsked old s key mode Held new = IsFree old s key mode × (new ≡ map.insert old (s.0, key) mode)
IsAsked old s key mode (Busy h) new = IsLeastInTheWay old s key mode h × (new ≡ old)
IsAsked old s key mode NoMemory new = IsFree old s key mode × (new ≡ old)

-- s holds no key any more, and each other session holds what it held
abbrev pub IsGivenBack : SessionId → Locks → Locks → Type 0
IsGivenBack s old new = (t : SessionId) (key : Key) → mode_of new t key ≡ (if t.0 == s.0 then None else mode_of old t key)

-- the mode is Shared
abbrev pub is_shared : Mode → Bool
is_shared Shared = true
is_shared Exclusive = false

-- the mode that is Shared, or isn't
abbrev pub mode_if : Bool → Mode
mode_if true = Shared
mode_if false = Exclusive

pub mode_if-is_shared : (mode : Mode) → mode_if (is_shared mode) ≡ mode
mode_if-is_shared Shared = refl
mode_if-is_shared Exclusive = refl

-- locks are stored as entries of a number, a key and a mode
abbrev pub coded_locks : Coded Locks
coded_locks = map.code (coded× coded_ℕ coded_key) (code_by Bool coded_bool is_shared mode_if mode_if-is_shared)
