-- The holders of one key.
use Rattle.std.specs.Prelude.{ℕ, Bool, not, ◌&&◌, ◌==◌, nat_lt, List, [], ◌∷◌, Option, Some, None, if◌then◌else◌, map}
use Rattle.std.specs.List.{filter}
use Rattle.hops_base.specs.declared.ids.SessionId.{SessionId}
use Rattle.hops_base.specs.declared.ids.Mode.{Mode}
use Rattle.hops_base.specs.Mode.{conflict}
use Rattle.row_locks.specs.declared.holders.Holder.{Holder}

-- the session of a holder
abbrev pub session_of : Holder → SessionId
session_of holder = holder.session

-- the number of a holder's session
abbrev pub session_number : Holder → ℕ
session_number holder = holder.session.0

-- the holder is this session
abbrev pub is_holder : SessionId → Holder → Bool
is_holder s holder = holder.session.0 == s.0

-- the mode in which the session holds the key
abbrev pub mode_in : List Holder → SessionId → Option Mode
mode_in [] s = None
mode_in (holder ∷ holders) s = if is_holder s holder then Some holder.mode else mode_in holders s

-- the holder is another session, and holds the key in a mode that conflicts
abbrev pub is_in_the_way : SessionId → Mode → Holder → Bool
is_in_the_way s mode holder = not (is_holder s holder) && conflict mode holder.mode

-- the other sessions that hold the key in a mode that conflicts
abbrev pub others_in_the_way : List Holder → SessionId → Mode → List SessionId
others_in_the_way holders s mode = map session_of (filter (is_in_the_way s mode) holders)

-- the lesser of a session and the one that was found before it, if any
abbrev pub lesser : Option SessionId → SessionId → SessionId
lesser None s = s
lesser (Some other) s = if nat_lt other.0 s.0 then other else s

-- the least of these sessions and the one that was found before them, if any
abbrev pub least_after : Option SessionId → List SessionId → Option SessionId
least_after found [] = found
least_after found (s ∷ sessions) = least_after (Some (lesser found s)) sessions

-- the holders without the session
abbrev pub without : List Holder → SessionId → List Holder
without holders s = filter (λ (holder : Holder). not (is_holder s holder)) holders
