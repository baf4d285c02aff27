-- The locks that a book says are held, and when they are sound. This project's own.
use Rattle.std.specs.Prelude.{◌≡◌, Bool, true, false, not, ◌&&◌, ◌||◌, ◌==◌, List, [], ◌∷◌, ◌++◌}
use Rattle.std.specs.List.{filter, list_any, list_all}
use Rattle.std.specs.Ordering.{is_lt}
use Rattle.hops_base.specs.declared.ids.SessionId.{SessionId}
use Rattle.hops_base.specs.declared.ids.Mode.{Mode}
use Rattle.hops_base.specs.Mode.{conflict}
use Rattle.hops_base.specs.declared.key.Key.{Key}
use Rattle.hops_base.specs.Key.{key_cmp, same_key}
use Rattle.commit_log.specs.declared.note.Note.{Note}
use Rattle.commit_log.specs.declared.note.Note.TheVariants.{Open, Took, Gave, Wrote, Did, Cut, Met, Gone}
use Rattle.commit_log.specs.Along.{Each}
use Rattle.commit_log.specs.Parts.{Where, is_at, Taking, took}

-- the lock is the session's
abbrev pub is_of : SessionId → Taking → Bool
is_of s lock = lock.session.0 == s.0

-- the locks after a note: a Took adds one; a Gave or a Did takes away those of its session; a Gone those of the
-- sessions that were opened there before
abbrev pub held_after : List Note → List Taking → Note → List Taking
held_after before locks (Open s client number node) = locks
held_after before locks (Took s key mode) = locks ++ record { session = s; key = key; mode = mode } ∷ []
held_after before locks (Gave s) = filter (λ (lock : Taking). not (is_of s lock)) locks
held_after before locks (Wrote s work) = locks
held_after before locks (Did s client number call reads reply) = filter (λ (lock : Taking). not (is_of s lock)) locks
held_after before locks (Cut op path gone) = locks
held_after before locks (Met s cause) = locks
held_after before locks (Gone node ended) = filter (λ (lock : Taking). not (is_at before node lock.session)) locks

-- the locks after these notes
abbrev pub held_from : List Note → List Taking → List Note → List Taking
held_from before locks [] = locks
held_from before locks (note ∷ notes) = held_from (before ++ note ∷ []) (held_after before locks note) notes

-- the locks that are held at the end of these notes, in the order in which they were taken
unfoldable pub held : List Note → List Taking
held notes = held_from [] [] notes

-- the lock keeps another session from the key in this mode
abbrev pub clashes : SessionId → Key → Mode → Taking → Bool
clashes s key mode lock = not (is_of s lock) && same_key key lock.key && conflict mode lock.mode

-- the key is above the lock's, where that is the session's
abbrev pub is_above : SessionId → Key → Taking → Bool
is_above s key lock = not (is_of s lock) || is_lt (key_cmp lock.key key)

-- what is taken conflicts with no lock of another session, and is above all that its own session holds
abbrev pub SoundAt : List Note → Note → Type 0
SoundAt before note = Where (λ (t : Taking).
    (list_any (clashes t.session t.key t.mode) (held before) ≡ false)
    × (list_all (is_above t.session t.key) (held before) ≡ true)) (took note)

-- every lock is taken so
abbrev pub Sound : List Note → Type 0
Sound notes = Each SoundAt notes
