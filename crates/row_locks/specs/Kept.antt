-- How a lock table keeps its locks: the holders of each key, and the keys of each session.
use Rattle.std.specs.Prelude.{◌≡◌, ℕ, nat_eq, List, [], ◌∷◌, ◌++◌, map, is_some}
use Rattle.std.specs.List.{IsDistinct, list_any}
use Rattle.std.specs.BTreeMap.{BTreeMap}
use Rattle.std.specs.declared.cmp.Ordering.{Ordering}
use Rattle.std.specs.declared.vec.Vec.{Vec}
use Rattle.std.specs.Ordering.{nat_cmp, on}
use Rattle.hops_base.specs.declared.ids.SessionId.{SessionId}
use Rattle.hops_base.specs.declared.ids.Mode.{Mode}
use Rattle.hops_base.specs.declared.key.Key.{Key}
use Rattle.hops_base.specs.Key.{key_cmp, same_key}
use Rattle.row_locks.specs.declared.holders.Holder.{Holder}
use Rattle.row_locks.specs.Holders.{mode_in, session_number}
use Rattle.row_locks.specs.Lists.{items_at, IsLists}

-- sessions rise by their numbers
abbrev pub holder_session_cmp : SessionId → SessionId → Ordering
holder_session_cmp = on (λ (s : SessionId). s.0) nat_cmp

-- the locks of these holders of the key
abbrev pub locks_of : Key → List Holder → List ((ℕ × Key) × Mode)
locks_of key holders = map (λ (holder : Holder). ((holder.session.0, key), holder.mode)) holders

-- the locks of the holders of all keys
abbrev pub locks_in : {Z : Type 0} → List (Key × Vec Holder Z) → List ((ℕ × Key) × Mode)
locks_in [] = []
locks_in ((key, holders) ∷ entries) = locks_of key holders.items ++ locks_in entries

-- a lock stands once among the holders of its key and once among the keys of its session, and nothing else stands there
pub record AreTied (holders_at : Key → List Holder) (keys_at : SessionId → List Key) : Type 0 where
  pub holders_once : (key : Key) → IsDistinct nat_eq (map session_number (holders_at key))
  pub keys_once : (s : SessionId) → IsDistinct same_key (keys_at s)
  pub both : (s : SessionId) (key : Key) → list_any (same_key key) (keys_at s) ≡ is_some (mode_in (holders_at key) s)

-- both maps keep the same locks, and no empty list
pub record AreKept {Z : Type 0} (holders : BTreeMap Key (Vec Holder Z)) (keys : BTreeMap SessionId (Vec Key Z)) : Type 0 where
  pub by_key : IsLists key_cmp holders
  pub by_session : IsLists holder_session_cmp keys
  pub tied : AreTied (items_at key_cmp holders) (items_at holder_session_cmp keys)
