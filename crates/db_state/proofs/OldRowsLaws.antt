-- The rows that a session has found have ids below the next free one, and so have those that it finds next.
use Rattle.std.proofs.Common.{ℕ, ◌<◌, ◌≤◌, List, [], ◌∷◌, ◌++◌, None, arith, sym, ap, subst}
use Rattle.std.specs.List.{flat_map, AllByRecursion}
use Rattle.hops_base.specs.Roomy.{Roomy}
use Rattle.hops_base.specs.declared.ids.Mode.{Mode}
use Rattle.hops_base.specs.declared.ids.SessionId.{SessionId}
use Rattle.hops_base.specs.declared.key.Key.{Key}
use Rattle.inode_table.specs.declared.inode.Inode.{Inode}
use Rattle.db_state.specs.declared.session.Session.{Session}
use Rattle.db_state.specs.declared.session.Stage.{Stage}
use Rattle.db_state.specs.declared.session.Stage.TheVariants.{Resolve, Lock, Read, Reread, Commit, Answered}
use Rattle.db_state.specs.declared.view.Place.{Place}
use Rattle.db_state.specs.Stored.{Inodes, root_key, root_row}
use Rattle.db_state.specs.Spelled.{IsTree}
use Rattle.db_state.specs.PlaceOf.{IsFound}
use Rattle.db_state.specs.ReadSteps.{AllPairs, IsReadAgain, IsPlaceRead, IsAsRead}
use Rattle.db_state.specs.Stages.{rows_in}
use Rattle.db_state.specs.Moves.{LooksFor, IsOneOf, GoesOn}
use Rattle.db_state.proofs.AllLemmas.{all_front, all_back, all_both, all_from, all_paired}
use Rattle.db_state.proofs.SeatLaws.{all-at}

-- ---- rows of old ids

-- the row's id is below the next free one
abbrev pub IsOld : ℕ → Key × Inode → Type 0
IsOld next r = r.1.id.0 < next

-- so are those of the rows that the session has found
abbrev pub HasOldRows : ℕ → SessionId → Session → Type 0
HasOldRows next s session = AllByRecursion (IsOld next) (rows_in session.stage)

-- they are below any later one
pub old_later : (next later : ℕ) → next ≤ later → (rows : List (Key × Inode)) → AllByRecursion (IsOld next) rows → AllByRecursion (IsOld later) rows
old_later next later most rows all = all_from (IsOld later) (IsOld next) (λ r low. let less : r.1.id.0 < next = low in omega arith) rows all

abbrev rows_of : List Place → List (Key × Inode)
rows_of places = flat_map (λ (place : Place). place.found.items) places

module _ (inodes : Inodes) (next : ℕ) where
  -- so are the rows of places of which each has rows that come of those of another
  places_old : (R : Place → Place → Type 0) → ((old new : Place) → R old new → AllByRecursion (IsOld next) old.found.items → AllByRecursion (IsOld next) new.found.items)
      → (olds news : List Place) → AllPairs R olds news → AllByRecursion (IsOld next) (rows_of olds) → AllByRecursion (IsOld next) (rows_of news)
  places_old R gives [] [] pairs all = tt
  places_old R gives [] (new ∷ news) pairs all = absurd pairs
  places_old R gives (old ∷ olds) [] pairs all = absurd pairs
  places_old R gives (old ∷ olds) (new ∷ news) pairs all =
      all_both (IsOld next) new.found.items (rows_of news) (gives old new pairs.0 (all_front (IsOld next) old.found.items (rows_of olds) all))
      (places_old R gives olds news pairs.1 (all_back (IsOld next) old.found.items (rows_of olds) all))

  read_old : (keys : List (Key × Mode)) (old new : Place) → IsPlaceRead inodes keys None old new → AllByRecursion (IsOld next) old.found.items → AllByRecursion (IsOld next) new.found.items
  read_old keys old new is = all_paired (IsOld next) (IsReadAgain inodes keys) (λ r r' again low. subst (λ (n : ℕ). n < next) (sym (ap (λ (id : _). id.0) again.same.id)) low) old.found.items new.found.items is.rows

  as_read_old : (old new : Place) → IsAsRead old new → AllByRecursion (IsOld next) old.found.items → AllByRecursion (IsOld next) new.found.items
  as_read_old old new is all = subst (λ (found : Roomy (Key × Inode)). AllByRecursion (IsOld next) found.items) (sym is.found) all

  -- the rows of a stage that resolves no more are those of its places
  alone : (places : List Place) → AllByRecursion (IsOld next) (rows_of places) → AllByRecursion (IsOld next) (rows_of places ++ [])
  alone places all = all_both (IsOld next) (rows_of places) [] all tt

  of_places : (places : List Place) → AllByRecursion (IsOld next) (rows_of places ++ []) → AllByRecursion (IsOld next) (rows_of places)
  of_places places all = all_front (IsOld next) (rows_of places) [] all

  module _ (tree : IsTree inodes next) where
    root_old : IsOld next (root_key, root_row)
    root_old = (tree.range root_key root_row tree.root).1

    table_old : (r : Key × Inode) → IsFound inodes r → IsOld next r
    table_old r there = (tree.range r.0 r.1 there).1

    found_old : (old new : Stage) → LooksFor inodes old new → AllByRecursion (IsOld next) (rows_in old) → AllByRecursion (IsOld next) (rows_in new)
    found_old old new looks all = subst (AllByRecursion (IsOld next)) (sym looks.rows)
        (all_both (IsOld next) (rows_in old ++ looks.again) looks.found
        (all_both (IsOld next) (rows_in old) looks.again all
        (all_from (IsOld next) (IsOneOf ((root_key, root_row) ∷ rows_in old)) (λ r one. all-at (IsOld next) ((root_key, root_row) ∷ rows_in old) one.0 r (root_old, all) one.1) looks.again looks.before))
        (all_from (IsOld next) (IsFound inodes) table_old looks.found looks.there))

    pub old_on : (old new : Stage) → GoesOn inodes old new → AllByRecursion (λ (r : Key × Inode). r.1.id.0 < next) (rows_in old) → AllByRecursion (λ (r : Key × Inode). r.1.id.0 < next) (rows_in new)
    old_on (Resolve places found) (Resolve places' found') goes all = found_old (Resolve places found) (Resolve places' found') goes all
    old_on (Resolve places found) (Lock places' keys taken) goes all = found_old (Resolve places found) (Lock places' keys taken) goes.0 all
    old_on (Resolve places found) (Read places' keys) goes all = absurd goes
    old_on (Resolve places found) (Reread reads keys) goes all = absurd goes
    old_on (Resolve places found) (Commit reads keys) goes all = absurd goes
    old_on (Resolve places found) Answered goes all = absurd goes
    old_on (Lock places keys taken) new goes all = absurd goes
    old_on (Read places keys) (Resolve places' found) goes all = absurd goes
    old_on (Read places keys) (Lock places' keys' taken) goes all = absurd goes
    old_on (Read places keys) (Read places' keys') goes all = absurd goes
    old_on (Read places keys) (Reread reads keys') goes all = alone reads.places (places_old (IsPlaceRead inodes keys None) (read_old keys) places.items reads.places goes.0 (of_places places.items all))
    old_on (Read places keys) (Commit reads keys') goes all = alone reads.places (places_old (IsPlaceRead inodes keys None) (read_old keys) places.items reads.places goes.0 (of_places places.items all))
    old_on (Read places keys) Answered goes all = absurd goes
    old_on (Reread reads keys) (Resolve places found) goes all = absurd goes
    old_on (Reread reads keys) (Lock places keys' taken) goes all = absurd goes
    old_on (Reread reads keys) (Read places keys') goes all = absurd goes
    old_on (Reread reads keys) (Reread reads' keys') goes all = subst (λ (places : List Place). AllByRecursion (IsOld next) (rows_of places ++ [])) (sym goes.0.places) all
    old_on (Reread reads keys) (Commit reads' keys') goes all = subst (λ (places : List Place). AllByRecursion (IsOld next) (rows_of places ++ [])) (sym goes.0.places) all
    old_on (Reread reads keys) Answered goes all = absurd goes
    old_on (Commit reads keys) (Resolve places found) goes all = absurd goes
    old_on (Commit reads keys) (Lock places keys' taken) goes all = absurd goes
    old_on (Commit reads keys) (Read places keys') goes all = absurd goes
    old_on (Commit reads keys) (Reread reads' keys') goes all = absurd goes
    old_on (Commit reads keys) (Commit reads' keys') goes all = alone reads'.places (places_old IsAsRead as_read_old reads.places reads'.places goes.0.places (of_places reads.places all))
    old_on (Commit reads keys) Answered goes all = absurd goes
    old_on Answered new goes all = absurd goes
