-- What a session reads next is as it was found, where all that it has found is.
use Rattle.std.proofs.Common.{◌≡◌, ℕ, Bool, true, not, List, [], ◌∷◌, drop, take, refl, sym, ◌∙◌}
use Rattle.std.specs.List.{AllByRecursion, filter, flat_map}
use Rattle.hops_base.specs.declared.ids.Mode.{Mode}
use Rattle.hops_base.specs.declared.key.Key.{Key}
use Rattle.inode_table.specs.declared.inode.Inode.{Inode}
use Rattle.db_state.specs.declared.session.Stage.{Stage}
use Rattle.db_state.specs.declared.session.Stage.TheVariants.{Resolve, Lock, Read, Reread, Commit, Answered}
use Rattle.db_state.specs.declared.view.Place.{Place}
use Rattle.db_state.specs.Stored.{Inodes, Stored}
use Rattle.db_state.specs.Consistent.{IsConsistent}
use Rattle.db_state.specs.Current.{is_locked}
use Rattle.db_state.specs.PlaceOf.{IsFound}
use Rattle.db_state.specs.ReadSteps.{IsFoundAgain}
use Rattle.db_state.specs.Stages.{rows_in}
use Rattle.db_state.specs.SessionParts.{IsStillFound}
use Rattle.db_state.specs.Moves.{left_of, left_of_all, left_in, IsReadAsFound}
use Rattle.db_state.proofs.AllLemmas.{all_front, all_back, all_both, all_taken, all_dropped, all_kept, all_turned, first_of, all_from}

-- ---- the rows that are left

all_left : (P : Key × Inode → Type 0) (keys : List (Key × Mode)) (marks : List ℕ) (places : List Place) → AllByRecursion P (flat_map (λ (place : Place). place.found.items) places)
    → AllByRecursion P (left_of_all keys marks places)
all_left P keys [] places all = tt
all_left P keys (mark ∷ marks) [] all = tt
all_left P keys (mark ∷ marks) (place ∷ places) all =
    let rest : List (Key × Inode) = flat_map (λ (p : Place). p.found.items) places in
    let test : Key × Inode → Bool = λ r. not (is_locked keys r.0) in
    all_both P (left_of keys mark place) (left_of_all keys marks places)
    (all_turned P (filter test (drop 1 (take mark place.found.items)))
    (all_kept P test (drop 1 (take mark place.found.items)) (all_dropped P 1 (take mark place.found.items) (all_taken P mark place.found.items (all_front P place.found.items rest all)))))
    (all_left P keys marks places (all_back P place.found.items rest all))

found_again : (inodes : Inodes) (r : Key × Inode) → IsFound inodes r → IsFoundAgain inodes r
found_again inodes r is = record { now = r.1; there = is; same = record { id = refl; kind = refl; writer = refl; has_quota = refl } }

pub read_as_found : (stored : Stored) → IsConsistent stored → (stage : Stage) → IsStillFound stored.inodes stage → IsReadAsFound stored stage
read_as_found stored consistent (Resolve places found) still = tt
read_as_found stored consistent (Lock places keys taken) still = tt
read_as_found stored consistent (Read places keys) still = (
  all_from (λ r. is_locked keys r.0 ≡ true → IsFoundAgain stored.inodes r) (IsFound stored.inodes) (λ r is lock. found_again stored.inodes r is) (rows_in (Read places keys)) still.0,
  all_from _ (IsFound stored.inodes) (λ r is has lock. sym (consistent.stands.marks r.0 r.1 is) ∙ has) (rows_in (Read places keys)) still.0,
  still.1,
)
read_as_found stored consistent (Reread reads keys) still =
    first_of (IsFoundAgain stored.inodes) (left_in keys reads)
    (all_from (IsFoundAgain stored.inodes) (IsFound stored.inodes) (found_again stored.inodes) (left_in keys reads)
    (all_left (IsFound stored.inodes) keys reads.marks reads.places (all_front (IsFound stored.inodes) (flat_map (λ (place : Place). place.found.items) reads.places) [] still.0)))
read_as_found stored consistent (Commit reads keys) still = tt
read_as_found stored consistent Answered still = tt
