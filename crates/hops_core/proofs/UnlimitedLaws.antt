-- No row that a session finds has a quota, while no directory has one.
use Rattle.std.proofs.Common.{◌≡◌, false, List, [], ◌∷◌, Option, Some, None, refl, ◌∙◌}
use Rattle.std.specs.FinMap as map
use Rattle.std.specs.List.{flat_map, AllByRecursion}
use Rattle.hops_base.specs.declared.ids.Mode.{Mode}
use Rattle.hops_base.specs.declared.key.Key.{Key}
use Rattle.name_space.specs.Namespace.{Path}
use Rattle.inode_table.specs.declared.inode.Inode.{Inode}
use Rattle.db_state.specs.declared.view.Place.{Place}
use Rattle.db_state.proofs.AllLemmas.{all_front, all_back, all_both}
use Rattle.db_state.specs.Moves.{AreReadAgain}
use Rattle.db_state.specs.ReadSteps.{AllPairs, IsReadAgain}
use Rattle.db_state.specs.Stored.{Inodes}
use Rattle.path_resolver.specs.Resolving.{begun, next_read, read_at, read_on, with_read}

-- the row has no quota
abbrev pub IsUnlimited : Key × Inode → Type 0
IsUnlimited r = r.1.has_quota ≡ false

-- nor has any of these
abbrev pub AreUnlimited : List (Key × Inode) → Type 0
AreUnlimited rows = AllByRecursion IsUnlimited rows

-- the rows of these places
abbrev pub rows_of : List Place → List (Key × Inode)
rows_of places = flat_map (λ (place : Place). place.found.items) places

module _ (inodes : Inodes) (none : (at : Key) (row : Inode) → map.get inodes at ≡ Some row → row.has_quota ≡ false) where
  read_unlimited : (rows : List (Key × Inode)) (at : Option Key) → AreUnlimited rows → AreUnlimited (read_at inodes rows at).0
  read_unlimited rows None all = all
  read_unlimited rows (Some at) all = (elim (map.get inodes at) as (λ o. map.get inodes at ≡ o → AreUnlimited (with_read rows at o).0) [
    | None ↦ λ is. all
    | Some row ↦ λ is. all_both IsUnlimited rows ((at, row) ∷ []) all (none at row is, tt)
  ]) refl

  begun_unlimited : (found : List (Key × Inode)) → AreUnlimited found → AreUnlimited (begun found)
  begun_unlimited [] all = (refl, tt)
  begun_unlimited (row ∷ rows) all = all

  -- one read further
  pub got_unlimited : (path : Path) (found : List (Key × Inode)) → AreUnlimited found → AreUnlimited (read_on inodes path found).0
  got_unlimited path found all = read_unlimited (begun found) (next_read path (begun found)) (begun_unlimited found all)

-- rows that are read again have none where they had none
again_unlimited : (inodes : Inodes) (locked : List (Key × Mode)) (olds news : List (Key × Inode)) → AllPairs (IsReadAgain inodes locked) olds news → AreUnlimited olds → AreUnlimited news
again_unlimited inodes locked [] [] pairs all = tt
again_unlimited inodes locked [] (y ∷ ys) pairs all = absurd pairs
again_unlimited inodes locked (x ∷ xs) [] pairs all = absurd pairs
again_unlimited inodes locked (x ∷ xs) (y ∷ ys) pairs all = (pairs.0.same.has_quota ∙ all.0, again_unlimited inodes locked xs ys pairs.1 all.1)

pub places_unlimited : (inodes : Inodes) (locked : List (Key × Mode)) (olds news : List Place) → AreReadAgain inodes locked olds news → AreUnlimited (rows_of olds) → AreUnlimited (rows_of news)
places_unlimited inodes locked [] [] pairs all = tt
places_unlimited inodes locked [] (y ∷ ys) pairs all = absurd pairs
places_unlimited inodes locked (x ∷ xs) [] pairs all = absurd pairs
places_unlimited inodes locked (x ∷ xs) (y ∷ ys) pairs all =
    all_both IsUnlimited y.found.items (rows_of ys) (again_unlimited inodes locked x.found.items y.found.items pairs.0.rows (all_front IsUnlimited x.found.items (rows_of xs) all))
    (places_unlimited inodes locked xs ys pairs.1 (all_back IsUnlimited x.found.items (rows_of xs) all))
