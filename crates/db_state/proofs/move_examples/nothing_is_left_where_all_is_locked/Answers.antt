use Rattle.std.proofs.Common.{◌≡◌, true, None, Some, refl}
use Rattle.std.specs.FinMap as map
use Rattle.hops_base.specs.Key.{key_cmp}
use Rattle.hops_base.specs.declared.key.Key.{Key}
use Rattle.inode_table.specs.declared.inode.Inode.{Inode}
use Rattle.db_state.specs.Current.{is_locked}
use Rattle.db_state.specs.ReadSteps.{IsReadAgain, IsPlaceRead}
use Rattle.db_state.specs.ReadSamples.{d_row, x_row, rows, whole}
use Rattle.db_state.specs.CoreSamples.{d_and_x}
use Rattle.db_state.proofs.ReadSampleLemmas.{d_is, x_is}
use Rattle.db_state.proofs.move_examples.nothing_is_left_where_all_is_locked.Goals as goal

-- a row that is the table's is read again, locked or not
read_again : (at : Key) (row : Inode) → (is_locked d_and_x at ≡ true → map.get (rows d_row x_row) at ≡ Some row) → IsReadAgain (rows d_row x_row) d_and_x (at, row) (at, row)
read_again at row is = record { key = refl; same = record { id = refl; kind = refl; writer = refl; has_quota = refl }; held = is; other = λ free. refl }

place_read : IsPlaceRead (rows d_row x_row) d_and_x None (whole d_row x_row) (whole d_row x_row)
unfolding key_cmp
place_read = record {
  path = refl;
  same_missing = refl;
  rows = (read_again _ _ (λ lock. absurd (let bad = lock in cc)), (read_again _ _ (λ lock. d_is d_row x_row), (read_again _ _ (λ lock. x_is d_row x_row), tt)));
  missing = tt;
  unflagged = refl;
}

pub returns-clause-at_once : goal.returns-clause-at_once
unfolding key_cmp
returns-clause-at_once c = ((place_read, tt), refl, refl)
