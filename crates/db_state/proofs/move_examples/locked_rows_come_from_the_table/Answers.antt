use Rattle.std.proofs.Common.{◌≡◌, ℕ, false, None, Some, refl, sym, ap, ◌∙◌, arith}
use Rattle.hops_base.specs.Key.{key_cmp}
use Rattle.hops_base.specs.declared.key.Key.{Key}
use Rattle.inode_table.specs.declared.inode.Inode.{Inode}
use Rattle.db_state.specs.Current.{is_locked}
use Rattle.db_state.specs.Stored.{Inodes}
use Rattle.db_state.specs.ReadSteps.{IsReadAgain, IsPlaceRead}
use Rattle.db_state.specs.ReadSamples.{d_row, x_row, x_key, with_mode, rows, whole, alone}
use Rattle.db_state.proofs.ReadSampleLemmas.{x_is}
use Rattle.db_state.proofs.move_examples.locked_rows_come_from_the_table.Goals as goal

-- a row that isn't locked stays
stays : (inodes : Inodes) (at : Key) (row : Inode) → is_locked (alone x_key) at ≡ false → IsReadAgain inodes (alone x_key) (at, row) (at, row)
stays inodes at row free = record { key = refl; same = record { id = refl; kind = refl; writer = refl; has_quota = refl }; held = λ lock. absurd (let bad = sym lock ∙ free in cc); other = λ f. refl }

-- the place of /d/x, read again where its row has this mode now
read_again : (mode : ℕ) → IsPlaceRead (rows d_row (with_mode mode x_row)) (alone x_key) None (whole d_row x_row) (whole d_row (with_mode mode x_row))
unfolding key_cmp
read_again mode = record {
  path = refl;
  same_missing = refl;
  rows = (stays _ _ _ refl, (stays _ _ _ refl, (record { key = refl; same = record { id = refl; kind = refl; writer = refl; has_quota = refl }; held = λ lock. x_is d_row (with_mode mode x_row); other = λ free. absurd (let bad = free in cc) }, tt)));
  missing = tt;
  unflagged = refl;
}

pub returns-clause-as_found : goal.returns-clause-as_found
unfolding key_cmp
returns-clause-as_found c = ((read_again 420, tt), refl, (λ none. let bad = none in cc), refl)

pub returns-clause-the_tables : goal.returns-clause-the_tables
unfolding key_cmp
returns-clause-the_tables c = ((read_again 448, tt), refl, (λ none. let bad = none in cc), refl)

pub returns-clause-not_the_tables : goal.returns-clause-not_the_tables
unfolding key_cmp
returns-clause-not_the_tables c goes =
    let same : Some (with_mode 448 x_row) ≡ Some x_row = sym (x_is d_row (with_mode 448 x_row)) ∙ goes.0.0.rows.1.1.0.held refl in
    let one : with_mode 448 x_row ≡ x_row = cc in
    let bad : ◌≡◌ {A = ℕ} 448 420 = ap (λ (row : Inode). row.mode) one in
    omega arith
