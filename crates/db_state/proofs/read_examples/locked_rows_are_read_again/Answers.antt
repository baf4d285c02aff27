use Rattle.std.proofs.Common.{◌≡◌, ℕ, Some, refl, sym, ap, ◌∙◌, arith}
use Rattle.hops_base.specs.Key.{key_cmp}
use Rattle.inode_table.specs.declared.inode.Inode.{Inode}
use Rattle.db_state.specs.ReadSamples.{d_row, x_row, with_mode}
use Rattle.db_state.proofs.ReadSampleLemmas.{x_is}
use Rattle.db_state.proofs.read_examples.locked_rows_are_read_again.Goals as goal

pub returns-clause-taken_over : goal.returns-clause-taken_over
unfolding key_cmp
returns-clause-taken_over c = record { key = refl; same = record { id = refl; kind = refl; writer = refl; has_quota = refl }; held = λ lock. x_is d_row (with_mode 448 x_row); other = λ free. absurd (let bad = free in cc) }

pub returns-clause-left : goal.returns-clause-left
unfolding key_cmp
returns-clause-left c again =
    let same : Some (with_mode 448 x_row) ≡ Some x_row = sym (x_is d_row (with_mode 448 x_row)) ∙ again.held refl in
    let one : with_mode 448 x_row ≡ x_row = cc in
    let bad : ◌≡◌ {A = ℕ} 448 420 = ap (λ (row : Inode). row.mode) one in
    omega arith
