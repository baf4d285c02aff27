use Rattle.std.proofs.Common.{◌≡◌, ℕ, Some, None, refl, sym, ap, ◌∙◌, arith}
use Rattle.hops_base.specs.Key.{key_cmp}
use Rattle.hops_base.specs.Ids.{client}
use Rattle.inode_table.specs.declared.inode.Inode.{Inode}
use Rattle.db_state.specs.ReadSamples.{d_row, x_row, written_by, with_mode}
use Rattle.db_state.proofs.ReadSampleLemmas.{d_is, x_is, x_gone}
use Rattle.db_state.proofs.read_examples.locked_rows_stay.Goals as goal

pub returns-clause-another_writer : goal.returns-clause-another_writer
unfolding key_cmp
returns-clause-another_writer c stand =
    let same : Some (written_by 1 x_row) ≡ Some x_row = sym (x_is d_row (written_by 1 x_row)) ∙ stand.chains.0.held.1.1.0 refl in
    let one : written_by 1 x_row ≡ x_row = cc in
    let bad : Some (client 1) ≡ None = ap (λ (row : Inode). row.writer) one in
    cc

pub returns-clause-another_mode : goal.returns-clause-another_mode
unfolding key_cmp
returns-clause-another_mode c stand =
    let same : Some (with_mode 448 x_row) ≡ Some x_row = sym (x_is d_row (with_mode 448 x_row)) ∙ stand.chains.0.held.1.1.0 refl in
    let one : with_mode 448 x_row ≡ x_row = cc in
    let bad : ◌≡◌ {A = ℕ} 448 420 = ap (λ (row : Inode). row.mode) one in
    omega arith

pub returns-clause-gone : goal.returns-clause-gone
unfolding key_cmp
returns-clause-gone c stand = let bad : None ≡ Some x_row = sym (x_gone d_row) ∙ stand.chains.0.held.1.1.0 refl in cc

pub returns-clause-above_the_mark : goal.returns-clause-above_the_mark
unfolding key_cmp
returns-clause-above_the_mark c stand =
    let same : Some (with_mode 448 d_row) ≡ Some d_row = sym (d_is (with_mode 448 d_row) x_row) ∙ stand.chains.0.held.1.0 refl in
    let one : with_mode 448 d_row ≡ d_row = cc in
    let bad : ◌≡◌ {A = ℕ} 448 493 = ap (λ (row : Inode). row.mode) one in
    omega arith
