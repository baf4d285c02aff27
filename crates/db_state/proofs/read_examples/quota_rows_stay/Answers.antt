use Rattle.std.proofs.Common.{◌≡◌, ℕ, Some, None, ap, ◌∙◌, arith}
use Rattle.std.specs.Prelude.{unwrap_or}
use Rattle.hops_base.specs.Key.{key_cmp}
use Rattle.quota_table.specs.declared.quota.QuotaRow.{QuotaRow}
use Rattle.db_state.specs.ReadSamples.{names_for_d}
use Rattle.db_state.proofs.ReadSampleLemmas.{quota_is}
use Rattle.db_state.proofs.read_examples.quota_rows_stay.Goals as goal

pub returns-clause-another : goal.returns-clause-another
unfolding key_cmp
returns-clause-another c stand =
    let same : Some (names_for_d 8).1 ≡ Some (names_for_d 9).1 = stand.quotas.rows (record { 0 = 2 }) ∙ quota_is (names_for_d 9).1 in
    let one : (names_for_d 8).1 ≡ (names_for_d 9).1 = cc in
    let bad : ◌≡◌ {A = ℕ} 8 9 = ap (λ (quota : QuotaRow). unwrap_or quota.max_names 0) one in
    omega arith

pub returns-clause-not_read : goal.returns-clause-not_read
unfolding key_cmp
returns-clause-not_read c stand = let bad : None ≡ Some (names_for_d 9).1 = stand.quotas.rows (record { 0 = 2 }) ∙ quota_is (names_for_d 9).1 in cc
