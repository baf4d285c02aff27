use Rattle.std.proofs.Common.{◌≡◌, true, false, ◌∷◌, [], refl, sym, ◌∙◌}
use Rattle.hops_base.specs.declared.ids.Mode.TheVariants.{Shared, Exclusive}
use Rattle.hops_base.specs.Key.{key_cmp}
use Rattle.row_locks.specs.Samples.{session, low, table_of, one_shares}
use Rattle.row_locks.proofs.LockLaws.{apart-none, apart-insert}
use Rattle.row_locks.proofs.SampleLemmas.{away_is, free_of, mode_is}
use Rattle.row_locks.proofs.examples.locks_that_clash_are_not_apart.Goals as goal

pub returns-clause-apart : goal.returns-clause-apart
unfolding key_cmp
returns-clause-apart c = apart-insert (table_of one_shares) (session 2) low Shared (free_of one_shares (session 2) low Shared refl) (apart-insert (table_of []) (session 1) low Shared (free_of [] (session 1) low Shared refl) apart-none)

pub returns-clause-alone : goal.returns-clause-alone
unfolding key_cmp
returns-clause-alone c = apart-insert (table_of []) (session 1) low Exclusive (free_of [] (session 1) low Exclusive refl) apart-none

pub returns-clause-clash : goal.returns-clause-clash
unfolding key_cmp
returns-clause-clash c = λ h.
    let locks = (2, low, Exclusive) ∷ one_shares in
    let bad : true ≡ false = sym (away_is locks (session 1) low Shared (session 2)) ∙ h (session 1) (session 2) low Shared (mode_is locks (session 1) low) in
    cc
