use Rattle.std.proofs.Common.{refl, sym, ◌∙◌, true, false, ◌≡◌}
use Rattle.hops_base.specs.declared.ids.Mode.TheVariants.{Shared}
use Rattle.hops_base.specs.Key.{key_cmp}
use Rattle.row_locks.specs.Samples.{session, low, two_share}
use Rattle.row_locks.proofs.SampleLemmas.{away_is, free_of}
use Rattle.row_locks.proofs.examples.shared_locks_go_together.Goals as goal

pub returns-clause-together : goal.returns-clause-together
unfolding key_cmp
returns-clause-together c = free_of two_share (session 3) low Shared refl

pub returns-clause-kept_away : goal.returns-clause-kept_away
unfolding key_cmp
returns-clause-kept_away c = λ h. let bad : false ≡ true = sym (away_is two_share (session 3) low Shared (session 1)) ∙ h.keeps in cc
