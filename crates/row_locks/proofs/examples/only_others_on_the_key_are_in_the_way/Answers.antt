use Rattle.std.proofs.Common.{refl, sym, ◌∙◌, true, false, ◌≡◌}
use Rattle.hops_base.specs.declared.ids.Mode.TheVariants.{Exclusive}
use Rattle.hops_base.specs.Key.{key_cmp}
use Rattle.row_locks.specs.Samples.{session, low, high, two_share, one_alone}
use Rattle.row_locks.proofs.SampleLemmas.{away_is, free_of, least_of}
use Rattle.row_locks.proofs.examples.only_others_on_the_key_are_in_the_way.Goals as goal

pub returns-clause-own : goal.returns-clause-own
unfolding key_cmp
returns-clause-own c = free_of one_alone (session 1) low Exclusive refl

pub returns-clause-own_beside : goal.returns-clause-own_beside
unfolding key_cmp
returns-clause-own_beside c = least_of two_share (session 1) low Exclusive (session 2) refl refl

pub returns-clause-another_key : goal.returns-clause-another_key
unfolding key_cmp
returns-clause-another_key c = free_of one_alone (session 2) high Exclusive refl

pub returns-clause-another_key_told : goal.returns-clause-another_key_told
unfolding key_cmp
returns-clause-another_key_told c = λ h. let bad : false ≡ true = sym (away_is one_alone (session 2) high Exclusive (session 1)) ∙ h.keeps in cc
