use Rattle.std.proofs.Common.{refl, sym, ◌∙◌, arith, true, false, ◌≡◌, ◌≤◌}
use Rattle.hops_base.specs.declared.ids.Mode.TheVariants.{Shared, Exclusive}
use Rattle.hops_base.specs.Key.{key_cmp}
use Rattle.row_locks.specs.Samples.{session, low, two_share, one_alone}
use Rattle.row_locks.proofs.SampleLemmas.{away_is, least_of}
use Rattle.row_locks.proofs.examples.the_least_session_is_told.Goals as goal

pub returns-clause-least : goal.returns-clause-least
unfolding key_cmp
returns-clause-least c = least_of two_share (session 3) low Exclusive (session 1) refl refl

pub returns-clause-greatest : goal.returns-clause-greatest
unfolding key_cmp
returns-clause-greatest c = λ h. let bad : 2 ≤ 1 = h.least (session 1) (away_is two_share (session 3) low Exclusive (session 1)) in omega arith

pub returns-clause-nobody : goal.returns-clause-nobody
unfolding key_cmp
returns-clause-nobody c = λ h. let bad : true ≡ false = sym (away_is two_share (session 3) low Exclusive (session 1)) ∙ h (session 1) in cc

pub returns-clause-a_stranger : goal.returns-clause-a_stranger
unfolding key_cmp
returns-clause-a_stranger c = λ h. let bad : false ≡ true = sym (away_is two_share (session 3) low Exclusive (session 4)) ∙ h.keeps in cc

pub returns-clause-alone : goal.returns-clause-alone
unfolding key_cmp
returns-clause-alone c = least_of one_alone (session 3) low Shared (session 1) refl refl
