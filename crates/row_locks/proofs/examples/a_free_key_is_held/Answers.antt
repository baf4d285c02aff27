use Rattle.std.proofs.Common.{refl, sym, ◌∙◌, ◌∷◌, [], true, false, ◌≡◌}
use Rattle.hops_base.specs.declared.ids.Mode.TheVariants.{Shared, Exclusive}
use Rattle.hops_base.specs.Key.{key_cmp}
use Rattle.row_locks.specs.Samples.{session, low, high, one_shares, two_share, one_alone}
use Rattle.row_locks.proofs.SampleLemmas.{away_is, free_of, same_modes}
use Rattle.row_locks.proofs.examples.a_free_key_is_held.Goals as goal

pub returns-clause-held : goal.returns-clause-held
unfolding key_cmp
returns-clause-held c = (free_of one_shares (session 2) low Shared refl, refl)

pub returns-clause-not_added : goal.returns-clause-not_added
unfolding key_cmp
returns-clause-not_added c = λ h. let bad = same_modes one_shares two_share (session 2) low h.1 in cc

pub returns-clause-in_another_mode : goal.returns-clause-in_another_mode
unfolding key_cmp
returns-clause-in_another_mode c = λ h. let bad = same_modes one_alone one_shares (session 1) low h.1 in cc

pub returns-clause-others_are_lost : goal.returns-clause-others_are_lost
unfolding key_cmp
returns-clause-others_are_lost c = λ h. let bad = same_modes ((2, low, Shared) ∷ []) two_share (session 1) low h.1 in cc

pub returns-clause-of_another_key : goal.returns-clause-of_another_key
unfolding key_cmp
returns-clause-of_another_key c = λ h. let bad = same_modes one_shares ((1, high, Shared) ∷ []) (session 1) low h.1 in cc

pub returns-clause-in_the_way : goal.returns-clause-in_the_way
unfolding key_cmp
returns-clause-in_the_way c = λ h. let bad : true ≡ false = sym (away_is one_shares (session 2) low Exclusive (session 1)) ∙ h.0 (session 1) in cc
