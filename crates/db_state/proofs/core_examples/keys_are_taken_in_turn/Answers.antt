use Rattle.std.proofs.Common.{◌≡◌, Some, None, IsSome, refl, sym, ap, subst, ◌∙◌}
use Rattle.hops_base.specs.Ids.{session}
use Rattle.hops_base.specs.Key.{key_cmp}
use Rattle.hops_base.specs.declared.ids.Mode.{Mode}
use Rattle.hops_base.specs.declared.ids.Mode.TheVariants.{Shared, Exclusive}
use Rattle.hops_base.specs.declared.key.Key.{Key}
use Rattle.row_locks.specs.Locks.{mode_of}
use Rattle.commit_log.specs.Samples.{d_key}
use Rattle.db_state.specs.declared.session.Session.{Session}
use Rattle.db_state.specs.Stages.{next_key}
use Rattle.db_state.specs.ReadSamples.{x_key, alone}
use Rattle.db_state.specs.CoreSamples.{first_at, at_key, one_lock, holder}
use Rattle.db_state.proofs.CoreSampleLemmas.{first_there, lock_at}
use Rattle.db_state.proofs.core_examples.keys_are_taken_in_turn.Goals as goal

pub returns-clause-waits : goal.returns-clause-waits
unfolding key_cmp
returns-clause-waits c = record {
  doing = first_at (at_key 0 (alone d_key));
  next = (d_key, Exclusive);
  there = first_there (first_at (at_key 0 (alone d_key)));
  asks = refl;
  holds = subst IsSome (sym (lock_at 2 d_key Shared (session 2) d_key)) refl;
}

pub returns-clause-for_no_other : goal.returns-clause-for_no_other
returns-clause-for_no_other c waits = let bad = subst IsSome (lock_at 2 d_key Shared (session 3) waits.next.0) waits.holds in cc

pub returns-clause-another_key : goal.returns-clause-another_key
unfolding key_cmp
returns-clause-another_key c waits =
    let there : Some waits.doing ≡ Some (first_at (at_key 0 (alone d_key))) = sym waits.there ∙ first_there (first_at (at_key 0 (alone d_key))) in
    let one : waits.doing ≡ first_at (at_key 0 (alone d_key)) = cc in
    let asks : Some (d_key, Exclusive) ≡ Some waits.next = sym (ap (λ (doing : Session). next_key doing.stage) one) ∙ waits.asks in
    let next : waits.next ≡ (d_key, Exclusive) = cc in
    let bad = subst IsSome (ap (λ (k : Key × Mode). mode_of (one_lock 2 x_key Shared) (session 2) k.0) next ∙ lock_at 2 x_key Shared (session 2) d_key) waits.holds in
    cc

pub returns-clause-has_them : goal.returns-clause-has_them
returns-clause-has_them c waits =
    let there : Some waits.doing ≡ Some holder = sym waits.there ∙ first_there holder in
    let one : waits.doing ≡ holder = cc in
    let bad : None ≡ Some waits.next = sym (ap (λ (doing : Session). next_key doing.stage) one) ∙ waits.asks in
    cc
