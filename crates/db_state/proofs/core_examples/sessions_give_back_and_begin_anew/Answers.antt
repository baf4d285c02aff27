use Rattle.std.proofs.Common.{◌≡◌, ℕ, true, false, Some, None, refl, sym, ap, ◌∙◌, arith}
use Rattle.std.specs.FinMap as map
use Rattle.hops_base.specs.Ids.{session}
use Rattle.hops_base.specs.Key.{key_cmp}
use Rattle.hops_base.specs.declared.ids.Mode.TheVariants.{Exclusive}
use Rattle.commit_log.specs.Samples.{d_key}
use Rattle.db_state.specs.declared.session.Session.{Session}
use Rattle.db_state.specs.State.{Sessions}
use Rattle.db_state.specs.CoreSamples.{alone_in, holder, begun_anew}
use Rattle.db_state.proofs.CoreSampleLemmas.{put_there, lock_at, given}
use Rattle.db_state.proofs.core_examples.sessions_give_back_and_begin_anew.Goals as goal

-- what was put is what was to be put
same_put : (put wanted : Session) → map.insert (alone_in holder) 1 put ≡ map.insert (alone_in holder) 1 wanted → put ≡ wanted
same_put put wanted is =
    let same : Some put ≡ Some wanted = sym (put_there (alone_in holder) put) ∙ ap (λ (sessions : Sessions). map.get sessions 1) is ∙ put_there (alone_in holder) wanted in
    cc

pub returns-clause-given : goal.returns-clause-given
returns-clause-given c = record { stored = refl; locks = given d_key Exclusive; seats = refl; sessions = refl }

pub returns-clause-still_held : goal.returns-clause-still_held
unfolding key_cmp
returns-clause-still_held c gives = let bad : Some Exclusive ≡ None = sym (lock_at 1 d_key Exclusive (session 1) d_key) ∙ gives.locks (session 1) d_key in cc

pub returns-clause-since_before : goal.returns-clause-since_before
returns-clause-since_before c gives =
    let bad : ◌≡◌ {A = ℕ} 2 3 = ap (λ (doing : Session). doing.since) (same_put (begun_anew 2) (begun_anew 3) gives.sessions) in
    omega arith

pub returns-clause-still_first : goal.returns-clause-still_first
returns-clause-still_first c gives = let bad : true ≡ false = ap (λ (doing : Session). doing.is_first) (same_put (record (begun_anew 3) { is_first = true }) (begun_anew 3) gives.sessions) in cc

pub returns-clause-still_hinted : goal.returns-clause-still_hinted
returns-clause-still_hinted c gives = let bad : true ≡ false = ap (λ (doing : Session). doing.used_hints) (same_put (record (begun_anew 3) { used_hints = true }) (begun_anew 3) gives.sessions) in cc

pub returns-clause-changed : goal.returns-clause-changed
returns-clause-changed c = record { stored = refl; locks = given d_key Exclusive; seats = refl; sessions = refl }

pub returns-clause-changed_but_first : goal.returns-clause-changed_but_first
returns-clause-changed_but_first c changes = let bad : true ≡ false = ap (λ (doing : Session). doing.is_first) (same_put (record (begun_anew 4) { is_first = true }) (begun_anew 4) changes.sessions) in cc

pub returns-clause-changed_but_hinted : goal.returns-clause-changed_but_hinted
returns-clause-changed_but_hinted c changes = let bad : true ≡ false = ap (λ (doing : Session). doing.used_hints) (same_put (record (begun_anew 4) { used_hints = true }) (begun_anew 4) changes.sessions) in cc
