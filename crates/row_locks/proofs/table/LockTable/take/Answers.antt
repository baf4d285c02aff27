use Rattle.std.proofs.Common.{ap, ◌∙◌, refl}
use Rattle.std.specs.FinMap as map
use Rattle.std.specs.Ordering.{eq_by_cmp}
use Rattle.row_locks.specs.Kept.{holder_session_cmp}
use Rattle.row_locks.specs.Lists.{items_at}
use Rattle.row_locks.specs.Locks.{mode_of}
use Rattle.row_locks.proofs.EditLemmas.{AreLeft, added, unchanged, undone}
use Rattle.row_locks.proofs.KeptLemmas.{locks_at}
use Rattle.row_locks.proofs.table.LockTable.take.Goals as goal

pub invariant_of-self-in_err-add_at : goal.invariant_of-self-in_err-add_at
invariant_of-self-in_err-add_at c = (unchanged c.self.inside.holders c.self.inside.holders c.self.inside.keys c.add_at.new.lists c.self.invariant c.self.invariant.by_key c.add_at.ensures.lists (λ q. refl) c.in_err-add_at.ensures.err).kept_still

-- what is left where the second list has no room
nothing_left : (c : goal.After-drop_last_at) → AreLeft c.self.inside.holders c.add_at-2.new.lists c.self.inside.keys c.drop_last_at.new.lists c.self.invariant c.add_at-2.ensures.lists c.drop_last_at.ensures.lists (locks_at c.self.inside.holders)
nothing_left c = unchanged _ _ _ _ c.self.invariant c.add_at-2.ensures.lists c.drop_last_at.ensures.lists c.in-Err.ensures.err
    (λ t. undone (eq_by_cmp holder_session_cmp c.args.s t) (items_at holder_session_cmp c.self.inside.keys t) (items_at holder_session_cmp c.add_at.new.lists t) (items_at holder_session_cmp c.drop_last_at.new.lists t) c.in_ok-copy.field-0 (c.in_ok-add_at.ensures.ok t) (c.drop_last_at.ensures.items t))

pub invariant_of-self-in-Err : goal.invariant_of-self-in-Err
invariant_of-self-in-Err c = (nothing_left c).kept_still

pub returns-in-Err-clause-err : goal.returns-in-Err-clause-err
returns-in-Err-clause-err c = (nothing_left c).locks_are ∙ c.self.view_is

-- what is left with the lock
one_more : (c : goal.In_default) → AreLeft c.self.inside.holders c.add_at-2.new.lists c.self.inside.keys c.add_at.new.lists c.self.invariant c.add_at-2.ensures.lists c.add_at.ensures.lists (map.insert (locks_at c.self.inside.holders) (c.args.s.0, c.args.key.now) c.args.mode)
one_more c =
    let kept = c.in_ok-kept.ensures in
    let own = c.in_ok-copy.ensures in
    added _ _ _ _ c.self.invariant c.add_at-2.ensures.lists c.add_at.ensures.lists c.args.s c.args.key.now c.args.mode (ap (λ locks. mode_of locks c.args.s c.args.key.now) c.self.view_is ∙ c.requires) (rw kept at c.in_default.ensures.ok) (rw own at c.in_ok-add_at.ensures.ok)

pub invariant_of-self-in_default : goal.invariant_of-self-in_default
invariant_of-self-in_default c = (one_more c).kept_still

pub returns-clause-ok : goal.returns-clause-ok
returns-clause-ok c = (one_more c).locks_are ∙ ap (λ locks. map.insert locks (c.args.s.0, c.args.key.now) c.args.mode) c.self.view_is
