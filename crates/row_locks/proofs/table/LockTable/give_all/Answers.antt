use Rattle.std.proofs.Common.{◌≡◌, cond, ap, ◌∙◌, subst}
use Rattle.std.specs.List.{list_any}
use Rattle.hops_base.specs.Key.{key_cmp, same_key}
use Rattle.row_locks.specs.Holders.{without}
use Rattle.row_locks.specs.Kept.{AreKept, holder_session_cmp}
use Rattle.row_locks.specs.Lists.{items_at}
use Rattle.row_locks.specs.Locks.{Locks, IsGivenBack}
use Rattle.row_locks.proofs.EditLemmas.{given_back}
use Rattle.row_locks.proofs.KeptLemmas.{locks_at}
use Rattle.row_locks.proofs.table.LockTable.give_all.Goals as goal

-- the session had keys, which were given out as a list
some_given : (c : goal.After-drop-keys) → AreKept c.drop_holders.new.holders c.take_at.new.lists × IsGivenBack c.args.s (locks_at c.self.inside.holders) (locks_at c.drop_holders.new.holders)
some_given c =
    let all : c.deref.result.now ≡ items_at holder_session_cmp c.self.inside.keys c.args.s = c.deref.ensures.value ∙ c.in-Some.ensures.taken in
    given_back _ _ _ _ c.self.invariant c.drop_holders.ensures.lists c.take_at.ensures.lists c.args.s (rw all at c.drop_holders.ensures.items) c.take_at.ensures.items

-- the session had none
none_given : (c : goal.In_default) → AreKept c.self.inside.holders c.take_at.new.lists × IsGivenBack c.args.s (locks_at c.self.inside.holders) (locks_at c.self.inside.holders)
none_given c = given_back _ _ _ _ c.self.invariant c.self.invariant.by_key c.take_at.ensures.lists c.args.s
    (λ q. ap (λ keys. cond (list_any (same_key q) keys) (without (items_at key_cmp c.self.inside.holders q) c.args.s) (items_at key_cmp c.self.inside.holders q)) c.in_default.ensures.taken)
    c.take_at.ensures.items

pub invariant_of-self : goal.invariant_of-self
invariant_of-self c = (some_given c).0

pub invariant_of-self-in_default : goal.invariant_of-self-in_default
invariant_of-self-in_default c = (none_given c).0

pub returns-in-Some : goal.returns-in-Some
returns-in-Some c = subst (λ (old : Locks). IsGivenBack c.args.s old (locks_at c.drop_holders.new.holders)) c.self.view_is (some_given c).1

pub returns-in_default : goal.returns-in_default
returns-in_default c = subst (λ (old : Locks). IsGivenBack c.args.s old (locks_at c.self.inside.holders)) c.self.view_is (none_given c).1
