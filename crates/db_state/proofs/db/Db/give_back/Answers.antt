use Rattle.std.proofs.Common.{arith, sym, subst}
use Rattle.db_state.specs.Callers.{IsOpen}
use Rattle.db_state.specs.State.{State}
use Rattle.db_state.proofs.DbLaws.{running_at, bare_stage, held_counted, given_inside}
use Rattle.db_state.proofs.db.Db.give_back.Goals as goal

pub give_up-requires : goal.give_up-requires
give_up-requires c =
    let held = held_counted _ _ _ _ _ c.self.invariant c.args.s c.in-Some.doing.now (sym c.in-Some.ensures) in
    let room = c.self.invariant.counts.room in
    rw c.holds_any-held.ensures (omega arith)

pub overflow_sub-self : goal.overflow_sub-self
overflow_sub-self c = rw (c.one_if.ensures, c.holds_any-held.ensures) (held_counted _ _ _ _ _ c.self.invariant c.args.s c.in-Some.doing.now (sym c.in-Some.ensures))

pub invariant_of-self : goal.invariant_of-self
invariant_of-self c =
    let there = sym c.in-Some.ensures in
    let runs = subst (λ (state : State). IsOpen state c.args.s) (sym c.self.view_is) c.requires.open in
    rw (c.begin_at.ensures c.in-Some.doing.now there, c.len.ensures, c.give_up.ensures.book, c.one_if.ensures, c.holds_any-held.ensures)
    (given_inside _ _ _ _ _ c.self.invariant c.args.s c.in-Some.doing.now c.args.stage c.give_up.new.table (running_at _ c.args.s c.in-Some.doing.now runs there) (bare_stage c.args.stage c.requires.bare) c.give_up.ensures.locks)
