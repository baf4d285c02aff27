use Rattle.std.proofs.Common.{false, sym, subst}
use Rattle.db_state.specs.Callers.{IsBehind}
use Rattle.db_state.specs.Inside.{has_any}
use Rattle.db_state.specs.State.{State}
use Rattle.db_state.specs.Stages.{keys_in}
use Rattle.db_state.proofs.DbLaws.{behind_at, held_counted, room_for_met, changed_inside}
use Rattle.db_state.proofs.db.Db.change.Goals as goal

pub push-requires : goal.push-requires
push-requires c =
    let held = held_counted _ _ _ _ _ c.self.invariant c.args.s c.in-Some.doing.now (sym c.in-Some.ensures) in
    rw (c.give_up.ensures.book, c.make_room.ensures.notes, c.holds_any-held.ensures)
    (room_for_met c.self.inside.book.notes c.args.s (has_any (keys_in c.in-Some.doing.now.stage)) c.self.inside.holding c.make_room.new.book.room held c.in_ok-make_room.ensures.ok)

pub overflow_sub-self : goal.overflow_sub-self
overflow_sub-self c = rw (c.one_if.ensures, c.holds_any-held.ensures) (held_counted _ _ _ _ _ c.self.invariant c.args.s c.in-Some.doing.now (sym c.in-Some.ensures))

pub invariant_of-self-2 : goal.invariant_of-self-2
invariant_of-self-2 c =
    let there = sym c.in-Some.ensures in
    let behind = subst (λ (state : State). IsBehind state c.args.s false) (sym c.self.view_is) c.requires in
    rw (c.begin_at.ensures c.in-Some.doing.now there, c.len.ensures, c.push.ensures, c.give_up.ensures.book, c.make_room.ensures.notes, c.start_of_attempt.ensures, c.one_if.ensures, c.holds_any-held.ensures)
    (changed_inside _ _ _ _ _ c.self.invariant c.args.s c.in-Some.doing.now c.give_up.new.table c.make_room.new.book.room (behind_at _ c.args.s false behind c.in-Some.doing.now there) c.give_up.ensures.locks c.in_ok-make_room.ensures.ok)
