use Rattle.std.proofs.Common.{sym, subst}
use Rattle.db_state.specs.Callers.{IsKeptAway}
use Rattle.db_state.specs.State.{State}
use Rattle.db_state.proofs.DbLaws.{kept_at, met_inside}
use Rattle.db_state.proofs.db.Db.meet.Goals as goal

pub invariant_of-self-2 : goal.invariant_of-self-2
invariant_of-self-2 c =
    let kept = subst (λ (state : State). IsKeptAway state c.args.s c.args.other) (sym c.self.view_is) c.requires in
    let can = kept_at _ c.args.s c.args.other kept c.in-Some.doing.now (c.in-Some-next_key.key.now, c.in-Some-next_key.mode) (sym c.in-Some.ensures) (sym c.in-Some-next_key.ensures) in
    rw (c.push.ensures, c.make_room.ensures.notes, c.in_ok-key.ensures)
    (met_inside _ _ _ _ _ c.self.invariant c.args.s c.in-Some.doing.now (c.in-Some-next_key.key.now, c.in-Some-next_key.mode) c.args.other c.make_room.new.book.room can c.in_ok-make_room.ensures.ok)
