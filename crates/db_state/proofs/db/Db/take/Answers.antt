use Rattle.std.proofs.Common.{sym}
use Rattle.db_state.proofs.DbLaws.{next_is_free, taken_inside}
use Rattle.db_state.proofs.db.Db.take.Goals as goal

pub ask-requires : goal.ask-requires
ask-requires c = rw c.in-Ok.ensures
    (next_is_free _ c.args.s c.in-Some.doing.now (c.in-Some-next_key.key.now, c.in-Some-next_key.mode) c.self.invariant.core (sym c.in-Some.ensures) (sym c.in-Some-next_key.ensures))

pub invariant_of-self-2 : goal.invariant_of-self-2
invariant_of-self-2 c =
    let there = sym c.in-Some.ensures in
    let next = sym c.in-Some-next_key.ensures in
    let free = rw c.in-Ok.ensures at c.in-Held.ensures.0 in
    rw (c.count.ensures c.in-Some.doing.now there, c.push.ensures, c.in-Held.ensures.1, c.make_room.ensures.notes, c.in-Ok.ensures, c.one_if.ensures, c.holds_any-held.ensures)
    (taken_inside _ _ _ _ _ c.self.invariant c.args.s c.in-Some.doing.now (c.in-Some-next_key.key.now, c.in-Some-next_key.mode) c.make_room.new.book.room (record { there = there; next = next; free = free }) c.in-Ok-make_room.ensures.ok)
