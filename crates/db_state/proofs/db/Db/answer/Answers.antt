use Rattle.std.proofs.Common.{◌≡◌, ◌-◌, ◌++◌, [], ◌∷◌, ap, sym, subst, ◌∙◌, slice_set}
use Rattle.commit_log.specs.declared.note.Note.TheVariants.{Did}
use Rattle.db_state.specs.declared.session.Stage.TheVariants.{Answered}
use Rattle.db_state.specs.Callers.{IsAnswer}
use Rattle.db_state.specs.Inside.{has_any, one_if, IsInside}
use Rattle.db_state.specs.Places.{rows_of}
use Rattle.db_state.specs.Stages.{keys_in}
use Rattle.db_state.specs.State.{State}
use Rattle.db_state.specs.Steps.{seat_of, with_session}
use Rattle.db_state.specs.Stored.{Tables}
use Rattle.db_state.specs.Written.{written, next_after, state_of}
use Rattle.db_state.proofs.DbLaws.{answer_at, held_counted, ids_left, seat_within, seat_found, answered_inside}
use Rattle.db_state.proofs.db.Db.answer.Goals as goal

pub next_id-self-inside-requires : goal.next_id-self-inside-requires
next_id-self-inside-requires c =
    let answer = subst (λ (state : State). IsAnswer state c.args.s c.args.writes.items c.args.reply) (sym c.self.view_is) c.requires in
    let can = answer_at _ c.args.s c.args.writes.items c.args.reply answer c.in-Some.doing.now (sym c.in-Some.ensures) in
    rw c.as_slice-2.ensures.items (ids_left _ _ _ _ _ c.self.invariant c.args.s c.in-Some.doing.now can.0 can.1 c.args.writes.items c.args.reply can.2)

pub overflow_sub-self : goal.overflow_sub-self
overflow_sub-self c = rw (c.one_if.ensures, c.holds_any-held.ensures) (held_counted _ _ _ _ _ c.self.invariant c.args.s c.in-Some.doing.now (sym c.in-Some.ensures))

pub seat_at-seat-requires : goal.seat_at-seat-requires
seat_at-seat-requires c = rw c.deref.ensures.value (seat_within _ c.args.s c.in-Some.doing.now c.self.invariant.core (sym c.in-Some.ensures))

pub set_seat-requires : goal.set_seat-requires
set_seat-requires c = seat_within _ c.args.s c.in-Some.doing.now c.self.invariant.core (sym c.in-Some.ensures)

pub invariant_of-self-2 : goal.invariant_of-self-2
invariant_of-self-2 c =
    let there = sym c.in-Some.ensures in
    let answer = subst (λ (state : State). IsAnswer state c.args.s c.args.writes.items c.args.reply) (sym c.self.view_is) c.requires in
    let can = answer_at _ c.args.s c.args.writes.items c.args.reply answer c.in-Some.doing.now there in
    let tables : rows_of c.write_rows.new.tables ≡ written (rows_of c.self.inside.tables) c.args.writes.items = c.write_rows.ensures ∙ (λ i. written (c.reserve_rows.ensures.rows i) (c.into_vec.ensures i)) in
    let next : c.next_id-self-inside.result ≡ next_after c.self.inside.next c.args.writes.items = c.next_id-self-inside.ensures ∙ ap (next_after c.self.inside.next) c.as_slice-2.ensures.items in
    let seat = seat_found c.self.inside.seats.items c.deref.result.now c.in-Some.doing.now.client c.seat_at-seat.result c.deref.ensures.value c.seat_at-seat.ensures in
    rw (c.bring.ensures c.in-Some.doing.now there, c.push.ensures, c.make_room.ensures.notes, c.in_ok-copy.ensures, c.set_seat.ensures, seat, c.one_if.ensures, c.holds_any-held.ensures, next)
    (subst (λ (rows : Tables). IsInside (record {
      stored = state_of rows c.self.inside.settings (c.self.inside.book.notes ++ Did c.args.s c.in-Some.doing.now.client c.in-Some.doing.now.number c.in-Some.doing.now.call c.in-Some.doing.now.reads c.args.reply ∷ []) (next_after c.self.inside.next c.args.writes.items);
      locks = c.give_all.new.self;
      seats = slice_set c.self.inside.seats.items c.in-Some.doing.now.client.0 (record (seat_of c.self.inside.seats.items c.in-Some.doing.now.client) { answered = c.in-Some.doing.now.number });
      sessions = with_session c.self.inside.sessions c.args.s (record c.in-Some.doing.now { stage = Answered });
    }) c.self.inside.top c.make_room.new.book.room c.self.inside.opened (c.self.inside.holding - one_if (has_any (keys_in c.in-Some.doing.now.stage)))) (sym tables)
    (answered_inside _ _ _ _ _ c.self.invariant c.args.s c.in-Some.doing.now can.0 can.1 c.args.writes.items c.args.reply c.give_all.new.self c.make_room.new.book.room can.2 c.give_all.ensures c.in_ok-make_room.ensures.ok))
