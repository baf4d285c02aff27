use Rattle.std.proofs.Common.{◌≡◌, ◌+◌, length, arith, ap, sym, subst, ◌∙◌}
use Rattle.commit_log.specs.Shelf.{Shelf}
use Rattle.db_state.specs.Inside.{IsInside, whole_state}
use Rattle.db_state.specs.State.{State}
use Rattle.db_state.specs.Steps.{new_session, opened_by, CanOpen}
use Rattle.db_state.proofs.DbLaws.{seat_found, begun_inside, opened_inside, left_later}
use Rattle.db_state.proofs.HoldingLemmas.{set_twice}
use Rattle.db_state.proofs.db.Db.open.Goals as goal

pub invariant_of-self : goal.invariant_of-self
invariant_of-self c =
    let can = subst (λ (state : State). CanOpen state c.args.client c.args.number c.args.call.now c.args.node) (sym c.self.view_is) c.requires in
    let seat = seat_found c.self.inside.seats.items c.deref.result.now c.args.client c.seat_at-seat.result c.deref.ensures.value c.seat_at-seat.ensures in
    rw (c.set_seat.ensures, seat)
    (begun_inside _ _ _ _ _ c.self.invariant c.args.client c.args.number c.args.call.now c.args.node can c.self.inside.book.room (omega arith))

pub invariant_of-self-in_err-make_room : goal.invariant_of-self-in_err-make_room
invariant_of-self-in_err-make_room c =
    let can = subst (λ (state : State). CanOpen state c.args.client c.args.number c.args.call.now c.args.node) (sym c.self.view_is) c.requires in
    let seat = seat_found c.self.inside.seats.items c.deref.result.now c.args.client c.seat_at-seat.result c.deref.ensures.value c.seat_at-seat.ensures in
    rw (c.make_room.ensures.notes, c.set_seat.ensures, seat)
    (begun_inside _ _ _ _ _ c.self.invariant c.args.client c.args.number c.args.call.now c.args.node can c.make_room.new.book.room c.make_room.ensures.room)

pub invariant_of-self-in_err-put : goal.invariant_of-self-in_err-put
invariant_of-self-in_err-put c =
    let can = subst (λ (state : State). CanOpen state c.args.client c.args.number c.args.call.now c.args.node) (sym c.self.view_is) c.requires in
    let seat = seat_found c.self.inside.seats.items c.deref.result.now c.args.client c.seat_at-seat.result c.deref.ensures.value c.seat_at-seat.ensures in
    rw (c.make_room.ensures.notes, c.set_seat.ensures, c.in_err-put.ensures.err, seat)
    (begun_inside _ _ _ _ _ c.self.invariant c.args.client c.args.number c.args.call.now c.args.node can c.make_room.new.book.room c.make_room.ensures.room)

-- all of it once the session is opened
opened_state : (c : goal.After-self-1) → whole_state c.self.inside.tables c.self.inside.settings c.push.new.self.notes c.self.inside.next c.self.inside.locks c.set_seat-2.new.seats.items c.remove_last.new.sessions
    ≡ opened_by (whole_state c.self.inside.tables c.self.inside.settings c.self.inside.book.notes c.self.inside.next c.self.inside.locks c.self.inside.seats.items c.self.inside.sessions) c.args.client c.args.number c.args.call.now c.args.node
opened_state c =
    let can = subst (λ (state : State). CanOpen state c.args.client c.args.number c.args.call.now c.args.node) (sym c.self.view_is) c.requires in
    let seat = seat_found c.self.inside.seats.items c.deref.result.now c.args.client c.seat_at-seat.result c.deref.ensures.value c.seat_at-seat.ensures in
    rw (c.push.ensures, c.remove_last.ensures, c.in_ok-put.ensures.ok, c.new_session.ensures, c.in_ok-call.ensures, c.len-opened.ensures, c.make_room.ensures.notes, c.set_seat-2.ensures, c.set_seat.ensures, set_twice, seat, c.self.invariant.counts.opened)
    (λ i. record (opened_by (whole_state c.self.inside.tables c.self.inside.settings c.self.inside.book.notes c.self.inside.next c.self.inside.locks c.self.inside.seats.items c.self.inside.sessions) c.args.client c.args.number c.args.call.now c.args.node) {
      sessions = left_later _ c.args.client c.args.number c.args.call.now c.args.node c.self.invariant.core can (new_session c.args.client c.args.number c.args.call.now c.args.node (length c.self.inside.book.notes)) i;
    })

pub invariant_of-self-2 : goal.invariant_of-self-2
invariant_of-self-2 c =
    let can = subst (λ (state : State). CanOpen state c.args.client c.args.number c.args.call.now c.args.node) (sym c.self.view_is) c.requires in
    let after = opened_inside _ _ _ _ _ c.self.invariant c.args.client c.args.number c.args.call.now c.args.node can c.make_room.new.book.room c.in_ok-make_room.ensures.ok in
    let room : c.push.new.self.room ≡ c.make_room.new.book.room = ap (λ (book : Shelf). book.room) c.push.ensures in
    rw room (subst (λ (state : State). IsInside state c.self.inside.top c.make_room.new.book.room (c.self.inside.opened + 1) c.self.inside.holding) (sym (opened_state c)) after)

pub returns-clause-ok : goal.returns-clause-ok
returns-clause-ok c = opened_state c ∙ ap (λ (state : State). opened_by state c.args.client c.args.number c.args.call.now c.args.node) c.self.view_is
