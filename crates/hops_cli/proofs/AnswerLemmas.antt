-- A session is opened, and answers.
use Rattle.std.proofs.Common.{◌≡◌, ℕ, ◌+◌, true, List, [], ◌∷◌, ◌++◌, length, slice_get, unwrap_or, Option, Some, IfSome, Result, Ok, Err, IfOk, refl, ap, sym, subst, ◌∙◌, arith, append_assoc, append-nil, cond}
use Rattle.std.specs.FinMap as map
use Rattle.std.proofs.lemmas.Bool.{eq-eqb}
use Rattle.std.proofs.lemmas.List.{length-append, length-map}
use Rattle.hops_base.specs.Ids.{client, node}
use Rattle.hops_base.specs.declared.ids.ClientNo.{ClientNo}
use Rattle.hops_base.specs.declared.ids.SessionId.{SessionId}
use Rattle.name_space.specs.declared.call.Call.{Call}
use Rattle.name_space.specs.declared.reply.Reply.{Reply}
use Rattle.commit_log.specs.declared.note.Note.{Note}
use Rattle.commit_log.specs.declared.note.Note.TheVariants.{Did}
use Rattle.commit_log.specs.declared.answer.CallEnd.{CallEnd}
use Rattle.commit_log.specs.declared.answer.CallEnd.TheVariants.{Done}
use Rattle.db_state.specs.declared.session.Seat.{Seat}
use Rattle.db_state.specs.declared.session.Session.{Session}
use Rattle.db_state.specs.declared.session.Stage.TheVariants.{Answered}
use Rattle.db_state.specs.Core.{IsCore}
use Rattle.db_state.specs.Stages.{is_over}
use Rattle.db_state.specs.State.{State, empty_seat}
use Rattle.db_state.specs.Steps.{new_session, next_session, opened_by, seat_of, with_session, without_last}
use Rattle.db_state.specs.Stored.{Stored}
use Rattle.db_state.proofs.SeatLaws.{get-set_same}
use Rattle.db_state.proofs.SessionMapLaws.{get-with}
use Rattle.hops_core.specs.Commits.{Answers}
use Rattle.hops_cli.specs.Turning.{opens, takes, Start, Finishes, IsAnswered, IsBegun, IsIdle, IsTurned, IsUnderway}

-- a session that was opened starts on its way
pub begun : (old new : State) (number : ℕ) (call : Call) (s : SessionId) → length old.stored.settings.users ≡ 1 → s ≡ next_session old → new ≡ opened_by old (client 0) number call (node 0) → IsBegun old s number call new
begun old new number call s one is made =
    subst (λ (t : SessionId). IsBegun old t number call new) (sym is) (subst (IsBegun old (next_session old) number call) (sym made) record {
      doing = new_session (client 0) number call (node 0) (length old.stored.notes);
      runs = record { there = there; running = refl };
      one = one;
      client_is = refl;
      number_is = refl;
      call_is = refl;
      keys = [];
      notes = sym (append-nil (old.stored.notes ++ opens (next_session old) number ∷ []));
      settings = refl;
      since = (let long = length-append old.stored.notes (opens (next_session old) number ∷ []) in omega arith);
      comes = omega arith;
    })
  where
    first : Session
    first = new_session (client 0) number call (node 0) (length old.stored.notes)

    there : map.get (with_session (without_last old.sessions (seat_of old.seats (client 0)).last) (next_session old) first) (next_session old).0 ≡ Some first
    there =
        get-with (without_last old.sessions (seat_of old.seats (client 0)).last) (next_session old) (next_session old) first
        ∙ ap (λ b. cond b (Some first) (map.get (without_last old.sessions (seat_of old.seats (client 0)).last) (next_session old).0)) (eq-eqb (next_session old).0 (next_session old).0 refl)

-- the one client is idle once its session has answered
idle_after : (start : Start) (s : SessionId) (r : ℕ) (old new : State) (i : ℕ) (reply : Reply) (u : IsUnderway start s r old) → IsCore old → Answers old new s u.doing i reply → IsIdle start.number new
idle_after start s r old new i reply u core a =
    let mine = core.seats.seated s u.doing u.runs.there in
    let after : Seat = record (seat_of old.seats u.doing.client) { answered = u.doing.number } in
    let was : seat_of old.seats u.doing.client ≡ mine.seat = ap (λ (o : Option Seat). unwrap_or o empty_seat) mine.there in
    let got : slice_get new.seats u.doing.client.0 ≡ Some after =
    ap (λ (seats : List Seat). slice_get seats u.doing.client.0) a.completes.seats ∙ get-set_same old.seats u.doing.client.0 mine.seat after mine.there in
    let now : seat_of new.seats u.doing.client ≡ after = ap (λ (o : Option Seat). unwrap_or o empty_seat) got in
    let mine_now : seat_of new.seats (client 0) ≡ after = ap (seat_of new.seats) (sym u.client_is) ∙ now in
    let last : (seat_of new.seats (client 0)).last ≡ Some s = ap (λ (seat : Seat). seat.last) mine_now ∙ ap (λ (seat : Seat). seat.last) was ∙ mine.last in
    let done : Session = record u.doing { stage = Answered } in
    let there : map.get new.sessions s.0 ≡ Some done =
    ap (λ (sessions : _). map.get sessions s.0) a.completes.sessions
    ∙ get-with old.sessions s s done
    ∙ ap (λ b. cond b (Some done) (map.get old.sessions s.0)) (eq-eqb s.0 s.0 refl) in
    record {
      begun = ap (λ (seat : Seat). seat.begun) mine_now ∙ ap (λ (seat : Seat). seat.begun) was ∙ mine.number u.runs.running ∙ u.number_is;
      none = subst (λ (o : Option SessionId). IfSome o (λ t. IfSome (map.get new.sessions t.0) (λ at. is_over at.stage ≡ true))) (sym last)
          (subst (λ (o : Option Session). IfSome o (λ at. is_over at.stage ≡ true)) (sym there) refl);
    }

-- so it is told: the last note of its session is its answer
pub answered : (start : Start) (s : SessionId) (r : ℕ) (old new : State) (i : ℕ) (reply : Reply) (u : IsUnderway start s r old) → IsCore old → Answers old new s u.doing i reply → IsAnswered start s new (Done i reply)
answered start s r old new i reply u core a = record {
  keys = u.keys;
  reads = u.doing.reads;
  reply = reply;
  notes = ap (λ (stored : Stored). stored.notes) a.completes.stored
      ∙ ap (λ (notes : List Note). notes ++ Did s u.doing.client u.doing.number u.doing.call u.doing.reads reply ∷ []) u.notes
      ∙ ap (λ (c : ClientNo). (start.before ++ takes s u.keys) ++ Did s c u.doing.number u.doing.call u.doing.reads reply ∷ []) u.client_is
      ∙ ap (λ (n : ℕ). (start.before ++ takes s u.keys) ++ Did s (client 0) n u.doing.call u.doing.reads reply ∷ []) u.number_is
      ∙ ap (λ (c : Call). (start.before ++ takes s u.keys) ++ Did s (client 0) start.number c u.doing.reads reply ∷ []) u.call_is;
  told = ap (λ (n : ℕ). Done n reply) (a.note ∙ ap length u.notes);
  settings = ap (λ (stored : Stored). stored.settings) a.completes.stored ∙ u.settings;
  idle = idle_after start s r old new i reply u core a;
}

-- what a call has come to, from its opening to its answer
pub turned : (old new : State) (number : ℕ) (call : Call) (s : SessionId) (end : CallEnd)
    → IsAnswered (record { before = old.stored.notes ++ opens s number ∷ []; settings = old.stored.settings; number = number; call = call }) s new end → IsTurned old new number call end
turned old new number call s end a = record {
  turn = record { session = s; keys = a.keys; call = call; reads = a.reads; reply = a.reply };
  of = refl;
  notes = a.notes
      ∙ append_assoc (old.stored.notes ++ opens s number ∷ []) (takes s a.keys) (last ∷ [])
      ∙ append_assoc old.stored.notes (opens s number ∷ []) (takes s a.keys ++ last ∷ []);
  told = a.told ∙ ap (λ (n : ℕ). Done n a.reply) long;
  settings = a.settings;
  idle = a.idle;
}
  where
    last : Note
    last = Did s (client 0) number call a.reads a.reply

    long : length ((old.stored.notes ++ opens s number ∷ []) ++ takes s a.keys) ≡ length old.stored.notes + 1 + length a.keys
    long =
        length-append (old.stored.notes ++ opens s number ∷ []) (takes s a.keys)
        ∙ ap (λ (n : ℕ). n + length (takes s a.keys)) (length-append old.stored.notes (opens s number ∷ []))
        ∙ ap (λ (n : ℕ). length old.stored.notes + 1 + n) (length-map a.keys _)

-- so it is where the session has answered
pub if_turned : {E : Type 0} (old last new : State) (number : ℕ) (call : Call) (s : SessionId)
    → IsUnderway (record { before = old.stored.notes ++ opens s number ∷ []; settings = old.stored.settings; number = number; call = call }) s 4 last
    → (told : Result CallEnd E) → IfOk told (λ end. Finishes s 4 last new end) → IfOk told (λ end. IsTurned old new number call end)
if_turned old last new number call s u (Ok end) done = turned old new number call s end (done _ u)
if_turned old last new number call s u (Err none) done = tt
