-- The calls of the one client are answered in turn.
use Rattle.std.proofs.Common.{◌≡◌, ℕ, ◌+◌, ◌≤◌, ◌<◌, zero, suc, Bool, true, false, nat_le, List, [], ◌∷◌, ◌++◌, length, take, get_or, map as list_map, refl, ap, sym, subst, ◌∙◌, arith, add-one, append_assoc, append-nil}
use Rattle.std.specs.List.{list_all}
use Rattle.std.specs.Cmp.{first_so, second_so}
use Rattle.std.proofs.Math.Seq.{take-suc}
use Rattle.std.proofs.lemmas.Bool.Decides.{nat_tests}
use Rattle.std.proofs.lemmas.List.{length-append}
use Rattle.name_space.specs.Script.{ClientCalls, is_client, most_calls}
use Rattle.name_space.specs.declared.call.Call.{Call}
use Rattle.name_space.specs.Call.{is_valid}
use Rattle.commit_log.specs.declared.note.Note.{Note}
use Rattle.commit_log.specs.declared.answer.AnswerLine.{AnswerLine}
use Rattle.commit_log.specs.declared.answer.CallEnd.{CallEnd}
use Rattle.hops_base.specs.Ids.{client, node}
use Rattle.db_state.specs.Settings.{Settings}
use Rattle.db_state.specs.State.{State, empty_seat, opening_state}
use Rattle.db_state.specs.Steps.{seat_of, HasNoOpen}
use Rattle.hops_core.specs.Events.{CanBegin}
use Rattle.hops_core.specs.Built.{is_built}
use Rattle.hops_cli.specs.Turning.{Turn, calls_made, turn_notes, turns_notes, turn_line, turns_lines, IsIdle, IsTurned, IsNew, AreTurned}

-- ---- more turns

none_more : (n : ℕ) → n ≡ n + 0
none_more n = omega arith

one_more : (n m : ℕ) → n + 1 + m ≡ n + suc m
one_more n m = omega arith

from_none : (n : ℕ) → 0 + n ≡ n
from_none n = omega arith

-- the notes of one turn more stand behind those of the others
notes-push : (n : ℕ) (turns : List Turn) (turn : Turn) → turns_notes n (turns ++ turn ∷ []) ≡ turns_notes n turns ++ turn_notes (n + length turns + 1) turn
notes-push n [] turn = append-nil (turn_notes (n + 1) turn) ∙ ap (λ (k : ℕ). turn_notes (k + 1) turn) (none_more n)
notes-push n (first ∷ turns) turn =
    ap (λ (notes : List Note). turn_notes (n + 1) first ++ notes) (notes-push (n + 1) turns turn ∙ ap (λ (k : ℕ). turns_notes (n + 1) turns ++ turn_notes (k + 1) turn) (one_more n (length turns)))
    ∙ sym (append_assoc (turn_notes (n + 1) first) (turns_notes (n + 1) turns) (turn_notes (n + length (first ∷ turns) + 1) turn))

-- so does its line
lines-push : (before n : ℕ) (turns : List Turn) (turn : Turn)
    → turns_lines before n (turns ++ turn ∷ []) ≡ turns_lines before n turns ++ turn_line (before + length (turns_notes n turns)) (n + length turns + 1) turn ∷ []
lines-push before n [] turn = ap (λ (k : ℕ). turn_line k (n + 1) turn ∷ []) (none_more before) ∙ ap (λ (k : ℕ). turn_line (before + 0) (k + 1) turn ∷ []) (none_more n)
lines-push before n (first ∷ turns) turn =
    ap (λ (lines : List AnswerLine). turn_line before (n + 1) first ∷ lines)
    (lines-push (before + length (turn_notes (n + 1) first)) (n + 1) turns turn
    ∙ ap (λ (k : ℕ). rest ++ turn_line k (n + 1 + length turns + 1) turn ∷ []) longer
    ∙ ap (λ (k : ℕ). rest ++ turn_line (before + length (turns_notes n (first ∷ turns))) (k + 1) turn ∷ []) (one_more n (length turns)))
  where
    rest : List AnswerLine
    rest = turns_lines (before + length (turn_notes (n + 1) first)) (n + 1) turns

    longer : before + length (turn_notes (n + 1) first) + length (turns_notes (n + 1) turns) ≡ before + length (turns_notes n (first ∷ turns))
    longer = let long = length-append (turn_notes (n + 1) first) (turns_notes (n + 1) turns) in omega arith

calls-push : (turns : List Turn) (turn : Turn) → calls_made (turns ++ turn ∷ []) ≡ calls_made turns ++ turn.call ∷ []
calls-push [] turn = refl
calls-push (first ∷ turns) turn = ap (λ (calls : List Call). first.call ∷ calls) (calls-push turns turn)

-- ---- call by call

-- a client of a script has no more calls than that
pub few_calls : (one : ClientCalls) → is_client one ≡ true → length one.calls ≤ 65536
few_calls one valid = let few : nat_le (length one.calls) most_calls ≡ true = second_so _ _ (first_so _ _ valid) in grind (arith, nat_tests)

-- what all calls pass, each of them does
pub passes_at : (test : Call → Bool) (calls : List Call) (i : ℕ) (one : Call) → list_all test calls ≡ true → i < length calls → get_or calls i one ≡ one → test one ≡ true
passes_at test [] i one all within is = absurd (omega arith)
passes_at test (c ∷ calls) zero one all within is = subst (λ (x : Call). test x ≡ true) is (first_so _ _ all)
passes_at test (c ∷ calls) (suc i) one all within is = passes_at test calls i one (second_so _ _ all) (omega arith) is

-- before any call nothing was told
pub none_turned : (user : List ℕ) (calls : List Call) (state : State) (lines : List AnswerLine) → IsNew (user ∷ []) state lines → AreTurned state.stored.settings calls 0 state lines
none_turned user calls state lines new = record {
  turns = [];
  made = refl;
  notes = ap (λ (s : State). s.stored.notes) new.opening;
  told = new.none;
  settings_are = refl;
  idle = subst (IsIdle 0) (sym new.opening) (start state.stored.settings new.acting);
}
  where
    start : (settings : Settings) → settings.users ≡ user ∷ [] → IsIdle 0 (opening_state settings)
    start settings acting = record {
      begun = ap (λ (users : List (List ℕ)). (seat_of (list_map (λ (u : List ℕ). empty_seat) users) (client 0)).begun) acting;
      none = subst (λ (users : List (List ℕ)). HasNoOpen (opening_state (record settings { users = users })) (client 0)) (sym acting) tt;
    }

-- the next call can be begun
pub can_begin : (settings : Settings) (calls : List Call) (count : ℕ) (state : State) (lines : List AnswerLine) (asked : Call) → AreTurned settings calls count state lines → length settings.users ≡ 1 → settings.namenodes ≡ 1
    → count < 65536 → is_valid asked ≡ true → is_built asked ≡ true → CanBegin state (client 0) (count + 1) asked (node 0)
can_begin settings calls count state lines asked so_far one single few valid built =
    let users : length state.stored.settings.users ≡ 1 = ap (λ (s : Settings). length s.users) so_far.settings_are ∙ one in
    let nodes : state.stored.settings.namenodes ≡ 1 = ap (λ (s : Settings). s.namenodes) so_far.settings_are ∙ single in
    record {
      may = record {
        client_there = omega arith;
        node_there = omega arith;
        idle = so_far.idle.none;
        next = ap (λ (n : ℕ). n + 1) (sym so_far.idle.begun);
        few = omega arith;
        valid = valid;
      };
      built = built;
    }

counted : (turns : List Turn) (n : ℕ) (all : List Call) → calls_made turns ≡ take n all → n < length all → length turns ≡ n
counted [] zero all made more = refl
counted [] (suc n) [] made more = absurd (omega arith)
counted [] (suc n) (one ∷ all) made more = absurd (let bad = made in cc)
counted (t ∷ turns) zero all made more = absurd (let bad = made in cc)
counted (t ∷ turns) (suc n) [] made more = absurd (omega arith)
counted (t ∷ turns) (suc n) (one ∷ all) made more = ap suc (counted turns n all (let rest : calls_made turns ≡ take n all = cc in rest) (omega arith))

-- once it is answered, one call more is
pub turned : (settings : Settings) (calls : List Call) (count : ℕ) (old new : State) (lines after : List AnswerLine) (asked : Call) (end : CallEnd)
    → count < length calls → get_or calls count asked ≡ asked → AreTurned settings calls count old lines → IsTurned old new (count + 1) asked end
    → after ≡ lines ++ record { client = client 0; call = count + 1; end = end } ∷ [] → AreTurned settings calls (count + 1) new after
turned settings calls count old new lines after asked end within is so_far t pushed =
    let number : length so_far.turns ≡ count = counted so_far.turns count calls so_far.made within in
    let at : 0 + length so_far.turns + 1 ≡ count + 1 = omega arith in
    let long : 0 + length (turns_notes 0 so_far.turns) ≡ length old.stored.notes = from_none _ ∙ sym (ap length so_far.notes) in
    let line : record { client = client 0; call = count + 1; end = end } ≡ turn_line (0 + length (turns_notes 0 so_far.turns)) (0 + length so_far.turns + 1) t.turn =
    ap (λ (e : CallEnd). record { client = client 0; call = count + 1; end = e }) t.told
    ∙ ap (λ (k : ℕ). turn_line k (count + 1) t.turn) (sym long)
    ∙ ap (λ (k : ℕ). turn_line (0 + length (turns_notes 0 so_far.turns)) k t.turn) (sym at) in
    record {
      turns = so_far.turns ++ t.turn ∷ [];
      made = calls-push so_far.turns t.turn
          ∙ ap (λ (cs : List Call). cs ++ t.turn.call ∷ []) so_far.made
          ∙ ap (λ (one : Call). take count calls ++ one ∷ []) (t.of ∙ sym is)
          ∙ sym (take-suc calls count asked within)
          ∙ ap (λ (n : ℕ). take n calls) (sym (add-one count));
      notes = t.notes
          ∙ ap (λ (ns : List Note). ns ++ turn_notes (count + 1) t.turn) so_far.notes
          ∙ ap (λ (n : ℕ). turns_notes 0 so_far.turns ++ turn_notes n t.turn) (sym at)
          ∙ sym (notes-push 0 so_far.turns t.turn);
      told = pushed
          ∙ ap (λ (ls : List AnswerLine). ls ++ record { client = client 0; call = count + 1; end = end } ∷ []) so_far.told
          ∙ ap (λ (l : AnswerLine). turns_lines 0 0 so_far.turns ++ l ∷ []) line
          ∙ sym (lines-push 0 0 so_far.turns t.turn);
      settings_are = t.settings ∙ so_far.settings_are;
      idle = t.idle;
    }
