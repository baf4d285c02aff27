-- What the notes of the one client's calls tell, one by one.
use Rattle.std.proofs.Common.{◌≡◌, ℕ, ◌+◌, ◌≤◌, ◌<◌, suc, Bool, true, false, not, ◌&&◌, ◌||◌, ◌==◌, List, [], ◌∷◌, ◌++◌, map as list_map, length, slice_get, Option, Some, IsSome, refl, ap, sym, subst, ◌∙◌, arith, append_assoc}
use Rattle.std.specs.Prelude.{⊤, IsSomeAnd, option_and_then}
use Rattle.std.specs.List.{filter, filter_map, range_with_len, list_any, list_all, AllByRecursion}
use Rattle.std.specs.List.Sorted.{IsStrictlySortedBy}
use Rattle.std.specs.Ordering.{nat_cmp}
use Rattle.std.specs.declared.cmp.Ordering.TheVariants.{Less}
use Rattle.std.specs.Cmp.{first_so, nat_cmp_is, second_so}
use Rattle.std.proofs.lemmas.Bool.{eq-eqb}
use Rattle.std.proofs.lemmas.List.{length-append, length-map}
use Rattle.hops_base.specs.Ids.{client}
use Rattle.hops_base.specs.declared.ids.Mode.{Mode}
use Rattle.hops_base.specs.declared.ids.SessionId.{SessionId}
use Rattle.hops_base.specs.declared.key.Key.{Key}
use Rattle.name_space.specs.declared.call.Call.{Call}
use Rattle.name_space.specs.declared.reply.Reply.{Reply}
use Rattle.name_space.specs.Calls.{as_read}
use Rattle.name_space.specs.Script.{Script, ClientCalls, numbered, call_of}
use Rattle.commit_log.specs.declared.note.Note.{Note}
use Rattle.commit_log.specs.declared.note.Note.TheVariants.{Open, Took, Gave, Wrote, Did, Cut, Met, Gone}
use Rattle.commit_log.specs.declared.answer.AnswerLine.{AnswerLine}
use Rattle.commit_log.specs.declared.answer.CallEnd.TheVariants.{Done}
use Rattle.commit_log.specs.Along.{EachAfter, Each}
use Rattle.commit_log.specs.Answers.{call_answered, done_at, is_of_client, is_call, is_again, dones, BorneOut}
use Rattle.commit_log.specs.Parts.{Where, Answering, answers_call, did}
use Rattle.hops_core.specs.Built.{is_built}
use Rattle.hops_cli.specs.Built.{is_built_client}
use Rattle.hops_cli.specs.Run.{is_quiet, reply_in}
use Rattle.hops_cli.specs.Turning.{Turn, calls_made, opens, takes, does, turn_notes, turns_notes, turn_line, turns_lines}

-- ---- each note of the book

-- the note is told in the script's run: it opens a session for a call of the script, takes a lock, or answers a call of the script
-- that has its line and is of a kind that is built
abbrev pub IsToldIn : Script → List AnswerLine → Note → Type 0
IsToldIn script lines (Open s c number at) = IsSome (call_of script c number) × (at.0 < script.namenodes)
IsToldIn script lines (Took s key mode) = ⊤
IsToldIn script lines (Gave s) = ⊥
IsToldIn script lines (Wrote s work) = ⊥
IsToldIn script lines (Did s c number call reads reply) =
    (call_of script c number ≡ Some call) × (list_any (λ (line : AnswerLine). is_call c number line && not (is_again line.end)) lines ≡ true)
    × (is_built call ≡ true)
IsToldIn script lines (Cut op path gone) = ⊥
IsToldIn script lines (Met s cause) = ⊥
IsToldIn script lines (Gone at ended) = ⊥

pub all-append : {X : Type 0} (P : X → Type 0) (xs ys : List X) → AllByRecursion P xs → AllByRecursion P ys → AllByRecursion P (xs ++ ys)
all-append P [] ys all more = more
all-append P (x ∷ xs) ys all more = (all.0, all-append P xs ys all.1 more)

each_with : (P Q : List Note → Note → Type 0) (T : Note → Type 0) → ((before : List Note) (note : Note) → AllByRecursion T before → T note → P before note → Q before note)
    → (before notes : List Note) → AllByRecursion T before → AllByRecursion T notes → EachAfter P before notes → EachAfter Q before notes
each_with P Q T gives before [] front all each = tt
each_with P Q T gives before (note ∷ notes) front all each =
    (gives before note front all.0 each.0, each_with P Q T gives (before ++ note ∷ []) notes (all-append T before (note ∷ []) front (all.0, tt)) all.1 each.1)

-- what follows at each note from what holds of it and of those before it
pub Each-with : (P Q : List Note → Note → Type 0) (T : Note → Type 0) → ((before : List Note) (note : Note) → AllByRecursion T before → T note → P before note → Q before note)
    → (notes : List Note) → AllByRecursion T notes → Each P notes → Each Q notes
unfolding Each
Each-with P Q T gives notes all each = each_with P Q T gives [] notes tt all each

-- what none of them passes
pub none-any : (test : Note → Bool) (T : Note → Type 0) → ((note : Note) → T note → test note ≡ false) → (notes : List Note) → AllByRecursion T notes → list_any test notes ≡ false
none-any test T fails [] all = refl
none-any test T fails (note ∷ notes) all = both (test note) (list_any test notes) (fails note all.0) (none-any test T fails notes all.1)
  where
    both : (a b : Bool) → a ≡ false → b ≡ false → (a || b) ≡ false
    both true b e f = absurd (let bad = e in cc)
    both false b e f = f

-- what is told is quiet
quiet_note : (script : Script) (lines : List AnswerLine) (note : Note) → IsToldIn script lines note → is_quiet note ≡ true
quiet_note script lines (Open s c number at) told = refl
quiet_note script lines (Took s key mode) told = refl
quiet_note script lines (Gave s) told = absurd told
quiet_note script lines (Wrote s work) told = absurd told
quiet_note script lines (Did s c number call reads reply) told = refl
quiet_note script lines (Cut op path gone) told = absurd told
quiet_note script lines (Met s cause) told = absurd told
quiet_note script lines (Gone at ended) told = absurd told

pub quiet_notes : (script : Script) (lines : List AnswerLine) (notes : List Note) → AllByRecursion (IsToldIn script lines) notes → list_all is_quiet notes ≡ true
quiet_notes script lines [] all = refl
quiet_notes script lines (note ∷ notes) all = both (is_quiet note) (list_all is_quiet notes) (quiet_note script lines note all.0) (quiet_notes script lines notes all.1)
  where
    both : (a b : Bool) → a ≡ true → b ≡ true → (a && b) ≡ true
    both true b e f = f
    both false b e f = absurd (let bad = e in cc)

-- ---- lines

count : (n : ℕ) → n + 1 ≡ suc n
count n = omega arith

-- the line of a call's number is there
line_there : (before n number : ℕ) (turns : List Turn) → n < number → number ≤ n + length turns → list_any (λ (line : AnswerLine). is_call (client 0) number line && not (is_again line.end)) (turns_lines before n turns) ≡ true
line_there before n number [] low high = absurd (omega arith)
line_there before n number (turn ∷ turns) low high =
    (elim (n + 1 == number) as (λ b. (n + 1 == number) ≡ b → ((b && true) || list_any here (turns_lines (before + length (turn_notes (n + 1) turn)) (n + 1) turns)) ≡ true) [
      | true ↦ λ is. refl
      | false ↦ λ is. line_there (before + length (turn_notes (n + 1) turn)) (n + 1) number turns (let apart : n + 1 ≡ number → ⊥ = λ same. (let yes = eq-eqb (n + 1) number same in let bad : true ≡ false = sym yes ∙ is in absurd (let no = bad in cc)) in omega arith) (omega arith)
    ]) refl
  where
    here : AnswerLine → Bool
    here line = is_call (client 0) number line && not (is_again line.end)

-- the call of a number in a script of one client
call_there : (script : Script) (one : ClientCalls) (n : ℕ) (asked : Call) → script.clients ≡ one ∷ [] → slice_get one.calls n ≡ Some asked → call_of script (client 0) (n + 1) ≡ Some asked
call_there script one n asked is there =
    ap (λ (k : ℕ). call_of script (client 0) k) (count n)
    ∙ ap (λ (clients : List ClientCalls). option_and_then (λ (c : ClientCalls). numbered c.calls (suc n)) (slice_get clients 0)) is
    ∙ there

is_there : {X : Type 0} (o : Option X) (x : X) → o ≡ Some x → IsSome o
is_there o x e = subst IsSome (sym e) refl

-- every note of the turns is told
turns_told : (script : Script) (one : ClientCalls) (lines : List AnswerLine) (n : ℕ) (turns : List Turn) → script.clients ≡ one ∷ [] → script.namenodes ≡ 1
    → ((j : ℕ) (asked : Call) → slice_get (calls_made turns) j ≡ Some asked → slice_get one.calls (n + j) ≡ Some asked)
    → ((number : ℕ) → n < number → number ≤ n + length turns → list_any (λ (line : AnswerLine). is_call (client 0) number line && not (is_again line.end)) lines ≡ true)
    → list_all is_built (calls_made turns) ≡ true → AllByRecursion (IsToldIn script lines) (turns_notes n turns)
turns_told script one lines n [] is single calls there built = tt
turns_told script one lines n (turn ∷ turns) is single calls there built =
    let asked : call_of script (client 0) (n + 1) ≡ Some turn.call = call_there script one n turn.call is (subst (λ (k : ℕ). slice_get one.calls k ≡ Some turn.call) (none n) (calls 0 turn.call refl)) in
    all-append (IsToldIn script lines) (turn_notes (n + 1) turn) (turns_notes (n + 1) turns)
    ((is_there _ turn.call asked, omega arith), all-append (IsToldIn script lines) (takes turn.session turn.keys) (does (n + 1) turn ∷ []) (all_taken turn.session turn.keys) ((asked, there (n + 1) (omega arith) (omega arith), first_so _ _ built), tt))
    (turns_told script one lines (n + 1) turns is single
    (λ j c e. subst (λ (k : ℕ). slice_get one.calls k ≡ Some c) (more n j) (calls (suc j) c e))
    (λ number low high. there number (omega arith) (omega arith)) (second_so _ _ built))
  where
    none : (n : ℕ) → n + 0 ≡ n
    none n = omega arith

    more : (n j : ℕ) → n + suc j ≡ n + 1 + j
    more n j = omega arith

    all_taken : (s : SessionId) (keys : List (Key × Mode)) → AllByRecursion (IsToldIn script lines) (takes s keys)
    all_taken s [] = tt
    all_taken s (k ∷ keys) = (tt, all_taken s keys)

-- so it is where the turns are the calls of the one client
pub all_told : (script : Script) (one : ClientCalls) (turns : List Turn) → script.clients ≡ one ∷ [] → script.namenodes ≡ 1 → list_all is_built_client script.clients ≡ true → calls_made turns ≡ one.calls
    → AllByRecursion (IsToldIn script (turns_lines 0 0 turns)) (turns_notes 0 turns)
all_told script one turns is single built made =
    let client_built : (is_built_client one && true) ≡ true = subst (λ (clients : List ClientCalls). list_all is_built_client clients ≡ true) is built in
    let all_built : list_all is_built (calls_made turns) ≡ true = ap (list_all is_built) made ∙ first_so (is_built_client one) true client_built in
    turns_told script one (turns_lines 0 0 turns) 0 turns is single
    (λ j asked e. subst (λ (k : ℕ). slice_get one.calls k ≡ Some asked) (from j) (sym (ap (λ (cs : List Call). slice_get cs j) made) ∙ e))
    (λ number low high. line_there 0 0 number turns low high) all_built
  where
    from : (j : ℕ) → j ≡ 0 + j
    from j = omega arith

-- the lines are of the calls, by their numbers
pub lines_numbered : (before n : ℕ) (turns : List Turn) → list_map call_answered (turns_lines before n turns) ≡ list_map (λ (number : ℕ). (0, number)) (range_with_len (n + 1) (length turns))
lines_numbered before n [] = refl
lines_numbered before n (turn ∷ turns) = ap (λ (pairs : List (ℕ × ℕ)). (0, n + 1) ∷ pairs) (lines_numbered (before + length (turn_notes (n + 1) turn)) (n + 1) turns)

-- what holds of a line that is done
pub each_line : (P : AnswerLine → Type 0) → ((number i : ℕ) (reply : Reply) → P (record { client = client 0; call = number; end = Done i reply })) → (before n : ℕ) (turns : List Turn) → AllByRecursion P (turns_lines before n turns)
each_line P holds before n [] = tt
each_line P holds before n (turn ∷ turns) = (holds (n + 1) (before + 1 + length turn.keys) turn.reply, each_line P holds (before + length (turn_notes (n + 1) turn)) (n + 1) turns)

at_seam : {X : Type 0} (xs : List X) (x : X) (ys : List X) → slice_get (xs ++ x ∷ ys) (length xs) ≡ Some x
at_seam [] x ys = refl
at_seam (y ∷ xs) x ys = at_seam xs x ys

-- the answer of a turn stands at the place that its line names
did_at : (before rest : List Note) (number : ℕ) (turn : Turn) → slice_get (before ++ (turn_notes number turn ++ rest)) (length before + 1 + length turn.keys) ≡ Some (does number turn)
did_at before rest number turn =
    ap (λ (notes : List Note). slice_get notes (length before + 1 + length turn.keys)) apart
    ∙ ap (λ (k : ℕ). slice_get (front ++ does number turn ∷ rest) k) (sym long)
    ∙ at_seam front (does number turn) rest
  where
    front : List Note
    front = before ++ opens turn.session number ∷ takes turn.session turn.keys

    apart : before ++ (turn_notes number turn ++ rest) ≡ front ++ does number turn ∷ rest
    apart =
        ap (λ (notes : List Note). before ++ opens turn.session number ∷ notes) (append_assoc (takes turn.session turn.keys) (does number turn ∷ []) rest)
        ∙ sym (append_assoc before (opens turn.session number ∷ takes turn.session turn.keys) (does number turn ∷ rest))

    long : length front ≡ length before + 1 + length turn.keys
    long =
        let sum : length front ≡ length before + suc (length (takes turn.session turn.keys)) = length-append before (opens turn.session number ∷ takes turn.session turn.keys) in
        let same : length (takes turn.session turn.keys) ≡ length turn.keys = length-map turn.keys _ in
        omega arith

-- the book bears the lines out
pub lines_borne : (script : Script) (lines : List AnswerLine) (all before : List Note) (n : ℕ) (turns : List Turn) → all ≡ before ++ turns_notes n turns
    → AllByRecursion (λ (line : AnswerLine). BorneOut script all lines line.client line.call line.end) (turns_lines (length before) n turns)
lines_borne script lines all before n [] is = tt
lines_borne script lines all before n (turn ∷ turns) is =
    let here : slice_get all (length before + 1 + length turn.keys) ≡ Some (does (n + 1) turn) =
    ap (λ (notes : List Note). slice_get notes (length before + 1 + length turn.keys)) is ∙ did_at before (turns_notes (n + 1) turns) (n + 1) turn in
    let rest = lines_borne script lines all (before ++ turn_notes (n + 1) turn) (n + 1) turns (is ∙ sym (append_assoc before (turn_notes (n + 1) turn) (turns_notes (n + 1) turns))) in (
      subst (λ (o : Option Note). IsSomeAnd o (λ note. (answers_call (client 0) (n + 1) note ≡ true) × Where (λ (a : Answering). as_read a.reply ≡ as_read turn.reply) (did note))) (sym here)
          (eq-eqb (n + 1) (n + 1) refl, refl),
      subst (λ (k : ℕ). AllByRecursion (λ (line : AnswerLine). BorneOut script all lines line.client line.call line.end) (turns_lines k (n + 1) turns)) (length-append before (turn_notes (n + 1) turn)) rest,
    )

-- the notes at which calls were done rise
places_above : (m before n : ℕ) (turns : List Turn) → m ≤ before → AllByRecursion (λ place. nat_cmp m place ≡ Less) (filter_map (λ (line : AnswerLine). done_at line.end) (turns_lines before n turns))
places_above m before n [] below = tt
places_above m before n (turn ∷ turns) below =
    (sym (nat_cmp_is m (before + 1 + length turn.keys) Less (omega arith)), places_above m (before + length (turn_notes (n + 1) turn)) (n + 1) turns (omega arith))

places_rise : (before n : ℕ) (turns : List Turn) → IsStrictlySortedBy nat_cmp (filter_map (λ (line : AnswerLine). done_at line.end) (turns_lines before n turns))
unfolding IsStrictlySortedBy
places_rise before n [] = tt
places_rise before n (turn ∷ turns) =
    (places_above (before + 1 + length turn.keys) (before + length (turn_notes (n + 1) turn)) (n + 1) turns (above n turn), places_rise (before + length (turn_notes (n + 1) turn)) (n + 1) turns)
  where
    above : (n : ℕ) (turn : Turn) → before + 1 + length turn.keys ≤ before + length (turn_notes (n + 1) turn)
    above n turn =
        let sum : length (turn_notes (n + 1) turn) ≡ suc (length (takes turn.session turn.keys ++ does (n + 1) turn ∷ [])) = refl in
        let tail : length (takes turn.session turn.keys ++ does (n + 1) turn ∷ []) ≡ length (takes turn.session turn.keys) + 1 = length-append (takes turn.session turn.keys) (does (n + 1) turn ∷ []) in
        let same : length (takes turn.session turn.keys) ≡ length turn.keys = length-map turn.keys _ in
        omega arith

first_lines : (before n : ℕ) (turns : List Turn) → filter (is_of_client (client 0)) (turns_lines before n turns) ≡ turns_lines before n turns
first_lines before n [] = refl
first_lines before n (turn ∷ turns) = ap (λ (lines : List AnswerLine). turn_line before (n + 1) turn ∷ lines) (first_lines (before + length (turn_notes (n + 1) turn)) (n + 1) turns)

pub lines_rise : (turns : List Turn) → IsStrictlySortedBy nat_cmp (dones (turns_lines 0 0 turns) (client 0))
lines_rise turns = subst (λ (lines : List AnswerLine). IsStrictlySortedBy nat_cmp (filter_map (λ (line : AnswerLine). done_at line.end) lines)) (sym (first_lines 0 0 turns)) (places_rise 0 0 turns)

-- they tell the replies
pub lines_tell : (before n : ℕ) (turns : List Turn) → list_map (λ (line : AnswerLine). reply_in line.end) (turns_lines before n turns) ≡ list_map Some (list_map (λ (turn : Turn). as_read turn.reply) turns)
lines_tell before n [] = refl
lines_tell before n (turn ∷ turns) = ap (λ (rs : List (Option Reply)). Some (as_read turn.reply) ∷ rs) (lines_tell (before + length (turn_notes (n + 1) turn)) (n + 1) turns)
