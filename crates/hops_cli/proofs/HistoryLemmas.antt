-- The history that the notes of the one client's calls tell is that of the plain calls.
use Rattle.std.proofs.Common.{◌≡◌, ℕ, ◌+◌, List, [], ◌∷◌, ◌++◌, map as list_map, refl, ap, sym, subst, ◌∙◌, append_assoc, append-nil}
use Rattle.hops_base.specs.Ids.{client}
use Rattle.hops_base.specs.declared.ids.Mode.{Mode}
use Rattle.hops_base.specs.declared.ids.SessionId.{SessionId}
use Rattle.hops_base.specs.declared.key.Key.{Key}
use Rattle.name_space.specs.declared.reply.Reply.{Reply}
use Rattle.name_space.specs.Namespace.{Namespace, opening}
use Rattle.name_space.specs.Calls.{plain, as_read, replies_of, space_after_calls}
use Rattle.commit_log.specs.declared.note.Note.{Note}
use Rattle.commit_log.specs.declared.note.Note.TheVariants.{Took}
use Rattle.commit_log.specs.Along.{EachAfter, Each}
use Rattle.commit_log.specs.Legal.{LegalAt, Legal, space}
use Rattle.commit_log.proofs.SpaceLaws.{space-push, space-none}
use Rattle.hops_cli.specs.Turning.{Turn, calls_made, opens, takes, does, turn_notes, turns_notes}

-- ---- the replies

each-apart : (P : List Note → Note → Type 0) (before xs ys : List Note) → EachAfter P before (xs ++ ys) → EachAfter P before xs × EachAfter P (before ++ xs) ys
each-apart P before [] ys each = (tt, subst (λ (b : List Note). EachAfter P b ys) (sym (append-nil before)) each)
each-apart P before (x ∷ xs) ys each =
    let rest = each-apart P (before ++ x ∷ []) xs ys each.1 in
    ((each.0, rest.0), subst (λ (b : List Note). EachAfter P b ys) (append_assoc before (x ∷ []) xs) rest.1)

-- locks leave the namespace
space-takes : (users : List (List ℕ)) (before : List Note) (s : SessionId) (keys : List (Key × Mode)) → space users (before ++ takes s keys) ≡ space users before
space-takes users before s [] = ap (space users) (append-nil before)
space-takes users before s (k ∷ keys) =
    ap (space users) (sym (append_assoc before (Took s k.0 k.1 ∷ []) (takes s keys)))
    ∙ space-takes users (before ++ Took s k.0 k.1 ∷ []) s keys
    ∙ space-push users before (Took s k.0 k.1)

-- the notes of a turn before its answer
abbrev until : List Note → ℕ → Turn → List Note
until before number turn = (before ++ opens turn.session number ∷ []) ++ takes turn.session turn.keys

space-until : (users : List (List ℕ)) (before : List Note) (number : ℕ) (turn : Turn) → space users (until before number turn) ≡ space users before
space-until users before number turn = space-takes users (before ++ opens turn.session number ∷ []) turn.session turn.keys ∙ space-push users before (opens turn.session number)

until_turn : (before : List Note) (number : ℕ) (turn : Turn) → before ++ turn_notes number turn ≡ until before number turn ++ does number turn ∷ []
until_turn before number turn =
    sym (append_assoc before (opens turn.session number ∷ []) (takes turn.session turn.keys ++ does number turn ∷ []))
    ∙ sym (append_assoc (before ++ opens turn.session number ∷ []) (takes turn.session turn.keys) (does number turn ∷ []))

-- the namespace after a turn is that after its plain call
space-turn : (user : List ℕ) (before : List Note) (number : ℕ) (turn : Turn) → space (user ∷ []) (before ++ turn_notes number turn) ≡ (plain (space (user ∷ []) before) (client 0) user turn.call).space
space-turn user before number turn =
    ap (space (user ∷ [])) (until_turn before number turn)
    ∙ space-push (user ∷ []) (until before number turn) (does number turn)
    ∙ ap (λ (old : Namespace). (plain old (client 0) user turn.call).space) (space-until (user ∷ []) before number turn)

legal_from : (user : List ℕ) (before : List Note) (n : ℕ) (turns : List Turn) → EachAfter (LegalAt (user ∷ [])) before (turns_notes n turns)
    → list_map (λ (turn : Turn). as_read turn.reply) turns ≡ replies_of (space (user ∷ []) before) (client 0) user (calls_made turns)
legal_from user before n [] each = refl
legal_from user before n (turn ∷ turns) each =
    let parts = each-apart (LegalAt (user ∷ [])) before (turn_notes (n + 1) turn) (turns_notes (n + 1) turns) each in
    let ends = each-apart (LegalAt (user ∷ [])) (before ++ opens turn.session (n + 1) ∷ []) (takes turn.session turn.keys) (does (n + 1) turn ∷ []) parts.0.1 in
    let told : as_read turn.reply ≡ (plain (space (user ∷ []) (until before (n + 1) turn)) (client 0) user turn.call).reply = ends.1.0 in
    let reply : as_read turn.reply ≡ (plain (space (user ∷ []) before) (client 0) user turn.call).reply =
    told ∙ ap (λ (old : Namespace). (plain old (client 0) user turn.call).reply) (space-until (user ∷ []) before (n + 1) turn) in
    let rest = legal_from user (before ++ turn_notes (n + 1) turn) (n + 1) turns parts.1 in
    ap (λ (r : Reply). r ∷ list_map (λ (t : Turn). as_read t.reply) turns) reply
    ∙ ap (λ (rs : List Reply). (plain (space (user ∷ []) before) (client 0) user turn.call).reply ∷ rs)
    (rest ∙ ap (λ (old : Namespace). replies_of old (client 0) user (calls_made turns)) (space-turn user before (n + 1) turn))

-- in a legal book the replies are those of the plain calls one after another
pub replies_plain : (user : List ℕ) (turns : List Turn) → Legal (user ∷ []) (turns_notes 0 turns) → list_map (λ (turn : Turn). as_read turn.reply) turns ≡ replies_of opening (client 0) user (calls_made turns)
unfolding Each
replies_plain user turns legal = legal_from user [] 0 turns legal ∙ ap (λ (old : Namespace). replies_of old (client 0) user (calls_made turns)) (space-none (user ∷ []))

-- ---- the last namespace

spaces : (user : List ℕ) (before : List Note) (n : ℕ) (turns : List Turn) → space (user ∷ []) (before ++ turns_notes n turns) ≡ space_after_calls (space (user ∷ []) before) (client 0) user (calls_made turns)
spaces user before n [] = ap (space (user ∷ [])) (append-nil before)
spaces user before n (turn ∷ turns) =
    ap (space (user ∷ [])) (sym (append_assoc before (turn_notes (n + 1) turn) (turns_notes (n + 1) turns)))
    ∙ spaces user (before ++ turn_notes (n + 1) turn) (n + 1) turns
    ∙ ap (λ (old : Namespace). space_after_calls old (client 0) user (calls_made turns)) (space-turn user before (n + 1) turn)

-- it is that after the plain calls
pub space_plain : (user : List ℕ) (turns : List Turn) → space (user ∷ []) (turns_notes 0 turns) ≡ space_after_calls opening (client 0) user (calls_made turns)
space_plain user turns = spaces user [] 0 turns ∙ ap (λ (old : Namespace). space_after_calls old (client 0) user (calls_made turns)) (space-none (user ∷ []))
