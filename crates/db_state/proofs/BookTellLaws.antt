-- How the book tells of a session, with one note more.
use Rattle.std.proofs.Common.{◌≡◌, ℕ, ◌+◌, ◌<◌, ◌≤◌, suc, Bool, true, false, not, ◌||◌, eqb, cond, nat_lt, List, [], ◌∷◌, ◌++◌, length, drop, Some, None, arith, refl, sym, ap, subst, ◌∙◌, eq-eqb}
use Rattle.std.proofs.lemmas.Bool.{ltb-true, lt-ltb, ne_eqb}
use Rattle.std.proofs.Math.Nat.{add-zero}
use Rattle.std.proofs.lemmas.List.{drop-append-le, length-append}
use Rattle.std.proofs.lemmas.List.Folds.{list_any-append, prefix_len-append}
use Rattle.std.specs.List.{list_any, position, position_or_len, prefix_len}
use Rattle.hops_base.specs.declared.ids.SessionId.{SessionId}
use Rattle.commit_log.specs.declared.note.Note.{Note}
use Rattle.commit_log.specs.Parts.{opens_session}
use Rattle.commit_log.specs.Orderly.{ends}
use Rattle.commit_log.specs.Licensed.{is_change_beside}
use Rattle.commit_log.proofs.PartLaws.{opening_of-kept}
use Rattle.db_state.specs.declared.session.Session.{Session}
use Rattle.db_state.specs.Stored.{Inodes}
use Rattle.db_state.specs.Stages.{is_over}
use Rattle.db_state.specs.SessionParts.{IsOpened, IsStillFound, IsAsFound}

-- one note more has one place more
pub length-push : (notes : List Note) (note : Note) → length (notes ++ note ∷ []) ≡ length notes + 1
length-push notes note = length-append notes (note ∷ [])

-- no note passes, and the one more doesn't
pub any-push : (test : Note → Bool) (notes : List Note) (note : Note) → list_any test notes ≡ false → test note ≡ false → list_any test (notes ++ note ∷ []) ≡ false
any-push test notes note none more = list_any-append test notes (note ∷ []) ∙ rw (none, more) refl

-- none passes of the first ones where none passes of all
pub any-front : (test : Note → Bool) (notes : List Note) (note : Note) → list_any test (notes ++ note ∷ []) ≡ false → list_any test notes ≡ false
any-front test notes note none = go (list_any test notes) (list_any test (note ∷ [])) (sym (list_any-append test notes (note ∷ [])) ∙ none)
  where
    go : (a b : Bool) → (a || b) ≡ false → a ≡ false
    go true b e = e
    go false b e = refl

-- nor of the last one
pub any-last : (test : Note → Bool) (notes : List Note) (note : Note) → list_any test (notes ++ note ∷ []) ≡ false → test note ≡ false
any-last test notes note none = go (list_any test notes) (test note) (sym (list_any-append test notes (note ∷ [])) ∙ none)
  where
    go : (a b : Bool) → (a || (b || false)) ≡ false → b ≡ false
    go a false e = refl
    go true true e = e
    go false true e = e

-- the first place at which a test passes stays
pub position-kept : (test : Note → Bool) (notes : List Note) (note : Note) (i : ℕ) → position test notes ≡ Some i → position test (notes ++ note ∷ []) ≡ Some i
position-kept test notes note i e =
    elim (nat_lt (position_or_len test notes) (length notes)) as (λ b. nat_lt (position_or_len test notes) (length notes) ≡ b → cond b (Some (position_or_len test notes)) None ≡ Some i
    → cond (nat_lt (position_or_len test (notes ++ note ∷ [])) (length (notes ++ note ∷ []))) (Some (position_or_len test (notes ++ note ∷ []))) None ≡ Some i) [
      | true ↦ λ is f.
          let less : position_or_len test notes < length notes = ltb-true (position_or_len test notes) (length notes) is in
          let apart : eqb (position_or_len test notes) (length notes) ≡ false = ne_eqb (position_or_len test notes) (length notes) (λ same. omega arith) in
          let same : position_or_len test (notes ++ note ∷ []) ≡ position_or_len test notes =
          prefix_len-append (λ x. not (test x)) notes (note ∷ []) ∙ ap (λ (b : Bool). cond b (length notes + prefix_len (λ x. not (test x)) (note ∷ [])) (position_or_len test notes)) apart in
          let longer : nat_lt (position_or_len test notes) (length (notes ++ note ∷ [])) ≡ true =
          ap (nat_lt (position_or_len test notes)) (length-push notes note) ∙ lt-ltb (position_or_len test notes) (length notes + 1) (omega arith) in
          rw (same, longer) f
      | false ↦ λ is f. absurd (let bad = f in cc)
    ] refl e

-- where none passes, the first place is that of the one more, which does
pub position-new : (test : Note → Bool) (notes : List Note) (note : Note) → list_any test notes ≡ false → test note ≡ true → position test (notes ++ note ∷ []) ≡ Some (length notes)
position-new test notes note none here =
    let all : position_or_len test notes ≡ length notes = all_pass notes none in
    let same : position_or_len test (notes ++ note ∷ []) ≡ length notes =
    prefix_len-append (λ x. not (test x)) notes (note ∷ []) ∙ ap (λ (n : ℕ). cond (eqb n (length notes)) (length notes + prefix_len (λ x. not (test x)) (note ∷ [])) n) all
    ∙ rw (eq-eqb (length notes) (length notes) refl, here, add-zero (length notes)) refl in
    let longer : nat_lt (length notes) (length (notes ++ note ∷ [])) ≡ true = ap (nat_lt (length notes)) (length-push notes note) ∙ lt-ltb (length notes) (length notes + 1) (omega arith) in
    rw (same, longer) refl
  where
    all_pass : (xs : List Note) → list_any test xs ≡ false → position_or_len test xs ≡ length xs
    all_pass [] e = refl
    all_pass (x ∷ xs) e =
        elim (test x) as (λ b. (b || list_any test xs) ≡ false → cond (not b) (1 + position_or_len test xs) 0 ≡ suc (length xs)) [
          | true ↦ λ f. absurd (let bad = f in cc)
          | false ↦ λ f. let one : 1 + length xs ≡ suc (length xs) = omega arith in ap (λ (n : ℕ). 1 + n) (all_pass xs f) ∙ one
        ] e

-- the note more doesn't end the session, where it is open
pub opened_on : (notes : List Note) (note : Note) (s : SessionId) (session : Session) → (is_over session.stage ≡ false → ends s note ≡ false) → IsOpened notes s session
    → IsOpened (notes ++ note ∷ []) s session
opened_on notes note s session lives is = record {
  opening = opening_of-kept notes (note ∷ []) s _ is.opening;
  place = position-kept (opens_session s) notes note session.opened is.place;
  since = (is.since.0, (let longer = length-push notes note in let old : session.since ≤ length notes = is.since.1 in subst (λ (n : ℕ). session.since ≤ n) (sym longer) (omega arith)));
  running = λ runs. any-push (ends s) notes note (is.running runs) (lives runs);
  valid = is.valid;
}

-- what was found is as it was found, with one note more, where only another's change changes a row
pub found_on : (old new : Inodes) (notes : List Note) (note : Note) (s : SessionId) (session : Session) → session.since ≤ length notes → (is_change_beside s note ≡ false → new ≡ old)
    → IsAsFound old notes s session → IsAsFound new (notes ++ note ∷ []) s session
found_on old new notes note s session low same is none =
    let split : drop session.since (notes ++ note ∷ []) ≡ drop session.since notes ++ note ∷ [] = drop-append-le session.since notes (note ∷ []) low in
    let quiet : list_any (is_change_beside s) (drop session.since notes ++ note ∷ []) ≡ false = subst (λ (ns : List Note). list_any (is_change_beside s) ns ≡ false) split none in
    let still : new ≡ old = same (any-last (is_change_beside s) (drop session.since notes) note quiet) in
    subst (λ (inodes : Inodes). IsStillFound inodes session.stage) (sym still) (is (any-front (is_change_beside s) (drop session.since notes) note quiet))
