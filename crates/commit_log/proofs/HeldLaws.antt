-- The locks that are held, note by note.
use Rattle.std.specs.Prelude.{◌≡◌, List, [], ◌∷◌, ◌++◌, refl}
use Rattle.std.proofs.Common.{sym, ap, ◌∙◌, append_assoc, append-nil}
use Rattle.commit_log.specs.declared.note.Note.{Note}
use Rattle.commit_log.specs.Parts.{Taking}
use Rattle.commit_log.specs.Locks.{held_after, held_from, held}

held_from-push : (before : List Note) (locks : List Taking) (notes : List Note) (note : Note) → held_from before locks (notes ++ note ∷ []) ≡ held_after (before ++ notes) (held_from before locks notes) note
held_from-push before locks [] note = ap (λ (b : List Note). held_after b locks note) (sym (append-nil before))
held_from-push before locks (n ∷ notes) note =
    held_from-push (before ++ n ∷ []) (held_after before locks n) notes note
    ∙ ap (λ (b : List Note). held_after b (held_from (before ++ n ∷ []) (held_after before locks n) notes) note) (append_assoc before (n ∷ []) notes)

-- one note more
pub held-push : (notes : List Note) (note : Note) → held (notes ++ note ∷ []) ≡ held_after notes (held notes) note
unfolding held
held-push notes note = held_from-push [] [] notes note

-- no notes
pub held-none : held [] ≡ []
unfolding held
held-none = refl
