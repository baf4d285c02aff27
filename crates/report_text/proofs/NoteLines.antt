-- The lines of notes, one after another.
use Rattle.std.proofs.Common.{◌≡◌, ℕ, ◌+◌, ◌<◌, List, [], ◌∷◌, ◌++◌, length, map, flat_map, take, get_or, refl, ap, sym, ◌∙◌, append-nil, append_assoc, arith}
use Rattle.std.specs.List.{enumerate_from}
use Rattle.std.proofs.lemmas.List.{take_more, length-take-le}
use Rattle.std.proofs.lemmas.List.Concat.{flat_map-append}
use Rattle.commit_log.specs.declared.note.Note.{Note}
use Rattle.report_text.specs.Notes.{note_data}
use Rattle.report_text.specs.Report.{line_of, notes_data}

module _ {X D : Type 0} (f : ℕ × X → D) where
  numbered-push : (k n : ℕ) (xs : List X) (x : X) → n ≡ k + length xs → map f (enumerate_from k (xs ++ x ∷ [])) ≡ map f (enumerate_from k xs) ++ f (n, x) ∷ []
  numbered-push k n [] x e = let same : n ≡ k = omega arith in rw same refl
  numbered-push k n (y ∷ xs) x e = ap (λ rest. f (k, y) ∷ rest) (numbered-push (k + 1) n xs x (omega arith))

  numbered-next : (line : D → List ℕ) (k : ℕ) (xs : List X) (i : ℕ) (x : X) → i < length xs → x ≡ get_or xs i x
      → flat_map line (map f (enumerate_from k (take (i + 1) xs))) ≡ flat_map line (map f (enumerate_from k (take i xs))) ++ line (f (k + i, x))
  numbered-next line k xs i x h at =
      let counted : length (take i xs) ≡ i = length-take-le i xs (omega arith) in
      let before = map f (enumerate_from k (take i xs)) in
      let more : take (i + 1) xs ≡ take i xs ++ x ∷ [] = take_more xs i x h ∙ ap (λ y. take i xs ++ y ∷ []) (sym at) in
      let mapped : map f (enumerate_from k (take i xs ++ x ∷ [])) ≡ before ++ f (k + i, x) ∷ [] = numbered-push k (k + i) (take i xs) x (omega arith) in
      ap (λ ys. flat_map line (map f (enumerate_from k ys))) more ∙ ap (flat_map line) mapped ∙ flat_map-append line before (f (k + i, x) ∷ []) ∙ ap (λ rest. flat_map line before ++ rest) (append-nil (line (f (k + i, x))))

-- the line of the next note
pub notes-next : (first : ℕ) (notes : List Note) (i : ℕ) (note : Note) → i < length notes → note ≡ get_or notes i note
    → flat_map line_of (notes_data first (take (i + 1) notes)) ≡ flat_map line_of (notes_data first (take i notes)) ++ line_of (note_data (first + i) note)
notes-next = numbered-next (λ p. note_data p.0 p.1) line_of

-- a text to which a line is added
pub lines-next : (old text new before after line : List ℕ) → text ≡ old ++ before → new ≡ text ++ line → after ≡ before ++ line → new ≡ old ++ after
lines-next old text new before after line held added more = added ∙ ap (λ t. t ++ line) held ∙ append_assoc old before line ∙ ap (λ t. old ++ t) (sym more)
