-- UTF-8: the pieces of a text between its slashes, and the text of a path.
use Rattle.std.proofs.Common.{◌≡◌, ℕ, suc, ◌+◌, Bool, true, false, ◌&&◌, ◌==◌, get_or, List, [], ◌∷◌, ◌++◌, length, refl, sym, ap, subst, ◌∙◌, append-nil, length-append, arith, eqb-true}
use Rattle.std.proofs.Math.Seq.{take-append_seam, drop-append_seam}
use Rattle.std.proofs.lemmas.Bool.{and_parts, and_from}
use Rattle.std.proofs.lemmas.Str.{IsUtf8-append, IsUtf8-nil, IsUtf8-from_is_utf8, is_utf8-from_IsUtf8, IsUtf8-take, IsUtf8-drop, IsCharBoundary-before_ascii, IsCharBoundary-after_ascii, IsCharBoundary-end}
use Rattle.std.specs.List.{slice_split, list_all}
use Rattle.std.specs.Str.{IsUtf8, is_utf8, chars, IsCharBoundary}
use Rattle.hops_base.specs.Path.{joined, text_of, is_absolute, names_in}
use Rattle.hops_base.proofs.PathLaws.{joined-split}

-- a test that passes beside another changes nothing
pub and-true : (a b : Bool) → b ≡ true → (a && b) ≡ a
and-true true b e = e
and-true false b e = refl

-- before a slash or the end a text may be cut
before_slash : (front : List ℕ) (pieces : List (List ℕ)) → IsCharBoundary (front ++ joined pieces) (length front)
before_slash front [] = subst (λ (t : List ℕ). IsCharBoundary t (length front)) (sym (append-nil front)) (IsCharBoundary-end front)
before_slash front (piece ∷ pieces) =
    let rest : List ℕ = piece ++ joined pieces in
    let long : length (front ++ 47 ∷ rest) ≡ length front + suc (length rest) = length-append front (47 ∷ rest) in
    let at : get_or (front ++ 47 ∷ rest) (length front) 0 ≡ 47 = there front rest in
    IsCharBoundary-before_ascii (front ++ 47 ∷ rest) (length front) (omega arith) (omega arith)
  where
    there : (front rest : List ℕ) → get_or (front ++ 47 ∷ rest) (length front) 0 ≡ 47
    there [] rest = refl
    there (b ∷ front) rest = there front rest

-- where pieces, each after a slash, are UTF-8, each of them is
pub pieces_utf8 : (pieces : List (List ℕ)) → IsUtf8 (joined pieces) → list_all is_utf8 pieces ≡ true
pieces_utf8 [] u = refl
pieces_utf8 (piece ∷ pieces) u =
    let behind : IsUtf8 (piece ++ joined pieces) = IsUtf8-drop (47 ∷ (piece ++ joined pieces)) 1 u (IsCharBoundary-after_ascii (47 ∷ (piece ++ joined pieces)) 0 u (omega arith) (omega arith)) in
    let cut = before_slash piece pieces in
    let first : IsUtf8 piece = subst IsUtf8 (take-append_seam piece (joined pieces)) (IsUtf8-take (piece ++ joined pieces) (length piece) behind cut) in
    let rest : IsUtf8 (joined pieces) = subst IsUtf8 (drop-append_seam piece (joined pieces)) (IsUtf8-drop (piece ++ joined pieces) (length piece) behind cut) in
    and_from (is_utf8 piece) (list_all is_utf8 pieces) (is_utf8-from_IsUtf8 piece first) (pieces_utf8 pieces rest)

slash : is_utf8 (47 ∷ []) ≡ true
unfolding is_utf8 chars lib.Utf8.encode
slash = refl

slash_utf8 : IsUtf8 (47 ∷ [])
slash_utf8 = IsUtf8-from_is_utf8 (47 ∷ []) slash

-- the names in a text that begins with a slash and is UTF-8 are UTF-8
pub names_utf8 : (text : List ℕ) → is_absolute text ≡ true → is_utf8 text ≡ true → list_all is_utf8 (names_in text) ≡ true
names_utf8 [] absolute u = refl
names_utf8 (b ∷ []) absolute u = refl
names_utf8 (b ∷ next ∷ rest) absolute u =
    let first : b ≡ 47 = eqb-true b 47 absolute in
    let whole : joined (slice_split (λ b. b == 47) (next ∷ rest)) ≡ b ∷ next ∷ rest = joined-split (next ∷ rest) ∙ ap (λ (c : ℕ). c ∷ next ∷ rest) (sym first) in
    pieces_utf8 (slice_split (λ b. b == 47) (next ∷ rest)) (subst IsUtf8 (sym whole) (IsUtf8-from_is_utf8 (b ∷ next ∷ rest) u))

-- and pieces that are UTF-8 are so each after a slash
pub joined_utf8 : (names : List (List ℕ)) → list_all is_utf8 names ≡ true → IsUtf8 (joined names)
joined_utf8 [] all = IsUtf8-nil
joined_utf8 (name ∷ names) all =
    let parts = and_parts (is_utf8 name) (list_all is_utf8 names) all in
    IsUtf8-append (47 ∷ []) (name ++ joined names) slash_utf8 (IsUtf8-append name (joined names) (IsUtf8-from_is_utf8 name parts.0) (joined_utf8 names parts.1))

-- the text of a path whose names are UTF-8 is UTF-8
pub text_utf8 : (path : List (List ℕ)) → list_all is_utf8 path ≡ true → is_utf8 (text_of path) ≡ true
text_utf8 [] all = is_utf8-from_IsUtf8 (47 ∷ []) slash_utf8
text_utf8 (name ∷ names) all = is_utf8-from_IsUtf8 (joined (name ∷ names)) (joined_utf8 (name ∷ names) all)
