-- How hints are gathered row by row.
use Rattle.std.proofs.Common.{◌≡◌, ℕ, ◌+◌, ◌-◌, ◌<◌, ◌≤◌, arith, List, [], ◌∷◌, ◌++◌, length, get_or, take, drop, option_to_list, Option, Some, None, refl, sym, ap, ◌∙◌, append_assoc, append-nil, length-drop}
use Rattle.std.specs.List.{filter_map}
use Rattle.std.proofs.lemmas.List.Elements.{filter_map-append}
use Rattle.std.proofs.lemmas.List.{take_more, take_all}
use Rattle.hops_base.specs.declared.hint.Hint.{Hint}
use Rattle.hops_base.specs.declared.key.Key.{Key}
use Rattle.inode_table.specs.declared.inode.Inode.{Inode}
use Rattle.db_state.specs.Moves.{hint_of}

pub one_hint : (row : Key × Inode) → filter_map hint_of (row ∷ []) ≡ option_to_list (hint_of row)
one_hint row = by (hint_of row) refl
  where
    by : (o : Option Hint) → hint_of row ≡ o → filter_map hint_of (row ∷ []) ≡ option_to_list (hint_of row)
    by None is = rw is refl
    by (Some h) is = rw is refl

-- one row further
pub more_hints : (rows : List (Key × Inode)) (i : ℕ) (row : Key × Inode) (before now new : List Hint) → i < length rows → row ≡ get_or rows i row
    → now ≡ before ++ filter_map hint_of (take i rows) → new ≡ now ++ option_to_list (hint_of row) → new ≡ before ++ filter_map hint_of (take (i + 1) rows)
more_hints rows i row before now new low at so more =
    let taken : take (i + 1) rows ≡ take i rows ++ row ∷ [] = take_more rows i row low ∙ ap (λ (r : Key × Inode). take i rows ++ r ∷ []) (sym at) in
    let split : filter_map hint_of (take (i + 1) rows) ≡ filter_map hint_of (take i rows) ++ option_to_list (hint_of row) =
    ap (filter_map hint_of) taken ∙ filter_map-append hint_of (take i rows) (row ∷ []) ∙ ap (λ (hs : List Hint). filter_map hint_of (take i rows) ++ hs) (one_hint row) in
    more ∙ ap (λ (hs : List Hint). hs ++ option_to_list (hint_of row)) so ∙ append_assoc before (filter_map hint_of (take i rows)) (option_to_list (hint_of row)) ∙ ap (λ (hs : List Hint). before ++ hs) (sym split)

-- the rows below the first, and then the last
pub last_hint : (above : List (Key × Inode)) (last : Key × Inode) → 1 ≤ length above → filter_map hint_of (drop 1 (above ++ last ∷ [])) ≡ filter_map hint_of (drop 1 above) ++ option_to_list (hint_of last)
last_hint [] last long = absurd (omega arith)
last_hint (root ∷ below) last long = filter_map-append hint_of below (last ∷ []) ∙ ap (λ (hs : List Hint). filter_map hint_of below ++ hs) (one_hint last)

-- so the hints of a place are told
pub all_hints : (above : List (Key × Inode)) (last : Key × Inode) (start below all told : List Hint) → 1 ≤ length above → start ≡ [] → below ≡ start ++ filter_map hint_of (take (length above - 1) (drop 1 above))
    → all ≡ below ++ option_to_list (hint_of last) → told ≡ all → told ≡ filter_map hint_of (drop 1 (above ++ last ∷ [])) ++ []
all_hints above last start below all told long none rest more is =
    let whole : take (length above - 1) (drop 1 above) ≡ drop 1 above = take_all (length above - 1) (drop 1 above) (simp length-drop (omega arith)) in
    is ∙ more ∙ ap (λ (hs : List Hint). hs ++ option_to_list (hint_of last)) (rest ∙ ap (λ (hs : List Hint). hs ++ filter_map hint_of (take (length above - 1) (drop 1 above))) none ∙ ap (filter_map hint_of) whole)
    ∙ sym (last_hint above last long) ∙ sym (append-nil _)
