-- Laws of paths: their order, and what lies within what.
use Rattle.std.specs.Prelude.{◌≡◌, ◌≢◌, ◌⊎◌, ℕ, ◌+◌, Bool, true, false, ◌&&◌, List, [], ◌∷◌, ◌++◌, length, drop, ◌≤◌, nat_lt}
use Rattle.std.proofs.Common.{refl, sym, ap, ◌∙◌, subst, inl, inr, arith}
use Rattle.std.specs.Cmp.{eq_by_cmp_equiv}
use Rattle.std.specs.Ordering.{is_lt}
use Rattle.std.specs.declared.cmp.Ordering.{Ordering}
use Rattle.std.specs.declared.cmp.Ordering.TheVariants.{Less, Equal, Greater}
use Rattle.std.specs.Cmp.Lexicographic.{bytes_decides}
use Rattle.std.proofs.lemmas.Bool.{true≢false, and_parts, false_from_ne_true, ltb-false}
use Rattle.std.proofs.lemmas.List.{append_assoc, append-nil, length-append, nil_from_length}
use Rattle.std.proofs.lemmas.Map.Views.{tells_apart}
use Rattle.std.specs.Prelude.{bytes_eq}
use Rattle.hops_base.specs.Path.{path_cmp_total, same_path, is_below}
pub use Rattle.hops_base.proofs.Tells.{path_cmp_exact, paths_tell}
use Rattle.name_space.specs.Namespace.{Path, is_within}

pub same_path-self : (path : Path) → same_path path path ≡ true
same_path-self path = (eq_by_cmp_equiv path_cmp_total).refl path

pub same_path-is : (a b : Path) → same_path a b ≡ true → a ≡ b
same_path-is a b e = tells_apart path_cmp_exact a b e

pub same_path-not : (a b : Path) → a ≢ b → same_path a b ≡ false
same_path-not a b differ = false_from_ne_true (same_path a b) (λ e. differ (same_path-is a b e))

-- what comes before is less
pub is_less : (o : Ordering) → is_lt o ≡ true → o ≡ Less
is_less Less less = refl
is_less Equal less = absurd (true≢false (sym less))
is_less Greater less = absurd (true≢false (sym less))

-- ---- what lies within what

pub is_within-self : (path : Path) → is_within path path ≡ true
is_within-self [] = refl
is_within-self (name ∷ names) = λ i. (bytes_decides name name).1 refl i && is_within-self names i

pub is_within-append : (top rest : Path) → is_within top (top ++ rest) ≡ true
is_within-append [] rest = refl
is_within-append (name ∷ names) rest = λ i. (bytes_decides name name).1 refl i && is_within-append names rest i

-- a path within the top is the top and what follows it
pub is_within-rest : (top path : Path) → is_within top path ≡ true → top ++ drop (length top) path ≡ path
is_within-rest [] path e = refl
is_within-rest (name ∷ names) [] e = absurd (true≢false (sym e))
is_within-rest (name ∷ names) (other ∷ others) e =
    let parts = and_parts (bytes_eq name other) (is_within names others) e in
    λ i. (bytes_decides name other).0 parts.0 i ∷ is_within-rest names others parts.1 i

pub is_within-push : (top path : Path) (name : List ℕ) → is_within top path ≡ true → is_within top (path ++ name ∷ []) ≡ true
is_within-push top path name e =
    subst (λ (p : Path). is_within top (p ++ name ∷ []) ≡ true) (is_within-rest top path e) (ap (is_within top) (append_assoc top (drop (length top) path) (name ∷ [])) ∙ is_within-append top (drop (length top) path ++ name ∷ []))

-- what lies within the top is the top or has its parent there
pub is_within-pop : (top path : Path) (name : List ℕ) → is_within top (path ++ name ∷ []) ≡ true → (top ≡ path ++ name ∷ []) ⊎ (is_within top path ≡ true)
is_within-pop [] path name e = inr refl
is_within-pop (first ∷ top) [] name e =
    let parts = and_parts (bytes_eq first name) (is_within top []) e in
    (elim top as (λ (t : Path). is_within t [] ≡ true → (first ∷ t ≡ name ∷ []) ⊎ (is_within (first ∷ t) [] ≡ true)) [
      | [] ↦ λ _. inl (ap (λ (n : List ℕ). n ∷ []) ((bytes_decides first name).0 parts.0))
      | (second ∷ rest) ↦ λ bad. absurd (true≢false (sym bad))
    ]) parts.1
is_within-pop (first ∷ top) (other ∷ path) name e =
    let parts = and_parts (bytes_eq first other) (is_within top (path ++ name ∷ [])) e in
    (elim (is_within-pop top path name parts.1) [
      | inl same ↦ inl (λ i. (bytes_decides first other).0 parts.0 i ∷ same i)
      | inr within ↦ inr (λ i. parts.0 i && within i)
    ])

pub is_within-trans : (a b c : Path) → is_within a b ≡ true → is_within b c ≡ true → is_within a c ≡ true
is_within-trans a b c p q =
    let all : a ++ (drop (length a) b ++ drop (length b) c) ≡ c = sym (append_assoc a (drop (length a) b) (drop (length b) c)) ∙ ap (λ (x : Path). x ++ drop (length b) c) (is_within-rest a b p) ∙ is_within-rest b c q in
    subst (λ (x : Path). is_within a x ≡ true) all (is_within-append a (drop (length a) b ++ drop (length b) c))

-- what lies within a path is at least as long
pub is_within-long : (top path : Path) → is_within top path ≡ true → length top + length (drop (length top) path) ≡ length path
is_within-long top path e = sym (length-append top (drop (length top) path)) ∙ ap (λ (p : Path). length p) (is_within-rest top path e)

-- a path isn't within a longer one
pub not_within-push : (path : Path) (name : List ℕ) → is_within (path ++ name ∷ []) path ≡ false
not_within-push path name = false_from_ne_true (is_within (path ++ name ∷ []) path) (λ within.
    let long = is_within-long (path ++ name ∷ []) path within in
    let push = length-append path (name ∷ []) in
    absurd (omega arith))

pub not_within-root : (top : Path) → top ≢ [] → is_within top [] ≡ false
not_within-root [] not_root = absurd (not_root refl)
not_within-root (name ∷ names) not_root = refl

pub push-not_root : (path : Path) (name : List ℕ) → path ++ name ∷ [] ≢ []
push-not_root path name same =
    let long = ap (λ (p : Path). length p) same in
    let push = length-append path (name ∷ []) in
    absurd (omega arith)

-- what neither is a path nor lies strictly below it isn't within it
pub not_within-apart : (top path : Path) → is_below path top ≡ false → same_path top path ≡ false → is_within top path ≡ false
not_within-apart top path not_below differ = false_from_ne_true (is_within top path) (λ within.
    let long = is_within-long top path within in
    let short : length path ≤ length top = ltb-false (length top) (length path) (sym (ap (λ (b : Bool). b && nat_lt (length top) (length path)) within) ∙ not_below) in
    let none : drop (length top) path ≡ [] = nil_from_length (drop (length top) path) (omega arith) in
    let same : top ≡ path = sym (append-nil top) ∙ ap (λ (p : Path). top ++ p) (sym none) ∙ is_within-rest top path within in
    true≢false (sym (same_path-self top) ∙ ap (same_path top) same ∙ differ))

-- of two paths that one path lies within, one lies within the other
pub within_either : (a b path : Path) → is_within a path ≡ true → is_within b path ≡ true → (is_within a b ≡ true) ⊎ (is_within b a ≡ true)
within_either [] b path p q = inl refl
within_either (x ∷ a) [] path p q = inr refl
within_either (x ∷ a) (y ∷ b) [] p q = absurd (true≢false (sym p))
within_either (x ∷ a) (y ∷ b) (z ∷ path) p q =
    let first = and_parts (bytes_eq x z) (is_within a path) p in
    let second = and_parts (bytes_eq y z) (is_within b path) q in
    let same : x ≡ y = (bytes_decides x z).0 first.0 ∙ sym ((bytes_decides y z).0 second.0) in
    elim (within_either a b path first.1 second.1) [
      | inl within ↦ inl (λ i. (bytes_decides x y).1 same i && within i)
      | inr within ↦ inr (λ i. (bytes_decides y x).1 (sym same) i && within i)
    ]

-- what lies within what is the same under one path
pub is_within-under : (front top path : Path) → is_within (front ++ top) (front ++ path) ≡ is_within top path
is_within-under [] top path = refl
is_within-under (name ∷ names) top path = λ i. (bytes_decides name name).1 refl i && is_within-under names top path i
