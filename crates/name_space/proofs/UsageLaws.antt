-- What a path uses, as a sum over its children.
use Rattle.std.proofs.Common.{◌≡◌, ℕ, ◌+◌, ◌==◌, Bool, true, false, ◌&&◌, cond, List, [], ◌∷◌, ◌++◌, length, take, drop, Option, Some, None, is_some, IsSome, refl, sym, ap, ◌∙◌, subst, inl, inr, arith}
use Rattle.std.specs.Cmp.{both_ways}
use Rattle.std.specs.FinMap.Entries as map
use Rattle.std.proofs.Math.Seq.{take-append_seam}
use Rattle.std.proofs.lemmas.Bool.{true≢false, and_parts, and_from, eqb-true, eq-eqb, false_from_ne_true}
use Rattle.std.proofs.lemmas.List.{append_assoc, append-nil, length-append}
use Rattle.hops_base.specs.Path.{path_cmp, same_path}
use Rattle.name_space.specs.declared.entry.Entry.{Entry}
use Rattle.name_space.specs.Namespace.{Namespace, Path, IsNamespace, entry_at, is_within, below, children, bytes_of, used_names, used_bytes}
use Rattle.name_space.proofs.PathLaws.{paths_tell, same_path-self, same_path-is, same_path-not, is_within-self, is_within-append, is_within-rest, is_within-trans, is_within-long}
use Rattle.name_space.specs.Namespace.{Rises}
use Rattle.name_space.proofs.NamespaceLaws.{dir_above, dir-exists}
use Rattle.name_space.proofs.MoveLaws.{not_later}
use Rattle.name_space.proofs.SumLaws.{total, total-is, total-ones, total-zero, total-add, total-ap, total-filter, total_same}
use Rattle.name_space.specs.Laws.{UsageIsASum}

-- the two orders of a double sum
total-swap : {X Y : Type 0} (p : X → Bool) (r : X → Y → Bool) (f : Y → ℕ) (xs : List X) (ys : List Y)
    → total (λ (x : X). cond (p x) (total (λ (y : Y). cond (r x y) (f y) 0) ys) 0) xs ≡ total (λ (y : Y). total (λ (x : X). cond (p x && r x y) (f y) 0) xs) ys
total-swap p r f [] ys = sym (total-zero ys)
total-swap {X} {Y} p r f (x ∷ xs) ys =
    (λ i. first (p x) i + total-swap p r f xs ys i) ∙ sym (total-add (λ (y : Y). cond (p x && r x y) (f y) 0) (λ (y : Y). total (λ (x : X). cond (p x && r x y) (f y) 0) xs) ys)
  where
    first : (b : Bool) → cond b (total (λ (y : Y). cond (r x y) (f y) 0) ys) 0 ≡ total (λ (y : Y). cond (b && r x y) (f y) 0) ys
    first true = refl
    first false = sym (total-zero ys)

-- ---- sums over a namespace

module _ (weight : Path × Entry → ℕ) (path : Path) where
  none_there : (es : Namespace) → entry_at es path ≡ None → total (λ (e : Path × Entry). cond (same_path path e.0) (weight e) 0) es ≡ 0
  none_there [] none = refl
  none_there (e ∷ es) none = elim (paths_tell path e.0) [
    | inl same ↦ absurd (true≢false (sym (ap (λ (b : Bool). is_some (cond b (Some e.1) (entry_at es path))) same.0) ∙ ap is_some none))
    | inr differ ↦
        let rest = none_there es (sym (ap (λ (b : Bool). cond b (Some e.1) (entry_at es path)) differ.0) ∙ none) in
        (λ i. cond (differ.0 i) (weight e) 0 + rest i)
  ]

  -- the share of one path is that of what stands there
  once_there : (es : Namespace) → Rises es → (entry : Entry) → entry_at es path ≡ Some entry → total (λ (e : Path × Entry). cond (same_path path e.0) (weight e) 0) es ≡ weight (path, entry)
  once_there [] rises entry found = absurd (true≢false (sym (ap is_some found)))
  once_there (e ∷ es) rises entry found =
      let parts = and_parts (map.below_all path_cmp e.0 es) (map.is_sorted path_cmp es) rises in
      elim (paths_tell path e.0) [
        | inl same ↦
            let rest = none_there es (ap (entry_at es) same.1 ∙ not_later e.0 es parts.0) in
            let value : Some e.1 ≡ Some entry = sym (ap (λ (b : Bool). cond b (Some e.1) (entry_at es path)) same.0) ∙ found in
            let it : weight e ≡ weight (path, entry) = λ i. weight (sym same.1 i, some_is e.1 entry value i) in
            (λ i. cond (same.0 i) (weight e) 0 + rest i) ∙ (omega arith)
        | inr differ ↦
            let rest = once_there es parts.1 entry (sym (ap (λ (b : Bool). cond b (Some e.1) (entry_at es path)) differ.0) ∙ found) in
            (λ i. cond (differ.0 i) (weight e) 0 + rest i) ∙ (omega arith)
      ]
    where
      some_is : (a b : Entry) → Some a ≡ Some b → a ≡ b
      some_is a b e = cc

-- ---- the children

-- the path stands one name below the top
abbrev is_child : Path → Path → Bool
is_child top path = is_within top path && (length path == length top + 1)

front-is : (top path : Path) → is_within top path ≡ true → take (length top) path ≡ top
front-is top path within = ap (λ (p : Path). take (length top) p) (sym (is_within-rest top path within)) ∙ take-append_seam top (drop (length top) path)

-- what lies strictly below the top lies within one child
child_tells : (top : Path) (name : List ℕ) (rest child : Path) → (is_child top child && is_within child (top ++ name ∷ rest)) ≡ same_path (top ++ name ∷ []) child
child_tells top name rest child =
    let at : Path = top ++ name ∷ rest in
    let first : Path = top ++ name ∷ [] in
    let long = length-append top (name ∷ []) in
    let all : first ++ rest ≡ at = append_assoc top (name ∷ []) rest in
    let within_first : is_within first at ≡ true = ap (is_within first) (sym all) ∙ is_within-append first rest in
    both_ways (is_child top child && is_within child at) (same_path first child)
    (λ is. let parts = and_parts (is_child top child) (is_within child at) is in
    let as_long = eqb-true (length child) (length top + 1) (and_parts (is_within top child) (length child == length top + 1) parts.0).1 in
    let lengths : length first ≡ length child = omega arith in
    let same : first ≡ child = sym (front-is first at within_first) ∙ ap (λ n. take n at) lengths ∙ front-is child at parts.1 in
    ap (same_path first) (sym same) ∙ same_path-self first)
    (λ is. subst (λ (p : Path). (is_child top p && is_within p at) ≡ true) (same_path-is first child is)
    (and_from (is_child top first) (is_within first at) (and_from (is_within top first) (length first == length top + 1) (is_within-append top (name ∷ [])) (eq-eqb (length first) (length top + 1) (omega arith))) within_first))

no_child : (top child at : Path) → (is_within top at ≡ true → length at ≡ length top) → (is_child top child && is_within child at) ≡ false
no_child top child at short = false_from_ne_true (is_child top child && is_within child at) (λ is.
    let parts = and_parts (is_child top child) (is_within child at) is in
    let kid = and_parts (is_within top child) (length child == length top + 1) parts.0 in
    let as_long = eqb-true (length child) (length top + 1) kid.1 in
    let long = is_within-long child at parts.1 in
    let equal = short (is_within-trans top child at kid.0 parts.1) in
    absurd (omega arith))

module _ (space : Namespace) (is : IsNamespace space) (weight : Path × Entry → ℕ) (top : Path) where
  -- how often an entry is counted below the children
  abbrev below_children : Path × Entry → ℕ
  below_children e = total (λ (child : Path × Entry). cond (is_child top child.0 && is_within child.0 e.0) (weight e) 0) space

  no_children : (e : Path × Entry) → (is_within top e.0 ≡ true → length e.0 ≡ length top) → below_children e ≡ 0
  no_children e short =
      total-ap (λ (child : Path × Entry). cond (is_child top child.0 && is_within child.0 e.0) (weight e) 0) (λ (child : Path × Entry). 0) space (λ child. ap (λ (b : Bool). cond b (weight e) 0) (no_child top child.0 e.0 short))
      ∙ total-zero space

  once_some : (n : ℕ) (path : Path) (found : Option Entry) → entry_at space path ≡ found → IsSome found → total (λ (child : Path × Entry). cond (same_path path child.0) n 0) space ≡ n
  once_some n path None found there = absurd (true≢false (sym there))
  once_some n path (Some entry) found there = once_there (λ (child : Path × Entry). n) path space is.rises entry found

  stands_above : (name : List ℕ) (names at : Path) → top ++ name ∷ names ≡ at → IsSome (entry_at space at) → IsSome (entry_at space (top ++ name ∷ []))
  stands_above name [] at all here = ap (λ (p : Path). is_some (entry_at space p)) all ∙ here
  stands_above name (next ∷ names) at all here =
      dir-exists (entry_at space (top ++ name ∷ []))
      (dir_above space is (top ++ name ∷ []) next names (ap (λ (p : Path). is_some (entry_at space p)) (append_assoc top (name ∷ []) (next ∷ names) ∙ all) ∙ here))

  below_one : (e : Path × Entry) → IsSome (entry_at space e.0) → (name : List ℕ) (names : Path) → top ++ name ∷ names ≡ e.0 → below_children e ≡ weight e
  below_one e here name names all =
      total-ap (λ (child : Path × Entry). cond (is_child top child.0 && is_within child.0 e.0) (weight e) 0) (λ (child : Path × Entry). cond (same_path (top ++ name ∷ []) child.0) (weight e) 0) space
      (λ child. ap (λ (b : Bool). cond b (weight e) 0) (ap (λ (p : Path). is_child top child.0 && is_within child.0 p) (sym all) ∙ child_tells top name names child.0))
      ∙ once_some (weight e) (top ++ name ∷ []) (entry_at space (top ++ name ∷ [])) refl (stands_above name names e.0 all here)

  -- each entry within the top is the top's own or counts below one child
  share : (e : Path × Entry) → IsSome (entry_at space e.0) → cond (is_within top e.0) (weight e) 0 ≡ cond (same_path top e.0) (weight e) 0 + below_children e
  share e here = by (is_within top e.0) refl (drop (length top) e.0) refl
    where
      by : (within : Bool) → is_within top e.0 ≡ within → (rest : Path) → drop (length top) e.0 ≡ rest → cond within (weight e) 0 ≡ cond (same_path top e.0) (weight e) 0 + below_children e
      by false w rest r =
          let none = no_children e (λ within. absurd (true≢false (sym within ∙ w))) in
          let apart : same_path top e.0 ≡ false = same_path-not top e.0 (λ same. true≢false (sym (is_within-self top) ∙ ap (is_within top) same ∙ w)) in
          sym ((λ i. cond (apart i) (weight e) 0 + none i))
      by true w [] r =
          let same : top ≡ e.0 = sym (append-nil top) ∙ ap (λ (p : Path). top ++ p) (sym r) ∙ is_within-rest top e.0 w in
          let none = no_children e (λ within. ap (λ (p : Path). length p) (sym same)) in
          let own : same_path top e.0 ≡ true = ap (same_path top) (sym same) ∙ same_path-self top in
          sym ((λ i. cond (own i) (weight e) 0 + none i) ∙ (omega arith))
      by true w (name ∷ names) r =
          let all : top ++ name ∷ names ≡ e.0 = ap (λ (p : Path). top ++ p) (sym r) ∙ is_within-rest top e.0 w in
          let long = length-append top (name ∷ names) in
          let apart : same_path top e.0 ≡ false = same_path-not top e.0 (λ same. let equal = ap (λ (p : Path). length p) (same ∙ sym all) in absurd (omega arith)) in
          let one : below_children e ≡ weight e = below_one e here name names all in
          sym ((λ i. cond (apart i) (weight e) 0 + one i) ∙ (omega arith))

  -- all that is within the top
  total_below : (entry : Entry) → entry_at space top ≡ Some entry → total weight (below space top) ≡ weight (top, entry) + total (λ (child : Path × Entry). total weight (below space child.0)) (children space top)
  total_below entry found =
      let own : Path × Entry → ℕ = λ e. cond (same_path top e.0) (weight e) 0 in
      let all : total weight (below space top) ≡ weight (top, entry) + total below_children space =
      total-filter (λ (e : Path × Entry). is_within top e.0) weight space
      ∙ total_same (λ (e : Path × Entry). cond (is_within top e.0) (weight e) 0) (λ (e : Path × Entry). own e + below_children e) space share
      ∙ total-add own below_children space
      ∙ ap (λ n. n + total below_children space) (once_there weight top space is.rises entry found) in
      let each : total (λ (child : Path × Entry). total weight (below space child.0)) (children space top) ≡ total below_children space =
      total-filter (λ (child : Path × Entry). is_child top child.0) (λ (child : Path × Entry). total weight (below space child.0)) space
      ∙ total-ap (λ (child : Path × Entry). cond (is_child top child.0) (total weight (below space child.0)) 0)
      (λ (child : Path × Entry). cond (is_child top child.0) (total (λ (e : Path × Entry). cond (is_within child.0 e.0) (weight e) 0) space) 0) space
      (λ child. ap (λ n. cond (is_child top child.0) n 0) (total-filter (λ (e : Path × Entry). is_within child.0 e.0) weight space))
      ∙ total-swap (λ (child : Path × Entry). is_child top child.0) (λ (child e : Path × Entry). is_within child.0 e.0) weight space space in
      all ∙ ap (λ n. weight (top, entry) + n) (sym each)

pub usage_is_a_sum : UsageIsASum
usage_is_a_sum space top entry is found =
    let names : Path × Entry → ℕ = λ e. 1 in
    let bytes : Path × Entry → ℕ = λ e. bytes_of e.1 in (
      total-ones (below space top) ∙ total_below space is names top entry found
          ∙ ap (λ n. 1 + n) (sym (total-is (λ (child : Path × Entry). used_names space child.0) (children space top)
          ∙ total-ap (λ (child : Path × Entry). used_names space child.0) (λ (child : Path × Entry). total names (below space child.0)) (children space top) (λ child. total-ones (below space child.0)))),
      total-is bytes (below space top) ∙ total_below space is bytes top entry found
          ∙ ap (λ n. bytes_of entry + n) (sym (total-is (λ (child : Path × Entry). used_bytes space child.0) (children space top)
          ∙ total-ap (λ (child : Path × Entry). used_bytes space child.0) (λ (child : Path × Entry). total bytes (below space child.0)) (children space top) (λ child. total-is bytes (below space child.0)))),
    )
