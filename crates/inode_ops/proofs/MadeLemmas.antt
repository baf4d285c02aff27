-- New directories, one after another.
use Rattle.std.proofs.Common.{◌≡◌, ℕ, ◌+◌, ◌<◌, ◌≤◌, Bool, true, false, ◌||◌, nat_lt, List, [], ◌∷◌, ◌++◌, length, drop, get_or, Option, Some, refl, ap, sym, subst, ◌∙◌, append_assoc, append-nil, arith, zero, suc}
use Rattle.std.proofs.lemmas.Bool.Decides.{nat_tests}
use Rattle.std.proofs.Math.Seq.{drop-cons}
use Rattle.std.proofs.lemmas.Map.Views.{tells_apart}
use Rattle.std.specs.List.{list_all, list_any}
use Rattle.std.specs.Map.{keys_of}
use Rattle.std.specs.Cmp.{first_so, second_so}
use Rattle.hops_base.specs.Roomy.{Roomy}
use Rattle.hops_base.specs.declared.key.Key.{Key}
use Rattle.hops_base.specs.declared.key.Key.TheVariants as key
use Rattle.hops_base.specs.Key.{same_key, number_of}
use Rattle.hops_base.proofs.Tells.{key_cmp_exact}
use Rattle.db_state.specs.declared.writes.Row.{Row}
use Rattle.db_state.specs.declared.writes.Row.TheVariants as row
use Rattle.db_state.specs.Stored.{dir_row}
use Rattle.db_state.specs.NewDirs.{new_dirs}

-- the number of the key is below n
abbrev pub is_numbered_below : ℕ → Key → Bool
is_numbered_below n k = nat_lt (number_of k) n

-- so far i of the names have their directories, the last of which is the next one's parent
pub record IsMaking (parent next : ℕ) (owner : List ℕ) (names : List (List ℕ)) (i up id : ℕ) (writes : Roomy (Key × Option Row)) : Type 0 where
  pub rows : writes.items ++ new_dirs up id owner (drop i names) ≡ new_dirs parent next owner names
  pub count : length writes.items ≡ i
  pub room : length names ≤ writes.room
  pub below : up < id
  pub ids : id ≡ next + i
  pub fresh : list_all (is_numbered_below up) (keys_of writes.items) ≡ true

-- keys of lower parents are other keys
pub fresh_key : (up : ℕ) (name : List ℕ) (ks : List Key) → list_all (is_numbered_below up) ks ≡ true → list_any (same_key (key.Inode (record { 0 = up }) name)) ks ≡ false
fresh_key up name [] fresh = refl
fresh_key up name (k ∷ ks) fresh =
    elim (same_key (key.Inode (record { 0 = up }) name) k) as (λ b. same_key (key.Inode (record { 0 = up }) name) k ≡ b → (b || list_any (same_key (key.Inode (record { 0 = up }) name)) ks) ≡ false) [
      | true ↦ λ e. let same : up ≡ number_of k = ap number_of (tells_apart key_cmp_exact (key.Inode (record { 0 = up }) name) k e) in let low : nat_lt (number_of k) up ≡ true = first_so _ _ fresh in absurd (never up (number_of k) same low)
      | false ↦ λ e. fresh_key up name ks (second_so _ _ fresh)
    ] refl
  where
    never : (m n : ℕ) → m ≡ n → nat_lt n m ≡ true → ⊥
    never m n e h = grind (arith, nat_tests)

fresh_more : (up id : ℕ) (ks : List Key) → up < id → list_all (is_numbered_below up) ks ≡ true → list_all (is_numbered_below id) ks ≡ true
fresh_more up id [] h fresh = refl
fresh_more up id (k ∷ ks) h fresh =
    let here : nat_lt (number_of k) id ≡ true = higher (number_of k) up id h (first_so _ _ fresh) in
    let rest : list_all (is_numbered_below id) ks ≡ true = fresh_more up id ks h (second_so _ _ fresh) in
    rw (here, rest) refl
  where
    higher : (n up id : ℕ) → up < id → nat_lt n up ≡ true → nat_lt n id ≡ true
    higher n up id h e = grind (arith, nat_tests)

keys-push : (ws : List (Key × Option Row)) (w : Key × Option Row) → keys_of (ws ++ w ∷ []) ≡ keys_of ws ++ w.0 ∷ []
keys-push [] w = refl
keys-push (x ∷ ws) w = ap (λ (ks : List Key). x.0 ∷ ks) (keys-push ws w)

all-push : (id : ℕ) (ks : List Key) (k : Key) → list_all (is_numbered_below id) ks ≡ true → is_numbered_below id k ≡ true → list_all (is_numbered_below id) (ks ++ k ∷ []) ≡ true
all-push id [] k all here = rw here refl
all-push id (x ∷ ks) k all here =
    let first : is_numbered_below id x ≡ true = first_so _ _ all in
    let rest : list_all (is_numbered_below id) (ks ++ k ∷ []) ≡ true = all-push id ks k (second_so _ _ all) here in
    rw (first, rest) refl

-- nothing is new_dirs yet
pub making_none : (parent next : ℕ) (owner : List ℕ) (names : List (List ℕ)) (writes : Roomy (Key × Option Row)) → parent < next → writes.items ≡ [] → length names ≤ writes.room → IsMaking parent next owner names 0 parent next writes
making_none parent next owner names writes below none room = record {
  rows = rw none refl;
  count = rw none refl;
  room = room;
  below = below;
  ids = omega arith;
  fresh = rw none refl;
}

-- one directory more
pub making_next : (parent next : ℕ) (owner : List ℕ) (names : List (List ℕ)) (i up id : ℕ) (old new : Roomy (Key × Option Row)) (name : List ℕ) → IsMaking parent next owner names i up id old → i < length names → name ≡ get_or names i name → new ≡ record old { items = old.items ++ (key.Inode (record { 0 = up }) name, Some (row.Inode (dir_row id owner))) ∷ [] } → IsMaking parent next owner names (i + 1) id (id + 1) new
making_next parent next owner names i up id old new name making h item is =
    let here : is_numbered_below id (key.Inode (record { 0 = up }) name) ≡ true = lt up id making.below in
    record {
      rows = rw is (append_assoc old.items _ _ ∙ ap (λ (ws : List (Key × Option Row)). old.items ++ ws) (sym cut) ∙ making.rows);
      count = rw is (length_push old.items _ ∙ ap (λ n. n + 1) making.count);
      room = rw is making.room;
      below = omega arith;
      ids = let e : id ≡ next + i = making.ids in omega arith;
      fresh = subst (λ (r : Roomy (Key × Option Row)). list_all (is_numbered_below id) (keys_of r.items) ≡ true) (sym is) (rw (keys-push old.items (key.Inode (record { 0 = up }) name, Some (row.Inode (dir_row id owner)))) (all-push id (keys_of old.items) (key.Inode (record { 0 = up }) name) (fresh_more up id (keys_of old.items) making.below making.fresh) here));
    }
  where
    lt : (m n : ℕ) → m < n → nat_lt m n ≡ true
    lt m n h = grind (arith, nat_tests)

    cut : new_dirs up id owner (drop i names) ≡ (key.Inode (record { 0 = up }) name, Some (row.Inode (dir_row id owner))) ∷ new_dirs id (id + 1) owner (drop (i + 1) names)
    cut =
        let e : suc i ≡ i + 1 = omega arith in
        ap (new_dirs up id owner) (drop-cons names i name h ∙ ap (λ (n : List ℕ). n ∷ drop (suc i) names) (sym item) ∙ ap (λ (k : ℕ). name ∷ drop k names) e)

    length_push : (ws : List (Key × Option Row)) (w : Key × Option Row) → length (ws ++ w ∷ []) ≡ length ws + 1
    length_push [] w = refl
    length_push (x ∷ ws) w = let e = length_push ws w in omega arith

-- all are made
pub making_all : (parent next : ℕ) (owner : List ℕ) (names : List (List ℕ)) (i up id : ℕ) (writes : Roomy (Key × Option Row)) → IsMaking parent next owner names i up id writes → length names ≤ i → writes.items ≡ new_dirs parent next owner names
making_all parent next owner names i up id writes making h =
    let none : drop i names ≡ [] = drop-all i names h in
    let end : new_dirs up id owner (drop i names) ≡ [] = ap (new_dirs up id owner) none in
    sym (append-nil writes.items) ∙ ap (λ (ws : List (Key × Option Row)). writes.items ++ ws) (sym end) ∙ making.rows
  where
    drop-all : (i : ℕ) (names : List (List ℕ)) → length names ≤ i → drop i names ≡ []
    drop-all zero [] h = refl
    drop-all zero (x ∷ xs) h = absurd (omega arith)
    drop-all (suc i) [] h = refl
    drop-all (suc i) (x ∷ xs) h = drop-all i xs (omega arith)
