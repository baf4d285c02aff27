-- Which keys have their place as rows are reserved, put and removed.
use Rattle.std.proofs.Common.{◌≡◌, ℕ, ◌+◌, ◌<◌, Bool, true, false, not, ◌&&◌, ◌||◌, cond, is_some, List, [], ◌∷◌, ◌++◌, length, take, get_or, Option, Some, None, refl, ap, subst, ◌∙◌, add-one}
use Rattle.std.specs.FinMap as map
use Rattle.std.specs.FinSet as set
use Rattle.std.specs.List.{list_all, AllByRecursion, IsDistinct}
use Rattle.std.specs.Map.{keys_of}
use Rattle.std.specs.Cmp.{IsEquivalence, eq_by_cmp_equiv, first_so, second_so}
use Rattle.std.proofs.Math.Seq.{take-suc}
use Rattle.std.proofs.lemmas.Map.Keys.{IsDistinct-head, IsDistinct-tail}
use Rattle.hops_base.specs.declared.key.Key.{Key}
use Rattle.hops_base.specs.Key.{key_cmp, same_key, key_cmp_total}
use Rattle.inode_table.specs.declared.inode.Inode.{Inode}
use Rattle.quota_table.specs.declared.quota.QuotaRow.{QuotaRow}
use Rattle.row_store.specs.Table.{Table, has_place, ready_with}
use Rattle.row_store.proofs.ReadyLaws.{contains-ready_with}
use Rattle.db_state.specs.Stored as seen
use Rattle.db_state.specs.declared.tables.Tables.{Tables}
use Rattle.db_state.specs.declared.writes.Row.{Row}
use Rattle.db_state.specs.declared.writes.Row.TheVariants as row
use Rattle.db_state.specs.Written.{with_row, written}
use Rattle.db_state.specs.Places.{rows_of, is_placed, SameOfTable, KeptOfTable, SamePlaces, KeepsPlaces}

laws : IsEquivalence same_key
laws = eq_by_cmp_equiv key_cmp_total

-- another key is found under a map's other keys
apart : (k q : Key) → same_key k q ≡ false → same_key q k ≡ false
apart k q e = laws.symm q k ∙ e

ready_after_remove : (s : set.FinSet key_cmp) (k q : Key) → same_key k q ≡ false → set.contains (set.remove s k) q ≡ set.contains s q
ready_after_remove s k q e = set.contains-remove key_cmp_total s k q ∙ ap (λ b. not b && set.contains s q) (apart k q e)

module _ {R : Type 0} where
  found_after_insert : (m : map.FinMap key_cmp R) (k : Key) (v : R) (q : Key) → same_key k q ≡ false → map.contains_key (map.insert m k v) q ≡ map.contains_key m q
  found_after_insert m k v q e = ap is_some (map.get-insert key_cmp_total m k v q ∙ ap (λ b. cond b (Some v) (map.get m q)) (apart k q e))

  found_after_remove : (m : map.FinMap key_cmp R) (k q : Key) → same_key k q ≡ false → map.contains_key (map.remove m k) q ≡ map.contains_key m q
  found_after_remove m k q e = ap is_some (map.get-remove key_cmp_total m k q ∙ ap (λ b. cond b None (map.get m q)) (apart k q e))

  -- a row is put where one was
  pub same_places_set : (old new : Table R) (k : Key) (v : R) → new.rows ≡ map.insert old.rows k v → new.ready ≡ old.ready → SameOfTable k old new
  same_places_set old new k v rows ready q e = rw (rows, ready, found_after_insert old.rows k v q e) refl

  -- a row is put where none was
  pub same_places_insert : (old new : Table R) (k : Key) (v : R) → new.rows ≡ map.insert old.rows k v → new.ready ≡ set.remove old.ready k → SameOfTable k old new
  same_places_insert old new k v rows ready q e = rw (rows, ready, found_after_insert old.rows k v q e, ready_after_remove old.ready k q e) refl

  -- a row is removed
  pub same_places_remove : (old new : Table R) (k : Key) → new.rows ≡ map.remove old.rows k → new.ready ≡ set.remove old.ready k → SameOfTable k old new
  same_places_remove old new k rows ready q e = rw (rows, ready, found_after_remove old.rows k q e, ready_after_remove old.ready k q e) refl

  -- a table that is left as it is
  pub same_places_self : (t : Table R) (k : Key) → SameOfTable k t t
  same_places_self t k other e = refl

  -- a key that is reserved has its place, and no key loses its own
  pub reserved_here : (old new : Table R) (k : Key) → new.rows ≡ old.rows → new.ready ≡ ready_with old (k ∷ []) → has_place new k ≡ true
  reserved_here old new k rows ready =
      ap (λ m. map.contains_key m k || set.contains new.ready k) rows ∙ ap (λ s. map.contains_key old.rows k || set.contains s k) ready ∙ ap (λ b. map.contains_key old.rows k || b) (contains-ready_with old (k ∷ []) k) ∙ ap (λ b. map.contains_key old.rows k || (set.contains old.ready k || (not (map.contains_key old.rows k) && (b || false)))) (laws.refl k) ∙ cases (map.contains_key old.rows k) (set.contains old.ready k)
    where
      cases : (a b : Bool) → (a || (b || (not a && true))) ≡ true
      cases true b = refl
      cases false true = refl
      cases false false = refl

  pub reserved_others : (old new : Table R) (k : Key) → new.rows ≡ old.rows → new.ready ≡ ready_with old (k ∷ []) → KeptOfTable old new
  reserved_others old new k rows ready q h =
      ap (λ m. map.contains_key m q || set.contains new.ready q) rows ∙ ap (λ s. map.contains_key old.rows q || set.contains s q) ready ∙ ap (λ b. map.contains_key old.rows q || b) (contains-ready_with old (k ∷ []) q) ∙ cases (map.contains_key old.rows q) (set.contains old.ready q) _ h
    where
      cases : (a b c : Bool) → (a || b) ≡ true → (a || (b || c)) ≡ true
      cases true b c e = refl
      cases false true c e = refl
      cases false false c e = cc

  -- the first key that is reserved where no row is, is ready
  pub ready_first : (old new : Table R) (k : Key) → old.rows ≡ map.empty → new.ready ≡ ready_with old (k ∷ []) → set.contains new.ready k ≡ true
  ready_first old new k none ready =
      ap (λ s. set.contains s k) ready ∙ contains-ready_with old (k ∷ []) k
      ∙ ap (λ m. set.contains old.ready k || (not (map.contains_key m k) && (same_key k k || false))) none
      ∙ ap (λ o. set.contains old.ready k || (not (is_some o) && (same_key k k || false))) (map.get-empty {X = R} key_cmp k)
      ∙ ap (λ b. set.contains old.ready k || (b || false)) (laws.refl k) ∙ either (set.contains old.ready k)
    where
      either : (b : Bool) → (b || true) ≡ true
      either true = refl
      either false = refl

  kept_self : (t : Table R) → KeptOfTable t t
  kept_self t other e = e

-- where one table keeps its places and the other is left
pub kept_inodes : (old new : Tables) → KeptOfTable old.inodes new.inodes → new.quotas ≡ old.quotas → KeepsPlaces old new
kept_inodes old new kept same = (kept, λ other e. ap (λ t. has_place t other) same ∙ e)

pub kept_quotas : (old new : Tables) → new.inodes ≡ old.inodes → KeptOfTable old.quotas new.quotas → KeepsPlaces old new
kept_quotas old new same kept = (λ other e. ap (λ t. has_place t other) same ∙ e, kept)

-- what stays so for each write stays so for all
all_placed : (old new : Tables) (ws : List (Key × Option Row)) → AllByRecursion (λ (w : Key × Option Row). is_placed old w ≡ true → is_placed new w ≡ true) ws → list_all (is_placed old) ws ≡ true → list_all (is_placed new) ws ≡ true
all_placed old new [] each placed = refl
all_placed old new (w ∷ ws) each placed =
    elim (is_placed old w) as (λ b. is_placed old w ≡ b → (b && list_all (is_placed old) ws) ≡ true → (is_placed new w && list_all (is_placed new) ws) ≡ true) [
      | true ↦ λ e h. rw (each.0 e, all_placed old new ws each.1 h) refl
      | false ↦ λ e h. cc
    ] refl placed

after : (old new : Tables) (k : Key) → SamePlaces k old new → (w : Key × Option Row) → same_key k w.0 ≡ false → is_placed old w ≡ true → is_placed new w ≡ true
after old new k same (q, None) other e = refl
after old new k same (q, Some (row.Inode inode)) other e = same.0 q other ∙ e
after old new k same (q, Some (row.Quota quota)) other e = same.1 q other ∙ e

each_after : (old new : Tables) (k : Key) (ws : List (Key × Option Row)) → SamePlaces k old new → AllByRecursion (λ y. same_key k y ≡ false) (keys_of ws) → AllByRecursion (λ (w : Key × Option Row). is_placed old w ≡ true → is_placed new w ≡ true) ws
each_after old new k [] same others = tt
each_after old new k (w ∷ ws) same others = (after old new k same w others.0, each_after old new k ws same others.1)

-- the other rows keep their places
placed_after : (old new : Tables) (k : Key) (ws : List (Key × Option Row)) → SamePlaces k old new → AllByRecursion (λ y. same_key k y ≡ false) (keys_of ws) → list_all (is_placed old) ws ≡ true → list_all (is_placed new) ws ≡ true
placed_after old new k ws same others placed = all_placed old new ws (each_after old new k ws same others) placed

more : (old new : Tables) → KeepsPlaces old new → (w : Key × Option Row) → is_placed old w ≡ true → is_placed new w ≡ true
more old new kept (q, None) e = refl
more old new kept (q, Some (row.Inode inode)) e = kept.0 q e
more old new kept (q, Some (row.Quota quota)) e = kept.1 q e

each_more : (old new : Tables) → KeepsPlaces old new → (ws : List (Key × Option Row)) → AllByRecursion (λ (w : Key × Option Row). is_placed old w ≡ true → is_placed new w ≡ true) ws
each_more old new kept [] = tt
each_more old new kept (w ∷ ws) = (more old new kept w, each_more old new kept ws)

-- where no key loses its place, the rows keep theirs
pub placed_more : (old new : Tables) (ws : List (Key × Option Row)) → KeepsPlaces old new → list_all (is_placed old) ws ≡ true → list_all (is_placed new) ws ≡ true
placed_more old new ws kept placed = all_placed old new ws (each_more old new kept ws) placed

-- one row more is placed
pub placed_next : (t : Tables) (ws : List (Key × Option Row)) (i : ℕ) (w : Key × Option Row) → i < length ws → w ≡ get_or ws i w → list_all (is_placed t) (take i ws) ≡ true → is_placed t w ≡ true → list_all (is_placed t) (take (i + 1) ws) ≡ true
placed_next t ws i w h item placed here = rw (add-one, take-suc ws i w h, ← item) (all_push (take i ws) placed)
  where
    all_push : (xs : List (Key × Option Row)) → list_all (is_placed t) xs ≡ true → list_all (is_placed t) (xs ++ w ∷ []) ≡ true
    all_push [] e = rw here refl
    all_push (x ∷ xs) e = elim (is_placed t x) as (λ b. (b && list_all (is_placed t) xs) ≡ true → (b && list_all (is_placed t) (xs ++ w ∷ [])) ≡ true) [ true ↦ λ g. all_push xs g | false ↦ λ g. g ] e

-- what is left to write, and that it can be written
pub record IsLeft (start : seen.Tables) (all : List (Key × Option Row)) (t : Tables) (left : List (Key × Option Row)) : Type 0 where
  pub rows : written (rows_of t) left ≡ written start all
  pub placed : list_all (is_placed t) left ≡ true
  pub distinct : IsDistinct same_key (keys_of left)

-- the first of it can be written
pub first_placed : (start : seen.Tables) (all : List (Key × Option Row)) (t : Tables) (left rest : List (Key × Option Row)) (w : Key × Option Row) → IsLeft start all t left → left ≡ w ∷ rest → is_placed t w ≡ true
first_placed start all t left rest w is e = first_so _ _ (subst (λ (ws : List (Key × Option Row)). list_all (is_placed t) ws ≡ true) e is.placed)

-- and once it is, the others are left
pub rest_left : (start : seen.Tables) (all : List (Key × Option Row)) (old new : Tables) (left rest : List (Key × Option Row)) (w : Key × Option Row) → IsLeft start all old left → left ≡ w ∷ rest → rows_of new ≡ with_row (rows_of old) w.0 w.1 → SamePlaces w.0 old new → IsLeft start all new rest
rest_left start all old new left rest w is e rows places =
    let now : IsLeft start all old (w ∷ rest) = subst (λ (ws : List (Key × Option Row)). IsLeft start all old ws) e is in
    record {
      rows = ap (λ m. written m rest) rows ∙ now.rows;
      placed = placed_after old new w.0 rest places (IsDistinct-head same_key w.0 (keys_of rest) now.distinct) (second_so _ _ now.placed);
      distinct = IsDistinct-tail same_key w.0 (keys_of rest) now.distinct;
    }

-- a row that is to be put is placed where its key is
pub placed_inode : (t : Tables) (w : Key × Option Row) (inode : Inode) → w.1 ≡ Some (row.Inode inode) → has_place t.inodes w.0 ≡ true → is_placed t w ≡ true
placed_inode t w inode is e = rw is e

pub placed_quota : (t : Tables) (w : Key × Option Row) (quota : QuotaRow) → w.1 ≡ Some (row.Quota quota) → has_place t.quotas w.0 ≡ true → is_placed t w ≡ true
placed_quota t w quota is e = rw is e
