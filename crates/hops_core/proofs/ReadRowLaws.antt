-- Laws of the rows of a path as they are read once more.
use Rattle.std.proofs.Common.{◌≡◌, ℕ, ◌+◌, ◌<◌, ◌≤◌, zero, suc, Bool, true, false, ◌&&◌, List, [], ◌∷◌, ◌++◌, length, take, get_or, set, slice_get, Option, Some, None, Err, arith, refl, sym, ap, subst, ◌∙◌, add-one, length-append}
use Rattle.std.specs.List.{list_all, AllByRecursion}
use Rattle.hops_base.specs.declared.ids.Mode.{Mode}
use Rattle.hops_base.specs.declared.ids.SessionId.{SessionId}
use Rattle.hops_base.specs.declared.key.Key.{Key}
use Rattle.inode_table.specs.declared.inode.Inode.{Inode}
use Rattle.row_locks.specs.Locks.{Locks}
use Rattle.db_state.specs.Consistent.{IsUnflagged}
use Rattle.db_state.specs.Current.{is_locked, is_unflagged}
use Rattle.db_state.specs.PlaceOf.{IsFound}
use Rattle.db_state.specs.ReadSteps.{AllPairs, IsReadAgain}
use Rattle.db_state.specs.State.{State}
use Rattle.path_resolver.proofs.CountLaws.{read_of, read_of-append}
use Rattle.chain_check.specs.Search.{is_held, HoldsRows, IsLastFree}
use Rattle.chain_check.proofs.CountLaws.{all_at}
use Rattle.hops_core.specs.declared.read.Halt.{Halt}
use Rattle.hops_core.specs.declared.read.Halt.TheVariants as halt
use Rattle.hops_core.specs.ReadLocked.{put, refreshed, AreRead, IsHeldAgain, IsRead, IsRow}

-- ---- lists

-- what is read before the end is there
pub read_there : {A : Type 0} (xs : List A) (i : ℕ) (x d : A) → i < length xs → x ≡ get_or xs i d → slice_get xs i ≡ Some x
read_there [] i x d fits is = absurd (omega arith)
read_there (y ∷ xs) zero x d fits is = cc
read_there (y ∷ xs) (suc i) x d fits is = read_there xs i x d (omega arith) is

-- the first of those that are left comes after those before it
pub next_of : {A : Type 0} (xs ys zs all : List A) (y : A) → ys ≡ y ∷ zs → xs ++ ys ≡ all → xs ++ y ∷ zs ≡ all
next_of xs ys zs all y is whole = ap (λ l. xs ++ l) (sym is) ∙ whole

-- ---- pairs

-- one pair more
pairs_on : {A B : Type 0} (R : A → B → Type 0) (xs : List A) (ys : List B) (i : ℕ) (x : A) (y : B) → slice_get xs i ≡ Some x → AllPairs R (take i xs) ys → R x y → AllPairs R (take (suc i) xs) (ys ++ y ∷ [])
pairs_on R [] ys i x y is all new = absurd (let bad = is in cc)
pairs_on R (z ∷ xs) [] zero x y is all new = let same : x ≡ z = cc in (subst (λ a. R a y) same new, tt)
pairs_on R (z ∷ xs) (w ∷ ys) zero x y is all new = absurd all
pairs_on R (z ∷ xs) [] (suc i) x y is all new = absurd all
pairs_on R (z ∷ xs) (w ∷ ys) (suc i) x y is all new = (all.0, pairs_on R xs ys i x y is all.1 new)

pub pairs_more : {A B : Type 0} (R : A → B → Type 0) (xs : List A) (ys : List B) (i : ℕ) (x : A) (y : B) → slice_get xs i ≡ Some x → AllPairs R (take i xs) ys → R x y → AllPairs R (take (i + 1) xs) (ys ++ y ∷ [])
pairs_more R xs ys i x y is all new = subst (λ (n : ℕ). AllPairs R (take n xs) (ys ++ y ∷ [])) (sym (add-one i)) (pairs_on R xs ys i x y is all new)

-- pairs are as many as each other
pub pairs_long : {A B : Type 0} (R : A → B → Type 0) (xs : List A) (ys : List B) → AllPairs R xs ys → length ys ≡ length xs
pairs_long R [] [] all = refl
pairs_long R [] (y ∷ ys) all = absurd all
pairs_long R (x ∷ xs) [] all = absurd all
pairs_long R (x ∷ xs) (y ∷ ys) all = ap suc (pairs_long R xs ys all.1)

-- ---- rows are put under their keys

pub refreshed_long : (found : List (Key × Inode)) (rows : List (Option Inode)) → length (refreshed found rows) ≡ length found
refreshed_long [] rows = refl
refreshed_long (row ∷ found) [] = refl
refreshed_long (row ∷ found) (now ∷ rows) = ap suc (refreshed_long found rows)

-- where none was read, all stay
pub refreshed_none : (found : List (Key × Inode)) → refreshed found [] ≡ found
refreshed_none [] = refl
refreshed_none (row ∷ found) = refl

-- one more is put
pub refreshed_more : (found : List (Key × Inode)) (rows : List (Option Inode)) (now : Option Inode) (d : Key × Inode) → length rows < length found
    → set (refreshed found rows) (length rows) (put (get_or (refreshed found rows) (length rows) d) now) ≡ refreshed found (rows ++ now ∷ [])
refreshed_more [] rows now d fits = absurd (omega arith)
refreshed_more (row ∷ found) [] now d fits = ap (λ (l : List (Key × Inode)). put row now ∷ l) (sym (refreshed_none found))
refreshed_more (row ∷ found) (r ∷ rows) now d fits = ap (λ (l : List (Key × Inode)). put row r ∷ l) (refreshed_more found rows now d (omega arith))

-- there is a place for the next one
pub refreshed_fits : (found : List (Key × Inode)) (all rows rest : List (Option Inode)) (now : Option Inode) → length all ≤ length found → rows ++ now ∷ rest ≡ all → length rows < length found
refreshed_fits found all rows rest now fits is = let long : length (rows ++ now ∷ rest) ≡ length all = ap length is in omega (arith, length-append rows (now ∷ rest))

-- ---- rows are read once more

-- where one halts, all do
pub halted_at : (state : State) (s : SessionId) (found : List (Key × Inode)) (i : ℕ) (row : Key × Inode) → slice_get found i ≡ Some row → (why : Halt) → IsRead state s row (Err why) → AreRead state s found (Err why)
halted_at state s found i row is halt.Changed why = λ all. why (all_at (IsHeldAgain state s) found i row all is)
halted_at state s found i row is halt.NoMemory why = tt

-- a row keeps its key
put_key : (found : Key × Inode) (now : Option Inode) → (put found now).0 ≡ found.0
put_key found None = refl
put_key found (Some now) = refl

key_on : (found : List (Key × Inode)) (rows : List (Option Inode)) (i : ℕ) (row : Key × Inode) → slice_get found i ≡ Some row → (new : Key × Inode) × (slice_get (refreshed found rows) i ≡ Some new) × (new.0 ≡ row.0)
key_on [] rows i row is = absurd (let bad = is in cc)
key_on (x ∷ found) [] i row is = (row, is, refl)
key_on (x ∷ found) (now ∷ rows) zero row is = let same : x ≡ row = cc in (put x now, refl, put_key x now ∙ ap (λ (r : Key × Inode). r.0) same)
key_on (x ∷ found) (now ∷ rows) (suc i) row is = key_on found rows i row is

key_back : (found : List (Key × Inode)) (rows : List (Option Inode)) (i : ℕ) (new : Key × Inode) → slice_get (refreshed found rows) i ≡ Some new → (row : Key × Inode) × (slice_get found i ≡ Some row) × (new.0 ≡ row.0)
key_back [] rows i new is = absurd (let bad = is in cc)
key_back (x ∷ found) [] i new is = (new, is, refl)
key_back (x ∷ found) (now ∷ rows) zero new is = let same : put x now ≡ new = cc in (x, refl, sym (ap (λ (r : Key × Inode). r.0) same) ∙ put_key x now)
key_back (x ∷ found) (now ∷ rows) (suc i) new is = key_back found rows i new is

-- so the same rows are held
module _ (locks : Locks) (s : SessionId) (found : List (Key × Inode)) (rows : List (Option Inode)) where
  held_again : (low high : ℕ) → HoldsRows locks s found low high → HoldsRows locks s (refreshed found rows) low high
  held_again low high held i row from below is = let was = key_back found rows i row is in ap (is_held locks s) was.2 ∙ held i was.0 from below was.1

  pub free_again : (mark : ℕ) (next : Option ℕ) → IsLastFree locks s found mark next → IsLastFree locks s (refreshed found rows) mark next
  free_again mark None held = held_again 1 mark held
  free_again mark (Some number) free =
      let now = key_on found rows number free.row free.there in
      record { row = now.0; there = now.1; free = ap (is_held locks s) now.2 ∙ free.free; low = free.low; high = free.high; passed = held_again (number + 1) mark free.passed }

-- and as many aren't the root's
pub count_again : (found : List (Key × Inode)) (rows : List (Option Inode)) → read_of (refreshed found rows) ≡ read_of found
count_again [] rows = refl
count_again (x ∷ found) [] = refl
count_again (x ∷ found) (now ∷ rows) =
    read_of-append (put x now ∷ []) (refreshed found rows) ∙ ap (λ (n : ℕ). read_of (put x now ∷ []) + n) (count_again found rows) ∙ ap (λ (n : ℕ). n + read_of found) (one now) ∙ sym (read_of-append (x ∷ []) found)
  where
    one : (now : Option Inode) → read_of (put x now ∷ []) ≡ read_of (x ∷ [])
    one None = refl
    one (Some now) = refl

-- ---- what the rows are then

module _ (state : State) (s : SessionId) where
  -- a locked row is the table's, and any other as it was
  row_again : (locked : List (Key × Mode)) → ((at : Key) → is_held state.locks s at ≡ is_locked locked at) → (found : Key × Inode) (now : Option Inode) → IsRow state s found now → IsReadAgain state.stored.inodes locked found (put found now)
  row_again locked holds found None free = record {
    key = refl;
    same = record { id = refl; kind = refl; writer = refl; has_quota = refl };
    held = λ lock. absurd (let bad : true ≡ false = sym lock ∙ sym (holds found.0) ∙ free in cc);
    other = λ unlocked. refl;
  }
  row_again locked holds found (Some now) is = record {
    key = refl;
    same = is.2;
    held = λ lock. is.1;
    other = λ unlocked. absurd (let bad : true ≡ false = sym is.0 ∙ holds found.0 ∙ unlocked in cc);
  }

  pub rows_again : (locked : List (Key × Mode)) → ((at : Key) → is_held state.locks s at ≡ is_locked locked at) → (found : List (Key × Inode)) (rows : List (Option Inode)) → AllPairs (IsRow state s) found rows
      → AllPairs (IsReadAgain state.stored.inodes locked) found (refreshed found rows)
  rows_again locked holds [] [] all = tt
  rows_again locked holds [] (now ∷ rows) all = absurd all
  rows_again locked holds (x ∷ found) [] all = absurd all
  rows_again locked holds (x ∷ found) (now ∷ rows) all = (row_again locked holds x now all.0, rows_again locked holds found rows all.1)

  -- none bears a flag
  pub flags_again : IsUnflagged state.stored.inodes → (found : List (Key × Inode)) (rows : List (Option Inode)) → AllPairs (IsRow state s) found rows → list_all (λ (r : Key × Inode). is_unflagged None r.1.flag) found ≡ true
      → list_all (λ (r : Key × Inode). is_unflagged None r.1.flag) (refreshed found rows) ≡ true
  flags_again flags [] rows all plain = refl
  flags_again flags (x ∷ found) [] all plain = absurd all
  flags_again flags (x ∷ found) (now ∷ rows) all plain =
      let parts = both (is_unflagged None x.1.flag) (list_all (λ (r : Key × Inode). is_unflagged None r.1.flag) found) plain in
      ap (λ b. b && list_all (λ (r : Key × Inode). is_unflagged None r.1.flag) (refreshed found rows)) (one now all.0 parts.0) ∙ flags_again flags found rows all.1 parts.1
    where
      both : (a b : Bool) → (a && b) ≡ true → (a ≡ true) × (b ≡ true)
      both true b is = (refl, is)
      both false b is = absurd (let bad = is in cc)

      one : (now : Option Inode) → IsRow state s x now → is_unflagged None x.1.flag ≡ true → is_unflagged None (put x now).1.flag ≡ true
      one None free here = here
      one (Some now) is here = ap (is_unflagged None) (flags x.0 now is.1)

  -- none has a quota
  pub limits_again : (found : List (Key × Inode)) (rows : List (Option Inode)) → AllPairs (IsRow state s) found rows → AllByRecursion (λ (r : Key × Inode). r.1.has_quota ≡ false) found
      → AllByRecursion (λ (r : Key × Inode). r.1.has_quota ≡ false) (refreshed found rows)
  limits_again [] rows all bare = tt
  limits_again (x ∷ found) [] all bare = absurd all
  limits_again (x ∷ found) (now ∷ rows) all bare = (one now all.0, limits_again found rows all.1 bare.1)
    where
      one : (now : Option Inode) → IsRow state s x now → (put x now).1.has_quota ≡ false
      one None free = bare.0
      one (Some now) is = is.2.has_quota ∙ bare.0

  -- where the rows were the table's, they are
  pub found_again : (found : List (Key × Inode)) (rows : List (Option Inode)) → AllPairs (IsRow state s) found rows → AllByRecursion (IsFound state.stored.inodes) found → AllByRecursion (IsFound state.stored.inodes) (refreshed found rows)
  found_again [] rows all there = tt
  found_again (x ∷ found) [] all there = absurd all
  found_again (x ∷ found) (now ∷ rows) all there = (one now all.0, found_again found rows all.1 there.1)
    where
      one : (now : Option Inode) → IsRow state s x now → IsFound state.stored.inodes (put x now)
      one None free = there.0
      one (Some now) is = is.1
