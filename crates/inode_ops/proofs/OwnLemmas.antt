-- The keys that the outcomes write: each is locked Exclusive, or in a new directory.
use Rattle.std.proofs.Common.{◌≡◌, ℕ, ◌+◌, ◌≤◌, Bool, true, false, cond, ◌||◌, nat_le, List, [], ◌∷◌, ◌++◌, map as list_map, slice_get, Option, Some, None, option_to_list, arith, zero, suc, refl, sym, ap, subst, ◌∙◌, inl, inr}
use Rattle.std.proofs.lemmas.Bool.{or_left, or_right, or_cases}
use Rattle.std.proofs.lemmas.Bool.Decides.{nat_tests}
use Rattle.std.specs.List.{AllByRecursion, list_any}
use Rattle.hops_base.specs.declared.ids.ClientNo.{ClientNo}
use Rattle.hops_base.specs.declared.ids.InodeId.{InodeId}
use Rattle.hops_base.specs.declared.ids.Mode.{Mode}
use Rattle.hops_base.specs.declared.ids.Mode.TheVariants.{Exclusive}
use Rattle.hops_base.specs.declared.key.Key.{Key}
use Rattle.hops_base.specs.declared.key.Key.TheVariants as key
use Rattle.hops_base.specs.Key.{same_key}
use Rattle.hops_base.proofs.Tells.{keys_tell}
use Rattle.inode_table.specs.declared.inode.Inode.{Inode}
use Rattle.inode_table.specs.declared.inode.Kind.{Kind}
use Rattle.inode_table.specs.declared.inode.Kind.TheVariants.{Dir}
use Rattle.quota_table.specs.declared.quota.QuotaRow.{QuotaRow}
use Rattle.db_state.specs.Stands.{Quotas, quota_of}
use Rattle.db_state.specs.Current.{Leads, SeesQuotas, stops_at, is_locked}
use Rattle.db_state.specs.Locked.{is_own, MayWrite}
use Rattle.db_state.specs.NewDirs.{new_dirs}
use Rattle.inode_ops.specs.NewFile.{new_file_rows}
use Rattle.db_state.specs.Plan.{in_mode, next, last_found, low}
use Rattle.db_state.specs.QuotaWrites.{quota_writes}
use Rattle.db_state.specs.declared.view.Place.{Place}
use Rattle.db_state.specs.declared.writes.Row.{Row}
use Rattle.inode_ops.specs.QuotaSteps.{quota_in, IsQuotaFound}

-- ---- what is locked

-- a key is itself
pub itself : (k : Key) → (same_key k k || false) ≡ true
itself k = elim (keys_tell k k) [ inl h ↦ ap (λ (b : Bool). b || false) h.0 | inr h ↦ absurd (h.1 refl) ]

-- where all keys are locked Exclusive, those that are locked are
pub own_is : (ks : List Key) (client : ClientNo) (k : Key) → is_own ((in_mode Exclusive ks ++ []) ++ (key.Reply client, Exclusive) ∷ []) k ≡ is_locked ((in_mode Exclusive ks ++ []) ++ (key.Reply client, Exclusive) ∷ []) k
own_is [] client k = refl
own_is (x ∷ ks) client k = ap (λ (b : Bool). same_key k x || b) (own_is ks client k)

pub own_among : (ks : List Key) (client : ClientNo) (k : Key) → list_any (same_key k) ks ≡ true → is_own ((in_mode Exclusive ks ++ []) ++ (key.Reply client, Exclusive) ∷ []) k ≡ true
own_among ks client k among = go ks among
  where
    go : (xs : List Key) → list_any (same_key k) xs ≡ true → is_own ((in_mode Exclusive xs ++ []) ++ (key.Reply client, Exclusive) ∷ []) k ≡ true
    go [] e = absurd (let bad = e in cc)
    go (x ∷ xs) e = elim (or_cases (same_key k x) (list_any (same_key k) xs) e) [
      | inl here ↦ or_left (same_key k x) (is_own ((in_mode Exclusive xs ++ []) ++ (key.Reply client, Exclusive) ∷ []) k) here
      | inr further ↦ or_right (same_key k x) (is_own ((in_mode Exclusive xs ++ []) ++ (key.Reply client, Exclusive) ∷ []) k) (go xs further)
    ]

-- a quota row that was read is of a locked key
seen_locked : (quotas : Quotas) (locked : List (Key × Mode)) (seen : List (InodeId × QuotaRow)) → SeesQuotas quotas locked seen → (id : InodeId) (quota : QuotaRow) → quota_in seen id ≡ Some quota → is_locked locked (key.Quota id) ≡ true
seen_locked quotas locked seen sees id quota is = by_lock (is_locked locked (key.Quota id)) refl
  where
    by_lock : (b : Bool) → is_locked locked (key.Quota id) ≡ b → b ≡ true
    by_lock true locks = refl
    by_lock false locks = absurd (let bad : Some quota ≡ None = sym is ∙ sees.rows id ∙ ap (λ (b : Bool). cond b (quota_of quotas id) None) locks in cc)

-- so it is locked Exclusive, where all are
pub seen_own : (quotas : Quotas) (ks : List Key) (client : ClientNo) (seen : List (InodeId × QuotaRow)) → SeesQuotas quotas ((in_mode Exclusive ks ++ []) ++ (key.Reply client, Exclusive) ∷ []) seen
    → (id : InodeId) (quota : QuotaRow) → quota_in seen id ≡ Some quota → is_own ((in_mode Exclusive ks ++ []) ++ (key.Reply client, Exclusive) ∷ []) (key.Quota id) ≡ true
seen_own quotas ks client seen sees id quota is = own_is ks client (key.Quota id) ∙ seen_locked quotas ((in_mode Exclusive ks ++ []) ++ (key.Reply client, Exclusive) ∷ []) seen sees id quota is

-- the last row found is among the keys low on a path
pub low_among : (place : Place) (last : Key × Inode) → last_found place ≡ Some last → list_any (same_key last.0) (low place) ≡ true
low_among place last is = ap (λ (o : Option (Key × Inode)). list_any (same_key last.0) (list_map (λ (r : Key × Inode). r.0) (option_to_list o))) is ∙ itself last.0

-- the first of the names that are missing below a directory is the next key
pub next_among : (place : Place) (last : Inode) (names : List (List ℕ)) → Leads last names [] place.missing → last.kind ≡ Dir → (name : List ℕ) → slice_get names 0 ≡ Some name → list_any (same_key (key.Inode last.id name)) (next place) ≡ true
next_among place last [] leads dir name first = absurd (let bad = first in cc)
next_among place last (n ∷ names) leads dir name first =
    let same : n ≡ name = cc in
    let is : place.missing ≡ Some (key.Inode last.id name) = leads ∙ ap (λ (k : Kind). stops_at k last.id n) dir ∙ ap (λ (x : List ℕ). Some (key.Inode last.id x)) same in
    ap (λ (o : Option Key). list_any (same_key (key.Inode last.id name)) (option_to_list o)) is ∙ itself (key.Inode last.id name)

-- ---- what is written

pub all_append : (locked : List (Key × Mode)) (next : ℕ) (a b : List (Key × Option Row)) → AllByRecursion (MayWrite locked next) a → AllByRecursion (MayWrite locked next) b → AllByRecursion (MayWrite locked next) (a ++ b)
all_append locked next [] b first second = second
all_append locked next (w ∷ a) b first second = (first.0, all_append locked next a b first.1 second)

-- quota rows that were read
pub quotas_may : (locked : List (Key × Mode)) (next : ℕ) (rows : List (Key × Inode)) (seen chosen : List (InodeId × QuotaRow)) (change : QuotaRow → QuotaRow)
    → ((id : InodeId) (quota : QuotaRow) → quota_in seen id ≡ Some quota → is_own locked (key.Quota id) ≡ true) → AllByRecursion (IsQuotaFound rows seen) chosen → AllByRecursion (MayWrite locked next) (quota_writes change chosen)
quotas_may locked next rows seen [] change own each = tt
quotas_may locked next rows seen (q ∷ chosen) change own each = (or_left (is_own locked (key.Quota q.0)) false (own q.0 q.1 each.0.1), quotas_may locked next rows seen chosen change own each.1)

low_test : (m n : ℕ) → m ≤ n → nat_le m n ≡ true
low_test m n low = grind (arith, nat_tests)

in_new : (locked : List (Key × Mode)) (next parent : ℕ) (name : List ℕ) → next ≤ parent → (is_own locked (key.Inode (record { 0 = parent }) name) || nat_le next parent) ≡ true
in_new locked next parent name low = or_right (is_own locked (key.Inode (record { 0 = parent }) name)) (nat_le next parent) (low_test next parent low)

-- new directories in new ones
dirs_in_new : (locked : List (Key × Mode)) (next parent id : ℕ) (owner : List ℕ) (names : List (List ℕ)) → next ≤ parent → next ≤ id → AllByRecursion (MayWrite locked next) (new_dirs parent id owner names)
dirs_in_new locked next parent id owner [] low here = tt
dirs_in_new locked next parent id owner (name ∷ names) low here = (in_new locked next parent name low, dirs_in_new locked next id (id + 1) owner names here (omega arith))

-- so below a directory that is there, where the first of them is locked
pub dirs_may : (locked : List (Key × Mode)) (next parent : ℕ) (owner : List ℕ) (names : List (List ℕ)) → ((name : List ℕ) → slice_get names 0 ≡ Some name → is_own locked (key.Inode (record { 0 = parent }) name) ≡ true)
    → AllByRecursion (MayWrite locked next) (new_dirs parent next owner names)
dirs_may locked next parent owner [] own = tt
dirs_may locked next parent owner (name ∷ names) own = (
  or_left (is_own locked (key.Inode (record { 0 = parent }) name)) (nat_le next parent) (own name refl),
  dirs_in_new locked next next (next + 1) owner names (omega arith) (omega arith),
)

-- the same of a new file below them
file_in_new : (locked : List (Key × Mode)) (next parent id : ℕ) (owner : List ℕ) (ups : List (List ℕ)) (name : List ℕ) (client : ClientNo) → next ≤ parent → next ≤ id → AllByRecursion (MayWrite locked next) (new_file_rows parent id owner ups name client)
file_in_new locked next parent id owner [] name client low here = (in_new locked next parent name low, tt)
file_in_new locked next parent id owner (up ∷ ups) name client low here = (in_new locked next parent up low, file_in_new locked next id (id + 1) owner ups name client here (omega arith))

pub file_may : (locked : List (Key × Mode)) (next parent : ℕ) (owner : List ℕ) (ups : List (List ℕ)) (name : List ℕ) (client : ClientNo) → ((first : List ℕ) → slice_get (ups ++ name ∷ []) 0 ≡ Some first → is_own locked (key.Inode (record { 0 = parent }) first) ≡ true)
    → AllByRecursion (MayWrite locked next) (new_file_rows parent next owner ups name client)
file_may locked next parent owner [] name client own = (or_left (is_own locked (key.Inode (record { 0 = parent }) name)) (nat_le next parent) (own name refl), tt)
file_may locked next parent owner (up ∷ ups) name client own = (
  or_left (is_own locked (key.Inode (record { 0 = parent }) up)) (nat_le next parent) (own up refl),
  file_in_new locked next next (next + 1) owner ups name client (omega arith) (omega arith),
)

-- a fact of each row is one of the row at a place
pub each_at : (P : Key × Inode → Type 0) (rows : List (Key × Inode)) (i : ℕ) (r : Key × Inode) → AllByRecursion P rows → slice_get rows i ≡ Some r → P r
each_at P [] i r all is = absurd (let bad = is in cc)
each_at P (x ∷ rows) zero r all is = let same : x ≡ r = cc in subst P same all.0
each_at P (x ∷ rows) (suc i) r all is = each_at P rows i r all.1 is
