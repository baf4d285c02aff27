-- What is counted of reads, where rows lead along a path from the root's.
use Rattle.std.proofs.Common.{◌≡◌, ◌≢◌, ℕ, suc, ◌+◌, ◌≤◌, Bool, true, false, not, ◌==◌, nat_le, cond, List, [], ◌∷◌, ◌++◌, length, arith, refl, sym, ap, ◌∙◌, inl, inr}
use Rattle.std.specs.List.{AllByRecursion, count_by}
use Rattle.std.proofs.lemmas.List.Sums.{sum_by-append}
use Rattle.std.proofs.lemmas.Bool.Decides.{nat_tests}
use Rattle.hops_base.specs.declared.ids.InodeId.{InodeId}
use Rattle.hops_base.specs.declared.key.Key.{Key}
use Rattle.hops_base.specs.declared.key.Key.TheVariants as key
use Rattle.hops_base.specs.Key.{same_key}
use Rattle.hops_base.proofs.Tells.{keys_tell}
use Rattle.inode_table.specs.declared.inode.Inode.{Inode}
use Rattle.db_state.specs.SessionParts.{LeadAlong}
use Rattle.db_state.specs.Stored.{root_key, root_row}

-- how many of the rows aren't the root's
abbrev pub read_of : List (Key × Inode) → ℕ
read_of rows = count_by (λ (r : Key × Inode). not (same_key r.0 root_key)) rows

pub read_of-append : (xs ys : List (Key × Inode)) → read_of (xs ++ ys) ≡ read_of xs + read_of ys
read_of-append xs ys = sum_by-append (λ (r : Key × Inode). cond (not (same_key r.0 root_key)) 1 0) xs ys

pub itself : (k : Key) → same_key k k ≡ true
itself k = elim (keys_tell k k) [ inl h ↦ h.0 | inr h ↦ absurd (h.1 refl) ]

pub apart_by : (k l : Key) → k ≢ l → same_key k l ≡ false
apart_by k l other = elim (keys_tell k l) [ inl h ↦ absurd (other h.1) | inr h ↦ h.0 ]

-- the root's row isn't counted
pub read_root : (row : Inode) → read_of ((root_key, row) ∷ []) ≡ 0
read_root row = ap (λ (b : Bool). 0 + cond {A = ℕ} (not b) 1 0) (itself root_key)

one_row : (row : Key × Inode) → same_key row.0 root_key ≡ false → read_of (row ∷ []) ≡ 1
one_row row other = ap (λ (b : Bool). 0 + cond {A = ℕ} (not b) 1 0) other

-- any other is
pub read_all : (rows : List (Key × Inode)) → AllByRecursion (λ (r : Key × Inode). same_key r.0 root_key ≡ false) rows → read_of rows ≡ length rows
read_all [] all = refl
read_all (row ∷ rows) all = read_of-append (row ∷ []) rows ∙ ap (λ (n : ℕ). n + read_of rows) (one_row row all.0) ∙ ap (λ (n : ℕ). 1 + n) (read_all rows all.1) ∙ omega arith

-- no row below one of another number than 0 is the root's
pub not_root : (parent : InodeId) (name : List ℕ) → 1 ≤ parent.0 → key.Inode parent name ≢ root_key
not_root parent name low is =
    let zero : parent.0 ≡ 0 = ap number is in
    absurd (omega arith)
  where
    number : Key → ℕ
    number (key.Inode id name) = id.0
    number (key.Quota id) = 0
    number (key.Lease client id) = 0
    number (key.Reply client) = 0
    number (key.Ongoing op) = 0
    number key.Gate = 0

-- where no row but the root's was found, there is one at most
pub read_none : (path : List (List ℕ)) (found : List (Key × Inode)) → LeadAlong path found → (read_of found == 0) ≡ nat_le (length found) 1
read_none path [] lead = refl
read_none path (root ∷ []) lead = ap (λ (n : ℕ). n == 0) (ap (λ (r : Key × Inode). read_of (r ∷ [])) lead.0 ∙ read_root root_row)
read_none [] (root ∷ row ∷ rows) lead = absurd lead.3
read_none (name ∷ names) (root ∷ row ∷ rows) lead =
    let key_is : row.0 ≡ key.Inode root.1.id name = lead.3.1 in
    let id : root.1.id ≡ record { 0 = 1 } = ap (λ (r : Key × Inode). r.1.id) lead.0 in
    let one : root.1.id.0 ≡ 1 = ap (λ (i : InodeId). i.0) id in
    let other : same_key row.0 root_key ≡ false = apart_by row.0 root_key (λ e. not_root root.1.id name (omega arith) (sym key_is ∙ e)) in
    let split : read_of (root ∷ row ∷ rows) ≡ read_of (root ∷ []) + read_of (row ∷ rows) = read_of-append (root ∷ []) (row ∷ rows) in
    let split' : read_of (row ∷ rows) ≡ read_of (row ∷ []) + read_of rows = read_of-append (row ∷ []) rows in
    let counted : read_of (row ∷ []) ≡ 1 = one_row row other in
    let some : 1 ≤ read_of (root ∷ row ∷ rows) = omega arith in
    above (read_of (root ∷ row ∷ rows)) some
  where
    above : (n : ℕ) → 1 ≤ n → (n == 0) ≡ nat_le (suc (suc (length rows))) 1
    above n some = grind (arith, nat_tests)
