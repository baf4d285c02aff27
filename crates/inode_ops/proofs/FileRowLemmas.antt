-- The rows of new directories and of a new file below them.
use Rattle.std.proofs.Common.{◌≡◌, ◌≢◌, ℕ, ◌+◌, ◌-◌, ◌<◌, ◌≤◌, Bool, true, false, ◌||◌, nat_lt, List, [], ◌∷◌, ◌++◌, length, Option, Some, Result, IfOk, refl, ap, sym, subst, ◌∙◌, arith, inl, inr}
use Rattle.std.proofs.lemmas.Bool.Decides.{nat_tests}
use Rattle.std.specs.List.{list_all, list_any}
use Rattle.std.specs.Map.{keys_of}
use Rattle.hops_base.specs.declared.key.Key.{Key}
use Rattle.hops_base.specs.declared.key.Key.TheVariants as key
use Rattle.hops_base.specs.Key.{same_key}
use Rattle.hops_base.proofs.Tells.{keys_tell}
use Rattle.hops_base.specs.declared.ids.ClientNo.{ClientNo}
use Rattle.hops_base.specs.declared.ids.InodeId.{InodeId}
use Rattle.inode_table.specs.declared.inode.Inode.{Inode}
use Rattle.db_state.specs.declared.view.Place.{Place}
use Rattle.db_state.proofs.PathLaws.{same_id}
use Rattle.inode_ops.proofs.FileLaws.{new_file_rows-last}
use Rattle.db_state.specs.declared.writes.Row.TheVariants as row
use Rattle.inode_ops.specs.Steps.{IsRefused}
use Rattle.inode_ops.specs.CreateSteps.{IsFiledUnless}
use Rattle.hops_base.specs.declared.memory.NoMemory.{NoMemory}
use Rattle.name_space.specs.declared.reply.Exception.{Exception}
use Rattle.db_state.specs.declared.view.View.{View}
use Rattle.db_state.specs.declared.outcome.Outcome.{Outcome}
use Rattle.db_state.specs.declared.writes.Row.{Row}
use Rattle.db_state.specs.NewDirs.{new_dirs}
use Rattle.inode_ops.specs.NewFile.{file_row, new_file_rows, last_dir}
use Rattle.inode_ops.proofs.CountLemmas.{HasNoQuotas}
use Rattle.inode_ops.proofs.MadeLemmas.{is_numbered_below, fresh_key}

-- the last of new directories has the last of their ids
pub last_dir-count : (parent next : ℕ) (names : List (List ℕ)) → length names ≢ 0 → last_dir parent next names ≡ next + (length names - 1)
last_dir-count parent next [] some = absurd (some refl)
last_dir-count parent next (name ∷ []) some = omega arith
last_dir-count parent next (name ∷ other ∷ names) some =
    let rest = last_dir-count next (next + 1) (other ∷ names) (λ zero. let bad = zero in omega arith) in
    rest ∙ (omega arith)

past_all : (names : List (List ℕ)) (parent next : ℕ) (owner : List ℕ) → parent < next → (parent ≤ last_dir parent next names) × (list_all (is_numbered_below (last_dir parent next names)) (keys_of (new_dirs parent next owner names)) ≡ true)
past_all [] parent next owner below = (omega arith, refl)
past_all (name ∷ names) parent next owner below =
    let rest = past_all names next (next + 1) owner (omega arith) in
    let far : next ≤ last_dir next (next + 1) names = rest.0 in
    let here : nat_lt parent (last_dir next (next + 1) names) ≡ true = lt parent (last_dir next (next + 1) names) (omega arith) in
    (omega arith, rw (here, rest.1) refl)
  where
    lt : (m n : ℕ) → m < n → nat_lt m n ≡ true
    lt m n h = grind (arith, nat_tests)

-- no name under it is written with them
pub fresh_file : (id : InodeId) (parent next : ℕ) (owner last : List ℕ) (names : List (List ℕ)) (writes : List (Key × Option Row)) → id.0 ≡ last_dir parent next names → parent < next → writes ≡ new_dirs parent next owner names
    → list_any (same_key (key.Inode id last)) (keys_of writes) ≡ false
fresh_file id parent next owner last names writes is below are =
    let ids : id ≡ record { 0 = last_dir parent next names } = same_id id (record { 0 = last_dir parent next names }) is in
    (λ i. list_any (same_key (key.Inode (ids i) last)) (keys_of (are i)))
    ∙ fresh_key (last_dir parent next names) last (keys_of (new_dirs parent next owner names)) (past_all names parent next owner below).1

-- with the file's row they are all rows of the new file
pub file_pushed : (id : InodeId) (parent next : ℕ) (owner last : List ℕ) (names : List (List ℕ)) (client : ClientNo) (file : Inode) (writes after : List (Key × Option Row)) → id.0 ≡ last_dir parent next names → writes ≡ new_dirs parent next owner names
    → file ≡ file_row (next + length names) client owner → after ≡ writes ++ (key.Inode id last, Some (row.Inode file)) ∷ [] → after ≡ new_file_rows parent next owner names last client
file_pushed id parent next owner last names client file writes after is are file_is after_is =
    let ids : id ≡ record { 0 = last_dir parent next names } = same_id id (record { 0 = last_dir parent next names }) is in
    after_is ∙ (λ i. are i ++ (key.Inode (ids i) last, Some (row.Inode (file_is i))) ∷ []) ∙ sym (new_file_rows-last names parent next owner last client)

other_key : (id parent : InodeId) (name : List ℕ) → same_key (key.Quota id) (key.Inode parent name) ≡ false
other_key id parent name = elim (keys_tell (key.Quota id) (key.Inode parent name)) [
  | inl h ↦ absurd (let bad = h.1 in cc)
  | inr h ↦ h.0
]

-- new directories and a file write no quota row
pub file_new : (names : List (List ℕ)) (parent next : ℕ) (owner last : List ℕ) (client : ClientNo) → HasNoQuotas (new_file_rows parent next owner names last client)
file_new [] parent next owner last client id = ap (λ (b : Bool). b || false) (other_key id (record { 0 = parent }) last)
file_new (name ∷ names) parent next owner last client id =
    ap (λ (b : Bool). b || list_any (same_key (key.Quota id)) (keys_of (new_file_rows next (next + 1) owner names last client))) (other_key id (record { 0 = parent }) name)
    ∙ file_new names next (next + 1) owner last client id

-- nor does an inode's row
pub row_new : (parent : InodeId) (name : List ℕ) (at : Key) (made : Option Row) (writes : List (Key × Option Row)) → at ≡ key.Inode parent name → writes ≡ (at, made) ∷ [] → HasNoQuotas writes
row_new parent name at made writes is are id =
    ap (λ (ws : List (Key × Option Row)). list_any (same_key (key.Quota id)) (keys_of ws)) are
    ∙ ap (λ (k : Key). same_key (key.Quota id) k || false) is
    ∙ ap (λ (b : Bool). b || false) (other_key id parent name)

-- a refusal for want of room
pub refused_file : (full : Option Exception) (exception : Exception) (last : Inode) (place : Place) (view : View) (client : ClientNo) (owner : List ℕ) (names : List (List ℕ)) (r : Result Outcome NoMemory)
    → full ≡ Some exception → IfOk r (IsRefused exception) → IfOk r (IsFiledUnless full last place view client owner names)
refused_file full exception last place view client owner names r is refused = subst (λ (o : Option Exception). IfOk r (IsFiledUnless o last place view client owner names)) (sym is) refused
