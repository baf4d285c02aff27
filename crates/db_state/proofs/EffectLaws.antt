-- What keeps the rows that others have read: a row that changes in place, one that goes from a directory that is owned, one
-- that moves between two such directories, and new rows in such a directory.
use Rattle.std.proofs.Common.{◌≡◌, ℕ, ◌+◌, ◌≤◌, Bool, true, cond, ◌⊎◌, inl, inr, List, [], ◌∷◌, Option, Some, None, arith, refl, sym, ap, subst, ◌∙◌}
use Rattle.std.specs.FinMap as map
use Rattle.hops_base.specs.declared.ids.InodeId.{InodeId}
use Rattle.hops_base.specs.declared.ids.Mode.{Mode}
use Rattle.hops_base.specs.declared.key.Key.{Key}
use Rattle.hops_base.specs.declared.key.Key.TheVariants as key
use Rattle.hops_base.specs.Key.{key_cmp_total, number_of}
use Rattle.hops_base.proofs.Tells.{keys_tell}
use Rattle.inode_table.specs.declared.inode.Inode.{Inode}
use Rattle.db_state.specs.declared.writes.Row.TheVariants as row
use Rattle.db_state.specs.Stored.{Inodes, Tables, dir_row}
use Rattle.db_state.specs.Written.{with_row, written}
use Rattle.db_state.specs.NewDirs.{new_dirs}
use Rattle.db_state.specs.Effects.{WasThere, OwnsDir, KeepsRows}
use Rattle.db_state.proofs.PathLaws.{same_id}

-- ---- what a key has after one write

-- where a row is put under a key, another key has what it had
pub got_after_insert : (rows : Inodes) (at k : Key) (new : Inode) (o : Option Inode) → map.get (map.insert rows at new) k ≡ o → ((at ≡ k) × (Some new ≡ o)) ⊎ (map.get rows k ≡ o)
got_after_insert rows at k new o e =
    let got = sym (map.get-insert key_cmp_total rows at new k) ∙ e in
    elim (keys_tell k at) [
      | inl h ↦ inl (sym h.1, subst (λ (b : Bool). cond b (Some new) (map.get rows k) ≡ o) h.0 got)
      | inr h ↦ inr (subst (λ (b : Bool). cond b (Some new) (map.get rows k) ≡ o) h.0 got)
    ]

-- and so where a key's row is removed
pub got_after_remove : (rows : Inodes) (at k : Key) (o : Option Inode) → map.get (map.remove rows at) k ≡ o → ((at ≡ k) × (None ≡ o)) ⊎ (map.get rows k ≡ o)
got_after_remove rows at k o e =
    let got = sym (map.get-remove key_cmp_total rows at k) ∙ e in
    elim (keys_tell k at) [
      | inl h ↦ inl (sym h.1, subst (λ (b : Bool). cond b None (map.get rows k) ≡ o) h.0 got)
      | inr h ↦ inr (subst (λ (b : Bool). cond b None (map.get rows k) ≡ o) h.0 got)
    ]

-- a key has no row and none at once
there_and_none : (rows : Inodes) (at : Key) (row : Inode) → map.get rows at ≡ Some row → map.get rows at ≡ None → ⊥
there_and_none rows at row e none = cc

module _ (locked : List (Key × Mode)) (next : ℕ) (moves : Option InodeId) (old : Inodes) where
  was_itself : (at : Key) (row : Inode) → map.get old at ≡ Some row → WasThere old at row
  was_itself at row e = record { was = row; there = e; id = refl; kind = refl; quota = λ has. has }

  -- where nothing changes
  pub keeps_all : KeepsRows locked next moves old old
  keeps_all = record {
    kept = λ at row e. inl (was_itself at row e);
    added = λ parent name row e none. absurd (there_and_none old (key.Inode parent name) row e none);
    removed = λ parent name row e none. absurd (there_and_none old (key.Inode parent name) row e none);
  }

  -- ---- a row changes in place

  keeps_set : (at : Key) (was new : Inode) → map.get old at ≡ Some was → WasThere old at new ⊎ ((next ≤ new.id.0) ⊎ (moves ≡ Some new.id)) → KeepsRows locked next moves old (map.insert old at new)
  keeps_set at was new there may = record {
    kept = λ k row e. elim (got_after_insert old at k new (Some row) e) [
      | inl h ↦
          let same : new ≡ row = (let got = h.1 in cc) in
          subst (λ (r : Inode). WasThere old k r ⊎ ((next ≤ r.id.0) ⊎ (moves ≡ Some r.id))) same
          (subst (λ (l : Key). WasThere old l new ⊎ ((next ≤ new.id.0) ⊎ (moves ≡ Some new.id))) h.0 may)
      | inr was ↦ inl (was_itself k row was)
    ];
    added = λ parent name row e none. absurd (elim (got_after_insert old at (key.Inode parent name) new (Some row) e) [
      | inl h ↦ there_and_none old (key.Inode parent name) was (subst (λ (l : Key). map.get old l ≡ Some was) h.0 there) none
      | inr was ↦ there_and_none old (key.Inode parent name) row was none
    ]);
    removed = λ parent name row e none. absurd (elim (got_after_insert old at (key.Inode parent name) new None none) [
      | inl h ↦ (let bad = h.1 in cc)
      | inr gone ↦ there_and_none old (key.Inode parent name) row e gone
    ]);
  }

  -- it keeps its id and kind, and gets no quota
  pub keeps_changed : (at : Key) (was new : Inode) → map.get old at ≡ Some was → new.id ≡ was.id → new.kind ≡ was.kind → (new.has_quota ≡ true → was.has_quota ≡ true) → KeepsRows locked next moves old (map.insert old at new)
  keeps_changed at was new there id kind quota = keeps_set at was new there (inl (record { was = was; there = there; id = id; kind = kind; quota = quota }))

  -- it is the one that may get a quota
  pub keeps_marked : (at : Key) (was new : Inode) → map.get old at ≡ Some was → moves ≡ Some new.id → KeepsRows locked next moves old (map.insert old at new)
  keeps_marked at was new there is = keeps_set at was new there (inr (inr is))

  -- ---- a row goes

  -- after other writes, where each directory whose key it is is owned
  pub keeps_left : (mid : Inodes) (at : Key) → KeepsRows locked next moves old mid → ((parent : InodeId) (name : List ℕ) → at ≡ key.Inode parent name → OwnsDir old locked parent) → KeepsRows locked next moves old (map.remove mid at)
  keeps_left mid at keeps own = record {
    kept = λ k row e. keeps.kept k row (left k row e);
    added = λ parent name row e none. keeps.added parent name row (left (key.Inode parent name) row e) none;
    removed = λ parent name row e none. elim (got_after_remove mid at (key.Inode parent name) None none) [
      | inl h ↦ own parent name h.0
      | inr gone ↦ keeps.removed parent name row e gone
    ];
  }
    where
      left : (k : Key) (row : Inode) → map.get (map.remove mid at) k ≡ Some row → map.get mid k ≡ Some row
      left k row e = elim (got_after_remove mid at k (Some row) e) [
        | inl h ↦ absurd (let bad = h.1 in cc)
        | inr stays ↦ stays
      ]

  -- from an owned directory
  pub keeps_left_in : (mid : Inodes) (parent : InodeId) (name : List ℕ) → KeepsRows locked next moves old mid → OwnsDir old locked parent → KeepsRows locked next moves old (map.remove mid (key.Inode parent name))
  keeps_left_in mid parent name keeps own = keeps_left mid (key.Inode parent name) keeps (λ up n same. subst (OwnsDir old locked) (same_id parent up (ap number_of same)) own)

  pub keeps_removed : (parent : InodeId) (name : List ℕ) → OwnsDir old locked parent → KeepsRows locked next moves old (map.remove old (key.Inode parent name))
  keeps_removed parent name own = keeps_left_in old parent name keeps_all own

  -- ---- one row more in a directory

  -- of an id that is new, or that moves, in a directory that is new or owned
  pub keeps_put : (mid : Inodes) (parent : InodeId) (name : List ℕ) (new : Inode) → KeepsRows locked next moves old mid → (next ≤ new.id.0) ⊎ (moves ≡ Some new.id) → (next ≤ parent.0) ⊎ OwnsDir old locked parent
      → KeepsRows locked next moves old (map.insert mid (key.Inode parent name) new)
  keeps_put mid parent name new keeps free own = record {
    kept = λ k row e. elim (got_after_insert mid (key.Inode parent name) k new (Some row) e) [
      | inl h ↦ let same : new ≡ row = (let got = h.1 in cc) in inr (subst (λ (r : Inode). (next ≤ r.id.0) ⊎ (moves ≡ Some r.id)) same free)
      | inr there ↦ keeps.kept k row there
    ];
    added = λ up n row e none. elim (got_after_insert mid (key.Inode parent name) (key.Inode up n) new (Some row) e) [
      | inl h ↦ subst (λ (i : InodeId). (next ≤ i.0) ⊎ OwnsDir old locked i) (same_id parent up (ap number_of h.0)) own
      | inr there ↦ keeps.added up n row there none
    ];
    removed = λ up n row e none. elim (got_after_insert mid (key.Inode parent name) (key.Inode up n) new None none) [
      | inl h ↦ absurd (let bad = h.1 in cc)
      | inr gone ↦ keeps.removed up n row e gone
    ];
  }

  pub keeps_grown : (mid : Inodes) (parent : InodeId) (name : List ℕ) (new : Inode) → KeepsRows locked next moves old mid → next ≤ new.id.0 → (next ≤ parent.0) ⊎ OwnsDir old locked parent
      → KeepsRows locked next moves old (map.insert mid (key.Inode parent name) new)
  keeps_grown mid parent name new keeps free own = keeps_put mid parent name new keeps (inl free) own

  -- the row that moves goes from one owned directory to another
  pub keeps_moved : (from : InodeId) (name : List ℕ) (to : InodeId) (named : List ℕ) (new : Inode) → moves ≡ Some new.id → OwnsDir old locked from → OwnsDir old locked to
      → KeepsRows locked next moves old (map.insert (map.remove old (key.Inode from name)) (key.Inode to named) new)
  keeps_moved from name to named new is own_from own_to = keeps_put (map.remove old (key.Inode from name)) to named new (keeps_removed from name own_from) (inr is) (inr own_to)

  -- new directories, each below the one before
  pub keeps_dirs : (owner : List ℕ) (names : List (List ℕ)) (tables : Tables) (parent id : ℕ) → KeepsRows locked next moves old tables.inodes → next ≤ id → (next ≤ parent) ⊎ OwnsDir old locked (record { 0 = parent })
      → KeepsRows locked next moves old (written tables (new_dirs parent id owner names)).inodes
  keeps_dirs owner [] tables parent id keeps free own = keeps
  keeps_dirs owner (name ∷ names) tables parent id keeps free own =
      keeps_dirs owner names (with_row tables (key.Inode (record { 0 = parent }) name) (Some (row.Inode (dir_row id owner)))) id (id + 1)
      (keeps_grown tables.inodes (record { 0 = parent }) name (dir_row id owner) keeps free own) (omega arith) (inl free)
