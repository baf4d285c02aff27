-- Which writes keep the rows that others have read, and which row stands above the last one found.
use Rattle.std.proofs.Common.{◌≡◌, ℕ, suc, ◌+◌, ◌-◌, ◌<◌, ◌≤◌, Bool, true, false, ◌==◌, nat_lt, ◌⊎◌, inl, List, [], ◌∷◌, map as list_map, length, take, slice_get, option_to_list, Option, Some, None, arith, refl, sym, ap, subst, ◌∙◌}
use Rattle.std.proofs.lemmas.Bool.Decides.{nat_tests}
use Rattle.std.specs.FinMap as map
use Rattle.std.specs.List.{AllByRecursion, list_any}
use Rattle.hops_base.specs.declared.ids.ClientNo.{ClientNo}
use Rattle.hops_base.specs.declared.ids.InodeId.{InodeId}
use Rattle.hops_base.specs.declared.ids.Mode.{Mode}
use Rattle.hops_base.specs.declared.key.Key.{Key}
use Rattle.hops_base.specs.declared.key.Key.TheVariants as key
use Rattle.hops_base.specs.Key.{same_key, number_of}
use Rattle.name_space.specs.Plain.{is_root}
use Rattle.inode_table.specs.declared.inode.Inode.{Inode}
use Rattle.quota_table.specs.declared.quota.QuotaRow.{QuotaRow}
use Rattle.db_state.specs.declared.view.Place.{Place}
use Rattle.db_state.specs.declared.writes.Row.{Row}
use Rattle.db_state.specs.declared.writes.Row.TheVariants as row
use Rattle.db_state.specs.Stored.{Inodes, Tables, dir_row}
use Rattle.db_state.specs.Current.{Leads, IsThere}
use Rattle.db_state.specs.Effects.{OwnsDir, KeepsRows}
use Rattle.db_state.specs.Locked.{is_own}
use Rattle.db_state.specs.Plan.{where_so, is_whole, parent_found, last, parent}
use Rattle.db_state.specs.QuotaWrites.{quota_writes}
use Rattle.db_state.specs.Written.{with_row, written}
use Rattle.db_state.proofs.EffectLaws.{keeps_all, keeps_grown, keeps_left}
use Rattle.db_state.proofs.PathLaws.{same_id}
use Rattle.db_state.proofs.QuotaWriteLaws.{inodes_written}
use Rattle.db_state.proofs.WrittenLaws.{written-append}
use Rattle.inode_ops.specs.DeleteSteps.{removals}
use Rattle.inode_ops.specs.NewFile.{file_row, new_file_rows}
use Rattle.inode_ops.specs.QuotaSteps.{GoesOnCounted}
use Rattle.inode_ops.proofs.OwnLemmas.{itself}
use Rattle.inode_ops.proofs.PlaceLemmas.{IsWalk}

-- ---- writes

-- these writes keep the rows of these tables, and move none
abbrev pub Keeps : Tables → List (Key × Mode) → ℕ → List (Key × Option Row) → Type 0
Keeps tables locked next writes = KeepsRows locked next None tables.inodes (written tables writes).inodes

-- no writes
pub none_keeps : (tables : Tables) (locked : List (Key × Mode)) (next : ℕ) (writes : List (Key × Option Row)) → writes ≡ [] → Keeps tables locked next writes
none_keeps tables locked next writes is = subst (Keeps tables locked next) (sym is) (keeps_all locked next None tables.inodes)

-- quota rows behind other writes leave the inode rows
pub counted_keeps : (tables : Tables) (locked : List (Key × Mode)) (next : ℕ) (before : List (Key × Option Row)) (rows : List (Key × Inode)) (seen : List (InodeId × QuotaRow)) (change : QuotaRow → QuotaRow) (writes : List (Key × Option Row))
    → Keeps tables locked next before → GoesOnCounted before rows seen change writes → Keeps tables locked next writes
counted_keeps tables locked next before rows seen change writes keeps goes =
    subst (KeepsRows locked next None tables.inodes)
    (sym (ap (λ (ws : List (Key × Option Row)). (written tables ws).inodes) goes.1 ∙ ap (λ (t : Tables). t.inodes) (written-append before (quota_writes change goes.0) tables) ∙ inodes_written change goes.0 (written tables before))) keeps

-- a new file below new directories
pub keeps_file : (locked : List (Key × Mode)) (next : ℕ) (old : Inodes) (owner : List ℕ) (ups : List (List ℕ)) (name : List ℕ) (client : ClientNo) (tables : Tables) (parent id : ℕ) → KeepsRows locked next None old tables.inodes → next ≤ id
    → (next ≤ parent) ⊎ OwnsDir old locked (record { 0 = parent }) → KeepsRows locked next None old (written tables (new_file_rows parent id owner ups name client)).inodes
keeps_file locked next old owner [] name client tables parent id keeps free own = keeps_grown locked next None old tables.inodes (record { 0 = parent }) name (file_row id client owner) keeps free own
keeps_file locked next old owner (up ∷ ups) name client tables parent id keeps free own =
    keeps_file locked next old owner ups name client (with_row tables (key.Inode (record { 0 = parent }) up) (Some (row.Inode (dir_row id owner)))) id (id + 1)
    (keeps_grown locked next None old tables.inodes (record { 0 = parent }) up (dir_row id owner) keeps free own) (omega arith) (inl free)

-- a row that goes from an owned directory, with its quota row if it has one
pub removals_keep : (tables : Tables) (locked : List (Key × Mode)) (next : ℕ) (found : Key × Inode) → ((parent : InodeId) (name : List ℕ) → found.0 ≡ key.Inode parent name → OwnsDir tables.inodes locked parent) → Keeps tables locked next (removals found)
removals_keep tables locked next found own = by_mark found.1.has_quota
  where
    here : KeepsRows locked next None tables.inodes (map.remove tables.inodes found.0)
    here = keeps_left locked next None tables.inodes tables.inodes found.0 (keeps_all locked next None tables.inodes) own

    by_mark : (b : Bool) → Keeps tables locked next ((found.0, None) ∷ where_so b ((key.Quota found.1.id, None) ∷ []))
    by_mark true = keeps_left locked next None tables.inodes (map.remove tables.inodes found.0) (key.Quota found.1.id) here (λ parent name same. absurd (let bad = same in cc))
    by_mark false = here

-- ---- the row above the last found

-- the last row found is the child of this one, which is the last of the others
record IsAbove (inodes : Inodes) (locked : List (Key × Mode)) (others : List (Key × Inode)) (bottom : Key × Inode) : Type 0 where
  pub up : Key × Inode
  pub name : List ℕ
  pub found : last others ≡ Some up
  pub child : bottom.0 ≡ key.Inode up.1.id name
  pub there : IsThere inodes locked up

-- so with one row more before the others
above_more : (inodes : Inodes) (locked : List (Key × Mode)) (first : Key × Inode) (others : List (Key × Inode)) (bottom : Key × Inode) → 1 ≤ length others → IsAbove inodes locked others bottom → IsAbove inodes locked (first ∷ others) bottom
above_more inodes locked first [] bottom some above = absurd (omega arith)
above_more inodes locked first (next ∷ others) bottom some above =
    let longer : length (first ∷ next ∷ others) - 1 ≡ suc (length others) = omega arith in
    let long : length (next ∷ others) - 1 ≡ length others = omega arith in
    record {
      up = above.up;
      name = above.name;
      found = ap (slice_get (first ∷ next ∷ others)) longer ∙ ap (slice_get (next ∷ others)) (sym long) ∙ above.found;
      child = above.child;
      there = above.there;
    }

-- so where rows lead from one to the next
above_last : (inodes : Inodes) (locked : List (Key × Mode)) (names : List (List ℕ)) (first next : Key × Inode) (rows : List (Key × Inode)) (missing : Option Key) (bottom : Key × Inode) → Leads first.1 names (next ∷ rows) missing → AllByRecursion (IsThere inodes locked) (first ∷ next ∷ rows)
    → slice_get (next ∷ rows) (length rows) ≡ Some bottom → IsAbove inodes locked (first ∷ take (length rows) (next ∷ rows)) bottom
above_last inodes locked [] first next rows missing bottom leads there is = absurd (let bad : next ∷ rows ≡ [] = leads.0 in cc)
above_last inodes locked (name ∷ names) first next [] missing bottom leads there is =
    let same : next ≡ bottom = cc in
    record { up = first; name = name; found = refl; child = ap (λ (r : Key × Inode). r.0) (sym same) ∙ leads.1; there = there.0 }
above_last inodes locked (name ∷ names) first next (third ∷ rows) missing bottom leads there is =
    above_more inodes locked first (next ∷ take (length rows) (third ∷ rows)) bottom (omega arith) (above_last inodes locked names next third rows missing bottom leads.2 there.1 is)

module _ (inodes : Inodes) (locked : List (Key × Mode)) (place : Place) (walk : IsWalk inodes locked place) (whole : is_whole place ≡ true) (root : is_root place.path ≡ false) where
  -- the row of a path that is whole, and not the root's, has one above it
  above_bottom : (rows : List (Key × Inode)) → walk.rows ≡ rows → IsAbove inodes locked (take (length walk.rows) (walk.first ∷ walk.rows)) walk.down.bottom
  above_bottom [] is = absurd (
      let few = walk.down.few in
      let none : length walk.rows ≡ 0 = ap length is in
      let long : length place.found.items ≡ length (walk.first ∷ walk.rows) = ap length walk.items in
      let short = less (length place.path) (length place.found.items) whole in
      let some = more (length place.path) root in
      omega arith)
    where
      less : (m n : ℕ) → nat_lt m n ≡ true → m < n
      less m n e = grind (arith, nat_tests)

      more : (n : ℕ) → (n == 0) ≡ false → 1 ≤ n
      more n e = grind (arith, nat_tests)
  above_bottom (next ∷ rows) is =
      subst (λ (rs : List (Key × Inode)). IsAbove inodes locked (take (length rs) (walk.first ∷ rs)) walk.down.bottom) (sym is)
      (above_last inodes locked place.path walk.first next rows place.missing walk.down.bottom (subst (λ (rs : List (Key × Inode)). Leads walk.first.1 place.path rs place.missing) is walk.leads)
      (subst (λ (rs : List (Key × Inode)). AllByRecursion (IsThere inodes locked) (walk.first ∷ rs)) is walk.there) (subst (λ (rs : List (Key × Inode)). slice_get (walk.first ∷ rs) (length rs) ≡ Some walk.down.bottom) is walk.down.found))

  above : IsAbove inodes locked (take (length walk.rows) (walk.first ∷ walk.rows)) walk.down.bottom
  above = above_bottom walk.rows refl

  -- its key is that of the parent found
  parent_is : parent_found place ≡ Some above.up
  parent_is =
      let e : length (walk.first ∷ walk.rows) - 1 ≡ length walk.rows = omega arith in
      ap (λ (rs : List (Key × Inode)). last (take (length rs - 1) rs)) walk.items ∙ ap (λ (n : ℕ). last (take n (walk.first ∷ walk.rows))) e ∙ above.found

  -- so the directory of the path's own row is owned, where that key is
  pub owns_parent : ((k : Key) → list_any (same_key k) (parent place) ≡ true → is_own locked k ≡ true) → (dir : InodeId) (name : List ℕ) → walk.down.bottom.0 ≡ key.Inode dir name → OwnsDir inodes locked dir
  owns_parent own dir name is = record {
    at = above.up.0;
    row = above.there.row;
    there = above.there.there;
    is = above.there.id ∙ same_id above.up.1.id dir (ap number_of (sym above.child ∙ is));
    own = own above.up.0 (ap (λ (b : Bool). list_any (same_key above.up.0) (where_so b (list_map (λ (r : Key × Inode). r.0) (option_to_list (parent_found place))))) whole
        ∙ ap (λ (o : Option (Key × Inode)). list_any (same_key above.up.0) (list_map (λ (r : Key × Inode). r.0) (option_to_list o))) parent_is ∙ itself above.up.0);
  }
