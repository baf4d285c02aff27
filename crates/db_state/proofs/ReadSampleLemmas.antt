-- What is at the keys of the sample tables, and what of a sample place is there.
use Rattle.std.proofs.Common.{◌≡◌, ℕ, ◌<◌, drop, true, false, List, [], ◌∷◌, Some, None, refl, sym, subst, ◌∙◌, rules}
use Rattle.std.specs.FinMap as map
use Rattle.std.specs.List.{IsDistinct, AllByRecursion}
use Rattle.hops_base.specs.declared.ids.InodeId.{InodeId}
use Rattle.hops_base.specs.declared.ids.Mode.{Mode}
use Rattle.hops_base.specs.declared.key.Key.{Key}
use Rattle.hops_base.specs.declared.key.Key.TheVariants as key
use Rattle.hops_base.specs.Key.{key_cmp, key_cmp_total}
use Rattle.inode_table.specs.declared.inode.Inode.{Inode}
use Rattle.quota_table.specs.declared.quota.QuotaRow.{QuotaRow}
use Rattle.db_state.specs.Stored.{Inodes, root_key, root_row}
use Rattle.db_state.specs.Stands.{quota_of}
use Rattle.db_state.specs.Current.{is_locked, IsThere, SeesQuotas}
use Rattle.db_state.specs.Reads.{locked_by}
use Rattle.db_state.specs.ReadSamples.{d_key, x_key, rows, rows_to, rows_without_d, only, whole, reads, changes_x, StandsFor}

-- ---- the tables

pub d_is : (d x : Inode) → map.get (rows d x) d_key ≡ Some d
unfolding key_cmp
d_is d x = map.get-from_entries key_cmp_total ((root_key, root_row) ∷ (d_key, d) ∷ (x_key, x) ∷ []) d_key

pub x_is : (d x : Inode) → map.get (rows d x) x_key ≡ Some x
unfolding key_cmp
x_is d x = map.get-from_entries key_cmp_total ((root_key, root_row) ∷ (d_key, d) ∷ (x_key, x) ∷ []) x_key

pub d_stays : (d : Inode) → map.get (rows_to d) d_key ≡ Some d
unfolding key_cmp
d_stays d = map.get-from_entries key_cmp_total ((root_key, root_row) ∷ (d_key, d) ∷ []) d_key

pub x_gone : (d : Inode) → map.get (rows_to d) x_key ≡ None
unfolding key_cmp
x_gone d = map.get-from_entries key_cmp_total ((root_key, root_row) ∷ (d_key, d) ∷ []) x_key

pub d_gone : (x : Inode) → map.get (rows_without_d x) d_key ≡ None
unfolding key_cmp
d_gone x = map.get-from_entries key_cmp_total ((root_key, root_row) ∷ (x_key, x) ∷ []) d_key

pub x_stays : (x : Inode) → map.get (rows_without_d x) x_key ≡ Some x
unfolding key_cmp
x_stays x = map.get-from_entries key_cmp_total ((root_key, root_row) ∷ (x_key, x) ∷ []) x_key

pub quota_is : (quota : QuotaRow) → quota_of (only (record { 0 = 2 }, quota)) (record { 0 = 2 }) ≡ Some quota
unfolding key_cmp
quota_is quota = map.get-from_entries key_cmp_total ((key.Quota (record { 0 = 2 }), quota) ∷ []) (key.Quota (record { 0 = 2 }))

-- ---- a row that was found

module _ (inodes : Inodes) (locked : List (Key × Mode)) (at : Key) (found : Inode) where
  -- it is there as it was found
  pub is_there : map.get inodes at ≡ Some found → IsThere inodes locked (at, found)
  is_there is = record { row = found; there = is; id = refl; kind = refl; quota = λ has. has; whole = λ lock. refl }

  -- it isn't locked, and another row with its id and kind is there
  pub is_changed : (now : Inode) → map.get inodes at ≡ Some now → is_locked locked at ≡ false → now.id ≡ found.id → now.kind ≡ found.kind → (now.has_quota ≡ true → found.has_quota ≡ true)
      → IsThere inodes locked (at, found)
  is_changed now is free id kind quota = record { row = now; there = is; id = id; kind = kind; quota = quota; whole = λ lock. absurd (let bad : true ≡ false = sym lock ∙ free in cc) }

  -- it isn't there
  pub not_there : map.get inodes at ≡ None → IsThere inodes locked (at, found) → ⊥
  not_there none there = let bad : None ≡ Some there.row = sym none ∙ there.there in cc

-- where another row is there, it is told of that
pub there_now : (inodes : Inodes) (locked : List (Key × Mode)) (at : Key) (found now : Inode) → map.get inodes at ≡ Some now → IsThere inodes locked (at, found)
    → (now.id ≡ found.id) × (now.kind ≡ found.kind) × (now.has_quota ≡ true → found.has_quota ≡ true)
there_now inodes locked at found now is there =
    let both : Some there.row ≡ Some now = sym there.there ∙ is in
    let one : there.row ≡ now = cc in
    subst (λ (row : Inode). (row.id ≡ found.id) × (row.kind ≡ found.kind) × (row.has_quota ≡ true → found.has_quota ≡ true)) one (there.id, there.kind, there.quota)

-- ---- quota rows

-- where no quota key is locked, none is seen
pub no_quotas : (locked : List (Key × Mode)) → ((id : InodeId) → is_locked locked (key.Quota id) ≡ false) → SeesQuotas map.empty locked []
unfolding IsDistinct
no_quotas locked none = record { once = search rules; rows = λ id. rw (none id) refl }

-- ---- the call that changes /d/x, which locks that alone

-- what was read for it stands, where the rows from the mark on are there, and /d/x has the row that was found
pub stands_whole : (inodes : Inodes) (mark : ℕ) (d x : Inode) → mark < 3 → AllByRecursion (IsThere inodes (locked_by changes_x (reads (whole d x) mark))) (drop mark (whole d x).found.items)
    → map.get inodes x_key ≡ Some x → StandsFor changes_x (whole d x) mark inodes
unfolding key_cmp
stands_whole inodes mark d x low part is = record {
  chains = (
    record {
      some = low;
      part = part;
      held = (λ lock. absurd (let bad = lock in cc), (λ lock. absurd (let bad = lock in cc), (λ lock. is, tt)));
      missing = tt;
    },
    tt,
  );
  quotas = no_quotas (locked_by changes_x (reads (whole d x) mark)) (λ id. refl);
}
