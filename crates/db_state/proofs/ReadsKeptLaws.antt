-- What a session has read for a path stands on beside a commit that keeps rows.
use Rattle.std.specs.Prelude.{⊤}
use Rattle.std.proofs.Common.{◌≡◌, ◌≢◌, ℕ, ◌≤◌, ◌<◌, zero, suc, true, false, inl, inr, List, [], ◌∷◌, length, drop, nat_le, Option, Some, None, arith, refl, sym, ap, subst, ◌∙◌}
use Rattle.std.proofs.lemmas.Bool.Decides.{nat_tests}
use Rattle.std.specs.FinMap as map
use Rattle.std.specs.List.{AllByRecursion}
use Rattle.hops_base.specs.declared.ids.InodeId.{InodeId}
use Rattle.hops_base.specs.declared.ids.OpId.{OpId}
use Rattle.hops_base.specs.declared.ids.Mode.{Mode}
use Rattle.hops_base.specs.declared.key.Key.{Key}
use Rattle.hops_base.specs.declared.key.Key.TheVariants as key
use Rattle.inode_table.specs.declared.inode.Inode.{Inode}
use Rattle.inode_table.specs.declared.inode.Kind.{Kind}
use Rattle.inode_table.specs.declared.inode.Kind.TheVariants.{Dir, File}
use Rattle.db_state.specs.declared.view.Place.{Place}
use Rattle.db_state.specs.Stored.{root_key, root_row}
use Rattle.db_state.specs.Spelled.{Inodes, IsTree}
use Rattle.db_state.specs.Current.{Leads, Spells, stops_at, is_locked, IsThere, IsMissing}
use Rattle.db_state.specs.Locked.{is_in_new}
use Rattle.db_state.specs.Effects.{KeepsRows}
use Rattle.db_state.specs.Reads.{EndsLocked, IsChain, IsHeldRow, ChainStands, AllStand, AreFixed, AllFixed}
use Rattle.db_state.proofs.ReadsHoldLaws.{HaveNoneInCommon}

-- ---- lists of rows

-- each of the rows stands under the one before
abbrev pub Linked : Inode → List (Key × Inode) → Type 0
Linked row [] = ⊤
Linked row (next ∷ rows) = ((name : List ℕ) × (next.0 ≡ key.Inode row.id name)) × Linked next.1 rows

-- it holds of the last row
abbrev pub AtEnd : (Key × Inode → Type 0) → Key × Inode → List (Key × Inode) → Type 0
AtEnd P row [] = P row
AtEnd P row (next ∷ rows) = AtEnd P next rows

-- rows that lead along a path do so
pub linked : (row : Inode) (names : List (List ℕ)) (rows : List (Key × Inode)) (missing : Option Key) → Leads row names rows missing → Linked row rows
linked row [] [] missing leads = tt
linked row [] (next ∷ rows) missing leads = absurd (let bad : next ∷ rows ≡ [] = leads.0 in cc)
linked row (name ∷ names) [] missing leads = tt
linked row (name ∷ names) (next ∷ rows) missing leads = ((name, leads.1), linked next.1 names rows missing leads.2)

-- the last row is locked
pub ends_at : (locked : List (Key × Mode)) (row : Key × Inode) (rows : List (Key × Inode)) → EndsLocked locked (row ∷ rows) → AtEnd (λ (r : Key × Inode). is_locked locked r.0 ≡ true) row rows
ends_at locked row [] ends = ends
ends_at locked row (next ∷ rows) ends = ends_at locked next rows ends

-- what holds from a mark on holds at the end
pub end_of : (P : Key × Inode → Type 0) (mark : ℕ) (row : Key × Inode) (rows : List (Key × Inode)) → mark < length (row ∷ rows) → AllByRecursion P (drop mark (row ∷ rows)) → AtEnd P row rows
end_of P zero row [] low all = all.0
end_of P zero row (next ∷ rows) low all = end_of P zero next rows (omega arith) all.1
end_of P (suc mark) row [] low all = absurd (omega arith)
end_of P (suc mark) row (next ∷ rows) low all = end_of P mark next rows (omega arith) all

module _ (P Q : Key × Inode → Type 0) where
  all_same : ((r : Key × Inode) → P r → Q r) → (rows : List (Key × Inode)) → AllByRecursion P rows → AllByRecursion Q rows
  all_same f [] all = tt
  all_same f (row ∷ rows) all = (f row all.0, all_same f rows all.1)

-- a commit that moves none moves none of these
none_moved : (rows : List (Key × Inode)) → AreFixed None rows
none_moved [] = tt
none_moved (row ∷ []) = tt
none_moved (row ∷ next ∷ rows) = (λ no. absurd (let bad = no in cc), none_moved (next ∷ rows))

pub all_fixed : (marks : List ℕ) (places : List Place) → AllFixed None marks places
all_fixed marks [] = tt
all_fixed [] (place ∷ places) = tt
all_fixed (mark ∷ marks) (place ∷ places) = (none_moved (drop mark place.found.items), all_fixed marks places)

-- ---- keys

module _ (old : Inodes) (next : ℕ) (before : IsTree old next) where
  two : 1 < next
  two = let r = before.range root_key root_row before.root in let high : 1 < next = r.1 in high

  parent_low : (n : ℕ) (parent : InodeId) (name : List ℕ) (row : Inode) → parent.0 ≡ n → map.get old (key.Inode parent name) ≡ Some row → parent.0 < next
  parent_low zero parent name row is e = let some = two in omega arith
  parent_low (suc n) parent name row is e =
      let dir = before.parents parent name row e (λ none. omega arith) in
      let range = before.range dir.at dir.row dir.there in
      let high : dir.row.id.0 < next = range.1 in
      let same : dir.row.id.0 ≡ parent.0 = ap (λ (i : InodeId). i.0) dir.is in
      omega arith

  not_low : (m n : ℕ) → n < m → nat_le m n ≡ false
  not_low m n low = grind (arith, nat_tests)

  -- a row's key isn't of a name in a directory whose id isn't given yet
  pub in_old : (at : Key) (row : Inode) → map.get old at ≡ Some row → is_in_new next at ≡ false
  in_old at row e =
      let k = before.keys at row e in
      let here : map.get old (key.Inode k.0 k.1) ≡ Some row = subst (λ (q : Key). map.get old q ≡ Some row) k.2 e in
      ap (is_in_new next) k.2 ∙ not_low next k.0.0 (parent_low k.0.0 k.0 k.1 row refl here)

  -- nor is the key of a name under a row
  pub under_old : (at : Key) (row : Inode) (name : List ℕ) → map.get old at ≡ Some row → is_in_new next (key.Inode row.id name) ≡ false
  under_old at row name e = let range = before.range at row e in not_low next row.id.0 range.1

-- ---- one commit

module _ (old new : Inodes) (next bound : ℕ) (before : IsTree old next) (after : IsTree new bound) (ours theirs : List (Key × Mode)) (moves : Option InodeId)
    (same : (at : Key) → is_locked ours at ≡ true → is_in_new next at ≡ false → map.get new at ≡ map.get old at) (apart : HaveNoneInCommon ours theirs) (keeps : KeepsRows theirs next moves old new) where
  -- a locked row stays
  pub locked_stays : (r : Key × Inode) → is_locked ours r.0 ≡ true → IsThere old ours r → IsThere new ours r
  locked_stays r lock is = record { row = is.row; there = same r.0 lock (in_old old next before r.0 is.row is.there) ∙ is.there; id = is.id; kind = is.kind; quota = is.quota; whole = is.whole }

  -- a row that is held stays as it was read
  pub held_stays : (r : Key × Inode) → IsHeldRow old ours r → IsHeldRow new ours r
  held_stays r is lock = let there = is lock in same r.0 lock (in_old old next before r.0 r.1 there) ∙ there

  -- so does the parent of a row that stays, where the commit isn't free to move it
  pub parent_stays : (r : Key × Inode) (at : Key) (name : List ℕ) (child : Inode) → at ≡ key.Inode r.1.id name → map.get new at ≡ Some child → moves ≢ Some r.1.id → IsThere old ours r → IsThere new ours r
  parent_stays r at name child at_is child_there fixed is =
      let under : map.get new (key.Inode r.1.id name) ≡ Some child = subst (λ (k : Key). map.get new k ≡ Some child) at_is child_there in
      let range = before.range r.0 is.row is.there in
      let low : 1 ≤ is.row.id.0 = range.0 in
      let high : is.row.id.0 < next = range.1 in
      let ids : is.row.id.0 ≡ r.1.id.0 = ap (λ (i : InodeId). i.0) is.id in
      let dir = after.parents r.1.id name child under (λ none. omega arith) in
      elim (keeps.kept dir.at dir.row dir.there) [
        | inl was ↦
            let keys : dir.at ≡ r.0 = before.apart dir.at r.0 was.was is.row was.there is.there (sym was.id ∙ dir.is ∙ sym is.id) in
            let here : map.get new r.0 ≡ Some dir.row = subst (λ (k : Key). map.get new k ≡ Some dir.row) keys dir.there in
            let rows : Some was.was ≡ Some is.row = sym was.there ∙ ap (map.get old) keys ∙ is.there in
            let one : was.was ≡ is.row = cc in
            record {
              row = dir.row;
              there = here;
              id = dir.is;
              kind = was.kind ∙ ap (λ (i : Inode). i.kind) one ∙ is.kind;
              quota = λ has. is.quota (sym (ap (λ (i : Inode). i.has_quota) one) ∙ was.quota has);
              whole = λ lock.
                  let unchanged : Some dir.row ≡ Some is.row = sym here ∙ same r.0 lock (in_old old next before r.0 is.row is.there) ∙ is.there in
                  let stays : dir.row ≡ is.row = cc in
                  stays ∙ is.whole lock;
            }
        | inr other ↦ elim other [
          | inl new_id ↦ absurd (let dir_id : dir.row.id.0 ≡ r.1.id.0 = ap (λ (i : InodeId). i.0) dir.is in let above : next ≤ dir.row.id.0 = new_id in omega arith)
          | inr free ↦ absurd (fixed (free ∙ ap (λ (i : InodeId). Some i) dir.is))
        ]
      ]

  -- rows each under the one before stay, up from one that is locked
  pub rows_stay : (row : Key × Inode) (rows : List (Key × Inode)) → Linked row.1 rows → AtEnd (λ (r : Key × Inode). is_locked ours r.0 ≡ true) row rows → AreFixed moves (row ∷ rows)
      → AllByRecursion (IsThere old ours) (row ∷ rows) → AllByRecursion (IsThere new ours) (row ∷ rows)
  rows_stay row [] links end fixed all = (locked_stays row end all.0, tt)
  rows_stay row (child ∷ rows) links end fixed all =
      let below = rows_stay child rows links.1 end fixed.1 all.1 in
      (parent_stays row child.0 links.0.0 below.0.row links.0.1 below.0.there fixed.0 all.0, below)

  -- so they do from a mark on
  pub part_stays : (mark : ℕ) (row : Key × Inode) (rows : List (Key × Inode)) → mark < length (row ∷ rows) → Linked row.1 rows → AtEnd (λ (r : Key × Inode). is_locked ours r.0 ≡ true) row rows → AreFixed moves (drop mark (row ∷ rows))
      → AllByRecursion (IsThere old ours) (drop mark (row ∷ rows)) → AllByRecursion (IsThere new ours) (drop mark (row ∷ rows))
  part_stays zero row rows low links end fixed all = rows_stay row rows links end fixed all
  part_stays (suc mark) row [] low links end fixed all = absurd (omega arith)
  part_stays (suc mark) row (child ∷ rows) low links end fixed all = part_stays mark child rows (omega arith) links.1 end fixed all

  -- no row comes under a locked one
  pub none_comes : (r : Key × Inode) (name : List ℕ) → is_locked ours r.0 ≡ true → IsThere old ours r → map.get old (key.Inode r.1.id name) ≡ None → map.get new (key.Inode r.1.id name) ≡ None
  none_comes r name lock is none = go (map.get new (key.Inode r.1.id name)) refl
    where
      go : (o : Option Inode) → map.get new (key.Inode r.1.id name) ≡ o → map.get new (key.Inode r.1.id name) ≡ None
      go None e = e
      go (Some row) e = absurd (
          let range = before.range r.0 is.row is.there in
          let high : is.row.id.0 < next = range.1 in
          let ids : is.row.id.0 ≡ r.1.id.0 = ap (λ (i : InodeId). i.0) is.id in
          elim (keeps.added r.1.id name row e none) [
            | inl new_id ↦ (let above : next ≤ r.1.id.0 = new_id in omega arith)
            | inr owns ↦
                let keys : owns.at ≡ r.0 = before.apart owns.at r.0 owns.row is.row owns.there is.there (owns.is ∙ sym is.id) in
                let free : is_locked ours owns.at ≡ false = apart owns.at owns.own in
                let bad : is_locked ours owns.at ≡ true = ap (is_locked ours) keys ∙ lock in
                cc
          ])

  -- so the first missing key keeps having none
  pub missing_stays : (names : List (List ℕ)) (row : Key × Inode) (rows : List (Key × Inode)) (missing : Option Key) → Leads row.1 names rows missing
      → AtEnd (λ (r : Key × Inode). is_locked ours r.0 ≡ true) row rows → AtEnd (IsThere old ours) row rows → IsMissing old missing → IsMissing new missing
  missing_stays [] row [] missing leads lock is none = subst (IsMissing new) (sym leads.1) tt
  missing_stays [] row (child ∷ rows) missing leads lock is none = absurd (let bad : child ∷ rows ≡ [] = leads.0 in cc)
  missing_stays (name ∷ names) row [] missing leads lock is none = subst (IsMissing new) (sym leads) (by_kind row.1.kind (subst (IsMissing old) leads none))
    where
      by_kind : (kind : Kind) → IsMissing old (stops_at kind row.1.id name) → IsMissing new (stops_at kind row.1.id name)
      by_kind Dir gone = none_comes row name lock is gone
      by_kind File gone = tt
  missing_stays (name ∷ names) row (child ∷ rows) missing leads lock is none = missing_stays names child rows missing leads.2 lock is none

  -- what stands of a place keeps standing
  pub chain_stays : (mark : ℕ) (own : Option OpId) (place : Place) → IsChain ours own place → AreFixed moves (drop mark place.found.items) → ChainStands old ours mark place → ChainStands new ours mark place
  chain_stays mark own place chain fixed stands = go place.found.items refl chain.spells chain.ends fixed stands.some stands.part
    where
      go : (items : List (Key × Inode)) → place.found.items ≡ items → Spells place.path items place.missing → EndsLocked ours items → AreFixed moves (drop mark items) → mark < length items → AllByRecursion (IsThere old ours) (drop mark items) → ChainStands new ours mark place
      go [] is spells ends fixed low part = absurd spells
      go (row ∷ rows) is spells ends fixed low part =
          let links = linked row.1 place.path rows place.missing spells.1 in
          let end = ends_at ours row rows ends in
          record {
            some = stands.some;
            part = subst (λ (items : List (Key × Inode)). AllByRecursion (IsThere new ours) (drop mark items)) (sym is) (part_stays mark row rows low links end fixed part);
            held = all_same (IsHeldRow old ours) (IsHeldRow new ours) held_stays place.found.items stands.held;
            missing = missing_stays place.path row rows place.missing spells.1 end (end_of (IsThere old ours) mark row rows low part) stands.missing;
          }

  pub all_stay : (own : Option OpId) (marks : List ℕ) (places : List Place) → AllByRecursion (IsChain ours own) places → AllFixed moves marks places → AllStand old ours marks places → AllStand new ours marks places
  all_stay own marks [] chains fixed stand = tt
  all_stay own [] (place ∷ places) chains fixed stand = absurd stand
  all_stay own (mark ∷ marks) (place ∷ places) chains fixed stand = (chain_stays mark own place chains.0 fixed.0 stand.0, all_stay own marks places chains.1 fixed.1 stand.1)
