-- The last row found for a path, which is to go, and the rows above it.
use Rattle.std.proofs.Common.{◌≡◌, ◌≢◌, ℕ, ◌+◌, ◌-◌, ◌<◌, Bool, true, false, ◌||◌, ◌==◌, nat_lt, List, [], ◌∷◌, ◌++◌, length, length-append, take, reverse, slice_get, Option, Some, None, IfSome, arith, refl, sym, ap, subst, ◌∙◌, inl, inr, append-nil, eqb-true}
use Rattle.std.proofs.lemmas.Bool.{true≢false, false_from_ne_true, or_left, or_cases}
use Rattle.std.proofs.lemmas.List.{reverse-reverse, length-reverse}
use Rattle.std.proofs.lemmas.List.Folds.{list_any-append}
use Rattle.std.specs.FinMap as map
use Rattle.std.specs.List.{AllByRecursion, list_any}
use Rattle.std.specs.Map.{keys_of}
use Rattle.hops_base.specs.Roomy.{Roomy}
use Rattle.hops_base.specs.declared.ids.InodeId.{InodeId}
use Rattle.hops_base.specs.declared.ids.Mode.{Mode}
use Rattle.hops_base.specs.declared.key.Key.{Key}
use Rattle.hops_base.specs.declared.key.Key.TheVariants as key
use Rattle.hops_base.specs.Key.{same_key, number_of}
use Rattle.hops_base.proofs.Tells.{keys_tell}
use Rattle.name_space.specs.Namespace.{Namespace, Path, children}
use Rattle.inode_table.specs.declared.inode.Inode.{Inode}
use Rattle.quota_table.specs.declared.quota.QuotaRow.{QuotaRow}
use Rattle.db_state.specs.Stored.{Tables}
use Rattle.db_state.specs.Spelled.{Inodes, spelled, row_of}
use Rattle.db_state.specs.Stands.{quota_of}
use Rattle.db_state.specs.Current.{Leads, Spells, SpellsPlace, IsThere, KnowsChild, is_locked}
use Rattle.db_state.specs.Plan.{where_so, last_found, is_whole}
use Rattle.db_state.proofs.PathLaws.{same_id, injective}
use Rattle.db_state.proofs.UnderLaws.{children_counted}
use Rattle.db_state.specs.Recounted.{is_along}
use Rattle.db_state.specs.QuotaWrites.{is_written, AreOf}
use Rattle.db_state.specs.Written.{written}
use Rattle.db_state.specs.declared.view.Place.{Place}
use Rattle.db_state.specs.declared.writes.Row.{Row}
use Rattle.db_state.specs.QuotaWrites.{lowered}
use Rattle.inode_ops.specs.QuotaSteps.{quota_in, has_id, AreQuotasFound, GoesOnCounted}
use Rattle.inode_table.specs.Inode.{counted_bytes}
use Rattle.inode_ops.specs.DeleteSteps.{removals, RemovesLast}
use Rattle.inode_ops.proofs.WalkLemmas.{IsAt, at_next}
use Rattle.inode_ops.proofs.QuotaLemmas.{LocksQuota, seen_of}
use Rattle.inode_ops.proofs.PlaceLemmas.{IsSet, path_is, last_is, whole_rest}
use Rattle.inode_ops.proofs.AlongLemmas.{quota_along}
use Rattle.inode_ops.proofs.CountLemmas.{written_found}
use Rattle.inode_ops.proofs.RemovedLemmas.{IsLeft, left_of}

-- ---- of the place alone

-- the key is that of an inode
abbrev IsInodeKey : Key → Type 0
IsInodeKey k = (parent : InodeId) × (name : List ℕ) × (k ≡ key.Inode parent name)

keys_led : (row : Inode) (names : List (List ℕ)) (rows : List (Key × Inode)) (missing : Option Key) → Leads row names rows missing → AllByRecursion (λ (r : Key × Inode). IsInodeKey r.0) rows
keys_led row names [] missing leads = tt
keys_led row [] (next ∷ rows) missing leads = absurd (let bad : next ∷ rows ≡ [] = leads.0 in cc)
keys_led row (name ∷ names) (next ∷ rows) missing leads = ((row.id, name, leads.1), keys_led next.1 names rows missing leads.2)

place_keys : (place : Place) → SpellsPlace place → AllByRecursion (λ (r : Key × Inode). IsInodeKey r.0) place.found.items
place_keys place spells = go place.found.items spells
  where
    go : (items : List (Key × Inode)) → Spells place.path items place.missing → AllByRecursion (λ (r : Key × Inode). IsInodeKey r.0) items
    go [] spells = absurd spells
    go (root ∷ rows) spells = ((_, _, spells.0), keys_led root.1 place.path rows place.missing spells.1)

at_end : (above : List (Key × Inode)) (last : Key × Inode) → AllByRecursion (λ (r : Key × Inode). IsInodeKey r.0) (above ++ last ∷ []) → IsInodeKey last.0
at_end [] last all = all.0
at_end (r ∷ above) last all = at_end above last all.1

-- the key of the last row found is no quota key
pub key_apart : (place : Place) → SpellsPlace place → (above : List (Key × Inode)) (last : Key × Inode) → place.found.items ≡ above ++ last ∷ [] → (id : InodeId) → same_key (key.Quota id) last.0 ≡ false
key_apart place spells above last is id =
    let own = at_end above last (subst (AllByRecursion (λ (r : Key × Inode). IsInodeKey r.0)) is (place_keys place spells)) in
    elim (keys_tell (key.Quota id) last.0) [
      | inl h ↦ absurd (let bad : key.Quota id ≡ key.Inode own.0 own.1 = h.1 ∙ own.2 in cc)
      | inr h ↦ h.0
    ]

got_last : (above : List (Key × Inode)) (last : Key × Inode) → slice_get (above ++ last ∷ []) (length above) ≡ Some last
got_last [] last = refl
got_last (r ∷ above) last = got_last above last

taken_above : (above : List (Key × Inode)) (last : Key × Inode) → take (length above) (above ++ last ∷ []) ≡ above
taken_above [] last = refl
taken_above (r ∷ above) last = ap (λ (rs : List (Key × Inode)). r ∷ rs) (taken_above above last)

-- what is removed of a row with a quota or without
abbrev marked : Key → InodeId → Bool → List (Key × Option Row)
marked at id has_quota = (at, None) ∷ where_so has_quota ((key.Quota id, None) ∷ [])

-- what a removal of the last row found writes
pub removes : (place : Place) (seen : List (InodeId × QuotaRow)) (above : List (Key × Inode)) (last : Key × Inode) → place.found.items ≡ above ++ last ∷ [] → (before writes : List (Key × Option Row)) → before ≡ removals last
    → (bytes : ℕ) → bytes ≡ counted_bytes last.1.kind last.1 → GoesOnCounted before above seen (lowered 1 bytes) writes → RemovesLast place seen writes
removes place seen above last is before writes removed bytes counts goes =
    let long : length (above ++ last ∷ []) ≡ length above + 1 = length-append above (last ∷ []) in
    let e : length place.found.items - 1 ≡ length above = (let same = ap length is in omega arith) in
    let found : last_found place ≡ Some last = ap (slice_get place.found.items) e ∙ ap (λ (rs : List (Key × Inode)). slice_get rs (length above)) is ∙ got_last above last in
    let rest : take (length place.found.items - 1) place.found.items ≡ above = ap (λ (n : ℕ). take n place.found.items) e ∙ ap (take (length above)) is ∙ taken_above above last in
    subst (λ (o : Option (Key × Inode)). IfSome o (λ (x : Key × Inode). GoesOnCounted (removals x) (take (length place.found.items - 1) place.found.items) seen (lowered 1 (counted_bytes x.1.kind x.1)) writes)) (sym found)
    (subst (λ (rs : List (Key × Inode)). GoesOnCounted (removals last) rs seen (lowered 1 (counted_bytes last.1.kind last.1)) writes) (sym rest)
    (subst (λ (n : ℕ). GoesOnCounted (removals last) above seen (lowered 1 n) writes) counts (subst (λ (ws : List (Key × Option Row)). GoesOnCounted ws above seen (lowered 1 bytes) writes) removed goes)))

-- the first write is that of the row's key, and is no quota row's
pub first_removed : (reserved pushed : Roomy (Key × Option Row)) (k : Key) (last : Key × Inode) → reserved.items ≡ [] → k ≡ last.0 → pushed ≡ record reserved { items = reserved.items ++ (k, None) ∷ [] } → pushed.items ≡ (last.0, None) ∷ []
first_removed reserved pushed k last none same is = ap (λ (w : Roomy (Key × Option Row)). w.items) is ∙ (λ i. none i ++ (same i, None) ∷ [])

pub quota_new : (writes : List (Key × Option Row)) (k : Key) (id : InodeId) → writes ≡ (k, None) ∷ [] → same_key (key.Quota id) k ≡ false → list_any (same_key (key.Quota id)) (keys_of writes) ≡ false
quota_new writes k id is differ = ap (λ (ws : List (Key × Option Row)). list_any (same_key (key.Quota id)) (keys_of ws)) is ∙ ap (λ (b : Bool). b || false) differ

-- what was written when the row's key and its quota key, if it has one, are
pub removed_plain : (writes : List (Key × Option Row)) (last : Key × Inode) → writes ≡ (last.0, None) ∷ [] → last.1.has_quota ≡ false → writes ≡ removals last
removed_plain writes last is plain = is ∙ sym (ap (marked last.0 last.1.id) plain)

pub removed_quota : (old new : Roomy (Key × Option Row)) (last : Key × Inode) → old.items ≡ (last.0, None) ∷ [] → last.1.has_quota ≡ true → new ≡ record old { items = old.items ++ (key.Quota last.1.id, None) ∷ [] } → new.items ≡ removals last
removed_quota old new last first has is =
    ap (λ (w : Roomy (Key × Option Row)). w.items) is ∙ ap (λ (ws : List (Key × Option Row)). ws ++ (key.Quota last.1.id, None) ∷ []) first ∙ sym (ap (marked last.0 last.1.id) has)

-- the rows found are those above the last and the last
pub above_and_last : (first : Key × Inode) (rows : List (Key × Inode)) (last : Key × Inode) → slice_get (first ∷ rows) (length rows) ≡ Some last → first ∷ rows ≡ take (length rows) (first ∷ rows) ++ last ∷ []
above_and_last first [] last is = let same : first ≡ last = cc in ap (λ (r : Key × Inode). r ∷ []) same
above_and_last first (next ∷ rows) last is = ap (λ (rs : List (Key × Inode)). first ∷ rs) (above_and_last next rows last is)

-- ---- against the rows

-- what the last row of a place is, where there is one
if_some : {A : Type 0} (P : A → Type 0) (o : Option A) (x : A) → o ≡ Some x → IfSome o P → P x
if_some {A = A} P o x is holds = subst (λ (p : Option A). IfSome p P) is holds

-- what has the id of a row above the last is spelled by fewer names
pub record IsHigher (inodes : Inodes) (id : InodeId) (long : ℕ) : Type 0 where
  pub up : List (List ℕ)
  pub row : Inode
  pub spelt : spelled inodes up ≡ Some row
  pub same : row.id ≡ id
  pub short : length up < long

higher : (inodes : Inodes) (locked : List (Key × Mode)) (names up : List (List ℕ)) (first : Key × Inode) (rows : List (Key × Inode)) (missing : Option Key) (id : InodeId) → IsAt inodes locked up first → Leads first.1 names rows missing → AllByRecursion (IsThere inodes locked) rows
    → has_id (take (length rows) (first ∷ rows)) id ≡ true → IsHigher inodes id (length up + length rows)
higher inodes locked names up first [] missing id at leads there has = absurd (true≢false (sym has))
higher inodes locked [] up first (next ∷ rows) missing id at leads there has = absurd (let bad : next ∷ rows ≡ [] = leads.0 in cc)
higher inodes locked (name ∷ names) up first (next ∷ rows) missing id at leads there has =
    elim (or_cases (first.1.id.0 == id.0) (has_id (take (length rows) (next ∷ rows)) id) has) [
      | inl here ↦ record {
        up = up;
        row = at.there.row;
        spelt = at.spelt;
        same = at.there.id ∙ same_id first.1.id id (eqb-true first.1.id.0 id.0 here);
        short = omega arith;
      }
      | inr further ↦
          let deeper = higher inodes locked names (name ∷ up) next rows missing id (at_next inodes locked up first next name at leads.1 there.0) leads.2 there.1 further in
          let less = deeper.short in
          record { up = deeper.up; row = deeper.row; spelt = deeper.spelt; same = deeper.same; short = omega arith }
    ]

all_map : {A : Type 0} {P Q : A → Type 0} → ((x : A) → P x → Q x) → (xs : List A) → AllByRecursion P xs → AllByRecursion Q xs
all_map f [] all = tt
all_map f (x ∷ xs) all = (f x all.0, all_map f xs all.1)

module _ (tables : Tables) (next : ℕ) (space : Namespace) (locked : List (Key × Mode)) (seen : List (InodeId × QuotaRow)) (place : Place) (set : IsSet tables next space locked seen place)
    (lock : is_locked locked set.walk.down.bottom.0 ≡ true) (whole : is_whole place ≡ true) where
  -- the row of the path is the last found
  same_row : set.walk.down.at.there.row ≡ set.walk.down.bottom.1
  same_row = set.walk.down.at.there.whole lock

  pub own_there : map.get tables.inodes set.walk.down.bottom.0 ≡ Some set.walk.down.bottom.1
  own_there = set.walk.down.at.there.there ∙ ap (λ (r : Inode). Some r) same_row

  pub own_row : row_of tables.inodes place.path ≡ Some set.walk.down.bottom.1
  own_row =
      let path : reverse set.walk.down.dir ≡ place.path =
      sym (append-nil (reverse set.walk.down.dir)) ∙ ap (λ (p : List (List ℕ)). reverse set.walk.down.dir ++ p) (sym (whole_rest tables next space locked seen place set whole)) ∙ path_is tables next space locked seen place set in
      ap (λ (p : Path). spelled tables.inodes (reverse p)) (sym path) ∙ ap (spelled tables.inodes) (reverse-reverse set.walk.down.dir) ∙ set.walk.down.at.spelt ∙ ap (λ (r : Inode). Some r) same_row

  -- the bit says whether the path has a child in the namespace
  pub knows_children : KnowsChild tables.inodes place → place.has_child ≡ nat_lt 0 (length (children space place.path))
  knows_children child =
      if_some _ (last_found place) set.walk.down.bottom (last_is tables next space locked seen place set) child
      ∙ sym (children_counted tables.inodes tables.quotas space set.stands place.path set.walk.down.bottom.1 own_row)

  -- an id above isn't that of the last row
  above_differs : (id : InodeId) → has_id (take (length set.walk.rows) (set.walk.first ∷ set.walk.rows)) id ≡ true → id ≢ set.walk.down.bottom.1.id
  above_differs id has same =
      let up = higher tables.inodes locked place.path [] set.walk.first set.walk.rows place.missing id set.walk.at set.walk.leads set.walk.there.1 has in
      let ups : up.up ≡ reverse place.path = injective tables.inodes next set.tree up.up (reverse place.path) up.row set.walk.down.bottom.1 up.spelt own_row (up.same ∙ same) in
      let long : length up.up ≡ length place.path = ap length ups ∙ length-reverse place.path in
      let rest : length set.walk.down.rest ≡ 0 = ap (λ (p : List (List ℕ)). length p) (whole_rest tables next space locked seen place set whole) in
      let few = set.walk.down.few in
      let short = up.short in
      omega arith

  -- the ids of the rows found
  has_split : (id : InodeId) → has_id (set.walk.first ∷ set.walk.rows) id ≡ has_id (take (length set.walk.rows) (set.walk.first ∷ set.walk.rows)) id || (set.walk.down.bottom.1.id.0 == id.0 || false)
  has_split id =
      ap (λ (rs : List (Key × Inode)). has_id rs id) (above_and_last set.walk.first set.walk.rows set.walk.down.bottom set.walk.down.found)
      ∙ list_any-append (λ (r : Key × Inode). r.1.id.0 == id.0) (take (length set.walk.rows) (set.walk.first ∷ set.walk.rows)) (set.walk.down.bottom ∷ [])

  has_more : (id : InodeId) → has_id (take (length set.walk.rows) (set.walk.first ∷ set.walk.rows)) id ≡ true → has_id (set.walk.first ∷ set.walk.rows) id ≡ true
  has_more id has = has_split id ∙ or_left (has_id (take (length set.walk.rows) (set.walk.first ∷ set.walk.rows)) id) (set.walk.down.bottom.1.id.0 == id.0 || false) has

  has_above : (id : InodeId) → id ≢ set.walk.down.bottom.1.id → has_id (set.walk.first ∷ set.walk.rows) id ≡ true → has_id (take (length set.walk.rows) (set.walk.first ∷ set.walk.rows)) id ≡ true
  has_above id differ has = elim (or_cases (has_id (take (length set.walk.rows) (set.walk.first ∷ set.walk.rows)) id) (set.walk.down.bottom.1.id.0 == id.0 || false) (sym (has_split id) ∙ has)) [
    | inl above ↦ above
    | inr own ↦ elim (or_cases (set.walk.down.bottom.1.id.0 == id.0) false own) [
      | inl here ↦ absurd (differ (sym (same_id set.walk.down.bottom.1.id id (eqb-true set.walk.down.bottom.1.id.0 id.0 here))))
      | inr bad ↦ absurd (true≢false (sym bad))
    ]
  ]

  -- the rows without the last found
  pub own_left : IsLeft tables (written tables (removals set.walk.down.bottom)) set.walk.down.bottom.0 set.walk.down.bottom.1.id
  own_left = left_of tables next set.tree space set.stands set.walk.down.bottom.0 set.walk.down.bottom.1 own_there

  -- the quota key of another id isn't among the keys that are removed
  not_removed : (id : InodeId) → id ≢ set.walk.down.bottom.1.id → list_any (same_key (key.Quota id)) (keys_of (removals set.walk.down.bottom)) ≡ false
  not_removed id differ = by_mark set.walk.down.bottom.1.has_quota
    where
      first : same_key (key.Quota id) set.walk.down.bottom.0 ≡ false
      first = elim (keys_tell (key.Quota id) set.walk.down.bottom.0) [
        | inl h ↦ absurd (let own = set.tree.keys set.walk.down.bottom.0 set.walk.down.bottom.1 own_there in let bad : key.Quota id ≡ key.Inode own.0 own.1 = h.1 ∙ own.2 in cc)
        | inr h ↦ h.0
      ]

      other : same_key (key.Quota id) (key.Quota set.walk.down.bottom.1.id) ≡ false
      other = elim (keys_tell (key.Quota id) (key.Quota set.walk.down.bottom.1.id)) [
        | inl h ↦ absurd (differ (same_id id set.walk.down.bottom.1.id (ap number_of h.1)))
        | inr h ↦ h.0
      ]

      by_mark : (b : Bool) → list_any (same_key (key.Quota id)) (keys_of (marked set.walk.down.bottom.0 set.walk.down.bottom.1.id b)) ≡ false
      by_mark true = rw (first, other) refl
      by_mark false = rw first refl

  module _ (locks : AllByRecursion (LocksQuota locked) place.found.items) (quotas : List (InodeId × QuotaRow)) (are : AreQuotasFound (take (length set.walk.rows) (set.walk.first ∷ set.walk.rows)) seen (removals set.walk.down.bottom) quotas) where
    -- what was read of a quota row is there
    read_of : (id : InodeId) → has_id (set.walk.first ∷ set.walk.rows) id ≡ true → quota_in seen id ≡ quota_of tables.quotas id
    read_of = seen_of tables.inodes tables.quotas space set.stands locked seen set.sees (set.walk.first ∷ set.walk.rows) set.walk.there (subst (AllByRecursion (LocksQuota locked)) set.walk.items locks)

    pub are_left : AreOf (written tables (removals set.walk.down.bottom)).quotas quotas
    are_left = all_map (λ (q : InodeId × QuotaRow) found. own_left.others q.0 (above_differs q.0 found.0) ∙ sym (read_of q.0 (has_more q.0 found.0)) ∙ found.1) quotas are.each

    -- the quota rows that are written are those along the path
    pub along_left : (id : InodeId) (quota : QuotaRow) → quota_of (written tables (removals set.walk.down.bottom)).quotas id ≡ Some quota → is_written quotas id ≡ is_along tables.inodes place.path id
    along_left id quota left =
        let differ : id ≢ set.walk.down.bottom.1.id = (λ same. let bad : None ≡ Some quota = sym own_left.gone ∙ ap (quota_of (written tables (removals set.walk.down.bottom)).quotas) (sym same) ∙ left in cc) in
        let is : quota_of tables.quotas id ≡ Some quota = sym (own_left.others id differ) ∙ left in
        by_id differ is (has_id (set.walk.first ∷ set.walk.rows) id) refl ∙ sym (quota_along tables next space locked seen place set id quota is)
      where
        by_id : id ≢ set.walk.down.bottom.1.id → quota_of tables.quotas id ≡ Some quota → (b : Bool) → has_id (set.walk.first ∷ set.walk.rows) id ≡ b → is_written quotas id ≡ has_id (set.walk.first ∷ set.walk.rows) id
        by_id differ is true has = are.all id quota (has_above id differ has) (read_of id has ∙ is) (not_removed id differ) ∙ sym has
        by_id differ is false has = false_from_ne_true (is_written quotas id) (λ wrote. true≢false (sym (has_more id (written_found (take (length set.walk.rows) (set.walk.first ∷ set.walk.rows)) seen quotas id are.each wrote)) ∙ has)) ∙ sym has
