-- Laws of what quota rows count, as rows change, come and go.
use Rattle.std.proofs.Common.{◌≡◌, ◌≢◌, ℕ, ◌+◌, Bool, true, false, ◌||◌, ◌==◌, cond, List, [], ◌∷◌, ◌++◌, reverse, Option, Some, None, IsSome, is_some, option_map, inl, inr, arith, refl, sym, ap, subst, ◌∙◌, eqb-true, eq-eqb}
use Rattle.std.specs.Prelude.{if◌then◌else◌}
use Rattle.std.specs.FinMap as map
use Rattle.std.specs.Option.{option_or}
use Rattle.std.specs.List.{filter_map, cons_option, list_any}
use Rattle.std.proofs.lemmas.Bool.{true≢false, false_from_ne_true}
use Rattle.std.proofs.lemmas.List.{reverse-reverse}
use Rattle.hops_base.specs.declared.ids.InodeId.{InodeId}
use Rattle.hops_base.specs.declared.key.Key.{Key}
use Rattle.hops_base.specs.declared.key.Key.TheVariants as key
use Rattle.hops_base.specs.Path.{same_path}
use Rattle.hops_base.proofs.Tells.{paths_tell}
use Rattle.name_space.specs.declared.entry.Entry.{Entry}
use Rattle.name_space.specs.declared.entry.Entry.TheVariants as entry
use Rattle.name_space.specs.Namespace.{Namespace, Path, IsNamespace, entry_at, is_within, with_entry, without, prefixes, bytes_of, used_names, used_bytes}
use Rattle.name_space.specs.Cut.{is_among}
use Rattle.name_space.proofs.PrefixLaws.{among-prefixes}
use Rattle.name_space.specs.Namespace.{Rises}
use Rattle.name_space.proofs.UsedLaws.{used_names-with_old, used_bytes-with_old, used_names-without, used_bytes-without, used_names-without_apart, used_bytes-without_apart}
use Rattle.inode_table.specs.declared.inode.Inode.{Inode}
use Rattle.inode_table.specs.declared.inode.Kind.{Kind}
use Rattle.inode_table.specs.declared.inode.Kind.TheVariants.{Dir, File}
use Rattle.quota_table.specs.declared.quota.QuotaRow.{QuotaRow}
use Rattle.db_state.specs.Stored.{root_key}
use Rattle.db_state.specs.Spelled.{Inodes, row_of, IsTree}
use Rattle.db_state.specs.Stands.{Quotas, quota_of, entry_of_kind, entry_of, Stands}
use Rattle.db_state.specs.Counts.{Counts}
use Rattle.db_state.proofs.PathLaws.{same_id, injective}
use Rattle.db_state.proofs.ChangeLaws.{swapped-id, found_before, changed_spelled}
use Rattle.db_state.proofs.RemoveLaws.{row_left}
use Rattle.db_state.proofs.UnderLaws.{none_below, used_names-leaf, used_bytes-leaf}
use Rattle.db_state.specs.Recounted.{is_along, Change, Becomes, Turns, IsRecounted, in_place, one_gone}

-- a path uses as much more and less, where the change is below it
pub record Uses (change : Change) (counts : Bool) (space after : Namespace) (top : Path) : Type 0 where
  pub names : used_names after top + (if counts then change.names_gone else 0) ≡ used_names space top + (if counts then change.names_come else 0)
  pub bytes : used_bytes after top + (if counts then change.bytes_gone else 0) ≡ used_bytes space top + (if counts then change.bytes_come else 0)

-- ---- by ids

-- the quota row of this id counts what stands at and below the path of its directory
pub record IsCounted (inodes : Inodes) (space : Namespace) (id : InodeId) (quota : QuotaRow) : Type 0 where
  pub path : Path
  pub row : Inode
  pub there : row_of inodes path ≡ Some row
  pub is : row.id ≡ id
  pub names : quota.used_names ≡ used_names space path
  pub bytes : quota.used_bytes ≡ used_bytes space path

-- where each quota row counts so, they count what stands at and below their directories
pub counts_by_id : (inodes : Inodes) (next : ℕ) → IsTree inodes next → (quotas : Quotas) (space : Namespace) → ((id : InodeId) (quota : QuotaRow) → quota_of quotas id ≡ Some quota → IsCounted inodes space id quota) → Counts inodes quotas space
counts_by_id inodes next tree quotas space each path row quota here e =
    let own = each row.id quota e in
    let ups : reverse own.path ≡ reverse path = injective inodes next tree (reverse own.path) (reverse path) own.row row own.there here own.is in
    let same : own.path ≡ path = sym (reverse-reverse own.path) ∙ ap reverse ups ∙ reverse-reverse path in
    (own.names ∙ ap (used_names space) same, own.bytes ∙ ap (used_bytes space) same)

-- fewer quota rows count what they counted
pub counts_fewer : (inodes : Inodes) (quotas fewer : Quotas) (space : Namespace) → Counts inodes quotas space → ((id : InodeId) (quota : QuotaRow) → quota_of fewer id ≡ Some quota → quota_of quotas id ≡ Some quota) → Counts inodes fewer space
counts_fewer inodes quotas fewer space counts some path row quota here e = counts path row quota here (some row.id quota e)

-- ---- the rows along a path

module _ (inodes : Inodes) (next : ℕ) (tree : IsTree inodes next) (top : Path) (row : Inode) (here : row_of inodes top ≡ Some row) where
  one_along : (p : Path) (o : Option Inode) (paths : List Path) → row_of inodes p ≡ o → list_any (λ (r : Inode). r.id.0 == row.id.0) (filter_map (row_of inodes) paths) ≡ is_among paths top
      → list_any (λ (r : Inode). r.id.0 == row.id.0) (cons_option o (filter_map (row_of inodes) paths)) ≡ (same_path top p || is_among paths top)
  one_along p None paths e rest = elim (paths_tell top p) [
    | inl h ↦ absurd (let there : row_of inodes top ≡ None = ap (row_of inodes) h.1 ∙ e in cc)
    | inr h ↦ rw h.0 rest
  ]
  one_along p (Some r) paths e rest = elim (paths_tell top p) [
    | inl h ↦
        let same : Some r ≡ Some row = sym e ∙ ap (row_of inodes) (sym h.1) ∙ here in
        let is : r ≡ row = cc in
        rw (h.0, eq-eqb r.id.0 row.id.0 (ap (λ (x : Inode). x.id.0) is)) refl
    | inr h ↦
        let differ : (r.id.0 == row.id.0) ≡ false = false_from_ne_true (r.id.0 == row.id.0) (λ eq.
        let ups : reverse p ≡ reverse top = injective inodes next tree (reverse p) (reverse top) r row e here (same_id r.id row.id (eqb-true r.id.0 row.id.0 eq)) in
        h.1 (sym (reverse-reverse top) ∙ ap reverse (sym ups) ∙ reverse-reverse p)) in
        rw (h.0, differ) rest
  ]

  along_these : (paths : List Path) → list_any (λ (r : Inode). r.id.0 == row.id.0) (filter_map (row_of inodes) paths) ≡ is_among paths top
  along_these [] = refl
  along_these (p ∷ paths) = one_along p (row_of inodes p) paths refl (along_these paths)

  -- a row is along a path exactly where the path lies within its own
  pub is_along-within : (path : Path) → is_along inodes path row.id ≡ is_within top path
  is_along-within path = along_these (prefixes path) ∙ among-prefixes path top

-- ---- quota rows that are recounted

-- the row that a quota row comes from
pub record TurnsFrom (change : Change) (counts : Bool) (o : Option QuotaRow) (new : QuotaRow) : Type 0 where
  pub old : QuotaRow
  pub there : o ≡ Some old
  pub becomes : Becomes change counts old new

turns_from : (change : Change) (counts : Bool) (o n : Option QuotaRow) (new : QuotaRow) → Turns change counts o n → n ≡ Some new → TurnsFrom change counts o new
turns_from change counts None None new turns e = absurd (let bad = e in cc)
turns_from change counts None (Some q) new turns e = absurd turns
turns_from change counts (Some old) None new turns e = absurd turns
turns_from change counts (Some old) (Some q) new turns e = record { old = old; there = refl; becomes = subst (Becomes change counts old) (let same : q ≡ new = cc in same) turns }

turns_some : (change : Change) (counts : Bool) (o n : Option QuotaRow) → Turns change counts o n → is_some o ≡ is_some n
turns_some change counts None None turns = refl
turns_some change counts None (Some q) turns = absurd turns
turns_some change counts (Some old) None turns = absurd turns
turns_some change counts (Some old) (Some q) turns = refl

turns_entry : (change : Change) (counts : Bool) (o n : Option QuotaRow) (kind : Kind) (inode : Inode) → Turns change counts o n → entry_of_kind kind inode o ≡ entry_of_kind kind inode n
turns_entry change counts o n File inode turns = refl
turns_entry change counts None None Dir inode turns = refl
turns_entry change counts None (Some q) Dir inode turns = absurd turns
turns_entry change counts (Some old) None Dir inode turns = absurd turns
turns_entry change counts (Some old) (Some q) Dir inode turns = λ i. entry.Dir inode.mode inode.owner (sym turns.limit_names i) (sym turns.limit_bytes i)

module _ (along : Inodes) (path : Path) (change : Change) (quotas after : Quotas) (recounted : IsRecounted along path change quotas after) where
  -- the quota row that one comes from
  pub recounted_from : (id : InodeId) (new : QuotaRow) → quota_of after id ≡ Some new → TurnsFrom change (is_along along path id) (quota_of quotas id) new
  recounted_from id new e = turns_from change (is_along along path id) (quota_of quotas id) (quota_of after id) new (recounted.rows id) e

  same_entries : (o : Option Inode) → option_map (entry_of quotas) o ≡ option_map (entry_of after) o
  same_entries None = refl
  same_entries (Some row) = ap (λ (e : Entry). Some e) (turns_entry change (is_along along path row.id) (quota_of quotas row.id) (quota_of after row.id) row.kind row (recounted.rows row.id))

  -- rows stand for the same with quota rows that are recounted
  pub stands_recounted : (inodes : Inodes) (removed space : Namespace) → Stands inodes quotas removed space → Stands inodes after removed space
  stands_recounted inodes removed space stands = record {
    entries = λ q. stands.entries q ∙ ap (option_or (entry_at removed q)) (same_entries (row_of inodes q));
    once = stands.once;
    apart = stands.apart;
    keys = recounted.keys;
    rows = λ id quota e.
        let from = recounted_from id quota e in
        let of = stands.rows id from.old from.there in
        record {
          at = of.at;
          row = of.row;
          there = of.there;
          is = of.is;
          dir = of.dir;
          limit = elim of.limit [
            | inl h ↦ inl (ap is_some from.becomes.limit_names ∙ h)
            | inr h ↦ inr (ap is_some from.becomes.limit_bytes ∙ h)
          ];
        };
    marks = λ k x e. stands.marks k x e ∙ turns_some change (is_along along path x.id) (quota_of quotas x.id) (quota_of after x.id) (recounted.rows x.id);
  }

  -- and count what is used then, where each path of a directory uses as much more and less
  pub counts_recounted : (inodes grown : Inodes) (space later : Namespace) → Counts inodes quotas space
      → ((top : Path) (row : Inode) (quota : QuotaRow) → row_of grown top ≡ Some row → quota_of quotas row.id ≡ Some quota → (was : Inode) × (row_of inodes top ≡ Some was) × (was.id ≡ row.id) × Uses change (is_along along path row.id) space later top)
      → Counts grown after later
  counts_recounted inodes grown space later counts each top row quota here e =
      let from = recounted_from row.id quota e in
      let old = each top row from.old here from.there in
      let counted = counts top old.0 from.old old.1 (ap (quota_of quotas) old.2 ∙ from.there) in
      let names : from.old.used_names ≡ used_names space top = counted.0 in
      let bytes : from.old.used_bytes ≡ used_bytes space top = counted.1 in
      (same_sum _ _ _ _ _ _ from.becomes.names old.3.names names, same_sum _ _ _ _ _ _ from.becomes.bytes old.3.bytes bytes)
    where
      same_sum : (a b c d gone come : ℕ) → a + gone ≡ b + come → c + gone ≡ d + come → b ≡ d → a ≡ c
      same_sum a b c d gone come p q r = omega arith

-- where nothing is counted more or less, quota rows stay as they are
pub recounted_same : (inodes : Inodes) (path : Path) (change : Change) (quotas : Quotas) → change.names_gone ≡ change.names_come → change.bytes_gone ≡ change.bytes_come
    → ((k : Key) (quota : QuotaRow) → map.get quotas k ≡ Some quota → (id : InodeId) × (k ≡ key.Quota id)) → IsRecounted inodes path change quotas quotas
recounted_same inodes path change quotas names bytes keys = record { keys = keys; rows = λ id. itself (is_along inodes path id) (quota_of quotas id) }
  where
    itself : (counts : Bool) (o : Option QuotaRow) → Turns change counts o o
    itself counts None = tt
    itself counts (Some quota) = record {
      limit_names = refl;
      limit_bytes = refl;
      names = ap (λ n. quota.used_names + cond counts n 0) names;
      bytes = ap (λ n. quota.used_bytes + cond counts n 0) bytes;
    }

-- ---- a row that changes

-- quota rows count what is used once a row and the entry at its path changed, where those along the path were recounted
pub counts_changed : (inodes : Inodes) (next : ℕ) (tree : IsTree inodes next) (at : Key) (old new : Inode) (there : map.get inodes at ≡ Some old) (ids : new.id ≡ old.id) (path : Path) (here : row_of inodes path ≡ Some old)
    (quotas after : Quotas) (space : Namespace) → Rises space → Counts inodes quotas space → (was now : Entry) → entry_at space path ≡ Some was
    → IsRecounted inodes path (in_place was now) quotas after → Counts (map.insert inodes at new) after (with_entry space path now)
counts_changed inodes next tree at old new there ids path here quotas after space rises counts was now found recounted =
    counts_recounted inodes path (in_place was now) quotas after recounted inodes (map.insert inodes at new) space (with_entry space path now) counts (λ top row quota e q.
    let before = found_before new (row_of inodes top) row (sym (changed_spelled inodes next tree at old new there ids (reverse top)) ∙ e) in
    let same : before.0.id ≡ row.id = sym (swapped-id new before.0) ∙ ap (λ (r : Inode). r.id) before.2 in
    let along : is_along inodes path row.id ≡ is_within top path = ap (is_along inodes path) (sym same) ∙ is_along-within inodes next tree top before.0 before.1 path in (
      before.0,
      before.1,
      same,
      subst (λ b. Uses (in_place was now) b space (with_entry space path now) top) (sym along) (record {
        names = ap (λ n. n + cond (is_within top path) 0 0) (used_names-with_old space rises path now top was found);
        bytes = used_bytes-with_old space rises path now top was found;
      }),
    ))

-- and as they are, where the bytes stay
pub counts_changed_plain : (inodes : Inodes) (next : ℕ) (tree : IsTree inodes next) (at : Key) (old new : Inode) (there : map.get inodes at ≡ Some old) (ids : new.id ≡ old.id) (path : Path) (here : row_of inodes path ≡ Some old)
    (quotas : Quotas) (removed space : Namespace) → Stands inodes quotas removed space → Rises space → Counts inodes quotas space → (was now : Entry) → entry_at space path ≡ Some was → bytes_of was ≡ bytes_of now
    → Counts (map.insert inodes at new) quotas (with_entry space path now)
counts_changed_plain inodes next tree at old new there ids path here quotas removed space stands rises counts was now found bytes =
    counts_changed inodes next tree at old new there ids path here quotas quotas space rises counts was now found (recounted_same inodes path (in_place was now) quotas refl bytes stands.keys)

-- ---- a row that goes

-- something stands where a row is
pub row_stands : (inodes : Inodes) (quotas : Quotas) (removed space : Namespace) → Stands inodes quotas removed space → (path : Path) (row : Inode) → row_of inodes path ≡ Some row → IsSome (entry_at space path)
row_stands inodes quotas removed space stands path row here = ap is_some (stands.entries path ∙ ap (λ o. option_or (entry_at removed path) (option_map (entry_of quotas) o)) here) ∙ either (entry_at removed path)
  where
    either : (o : Option Entry) → is_some (option_or o (Some (entry_of quotas row))) ≡ true
    either None = refl
    either (Some e) = refl

-- quota rows count what is used once a row and the entry at its path went, where those along the path were recounted, less
-- its own
pub counts_removed : (inodes : Inodes) (next : ℕ) (tree : IsTree inodes next) (at : Key) (old : Inode) (there : map.get inodes at ≡ Some old) (none : (name : List ℕ) → map.get inodes (key.Inode old.id name) ≡ None) (below : at ≢ root_key) (path : Path) (here : row_of inodes path ≡ Some old)
    (quotas fewer after : Quotas) (removed space : Namespace) → Stands inodes quotas removed space → IsNamespace space → Counts inodes quotas space → (was : Entry) → entry_at space path ≡ Some was → ((name : List ℕ) → entry_at space (path ++ name ∷ []) ≡ None)
    → ((id : InodeId) (quota : QuotaRow) → quota_of fewer id ≡ Some quota → quota_of quotas id ≡ Some quota) → IsRecounted inodes path (one_gone was) fewer after → Counts (map.remove inodes at) after (without space path)
counts_removed inodes next tree at old there none below path here quotas fewer after removed space stands is counts was found leaf some recounted =
    counts_recounted inodes path (one_gone was) fewer after recounted inodes (map.remove inodes at) space (without space path) (counts_fewer inodes quotas fewer space counts some) (λ top row quota e q.
    let left = row_left inodes next tree at old there none below path here top row e in
    (row, left.1, refl, subst (λ b. Uses (one_gone was) b space (without space path) top) (sym (is_along-within inodes next tree top row left.1 path)) (less top left.0 (row_stands inodes quotas removed space stands top row left.1) (is_within top path) refl)))
  where
    less : (top : Path) → top ≢ path → IsSome (entry_at space top) → (w : Bool) → is_within top path ≡ w → Uses (one_gone was) w space (without space path) top
    less top differ some true above =
        let names = used_names-without space path top above in
        let bytes = used_bytes-without space path top above in
        let name = used_names-leaf space path leaf is was found in
        let own = used_bytes-leaf space path leaf is was found in
        record { names = omega arith; bytes = omega arith }
    less top differ some false beside =
        let apart : is_within path top ≡ false = false_from_ne_true (is_within path top) (λ within. true≢false (sym some ∙ ap is_some (none_below space path leaf is top within differ))) in
        let names = used_names-without_apart space path top beside apart in
        let bytes = used_bytes-without_apart space path top beside apart in
        record { names = omega arith; bytes = omega arith }
