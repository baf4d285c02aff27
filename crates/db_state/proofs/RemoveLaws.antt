-- Laws of rows of which one goes that has no row under it and isn't the root's.
use Rattle.std.proofs.Common.{◌≡◌, ◌≢◌, ℕ, Bool, true, false, cond, List, [], ◌∷◌, reverse, Option, Some, None, is_some, option_map, option_and_then, inl, inr, refl, sym, ap, subst, ◌∙◌}
use Rattle.std.specs.Option.{option_or}
use Rattle.std.specs.FinMap as map
use Rattle.std.proofs.lemmas.Bool.{true≢false}
use Rattle.std.proofs.lemmas.List.{reverse-reverse}
use Rattle.hops_base.specs.declared.ids.InodeId.{InodeId}
use Rattle.hops_base.specs.declared.key.Key.{Key}
use Rattle.hops_base.specs.declared.key.Key.TheVariants as key
use Rattle.hops_base.specs.Key.{key_cmp_total, same_key, number_of}
use Rattle.hops_base.specs.Path.{same_path}
use Rattle.hops_base.proofs.Tells.{keys_tell, paths_tell}
use Rattle.name_space.specs.Namespace.{Namespace, Path, entry_at}
use Rattle.inode_table.specs.declared.inode.Inode.{Inode}
use Rattle.quota_table.specs.declared.quota.QuotaRow.{QuotaRow}
use Rattle.commit_log.specs.Ids.{Numbering, id_at}
use Rattle.db_state.specs.Stored.{root_key}
use Rattle.db_state.specs.Spelled.{Inodes, child_of, spelled, row_of, IsTree, AreGiven}
use Rattle.db_state.specs.Stands.{Quotas, quota_of, entry_of_kind, entry_of, Stands}
use Rattle.db_state.specs.Consistent.{flag_at, FlagsStay}
use Rattle.db_state.proofs.StandLaws.{not_removed}
use Rattle.db_state.proofs.PathLaws.{same_id, injective}
use Rattle.db_state.proofs.ChangeLaws.{same_reversed}

-- none, either way
none_either : (b : Bool) (o : Option Inode) → o ≡ None → cond b None o ≡ None
none_either true o e = refl
none_either false o e = e

-- a path other than the root's doesn't spell the root's row
pub not_root_key : (inodes : Inodes) (next : ℕ) (tree : IsTree inodes next) (path : Path) (at : Key) (row : Inode) → path ≢ [] → row_of inodes path ≡ Some row → map.get inodes at ≡ Some row → at ≢ root_key
not_root_key inodes next tree path at row some here there same =
    let top : spelled inodes [] ≡ Some row = subst (λ (k : Key). map.get inodes k ≡ Some row) same there in
    let ups : reverse path ≡ [] = injective inodes next tree (reverse path) [] row row here top refl in
    some (sym (reverse-reverse path) ∙ ap reverse ups)

module _ (inodes : Inodes) (next : ℕ) (tree : IsTree inodes next) (at : Key) (old : Inode) (there : map.get inodes at ≡ Some old)
    (none : (name : List ℕ) → map.get inodes (key.Inode old.id name) ≡ None) (below : at ≢ root_key) where
  -- what is at each key then: as before, but for the key of the old row
  pub left_key : (k : Key) (x : Inode) → map.get (map.remove inodes at) k ≡ Some x → (k ≢ at) × (map.get inodes k ≡ Some x)
  left_key k x e =
      let got : cond (same_key k at) None (map.get inodes k) ≡ Some x = sym (map.get-remove key_cmp_total inodes at k) ∙ e in
      elim (keys_tell k at) [
        | inl h ↦ absurd (let bad = rw h.0 at got in cc)
        | inr h ↦ (h.1, (let same = rw h.0 at got in cc))
      ]

  -- a row under another key stays
  pub key_stays : (k : Key) → k ≢ at → map.get (map.remove inodes at) k ≡ map.get inodes k
  key_stays k differ = map.get-remove key_cmp_total inodes at k ∙ (elim (keys_tell k at) [ inl h ↦ absurd (differ h.1) | inr h ↦ rw h.0 refl ])

  -- no row that stays has the id of the old one
  pub left_id : (k : Key) (x : Inode) → map.get (map.remove inodes at) k ≡ Some x → x.id ≢ old.id
  left_id k x e same = let left = left_key k x e in left.0 (tree.apart k at x old left.1 there same)

  module _ (up : List (List ℕ)) (here : spelled inodes up ≡ Some old) where
    root_stays : map.get (map.remove inodes at) root_key ≡ cond (same_path [] up) None (map.get inodes root_key)
    root_stays = key_stays root_key (λ same. below (sym same)) ∙ (elim (paths_tell [] up) [
      | inl h ↦ absurd (let top : map.get inodes root_key ≡ Some old = subst (λ (p : List (List ℕ)). spelled inodes p ≡ Some old) (sym h.1) here in below (tree.apart at root_key old old there top refl))
      | inr h ↦ rw h.0 refl
    ])

    -- what is under a path that isn't the old row's
    child_left : (n : List ℕ) (q : List (List ℕ)) (o : Option Inode) → spelled inodes q ≡ o → child_of (map.remove inodes at) n o ≡ cond (same_path (n ∷ q) up) None (child_of inodes n o)
    child_left n q None e = elim (paths_tell (n ∷ q) up) [ inl h ↦ rw h.0 refl | inr h ↦ rw h.0 refl ]
    child_left n q (Some dir) e = map.get-remove key_cmp_total inodes at (key.Inode dir.id n) ∙ (elim (keys_tell (key.Inode dir.id n) at) [
      | inl h ↦
          let spelt : spelled inodes (n ∷ q) ≡ Some old = ap (child_of inodes n) e ∙ ap (map.get inodes) h.1 ∙ there in
          let ups : n ∷ q ≡ up = injective inodes next tree (n ∷ q) up old old spelt here refl in
          elim (paths_tell (n ∷ q) up) [ inl g ↦ rw (h.0, g.0) refl | inr g ↦ absurd (g.1 ups) ]
      | inr h ↦ elim (paths_tell (n ∷ q) up) [
        | inl g ↦ absurd (
            let spelt : child_of inodes n (spelled inodes q) ≡ Some old = subst (λ (p : List (List ℕ)). spelled inodes p ≡ Some old) (sym g.1) here in
            let under : map.get inodes (key.Inode dir.id n) ≡ Some old = ap (child_of inodes n) (sym e) ∙ spelt in
            h.1 (tree.apart (key.Inode dir.id n) at old old under there refl))
        | inr g ↦ rw (h.0, g.0) refl
      ]
    ])

    -- what is under the old row's path: nothing, as before
    child_gone : (n : List ℕ) (q : List (List ℕ)) → q ≡ up → None ≡ cond (same_path (n ∷ q) up) None (child_of inodes n (spelled inodes q))
    child_gone n q same =
        let empty : child_of inodes n (spelled inodes q) ≡ None = ap (λ (p : List (List ℕ)). child_of inodes n (spelled inodes p)) same ∙ ap (child_of inodes n) here ∙ none n in
        elim (paths_tell (n ∷ q) up) [ inl h ↦ rw h.0 refl | inr h ↦ rw (h.0, empty) refl ]

    -- the old row's path spells none, and every other what it spelled
    pub removed_spelled : (q : List (List ℕ)) → spelled (map.remove inodes at) q ≡ cond (same_path q up) None (spelled inodes q)
    removed_spelled [] = root_stays
    removed_spelled (n ∷ q) = ap (child_of (map.remove inodes at) n) (removed_spelled q) ∙ (elim (paths_tell q up) [
      | inl h ↦ rw h.0 (child_gone n q h.1)
      | inr h ↦ rw h.0 (child_left n q (spelled inodes q) refl)
    ])

  -- the rows that stay spell a tree
  pub tree_removed : IsTree (map.remove inodes at) next
  tree_removed =
      let way = tree.spelled at old there in
      record {
        keys = λ k x e. tree.keys k x (left_key k x e).1;
        apart = λ k l x y ex ey same. tree.apart k l x y (left_key k x ex).1 (left_key l y ey).1 same;
        range = λ k x e. tree.range k x (left_key k x e).1;
        dirs = λ k x e. tree.dirs k x (left_key k x e).1;
        root = key_stays root_key (λ same. below (sym same)) ∙ tree.root;
        top = λ name x e. tree.top name x (left_key _ x e).1;
        parents = λ parent name x e some.
            let under = (left_key _ x e).1 in
            let dir = tree.parents parent name x under some in
            record {
              at = dir.at;
              row = dir.row;
              there = key_stays dir.at (λ same.
                  let row : Some dir.row ≡ Some old = sym dir.there ∙ ap (map.get inodes) same ∙ there in
                  let is : dir.row ≡ old = cc in
                  let ids : old.id ≡ parent = ap (λ (r : Inode). r.id) (sym is) ∙ dir.is in
                  let gone : map.get inodes (key.Inode parent name) ≡ None = subst (λ (i : InodeId). map.get inodes (key.Inode i name) ≡ None) ids (none name) in
                  cc) ∙ dir.there;
              is = dir.is;
              dir = dir.dir;
            };
        spelled = λ k x e.
            let left = left_key k x e in
            let was = tree.spelled k x left.1 in (
              was.0,
              removed_spelled way.0 way.1 was.0 ∙ (elim (paths_tell was.0 way.0) [
                | inl h ↦ absurd (
                    let spelt : spelled inodes way.0 ≡ Some x = subst (λ (p : List (List ℕ)). spelled inodes p ≡ Some x) h.1 was.1 in
                    let same : Some x ≡ Some old = sym spelt ∙ way.1 in
                    let is : x ≡ old = cc in
                    left_id k x e (ap (λ (r : Inode). r.id) is))
                | inr h ↦ rw h.0 was.1
              ]),
            );
      }

  -- and bear the flags that they bore
  pub flags_removed : FlagsStay inodes (map.remove inodes at)
  flags_removed k some = left (map.get (map.remove inodes at) k) refl some
    where
      left : (o : Option Inode) → map.get (map.remove inodes at) k ≡ o → is_some o ≡ true → flag_at (map.remove inodes at) k ≡ flag_at inodes k
      left None e some = absurd (true≢false (sym some))
      left (Some x) e some = ap (option_and_then (λ (r : Inode). r.flag)) (e ∙ sym (left_key k x e).1)

  module _ (path : Path) (here : row_of inodes path ≡ Some old) where
    -- in paths from the root on
    pub row_of_removed : (q : Path) → row_of (map.remove inodes at) q ≡ cond (same_path q path) None (row_of inodes q)
    row_of_removed q = removed_spelled (reverse path) here (reverse q) ∙ ap (λ b. cond b None (row_of inodes q)) (same_reversed q path)

    -- a path spells the row that it spells then before as well, and it isn't the old row's path
    pub row_left : (q : Path) (x : Inode) → row_of (map.remove inodes at) q ≡ Some x → (q ≢ path) × (row_of inodes q ≡ Some x)
    row_left q x e =
        let got : cond (same_path q path) None (row_of inodes q) ≡ Some x = sym (row_of_removed q) ∙ e in
        elim (paths_tell q path) [
          | inl h ↦ absurd (let bad = rw h.0 at got in cc)
          | inr h ↦ (h.1, (let same = rw h.0 at got in cc))
        ]

    -- and the rows that stay have the ids that their paths are given, where those are given as before
    pub given_removed : (numbering after : Numbering) → AreGiven inodes numbering → ((q : Path) (row : Inode) → row_of inodes q ≡ Some row → q ≢ path → id_at after q ≡ id_at numbering q) → AreGiven (map.remove inodes at) after
    given_removed numbering after given same q x e = let left = row_left q x e in same q x left.1 left.0 ∙ given q x left.1

    module _ (quotas : Quotas) (removed space : Namespace) (stands : Stands inodes quotas removed space) where
      unremoved : entry_at removed path ≡ None
      unremoved = not_removed inodes quotas removed space stands path old here

      module _ (others : Quotas) (keys : (k : Key) (quota : QuotaRow) → map.get others k ≡ Some quota → (id : InodeId) × (k ≡ key.Quota id))
          (gone : quota_of others old.id ≡ None) (same : (id : InodeId) → id ≢ old.id → quota_of others id ≡ quota_of quotas id) where
        same_entry : (q : Path) (o : Option Inode) → row_of inodes q ≡ o → q ≢ path → option_map (entry_of quotas) o ≡ option_map (entry_of others) o
        same_entry q None e differ = refl
        same_entry q (Some row) e differ = ap (λ (quota : Option QuotaRow). Some (entry_of_kind row.kind row quota)) (sym (same row.id (λ ids.
            let ups : reverse q ≡ reverse path = injective inodes next tree (reverse q) (reverse path) row old e here ids in
            differ (sym (reverse-reverse q) ∙ ap reverse ups ∙ reverse-reverse path))))

        -- they stand for a namespace that is as before but for that path, with the quotas but for that id
        pub stands_removed : (after : Namespace) → ((q : Path) → entry_at after q ≡ cond (same_path q path) None (entry_at space q)) → Stands (map.remove inodes at) others removed after
        stands_removed after left = record {
          entries = λ q. left q ∙ (elim (paths_tell q path) [
            | inl h ↦ let row = row_of_removed q in rw (row, h.0, h.1, unremoved) refl
            | inr h ↦ let row = row_of_removed q in rw (row, h.0) (stands.entries q ∙ ap (option_or (entry_at removed q)) (same_entry q (row_of inodes q) refl h.1))
          ]);
          once = λ q some. row_of_removed q ∙ none_either (same_path q path) (row_of inodes q) (stands.once q some);
          apart = stands.apart;
          keys = keys;
          rows = λ id quota e.
              let other : id ≢ old.id = (λ is. let here : quota_of others old.id ≡ Some quota = subst (λ (i : InodeId). quota_of others i ≡ Some quota) is e in cc) in
              let of = stands.rows id quota (sym (same id other) ∙ e) in
              record {
                at = of.at;
                row = of.row;
                there = key_stays of.at (λ k.
                    let row : Some of.row ≡ Some old = sym of.there ∙ ap (map.get inodes) k ∙ there in
                    let is : of.row ≡ old = cc in
                    other (sym of.is ∙ ap (λ (r : Inode). r.id) is)) ∙ of.there;
                is = of.is;
                dir = of.dir;
                limit = of.limit;
              };
          marks = λ k x e. stands.marks k x (left_key k x e).1 ∙ ap is_some (sym (same x.id (left_id k x e)));
        }

      other_key : (id : InodeId) → id ≢ old.id → map.get (map.remove quotas (key.Quota old.id)) (key.Quota id) ≡ map.get quotas (key.Quota id)
      other_key id differ = map.get-remove key_cmp_total quotas (key.Quota old.id) (key.Quota id) ∙ (elim (keys_tell (key.Quota id) (key.Quota old.id)) [
        | inl h ↦ absurd (differ (same_id id old.id (ap number_of h.1)))
        | inr h ↦ rw h.0 refl
      ])

      -- so they do once its quota row went too
      pub stands_removed_quota : (after : Namespace) → ((q : Path) → entry_at after q ≡ cond (same_path q path) None (entry_at space q)) → Stands (map.remove inodes at) (map.remove quotas (key.Quota old.id)) removed after
      stands_removed_quota = stands_removed (map.remove quotas (key.Quota old.id))
          (λ k quota e.
          let got : cond (same_key k (key.Quota old.id)) None (map.get quotas k) ≡ Some quota = sym (map.get-remove key_cmp_total quotas (key.Quota old.id) k) ∙ e in
          elim (keys_tell k (key.Quota old.id)) [
            | inl h ↦ absurd (let bad = rw h.0 at got in cc)
            | inr h ↦ let same = rw h.0 at got in stands.keys k quota same
          ])
          (map.get-remove key_cmp_total quotas (key.Quota old.id) (key.Quota old.id) ∙ (elim (keys_tell (key.Quota old.id) (key.Quota old.id)) [ inl h ↦ rw h.0 refl | inr h ↦ absurd (h.1 refl) ]))
          other_key

      no_row : old.has_quota ≡ false → quota_of quotas old.id ≡ None
      no_row plain = (elim (quota_of quotas old.id) as (λ o. quota_of quotas old.id ≡ o → o ≡ None) [
        | None ↦ λ e. refl
        | Some quota ↦ λ e. absurd (let bad = sym plain ∙ stands.marks at old there ∙ ap is_some e in cc)
      ]) refl

      -- and with the quotas as they are, where it has none
      pub stands_removed_plain : old.has_quota ≡ false → (after : Namespace) → ((q : Path) → entry_at after q ≡ cond (same_path q path) None (entry_at space q)) → Stands (map.remove inodes at) quotas removed after
      stands_removed_plain plain = stands_removed quotas stands.keys (no_row plain) (λ id differ. refl)
