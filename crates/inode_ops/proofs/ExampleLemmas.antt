-- What the rows of the worked examples have at their keys, which directory is owned, and why other rows aren't kept.
use Rattle.std.proofs.Common.{◌≡◌, ◌≢◌, ℕ, ◌<◌, Bool, true, false, cond, List, inl, inr, Option, Some, None, arith, refl, sym, ap, ◌∙◌}
use Rattle.std.proofs.lemmas.Bool.{or_cases, true≢false}
use Rattle.std.specs.Prelude.{codes}
use Rattle.std.specs.FinMap as map
use Rattle.hops_base.specs.declared.ids.InodeId.{InodeId}
use Rattle.hops_base.specs.declared.key.Key.{Key}
use Rattle.hops_base.specs.Key.{key_cmp, key_cmp_total, same_key}
use Rattle.hops_base.proofs.Tells.{keys_tell}
use Rattle.inode_table.specs.declared.inode.Inode.{Inode}
use Rattle.db_state.specs.Stored.{Inodes, root_key, root_row}
use Rattle.db_state.specs.Effects.{WasThere, OwnsDir, KeepsRows}
use Rattle.inode_ops.specs.Examples.{child, dir, file, with_quota, d, d_f, d_q, d_q_g, rows, locked}

-- ---- what is there

look : (k : Key) → map.get rows k ≡ cond (same_key k d_q_g) (Some (file 4)) (cond (same_key k d_q) (Some (with_quota (dir 5))) (cond (same_key k d_f) (Some (file 3)) (cond (same_key k d) (Some (dir 2)) (cond (same_key k root_key) (Some root_row) None))))
look k =
    let last : map.get (map.empty {X = Inode} {R = key_cmp}) k ≡ None = map.get-empty {X = Inode} key_cmp k in
    map.get-insert key_cmp_total _ d_q_g (file 4) k ∙ ap (cond (same_key k d_q_g) (Some (file 4))) (
    map.get-insert key_cmp_total _ d_q (with_quota (dir 5)) k ∙ ap (cond (same_key k d_q) (Some (with_quota (dir 5)))) (
    map.get-insert key_cmp_total _ d_f (file 3) k ∙ ap (cond (same_key k d_f) (Some (file 3))) (
    map.get-insert key_cmp_total _ d (dir 2) k ∙ ap (cond (same_key k d) (Some (dir 2))) (
    map.get-insert key_cmp_total _ root_key root_row k ∙ ap (cond (same_key k root_key) (Some root_row)) last))))

pub at_d : map.get rows d ≡ Some (dir 2)
unfolding key_cmp
at_d = look d

pub at_d_f : map.get rows d_f ≡ Some (file 3)
unfolding key_cmp
at_d_f = look d_f

pub at_d_q : map.get rows d_q ≡ Some (with_quota (dir 5))
unfolding key_cmp
at_d_q = look d_q

pub at_d_q_g : map.get rows d_q_g ≡ Some (file 4)
unfolding key_cmp
at_d_q_g = look d_q_g

pub none_in_root : map.get rows (child 1 (codes "e")) ≡ None
unfolding key_cmp
none_in_root = look (child 1 (codes "e"))

pub none_in_d : map.get rows (child 2 (codes "e")) ≡ None
unfolding key_cmp
none_in_d = look (child 2 (codes "e"))

pub none_in_q : map.get rows (child 5 (codes "e")) ≡ None
unfolding key_cmp
none_in_q = look (child 5 (codes "e"))

-- a key has what is put there, and none once it is removed
pub put_there : (old : Inodes) (at : Key) (new : Inode) → map.get (map.insert old at new) at ≡ Some new
put_there old at new = map.get-insert key_cmp_total old at new at ∙ (elim (keys_tell at at) [
  | inl h ↦ ap (λ (b : Bool). cond b (Some new) (map.get old at)) h.0
  | inr h ↦ absurd (h.1 refl)
])

pub gone_there : (old : Inodes) (at : Key) → map.get (map.remove old at) at ≡ None
gone_there old at = map.get-remove key_cmp_total old at at ∙ (elim (keys_tell at at) [
  | inl h ↦ ap (λ (b : Bool). cond b None (map.get old at)) h.0
  | inr h ↦ absurd (h.1 refl)
])

-- a key whose row moves to another has none
pub moved_away : map.get (map.insert (map.remove rows d_q_g) (child 2 (codes "e")) (file 4)) d_q_g ≡ None
unfolding key_cmp
moved_away = map.get-insert key_cmp_total (map.remove rows d_q_g) (child 2 (codes "e")) (file 4) d_q_g ∙ gone_there rows d_q_g

-- ---- what is owned

pub owns_d : OwnsDir rows locked (record { 0 = 2 })
unfolding key_cmp
owns_d = record { at = d; row = dir 2; there = at_d; is = refl; own = refl }

owned_is : (id : InodeId) → OwnsDir rows locked id → id.0 ≡ 2
owned_is id owns = elim (or_cases (same_key owns.at d) false owns.own) [
  | inl here ↦ elim (keys_tell owns.at d) [
    | inl h ↦
        let found : Some (dir 2) ≡ Some owns.row = sym at_d ∙ ap (map.get rows) (sym h.1) ∙ owns.there in
        let same : dir 2 ≡ owns.row = cc in
        sym (ap (λ (i : InodeId). i.0) owns.is) ∙ sym (ap (λ (r : Inode). r.id.0) same)
    | inr h ↦ absurd (true≢false (sym here ∙ h.0))
  ]
  | inr bad ↦ absurd (true≢false (sym bad))
]

-- ---- what isn't kept

-- ids with other numbers are others
pub others : (a b : InodeId) → a.0 ≢ b.0 → Some a ≢ Some b
others a b differ same = differ (let is : a ≡ b = cc in ap (λ (i : InodeId). i.0) is)

-- a row that differs from the one that was there in its id, in its kind, or by a new quota
pub was_not : (at : Key) (was row : Inode) → map.get rows at ≡ Some was → (row.id ≡ was.id → row.kind ≡ was.kind → (row.has_quota ≡ true → was.has_quota ≡ true) → ⊥) → ¬ WasThere rows at row
was_not at was row there differs w =
    let same : w.was ≡ was = (let found = w.there in cc) in
    differs (w.id ∙ ap (λ (r : Inode). r.id) same) (w.kind ∙ ap (λ (r : Inode). r.kind) same) (λ has. ap (λ (r : Inode). r.has_quota) (sym same) ∙ w.quota has)

pub was_none : (at : Key) (row : Inode) → map.get rows at ≡ None → ¬ WasThere rows at row
was_none at row none w = let found = w.there in cc

module _ (moves : Option InodeId) (new : Inodes) where
  -- a row that wasn't there, of an id that was given
  pub refused_row : (at : Key) (row : Inode) → map.get new at ≡ Some row → ¬ WasThere rows at row → row.id.0 < 6 → moves ≢ Some row.id → ¬ KeepsRows locked 6 moves rows new
  refused_row at row there differs given still keeps = elim (keeps.kept at row there) [
    | inl was ↦ differs was
    | inr free ↦ elim free [ inl fresh ↦ omega arith | inr is ↦ still is ]
  ]

  -- a row that comes into a directory that isn't owned
  pub refused_place : (parent : ℕ) (name : List ℕ) (row : Inode) → map.get new (child parent name) ≡ Some row → map.get rows (child parent name) ≡ None → parent < 6 → parent ≢ 2 → ¬ KeepsRows locked 6 moves rows new
  refused_place parent name row there none given other keeps = elim (keeps.added (record { 0 = parent }) name row there none) [
    | inl fresh ↦ omega arith
    | inr owns ↦ other (owned_is (record { 0 = parent }) owns)
  ]

  -- a row that goes from one
  pub refused_gap : (parent : ℕ) (name : List ℕ) (row : Inode) → map.get rows (child parent name) ≡ Some row → map.get new (child parent name) ≡ None → parent ≢ 2 → ¬ KeepsRows locked 6 moves rows new
  refused_gap parent name row there none other keeps = other (owned_is (record { 0 = parent }) (keeps.removed (record { 0 = parent }) name row there none))
