-- The plan of a call depends on nothing of its places but their paths and first missing keys, and of the rows found their keys
-- and what is compared when a row is read again.
use Rattle.std.specs.Prelude.{⊤}
use Rattle.std.proofs.Common.{◌≡◌, ℕ, ◌-◌, zero, suc, Bool, true, false, not, cond, List, [], ◌∷◌, ◌++◌, map as list_map, length, take, nat_lt, slice_get, Option, Some, None, option_map, option_to_list, refl, sym, ap, subst, ◌∙◌}
use Rattle.std.specs.List.{filter, flat_map}
use Rattle.hops_base.specs.declared.ids.ClientNo.{ClientNo}
use Rattle.hops_base.specs.declared.ids.InodeId.{InodeId}
use Rattle.hops_base.specs.declared.ids.Mode.{Mode}
use Rattle.hops_base.specs.declared.ids.Mode.TheVariants.{Shared, Exclusive}
use Rattle.hops_base.specs.declared.key.Key.{Key}
use Rattle.hops_base.specs.declared.key.Key.TheVariants as key
use Rattle.name_space.specs.declared.call.Call.{Call}
use Rattle.name_space.specs.declared.call.Call.TheVariants as call
use Rattle.name_space.specs.Plain.{last_name}
use Rattle.inode_table.specs.declared.inode.Inode.{Inode}
use Rattle.inode_table.specs.declared.inode.Kind.{Kind}
use Rattle.inode_table.specs.Inode.{is_dir_kind}
use Rattle.db_state.specs.declared.view.Place.{Place}
use Rattle.db_state.specs.Plan.{where_so, last, last_found, parent_found, deepest, is_whole, own_row, low, next, parent, quotas, own_dir, lease, writer_lease, in_mode, rename_keys, path_keys, plan}
use Rattle.db_state.specs.Current.{places_of, inside}
use Rattle.db_state.specs.ReadSteps.{SameRow, AllPairs}

-- the key is the same, and of the row what is compared
pub record SameFound (old new : Key × Inode) : Type 0 where
  pub key : new.0 ≡ old.0
  pub same : SameRow old.1 new.1

-- the two places are the same to a plan
pub record SamePlace (old new : Place) : Type 0 where
  pub path : new.path ≡ old.path
  pub same_missing : new.missing ≡ old.missing
  pub rows : AllPairs SameFound old.found.items new.found.items

-- the two options have values that are related, or none
abbrev pub OptPair : {A : Type 0} → (A → A → Type 0) → Option A → Option A → Type 0
OptPair R None None = ⊤
OptPair R None (Some y) = ⊥
OptPair R (Some x) None = ⊥
OptPair R (Some x) (Some y) = R x y

module _ {A : Type 0} (R : A → A → Type 0) where
  pub pairs-length : (xs ys : List A) → AllPairs R xs ys → length ys ≡ length xs
  pairs-length [] [] all = refl
  pairs-length [] (y ∷ ys) all = absurd all
  pairs-length (x ∷ xs) [] all = absurd all
  pairs-length (x ∷ xs) (y ∷ ys) all = ap (λ (n : ℕ). suc n) (pairs-length xs ys all.1)

  pub pairs-get : (xs ys : List A) (i : ℕ) → AllPairs R xs ys → OptPair R (slice_get xs i) (slice_get ys i)
  pairs-get [] [] i all = tt
  pairs-get [] (y ∷ ys) i all = absurd all
  pairs-get (x ∷ xs) [] i all = absurd all
  pairs-get (x ∷ xs) (y ∷ ys) zero all = all.0
  pairs-get (x ∷ xs) (y ∷ ys) (suc i) all = pairs-get xs ys i all.1

  pub pairs-take : (xs ys : List A) (i : ℕ) → AllPairs R xs ys → AllPairs R (take i xs) (take i ys)
  pairs-take xs ys zero all = tt
  pairs-take [] [] (suc i) all = tt
  pairs-take [] (y ∷ ys) (suc i) all = absurd all
  pairs-take (x ∷ xs) [] (suc i) all = absurd all
  pairs-take (x ∷ xs) (y ∷ ys) (suc i) all = (all.0, pairs-take xs ys i all.1)

  pub pairs-last : (xs ys : List A) → AllPairs R xs ys → OptPair R (last xs) (last ys)
  pairs-last xs ys all = subst_index (length ys - 1) (ap (λ (n : ℕ). n - 1) (pairs-length xs ys all))
    where
      subst_index : (n : ℕ) → n ≡ length xs - 1 → OptPair R (slice_get xs (length xs - 1)) (slice_get ys n)
      subst_index n e = subst (λ (m : ℕ). OptPair R (slice_get xs (length xs - 1)) (slice_get ys m)) (sym e) (pairs-get xs ys (length xs - 1) all)

  -- a list that is made of each item is the same, where related items make the same
  pub pairs-flat : {B : Type 0} (f g : A → List B) → ((x y : A) → R x y → g y ≡ f x) → (xs ys : List A) → AllPairs R xs ys → flat_map g ys ≡ flat_map f xs
  pairs-flat f g same [] [] all = refl
  pairs-flat f g same [] (y ∷ ys) all = absurd all
  pairs-flat f g same (x ∷ xs) [] all = absurd all
  pairs-flat f g same (x ∷ xs) (y ∷ ys) all = ap (λ zs. zs ++ flat_map g ys) (same x y all.0) ∙ ap (λ zs. f x ++ zs) (pairs-flat f g same xs ys all.1)

  pub opt-list : {B : Type 0} (f : A → B) → ((x y : A) → R x y → f y ≡ f x) → (o p : Option A) → OptPair R o p → list_map f (option_to_list p) ≡ list_map f (option_to_list o)
  opt-list f same None None is = refl
  opt-list f same None (Some y) is = absurd is
  opt-list f same (Some x) None is = absurd is
  opt-list f same (Some x) (Some y) is = ap (λ z. z ∷ []) (same x y is)

-- ---- the parts of a plan

module _ (old new : Place) (is : SamePlace old new) where
  long : length new.found.items ≡ length old.found.items
  long = pairs-length SameFound old.found.items new.found.items is.rows

  last_pair : OptPair SameFound (last_found old) (last_found new)
  last_pair = pairs-last SameFound old.found.items new.found.items is.rows

  parent_pair : OptPair SameFound (parent_found old) (parent_found new)
  parent_pair = pairs-last SameFound (take (length old.found.items - 1) old.found.items) (take (length new.found.items - 1) new.found.items)
      (subst (λ (n : ℕ). AllPairs SameFound (take (length old.found.items - 1) old.found.items) (take (n - 1) new.found.items)) (sym long)
      (pairs-take SameFound old.found.items new.found.items (length old.found.items - 1) is.rows))

  whole-same : is_whole new ≡ is_whole old
  whole-same = ap (λ (n : ℕ). nat_lt (length new.path) n) long ∙ ap (λ (p : List (List ℕ)). nat_lt (length p) (length old.found.items)) is.path

  low-same : low new ≡ low old
  low-same = opt-list SameFound (λ (r : Key × Inode). r.0) (λ x y s. s.key) (last_found old) (last_found new) last_pair

  next-same : next new ≡ next old
  next-same = ap (λ (o : Option Key). option_to_list o) is.same_missing

  parent-same : parent new ≡ parent old
  parent-same = ap (λ (b : Bool). where_so b (list_map (λ (r : Key × Inode). r.0) (option_to_list (parent_found new)))) whole-same
      ∙ ap (where_so (is_whole old)) (opt-list SameFound (λ (r : Key × Inode). r.0) (λ x y s. s.key) (parent_found old) (parent_found new) parent_pair)

  quotas-same : quotas new ≡ quotas old
  quotas-same = pairs-flat SameFound (λ (r : Key × Inode). where_so r.1.has_quota (key.Quota r.1.id ∷ [])) (λ (r : Key × Inode). where_so r.1.has_quota (key.Quota r.1.id ∷ []))
      (λ x y s. ap (λ (b : Bool). where_so b (key.Quota y.1.id ∷ [])) s.same.has_quota ∙ ap (λ (i : InodeId). where_so x.1.has_quota (key.Quota i ∷ [])) s.same.id)
      old.found.items new.found.items is.rows

  deep_pair : (o p : Option (Key × Inode)) → OptPair SameFound o p → OptPair SameRow (option_map (λ (r : Key × Inode). r.1) o) (option_map (λ (r : Key × Inode). r.1) p)
  deep_pair None None s = tt
  deep_pair None (Some y) s = absurd s
  deep_pair (Some x) None s = absurd s
  deep_pair (Some x) (Some y) s = s.same

  own_pair : OptPair SameRow (own_row old) (own_row new)
  own_pair = subst (λ (b : Bool). OptPair SameRow (own_row old) (cond b (deepest new) None)) (sym whole-same) (by (is_whole old))
    where
      by : (b : Bool) → OptPair SameRow (cond b (deepest old) None) (cond b (deepest new) None)
      by true = deep_pair (last_found old) (last_found new) last_pair
      by false = tt

  -- what is made of the path's own row, where it passes a test on its kind
  own_made : {B : Type 0} (test : Kind → Bool) (f : List Inode → List B) → ((x y : Inode) → SameRow x y → f (y ∷ []) ≡ f (x ∷ [])) → (o p : Option Inode) → OptPair SameRow o p
      → f (filter (λ (row : Inode). test row.kind) (option_to_list p)) ≡ f (filter (λ (row : Inode). test row.kind) (option_to_list o))
  own_made test f same None None s = refl
  own_made test f same None (Some y) s = absurd s
  own_made test f same (Some x) None s = absurd s
  own_made test f same (Some x) (Some y) s = ap (λ (b : Bool). f (cond b (y ∷ []) [])) (ap test s.kind) ∙ by (test x.kind)
    where
      by : (b : Bool) → f (cond b (y ∷ []) []) ≡ f (cond b (x ∷ []) [])
      by true = same x y s
      by false = refl

  lease-same : (client : ClientNo) → lease client new ≡ lease client old
  lease-same client = own_made (λ (k : Kind). not (is_dir_kind k)) (list_map (λ (row : Inode). key.Lease client row.id)) (λ x y s. ap (λ (i : InodeId). key.Lease client i ∷ []) s.id) (own_row old) (own_row new) own_pair

  writer_lease-same : writer_lease new ≡ writer_lease old
  writer_lease-same = own_made (λ (k : Kind). not (is_dir_kind k)) (flat_map (λ (row : Inode). list_map (λ (w : ClientNo). key.Lease w row.id) (option_to_list row.writer)))
      (λ x y s. ap (λ ks. ks ++ []) (ap (λ (o : Option ClientNo). list_map (λ (w : ClientNo). key.Lease w y.id) (option_to_list o)) s.writer ∙ ap (λ (i : InodeId). list_map (λ (w : ClientNo). key.Lease w i) (option_to_list x.writer)) s.id))
      (own_row old) (own_row new) own_pair

  set_quota-same : list_map (λ (row : Inode). key.Quota row.id) (own_dir new) ≡ list_map (λ (row : Inode). key.Quota row.id) (own_dir old)
  set_quota-same = own_made (λ (k : Kind). is_dir_kind k) (list_map (λ (row : Inode). key.Quota row.id)) (λ x y s. ap (λ (i : InodeId). key.Quota i ∷ []) s.id) (own_row old) (own_row new) own_pair

  usage-same : flat_map (λ (row : Inode). where_so row.has_quota (key.Quota row.id ∷ [])) (own_dir new) ≡ flat_map (λ (row : Inode). where_so row.has_quota (key.Quota row.id ∷ [])) (own_dir old)
  usage-same = own_made (λ (k : Kind). is_dir_kind k) (flat_map (λ (row : Inode). where_so row.has_quota (key.Quota row.id ∷ [])))
      (λ x y s. ap (λ ks. ks ++ []) (ap (λ (b : Bool). where_so b (key.Quota y.id ∷ [])) s.has_quota ∙ ap (λ (i : InodeId). where_so x.has_quota (key.Quota i ∷ [])) s.id))
      (own_row old) (own_row new) own_pair

  pub path_keys-same : (client : ClientNo) (asked : Call) → path_keys client asked new ≡ path_keys client asked old
  path_keys-same client (call.Mkdirs path) = let a = low-same in let b = next-same in let c = quotas-same in let d = whole-same in rw (a, b, c, d) refl
  path_keys-same client (call.Create path overwrite) = let a = low-same in let b = next-same in let c = quotas-same in let d = writer_lease-same in let e = lease-same client in rw (a, b, c, d, e) refl
  path_keys-same client (call.Append path) = let a = low-same in let b = lease-same client in rw (a, b) refl
  path_keys-same client (call.Grow path bytes) = let a = low-same in let b = lease-same client in let c = quotas-same in rw (a, b, c) refl
  path_keys-same client (call.Close path) = let a = low-same in let b = lease-same client in rw (a, b) refl
  path_keys-same client (call.Stat path) = ap (in_mode Shared) low-same
  path_keys-same client (call.List path) = ap (in_mode Shared) low-same
  path_keys-same client (call.Delete path recursive) = let a = low-same in let b = whole-same in let c = parent-same in let d = writer_lease-same in let e = quotas-same in rw (a, c, d, e, b) refl
  path_keys-same client (call.Rename source destination) = refl
  path_keys-same client (call.Chmod path mode) = ap (in_mode Exclusive) low-same
  path_keys-same client (call.SetQuota path names bytes) = let a = low-same in let b = set_quota-same in rw (a, b) refl
  path_keys-same client (call.Usage path) = let a = low-same in let b = usage-same in rw (a, b) refl

-- ---- the plan

-- for the places of a rename
rename_same : (olds news : List Place) → AllPairs SamePlace olds news → rename_keys news ≡ rename_keys olds
rename_same [] [] all = refl
rename_same [] (y ∷ ys) all = absurd all
rename_same (x ∷ xs) [] all = absurd all
rename_same (source ∷ []) (source' ∷ []) all = low-same source source' all.0
rename_same (source ∷ []) (source' ∷ y ∷ ys) all = absurd all.1
rename_same (source ∷ x ∷ xs) (source' ∷ []) all = absurd all.1
rename_same (source ∷ destination ∷ xs) (source' ∷ destination' ∷ ys) all =
    let a = low-same source source' all.0 in
    let b = parent-same source source' all.0 in
    let c = quotas-same source source' all.0 in
    let d = low-same destination destination' all.1.0 in
    let e = next-same destination destination' all.1.0 in
    let f = quotas-same destination destination' all.1.0 in
    ap (λ (ks : List Key). ks ++ parent source' ++ quotas source' ++ low destination' ++ next destination' ++ quotas destination' ++ flat_map inside_keys ys) a
    ∙ ap (λ (ks : List Key). low source ++ ks ++ quotas source' ++ low destination' ++ next destination' ++ quotas destination' ++ flat_map inside_keys ys) b
    ∙ ap (λ (ks : List Key). low source ++ parent source ++ ks ++ low destination' ++ next destination' ++ quotas destination' ++ flat_map inside_keys ys) c
    ∙ ap (λ (ks : List Key). low source ++ parent source ++ quotas source ++ ks ++ next destination' ++ quotas destination' ++ flat_map inside_keys ys) d
    ∙ ap (λ (ks : List Key). low source ++ parent source ++ quotas source ++ low destination ++ ks ++ quotas destination' ++ flat_map inside_keys ys) e
    ∙ ap (λ (ks : List Key). low source ++ parent source ++ quotas source ++ low destination ++ next destination ++ ks ++ flat_map inside_keys ys) f
    ∙ ap (λ (ks : List Key). low source ++ parent source ++ quotas source ++ low destination ++ next destination ++ quotas destination ++ ks)
    (pairs-flat SamePlace inside_keys inside_keys inside-same xs ys all.1.1)
  where
    inside_keys : Place → List Key
    inside_keys place = cond (is_whole place) (low place) (next place)

    inside-same : (x y : Place) → SamePlace x y → inside_keys y ≡ inside_keys x
    inside-same x y s = ap (λ (b : Bool). cond b (low y) (next y)) (whole-same x y s) ∙ ap (λ (ks : List Key). cond (is_whole x) ks (next y)) (low-same x y s) ∙ ap (cond (is_whole x) (low x)) (next-same x y s)

module _ (client : ClientNo) (olds news : List Place) (all : AllPairs SamePlace olds news) where
  paths_plan : (asked : Call) → flat_map (path_keys client asked) news ++ (key.Reply client, Exclusive) ∷ [] ≡ flat_map (path_keys client asked) olds ++ (key.Reply client, Exclusive) ∷ []
  paths_plan asked = ap (λ (ks : List (Key × Mode)). ks ++ (key.Reply client, Exclusive) ∷ []) (pairs-flat SamePlace (path_keys client asked) (path_keys client asked) (λ x y s. path_keys-same x y s client asked) olds news all)

  -- places that are the same to a plan have one plan
  pub plan-same : (asked : Call) → plan client asked news ≡ plan client asked olds
  plan-same (call.Mkdirs path) = paths_plan (call.Mkdirs path)
  plan-same (call.Create path overwrite) = paths_plan (call.Create path overwrite)
  plan-same (call.Append path) = paths_plan (call.Append path)
  plan-same (call.Grow path bytes) = paths_plan (call.Grow path bytes)
  plan-same (call.Close path) = paths_plan (call.Close path)
  plan-same (call.Stat path) = paths_plan (call.Stat path)
  plan-same (call.List path) = paths_plan (call.List path)
  plan-same (call.Delete path recursive) = paths_plan (call.Delete path recursive)
  plan-same (call.Rename source destination) = ap (λ (ks : List Key). in_mode Exclusive (ks ++ key.Reply client ∷ [])) (rename_same olds news all)
  plan-same (call.Chmod path mode) = paths_plan (call.Chmod path mode)
  plan-same (call.SetQuota path names bytes) = paths_plan (call.SetQuota path names bytes)
  plan-same (call.Usage path) = paths_plan (call.Usage path)

-- they have the same paths
pub paths-same : (olds news : List Place) → AllPairs SamePlace olds news → list_map (λ (place : Place). place.path) news ≡ list_map (λ (place : Place). place.path) olds
paths-same [] [] all = refl
paths-same [] (y ∷ ys) all = absurd all
paths-same (x ∷ xs) [] all = absurd all
paths-same (x ∷ xs) (y ∷ ys) all = ap (λ (p : List (List ℕ)). p ∷ list_map (λ (place : Place). place.path) ys) all.0.path ∙ ap (λ (ps : List (List (List ℕ))). x.path ∷ ps) (paths-same xs ys all.1)

inside_same : (source destination : List (List ℕ)) (olds news : List Place) → AllPairs SamePlace olds news → inside source destination news ≡ inside source destination olds
inside_same [] destination olds news all = refl
inside_same (name ∷ names) destination [] [] all = refl
inside_same (name ∷ names) destination [] (y ∷ ys) all = absurd all
inside_same (name ∷ names) destination (x ∷ xs) [] all = absurd all
inside_same (name ∷ names) destination (x ∷ []) (y ∷ []) all = refl
inside_same (name ∷ names) destination (x ∷ []) (y ∷ z ∷ ys) all = absurd all.1
inside_same (name ∷ names) destination (x ∷ w ∷ xs) (y ∷ []) all = absurd all.1
inside_same (name ∷ names) destination (x ∷ w ∷ xs) (y ∷ z ∷ ys) all =
    own_made w z all.1.0 (λ (k : Kind). is_dir_kind k) (list_map (λ (row : Inode). destination ++ last_name (name ∷ names) ∷ [])) (λ a b s. refl) (own_row w) (own_row z) (own_pair w z all.1.0)

-- and the call has the same paths for them
pub places_of-same : (asked : Call) (olds news : List Place) → AllPairs SamePlace olds news → places_of asked news ≡ places_of asked olds
places_of-same (call.Mkdirs path) olds news all = refl
places_of-same (call.Create path overwrite) olds news all = refl
places_of-same (call.Append path) olds news all = refl
places_of-same (call.Grow path bytes) olds news all = refl
places_of-same (call.Close path) olds news all = refl
places_of-same (call.Stat path) olds news all = refl
places_of-same (call.List path) olds news all = refl
places_of-same (call.Delete path recursive) olds news all = refl
places_of-same (call.Rename source destination) olds news all = ap (λ (ps : List (List (List ℕ))). source ∷ destination ∷ ps) (inside_same source destination olds news all)
places_of-same (call.Chmod path mode) olds news all = refl
places_of-same (call.SetQuota path names bytes) olds news all = refl
places_of-same (call.Usage path) olds news all = refl
