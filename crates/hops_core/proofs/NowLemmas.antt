-- The place that the rows have now for a path that a session has read, and what the call locks by it.
use Rattle.std.proofs.Common.{◌≡◌, ℕ, suc, ◌-◌, Bool, false, not, if◌then◌else◌, nat_lt, List, [], ◌∷◌, ◌++◌, length, take, map as list_map, slice_get, Option, Some, None, IfSome, option_map, option_to_list, arith, refl, sym, ap, subst, ◌∙◌}
use Rattle.std.specs.FinMap as map
use Rattle.std.specs.List.{filter, flat_map, AllByRecursion}
use Rattle.hops_base.specs.declared.ids.ClientNo.{ClientNo}
use Rattle.hops_base.specs.declared.ids.Mode.{Mode}
use Rattle.hops_base.specs.declared.ids.Mode.TheVariants.{Shared, Exclusive}
use Rattle.hops_base.specs.declared.ids.OpId.{OpId}
use Rattle.hops_base.specs.declared.key.Key.{Key}
use Rattle.hops_base.specs.declared.key.Key.TheVariants as key
use Rattle.name_space.specs.declared.call.Call.{Call}
use Rattle.name_space.specs.declared.call.Call.TheVariants as call
use Rattle.inode_table.specs.declared.inode.Inode.{Inode}
use Rattle.inode_table.specs.Inode.{is_dir_kind}
use Rattle.db_state.specs.declared.view.Place.{Place}
use Rattle.db_state.specs.Stored.{Inodes}
use Rattle.db_state.specs.Plan.{in_mode, is_whole, last, last_found, lease, low, next, own_file, parent, path_keys, plan, quotas, where_so, writer_lease}
use Rattle.db_state.specs.Current.{stops_at, Leads, Spells, IsThere, IsCurrentPlace}
use Rattle.db_state.specs.PlaceOf.{IsFound, IsPlaceOf}
use Rattle.db_state.specs.Reads.{EndsLocked}
use Rattle.db_state.specs.ReadSteps.{AllPairs, IsOfPath}
use Rattle.db_state.proofs.ReadsEndLaws.{plan_of_path}
use Rattle.db_state.proofs.ReadsPlanLaws.{pairs-take, pairs-last, opt-list}
use Rattle.hops_core.specs.Built.{IsBuilt}

-- ---- what a plan takes of a place

-- a call that is built has one path
pub of_path : (asked : Call) → IsBuilt asked → IsOfPath asked
of_path (call.Mkdirs path) built = tt
of_path (call.Create path overwrite) built = tt
of_path (call.Append path) built = tt
of_path (call.Grow path bytes) built = tt
of_path (call.Close path) built = tt
of_path (call.Stat path) built = tt
of_path (call.List path) built = tt
of_path (call.Delete path recursive) built = tt
of_path (call.Rename source destination) built = absurd (let bad = built in cc)
of_path (call.Chmod path mode) built = tt
of_path (call.SetQuota path names bytes) built = tt
of_path (call.Usage path) built = tt

-- places that a plan of a call that is built can't tell apart
pub record AreAlike (old new : Place) : Type 0 where
  pub whole : is_whole new ≡ is_whole old
  pub missing : new.missing ≡ old.missing
  pub last : last_found new ≡ last_found old
  pub parent : parent new ≡ parent old
  pub quotas : quotas new ≡ quotas old
  pub file : own_file new ≡ own_file old

module _ (client : ClientNo) (old new : Place) (same : AreAlike old new) where
  same_low : low new ≡ low old
  same_low = ap (λ (o : Option (Key × Inode)). list_map (λ (r : Key × Inode). r.0) (option_to_list o)) same.last

  same_next : next new ≡ next old
  same_next = ap option_to_list same.missing

  same_writer : writer_lease new ≡ writer_lease old
  same_writer = ap (λ (rows : List Inode). flat_map (λ (row : Inode). list_map (λ (w : ClientNo). key.Lease w row.id) (option_to_list row.writer)) rows) same.file

  same_lease : lease client new ≡ lease client old
  same_lease = ap (λ (rows : List Inode). list_map (λ (row : Inode). key.Lease client row.id) rows) same.file

  same_keys : (asked : Call) → IsBuilt asked → path_keys client asked new ≡ path_keys client asked old
  same_keys (call.Mkdirs path) built = λ i. in_mode Exclusive (same_low i ++ same_next i ++ where_so (not (same.whole i)) (same.quotas i))
  same_keys (call.Create path overwrite) built = λ i. in_mode Exclusive (same_low i ++ same_next i ++ same.quotas i ++ same_writer i ++ same_lease i)
  same_keys (call.Append path) built = absurd (let bad = built in cc)
  same_keys (call.Grow path bytes) built = absurd (let bad = built in cc)
  same_keys (call.Close path) built = absurd (let bad = built in cc)
  same_keys (call.Stat path) built = λ i. in_mode Shared (same_low i)
  same_keys (call.List path) built = λ i. in_mode Shared (same_low i)
  same_keys (call.Delete path recursive) built = λ i. in_mode Exclusive (same_low i ++ where_so (same.whole i) (same.parent i ++ same_writer i ++ same.quotas i))
  same_keys (call.Rename source destination) built = absurd (let bad = built in cc)
  same_keys (call.Chmod path mode) built = λ i. in_mode Exclusive (same_low i)
  same_keys (call.SetQuota path names bytes) built = absurd (let bad = built in cc)
  same_keys (call.Usage path) built = absurd (let bad = built in cc)

  -- so the plan is the same
  pub same_plan : (asked : Call) → IsBuilt asked → plan client asked (new ∷ []) ≡ plan client asked (old ∷ [])
  same_plan asked built =
      plan_of_path client asked new (of_path asked built)
      ∙ ap (λ (keys : List (Key × Mode)). (keys ++ []) ++ (key.Reply client, Exclusive) ∷ []) (same_keys asked built)
      ∙ sym (plan_of_path client asked old (of_path asked built))

-- ---- the rows as they are

-- a row without a quota
abbrev pub IsBare : Key × Inode → Type 0
IsBare r = r.1.has_quota ≡ false

no_quotas : (rows : List (Key × Inode)) → AllByRecursion IsBare rows → flat_map (λ (r : Key × Inode). where_so r.1.has_quota (key.Quota r.1.id ∷ [])) rows ≡ []
no_quotas [] all = refl
no_quotas (r ∷ rows) all =
    ap (λ (b : Bool). where_so b (key.Quota r.1.id ∷ []) ++ flat_map (λ (x : Key × Inode). where_so x.1.has_quota (key.Quota x.1.id ∷ [])) rows) all.0
    ∙ no_quotas rows all.1

-- the rows have one key
abbrev SameAt : Key × Inode → Key × Inode → Type 0
SameAt a b = b.0 ≡ a.0

-- what is so of one is so of the same
so_too : {A : Type 0} (P : A → Type 0) (old new : Option A) → new ≡ old → IfSome old P → IfSome new P
so_too P old new same is = subst (λ (o : Option _). IfSome o P) (sym same) is

module _ (inodes : Inodes) (locked : List (Key × Mode)) where
  -- the table's rows at the keys of those that were found
  abbrev pub now_rows : (rows : List (Key × Inode)) → AllByRecursion (IsThere inodes locked) rows → List (Key × Inode)
  now_rows [] there = []
  now_rows (found ∷ rows) there = (found.0, there.0.row) ∷ now_rows rows there.1

  found_now : (rows : List (Key × Inode)) (there : AllByRecursion (IsThere inodes locked) rows) → AllByRecursion (IsFound inodes) (now_rows rows there)
  found_now [] there = tt
  found_now (found ∷ rows) there = (there.0.there, found_now rows there.1)

  long_now : (rows : List (Key × Inode)) (there : AllByRecursion (IsThere inodes locked) rows) → length (now_rows rows there) ≡ length rows
  long_now [] there = refl
  long_now (found ∷ rows) there = ap suc (long_now rows there.1)

  pairs_now : (rows : List (Key × Inode)) (there : AllByRecursion (IsThere inodes locked) rows) → AllPairs SameAt rows (now_rows rows there)
  pairs_now [] there = tt
  pairs_now (found ∷ rows) there = (refl, pairs_now rows there.1)

  bare_now : ((at : Key) (row : Inode) → map.get inodes at ≡ Some row → row.has_quota ≡ false) → (rows : List (Key × Inode)) (there : AllByRecursion (IsThere inodes locked) rows) → AllByRecursion IsBare (now_rows rows there)
  bare_now none [] there = tt
  bare_now none (found ∷ rows) there = (none found.0 there.0.row there.0.there, bare_now none rows there.1)

  -- they lead along the same path
  leads_now : (row now : Inode) (names : List (List ℕ)) (rows : List (Key × Inode)) (there : AllByRecursion (IsThere inodes locked) rows) (missing : Option Key)
      → now.id ≡ row.id → now.kind ≡ row.kind → Leads row names rows missing → Leads now names (now_rows rows there) missing
  leads_now row now [] [] there missing id kind leads = leads
  leads_now row now [] (found ∷ rows) there missing id kind leads = absurd (let bad : found ∷ rows ≡ [] = leads.0 in cc)
  leads_now row now (name ∷ names) [] there missing id kind leads = leads ∙ sym (λ i. stops_at (kind i) (id i) name)
  leads_now row now (name ∷ names) (found ∷ rows) there missing id kind leads = (
    kind ∙ leads.0,
    leads.1 ∙ sym (λ i. key.Inode (id i) name),
    leads_now found.1 there.0.row names rows there.1 missing there.0.id there.0.kind leads.2,
  )

  spells_now : (path : List (List ℕ)) (rows : List (Key × Inode)) (there : AllByRecursion (IsThere inodes locked) rows) (missing : Option Key) → Spells path rows missing → Spells path (now_rows rows there) missing
  spells_now path [] there missing spells = absurd spells
  spells_now path (root ∷ rows) there missing spells = (spells.0, leads_now root.1 there.0.row path rows there.1 missing there.0.id there.0.kind spells.1)

  -- the last of them is locked, so it is as it was found
  end_now : (first : Key × Inode) (rows : List (Key × Inode)) (there : AllByRecursion (IsThere inodes locked) (first ∷ rows)) → EndsLocked locked (first ∷ rows)
      → slice_get (now_rows (first ∷ rows) there) (length rows) ≡ slice_get (first ∷ rows) (length rows)
  end_now first [] there ends = ap (λ (r : Inode). Some (first.0, r)) (there.0.whole ends)
  end_now first (found ∷ rows) there ends = end_now found rows there.1 ends

  last_now : (rows : List (Key × Inode)) (there : AllByRecursion (IsThere inodes locked) rows) → EndsLocked locked rows → last (now_rows rows there) ≡ last rows
  last_now [] there ends = absurd ends
  last_now (first ∷ rows) there ends =
      let long : length (first ∷ rows) - 1 ≡ length rows = omega arith in
      ap (λ (n : ℕ). slice_get (now_rows (first ∷ rows) there) (n - 1)) (long_now (first ∷ rows) there)
      ∙ ap (slice_get (now_rows (first ∷ rows) there)) long
      ∙ end_now first rows there ends
      ∙ sym (ap (slice_get (first ∷ rows)) long)

  -- the place of them
  abbrev pub now_place : (place : Place) → AllByRecursion (IsThere inodes locked) place.found.items → Place
  now_place place there = record place { found = record { items = now_rows place.found.items there; room = place.found.room } }

  module _ (own : Option OpId) (place : Place) (current : IsCurrentPlace inodes locked own place) (ends : EndsLocked locked place.found.items) where
    pub is_now : IsPlaceOf inodes place.path (now_place place current.there)
    is_now = record {
      of = refl;
      spells = spells_now place.path place.found.items current.there place.missing current.spells;
      there = found_now place.found.items current.there;
      gone = current.missing;
      child = so_too _ (last place.found.items) (last (now_rows place.found.items current.there)) (last_now place.found.items current.there ends) current.child;
    }

    whole_now : is_whole (now_place place current.there) ≡ is_whole place
    whole_now = ap (nat_lt (length place.path)) (long_now place.found.items current.there)

    parent_now : parent (now_place place current.there) ≡ parent place
    parent_now =
        let keys : list_map (λ (r : Key × Inode). r.0) (option_to_list (last (take (length (now_rows place.found.items current.there) - 1) (now_rows place.found.items current.there))))
        ≡ list_map (λ (r : Key × Inode). r.0) (option_to_list (last (take (length place.found.items - 1) place.found.items))) =
        ap (λ (n : ℕ). list_map (λ (r : Key × Inode). r.0) (option_to_list (last (take (n - 1) (now_rows place.found.items current.there))))) (long_now place.found.items current.there)
        ∙ opt-list SameAt (λ (r : Key × Inode). r.0) (λ x y is. is) (last (take (length place.found.items - 1) place.found.items)) (last (take (length place.found.items - 1) (now_rows place.found.items current.there)))
        (pairs-last SameAt _ _ (pairs-take SameAt place.found.items (now_rows place.found.items current.there) (length place.found.items - 1) (pairs_now place.found.items current.there))) in
        λ i. where_so (whole_now i) (keys i)

    file_now : own_file (now_place place current.there) ≡ own_file place
    file_now =
        let end = last_now place.found.items current.there ends in
        λ i. filter (λ (row : Inode). not (is_dir_kind row.kind)) (option_to_list (if whole_now i then option_map (λ (r : Key × Inode). r.1) (end i) else None))

    pub alike_now : AllByRecursion IsBare place.found.items → ((at : Key) (row : Inode) → map.get inodes at ≡ Some row → row.has_quota ≡ false) → AreAlike place (now_place place current.there)
    alike_now bare none = record {
      whole = whole_now;
      missing = refl;
      last = last_now place.found.items current.there ends;
      parent = parent_now;
      quotas = no_quotas (now_rows place.found.items current.there) (bare_now none place.found.items current.there) ∙ sym (no_quotas place.found.items bare);
      file = file_now;
    }
