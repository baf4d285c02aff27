-- The plan of a call locks the last row that was found for each of its paths.
use Rattle.std.proofs.Common.{◌≡◌, ℕ, ◌-◌, Bool, true, false, List, [], ◌∷◌, ◌++◌, map as list_map, length, slice_get, Option, Some, option_to_list, arith, refl, sym, ap, subst, ◌∙◌, inl, inr, if◌then◌else◌}
use Rattle.std.proofs.lemmas.Bool.{or_left, or_right, or_cases}
use Rattle.std.proofs.lemmas.List.Folds.{list_any-append}
use Rattle.std.specs.List.{list_any, AllByRecursion, flat_map}
use Rattle.hops_base.specs.declared.ids.ClientNo.{ClientNo}
use Rattle.hops_base.specs.declared.ids.Mode.{Mode}
use Rattle.hops_base.specs.declared.ids.Mode.TheVariants.{Shared, Exclusive}
use Rattle.hops_base.specs.declared.key.Key.{Key}
use Rattle.hops_base.specs.declared.key.Key.TheVariants as key
use Rattle.hops_base.specs.Key.{same_key}
use Rattle.hops_base.proofs.Tells.{keys_tell}
use Rattle.name_space.specs.declared.call.Call.{Call}
use Rattle.name_space.specs.declared.call.Call.TheVariants as call
use Rattle.inode_table.specs.declared.inode.Inode.{Inode}
use Rattle.db_state.specs.declared.view.Place.{Place}
use Rattle.db_state.specs.Plan.{in_mode, is_whole, low, next, parent, quotas, last_found, rename_keys, path_keys, plan}
use Rattle.db_state.specs.Current.{is_locked, SpellsPlace, Spells}
use Rattle.db_state.specs.Reads.{EndsLocked}
use Rattle.db_state.specs.ReadSteps.{IsOfPath, IsInside}

itself : (k : Key) → same_key k k ≡ true
itself k = elim (keys_tell k k) [ inl h ↦ h.0 | inr h ↦ absurd (h.1 refl) ]

only_locked : (mode : Mode) (k : Key) (ks : List Key) → list_any (same_key k) ks ≡ true → is_locked (in_mode mode ks) k ≡ true
only_locked mode k [] e = absurd (let bad = e in cc)
only_locked mode k (x ∷ ks) e = elim (or_cases (same_key k x) (list_any (same_key k) ks) e) [
  | inl here ↦ or_left (same_key k x) (is_locked (in_mode mode ks) k) here
  | inr more ↦ or_right (same_key k x) (is_locked (in_mode mode ks) k) (only_locked mode k ks more)
]

low_has : (place : Place) (last : Key × Inode) → last_found place ≡ Some last → list_any (same_key last.0) (low place) ≡ true
low_has place last is = subst (λ (o : Option (Key × Inode)). list_any (same_key last.0) (list_map (λ (r : Key × Inode). r.0) (option_to_list o)) ≡ true) (sym is) (or_left (same_key last.0 last.0) false (itself last.0))

among_first : (k : Key) (a b : List Key) → list_any (same_key k) a ≡ true → list_any (same_key k) (a ++ b) ≡ true
among_first k a b e = list_any-append (same_key k) a b ∙ or_left (list_any (same_key k) a) (list_any (same_key k) b) e

-- a call of one path locks the last row found
pub low_locked : (client : ClientNo) (asked : Call) (place : Place) (last : Key × Inode) → IsOfPath asked → last_found place ≡ Some last → is_locked (path_keys client asked place) last.0 ≡ true
low_locked client (call.Mkdirs path) place last of is = only_locked Exclusive last.0 _ (among_first last.0 _ _ (among_first last.0 _ _ (low_has place last is)))
low_locked client (call.Create path overwrite) place last of is = only_locked Exclusive last.0 _ (among_first last.0 _ _ (among_first last.0 _ _ (among_first last.0 _ _ (among_first last.0 _ _ (low_has place last is)))))
low_locked client (call.Append path) place last of is = only_locked Exclusive last.0 _ (among_first last.0 _ _ (low_has place last is))
low_locked client (call.Grow path bytes) place last of is = only_locked Exclusive last.0 _ (among_first last.0 _ _ (among_first last.0 _ _ (low_has place last is)))
low_locked client (call.Close path) place last of is = only_locked Exclusive last.0 _ (among_first last.0 _ _ (low_has place last is))
low_locked client (call.Stat path) place last of is = only_locked Shared last.0 _ (low_has place last is)
low_locked client (call.List path) place last of is = only_locked Shared last.0 _ (low_has place last is)
low_locked client (call.Delete path recursive) place last of is = only_locked Exclusive last.0 _ (among_first last.0 _ _ (low_has place last is))
low_locked client (call.Rename source destination) place last of is = absurd of
low_locked client (call.Chmod path mode) place last of is = only_locked Exclusive last.0 _ (low_has place last is)
low_locked client (call.SetQuota path names bytes) place last of is = only_locked Exclusive last.0 _ (among_first last.0 _ _ (low_has place last is))
low_locked client (call.Usage path) place last of is = only_locked Shared last.0 _ (among_first last.0 _ _ (low_has place last is))

-- the plan of a call of one path, by its place
pub plan_of_path : (client : ClientNo) (asked : Call) (place : Place) → IsOfPath asked → plan client asked (place ∷ []) ≡ (path_keys client asked place ++ []) ++ (key.Reply client, Exclusive) ∷ []
plan_of_path client (call.Mkdirs path) place of = refl
plan_of_path client (call.Create path overwrite) place of = refl
plan_of_path client (call.Append path) place of = refl
plan_of_path client (call.Grow path bytes) place of = refl
plan_of_path client (call.Close path) place of = refl
plan_of_path client (call.Stat path) place of = refl
plan_of_path client (call.List path) place of = refl
plan_of_path client (call.Delete path recursive) place of = refl
plan_of_path client (call.Rename source destination) place of = absurd of
plan_of_path client (call.Chmod path mode) place of = refl
plan_of_path client (call.SetQuota path names bytes) place of = refl
plan_of_path client (call.Usage path) place of = refl

-- what it locks by its place is in its plan
pub plan_locked : (client : ClientNo) (asked : Call) (place : Place) (k : Key) → IsOfPath asked → is_locked (path_keys client asked place) k ≡ true → is_locked (plan client asked (place ∷ [])) k ≡ true
plan_locked client asked place k of e = subst (λ (locked : List (Key × Mode)). is_locked locked k ≡ true) (sym (plan_of_path client asked place of))
    (list_any-append (λ (l : Key × Mode). same_key k l.0) (path_keys client asked place ++ []) ((key.Reply client, Exclusive) ∷ [])
    ∙ or_left (is_locked (path_keys client asked place ++ []) k) (is_locked ((key.Reply client, Exclusive) ∷ []) k)
    (list_any-append (λ (l : Key × Mode). same_key k l.0) (path_keys client asked place) [] ∙ or_left (is_locked (path_keys client asked place) k) false e))

ends_by_last : (locked : List (Key × Mode)) (row : Key × Inode) (rows : List (Key × Inode)) → ((last : Key × Inode) → slice_get (row ∷ rows) (length rows) ≡ Some last → is_locked locked last.0 ≡ true) → EndsLocked locked (row ∷ rows)
ends_by_last locked row [] at = at row refl
ends_by_last locked row (next ∷ rows) at = ends_by_last locked next rows at

-- rows that lead along a path end in a locked one, where the last of them is
ends_spelt : (locked : List (Key × Mode)) (place : Place) → SpellsPlace place → ((last : Key × Inode) → last_found place ≡ Some last → is_locked locked last.0 ≡ true) → EndsLocked locked place.found.items
ends_spelt locked place spells lock = go place.found.items refl spells
  where
    go : (items : List (Key × Inode)) → place.found.items ≡ items → Spells place.path items place.missing → EndsLocked locked items
    go [] is spells = absurd spells
    go (row ∷ rows) is spells = ends_by_last locked row rows (λ last at.
        let long : length (row ∷ rows) - 1 ≡ length rows = omega arith in
        let here : last_found place ≡ Some last = ap (λ (rs : List (Key × Inode)). slice_get rs (length rs - 1)) is ∙ ap (slice_get (row ∷ rows)) long ∙ at in
        lock last here)

-- what was read for it ends in a locked row
pub ends_locked : (client : ClientNo) (asked : Call) (place : Place) → IsOfPath asked → SpellsPlace place → EndsLocked (plan client asked (place ∷ [])) place.found.items
ends_locked client asked place of spells = ends_spelt (plan client asked (place ∷ [])) place spells (λ last is. plan_locked client asked place last.0 of (low_locked client asked place last of is))

-- ---- a rename

module _ (client : ClientNo) (from to : List (List ℕ)) (source destination : Place) (inside : List Place) where
  abbrev inside_keys : Place → List Key
  inside_keys place = if is_whole place then low place else next place

  among_second : (k : Key) (a b : List Key) → list_any (same_key k) b ≡ true → list_any (same_key k) (a ++ b) ≡ true
  among_second k a b e = list_any-append (same_key k) a b ∙ or_right (list_any (same_key k) a) (list_any (same_key k) b) e

  by_keys : (k : Key) → list_any (same_key k) (rename_keys (source ∷ destination ∷ inside)) ≡ true → is_locked (plan client (call.Rename from to) (source ∷ destination ∷ inside)) k ≡ true
  by_keys k e = only_locked Exclusive k (rename_keys (source ∷ destination ∷ inside) ++ key.Reply client ∷ []) (among_first k (rename_keys (source ∷ destination ∷ inside)) (key.Reply client ∷ []) e)

  source_low : (k : Key) → list_any (same_key k) (low source) ≡ true → list_any (same_key k) (rename_keys (source ∷ destination ∷ inside)) ≡ true
  source_low k e = among_first k _ _ (among_first k _ _ (among_first k _ _ (among_first k _ _ (among_first k _ _ (among_first k _ _ e)))))

  destination_low : (k : Key) → list_any (same_key k) (low destination) ≡ true → list_any (same_key k) (rename_keys (source ∷ destination ∷ inside)) ≡ true
  destination_low k e = among_first k _ _ (among_first k _ _ (among_first k _ _ (among_second k (low source ++ parent source ++ quotas source) (low destination) e)))

  inside_low : (k : Key) → list_any (same_key k) (flat_map inside_keys inside) ≡ true → list_any (same_key k) (rename_keys (source ∷ destination ∷ inside)) ≡ true
  inside_low k e = among_second k (low source ++ parent source ++ quotas source ++ low destination ++ next destination ++ quotas destination) (flat_map inside_keys inside) e

  ends_of : (place : Place) → SpellsPlace place → ((last : Key × Inode) → last_found place ≡ Some last → list_any (same_key last.0) (rename_keys (source ∷ destination ∷ inside)) ≡ true)
      → EndsLocked (plan client (call.Rename from to) (source ∷ destination ∷ inside)) place.found.items
  ends_of place spells lock = ends_spelt (plan client (call.Rename from to) (source ∷ destination ∷ inside)) place spells (λ last is. by_keys last.0 (lock last is))

  each_inside : (places : List Place) → ((k : Key) → list_any (same_key k) (flat_map inside_keys places) ≡ true → list_any (same_key k) (flat_map inside_keys inside) ≡ true) → AllByRecursion (IsInside destination) places
      → AllByRecursion (λ (place : Place). EndsLocked (plan client (call.Rename from to) (source ∷ destination ∷ inside)) place.found.items) places
  each_inside [] within all = tt
  each_inside (place ∷ places) within all = (
    ends_of place all.0.0 (λ last is. by_whole (is_whole place) refl last is),
    each_inside places (λ k e. within k (among_second k (inside_keys place) (flat_map inside_keys places) e)) all.1,
  )
    where
      by_whole : (b : Bool) → is_whole place ≡ b → (last : Key × Inode) → last_found place ≡ Some last → list_any (same_key last.0) (rename_keys (source ∷ destination ∷ inside)) ≡ true
      by_whole true whole last is =
          let here : list_any (same_key last.0) (inside_keys place) ≡ true = subst (λ (b : Bool). list_any (same_key last.0) (if b then low place else next place) ≡ true) (sym whole) (low_has place last is) in
          inside_low last.0 (within last.0 (among_first last.0 (inside_keys place) (flat_map inside_keys places) here))
      by_whole false part last is = destination_low last.0 (low_has destination last (sym (all.0.1 part) ∙ is))

  -- what was read for its paths ends in locked rows
  pub ends_renamed : SpellsPlace source → SpellsPlace destination → AllByRecursion (IsInside destination) inside
      → AllByRecursion (λ (place : Place). EndsLocked (plan client (call.Rename from to) (source ∷ destination ∷ inside)) place.found.items) (source ∷ destination ∷ inside)
  ends_renamed from_spells to_spells all = (
    ends_of source from_spells (λ last is. source_low last.0 (low_has source last is)),
    (ends_of destination to_spells (λ last is. destination_low last.0 (low_has destination last is)), each_inside inside (λ k e. e) all),
  )
