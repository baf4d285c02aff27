-- The names that were not found, and the writes of their directories.
use Rattle.std.proofs.Common.{◌≡◌, ℕ, ◌+◌, ◌-◌, ◌≤◌, ◌<◌, Bool, false, ◌||◌, nat_lt, List, [], ◌∷◌, length, take, drop, length-drop, slice_get, Option, Some, IfSome, option_map, Result, IfOk, arith, refl, sym, ap, subst, ◌∙◌, inl, inr}
use Rattle.std.proofs.lemmas.Bool.Decides.{nat_tests}
use Rattle.std.proofs.Math.Seq.{take-length}
use Rattle.std.specs.List.{list_any}
use Rattle.std.specs.Map.{keys_of}
use Rattle.hops_base.specs.declared.ids.InodeId.{InodeId}
use Rattle.hops_base.specs.declared.key.Key.{Key}
use Rattle.hops_base.specs.declared.key.Key.TheVariants as key
use Rattle.hops_base.specs.Key.{same_key}
use Rattle.hops_base.proofs.Tells.{keys_tell}
use Rattle.hops_base.specs.declared.memory.NoMemory.{NoMemory}
use Rattle.inode_table.specs.declared.inode.Inode.{Inode}
use Rattle.inode_table.specs.declared.inode.Kind.{Kind}
use Rattle.inode_table.specs.declared.inode.Kind.TheVariants.{Dir}
use Rattle.name_space.specs.declared.reply.Exception.{Exception}
use Rattle.quota_table.specs.declared.quota.QuotaRow.{QuotaRow}
use Rattle.db_state.specs.declared.view.Place.{Place}
use Rattle.db_state.specs.declared.outcome.Outcome.{Outcome}
use Rattle.db_state.specs.Current.{stops_at, Leads, Spells, SpellsPlace}
use Rattle.db_state.specs.Plan.{deepest, is_whole}
use Rattle.db_state.specs.NewDirs.{new_dirs}
use Rattle.inode_ops.specs.Outcomes.{HasRoomUnlessFull, CanMake}
use Rattle.inode_ops.specs.Steps.{missing_names, IsRefused, IsMadeUnless}
use Rattle.inode_ops.proofs.CountLemmas.{HasNoQuotas}

-- new directories write no quota row
pub dirs_new : (parent next : ℕ) (owner : List ℕ) (names : List (List ℕ)) → HasNoQuotas (new_dirs parent next owner names)
dirs_new parent next owner [] id = refl
dirs_new parent next owner (name ∷ names) id = elim (keys_tell (key.Quota id) (key.Inode (record { 0 = parent }) name)) [
  | inl h ↦ absurd (let bad = h.1 in cc)
  | inr h ↦ ap (λ (b : Bool). b || list_any (same_key (key.Quota id)) (keys_of (new_dirs next (next + 1) owner names))) h.0 ∙ dirs_new next (next + 1) owner names id
]

-- all that stands from a place on
pub rest_is : (names path : List (List ℕ)) (i : ℕ) → names ≡ path → take (length names - i) (drop i names) ≡ drop i path
rest_is names path i same =
    ap (λ (n : ℕ). take n (drop i names)) (sym (length-drop i names)) ∙ take-length (drop i names) ∙ ap (drop i) same

-- the names that were not found, as the code cuts them off
pub names_are : (place : Place) (path : List (List ℕ)) (found : ℕ) → path ≡ place.path → found ≡ length place.found.items → take (length path - (found - 1)) (drop (found - 1) path) ≡ missing_names place
names_are place path found same count = rest_is path place.path (found - 1) same ∙ ap (λ (n : ℕ). drop (n - 1) place.path) count

-- ---- room

-- names that lead no further than to a directory stop at a missing key
stops_below : (row : Inode) (k : Key) (names : List (List ℕ)) (rows : List (Key × Inode)) (missing : Option Key) (last : Inode) → Leads row names rows missing → length rows < length names
    → option_map (λ (r : Key × Inode). r.1) (slice_get ((k, row) ∷ rows) (length rows)) ≡ Some last → last.kind ≡ Dir → (at : Key) × (missing ≡ Some at)
stops_below row k [] rows missing last leads less is dir = absurd (omega arith)
stops_below row k (name ∷ names) [] missing last leads less is dir =
    let same : row ≡ last = cc in
    (key.Inode row.id name, leads ∙ ap (λ (kind : Kind). stops_at kind row.id name) (ap (λ (r : Inode). r.kind) same ∙ dir))
stops_below row k (name ∷ names) (next ∷ rows) missing last leads less is dir = stops_below next.1 next.0 names rows missing last leads.2 (omega arith) is dir

-- a path that goes on below a directory has a first missing key
first_missing : (place : Place) (last : Inode) → SpellsPlace place → deepest place ≡ Some last → last.kind ≡ Dir → is_whole place ≡ false → (at : Key) × (place.missing ≡ Some at)
first_missing place last spells is dir part = go place.found.items refl spells
  where
    fewer : (m n : ℕ) → nat_lt m n ≡ false → n ≤ m
    fewer m n e = grind (arith, nat_tests)

    go : (items : List (Key × Inode)) → place.found.items ≡ items → Spells place.path items place.missing → (at : Key) × (place.missing ≡ Some at)
    go [] e spelt = absurd spelt
    go (root ∷ rows) e spelt =
        let long : length place.found.items ≡ length (root ∷ rows) = ap length e in
        let less : length place.found.items ≤ length place.path = fewer (length place.path) (length place.found.items) part in
        let end : length (root ∷ rows) - 1 ≡ length rows = omega arith in
        let found : option_map (λ (r : Key × Inode). r.1) (slice_get (root ∷ rows) (length rows)) ≡ Some last =
        ap (λ (n : ℕ). option_map (λ (r : Key × Inode). r.1) (slice_get (root ∷ rows) n)) (sym end)
        ∙ ap (λ (rs : List (Key × Inode)). option_map (λ (r : Key × Inode). r.1) (slice_get rs (length rs - 1))) (sym e) ∙ is in
        stops_below root.1 root.0 place.path rows place.missing last spelt.1 (omega arith) found dir

-- so the room that is asked of the view is there
pub room_below : (place : Place) (quotas : List (InodeId × QuotaRow)) (next : ℕ) (last : Inode) → SpellsPlace place → CanMake place quotas next → deepest place ≡ Some last → last.kind ≡ Dir → is_whole place ≡ false
    → HasRoomUnlessFull last place quotas next
room_below place quotas next last spells can is dir part =
    let missing = first_missing place last spells is dir part in
    let room = subst (λ (o : Option Key). IfSome o (λ (at : Key). IfSome (deepest place) (λ (above : Inode). HasRoomUnlessFull above place quotas next))) missing.1 can in
    subst (λ (o : Option Inode). IfSome o (λ (above : Inode). HasRoomUnlessFull above place quotas next)) is room

-- ---- refusals

-- a refusal for want of room
pub refused_full : (full : Option Exception) (exception : Exception) (last : Inode) (place : Place) (quotas : List (InodeId × QuotaRow)) (next : ℕ) (owner : List ℕ) (names : List (List ℕ)) (r : Result Outcome NoMemory)
    → full ≡ Some exception → IfOk r (IsRefused exception) → IfOk r (IsMadeUnless full last place quotas next owner names)
refused_full full exception last place quotas next owner names r is refused = subst (λ (o : Option Exception). IfOk r (IsMadeUnless o last place quotas next owner names)) (sym is) refused
