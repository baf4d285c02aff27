-- What `list` answers, against the calls table.
use Rattle.std.proofs.Common.{◌≡◌, ℕ, ◌-◌, suc, arith, ◌⊎◌, inl, inr, Bool, true, false, List, [], ◌∷◌, ◌++◌, map as list_map, length, slice_get, option_to_list, Option, Some, None, Result, IfOk, if◌then◌else◌, refl, sym, ap, subst, ◌∙◌, append-nil}
use Rattle.std.proofs.lemmas.Bool.{true≢false}
use Rattle.std.specs.List.{filter, flat_map}
use Rattle.hops_base.specs.declared.ids.ClientNo.{ClientNo}
use Rattle.hops_base.specs.declared.ids.Mode.{Mode}
use Rattle.hops_base.specs.declared.ids.Mode.TheVariants.{Shared, Exclusive}
use Rattle.hops_base.specs.declared.key.Key.{Key}
use Rattle.hops_base.specs.declared.key.Key.TheVariants as key
use Rattle.hops_base.specs.declared.memory.NoMemory.{NoMemory}
use Rattle.hops_base.specs.Roomy.{Roomy}
use Rattle.name_space.specs.declared.call.Call.TheVariants as call
use Rattle.name_space.specs.declared.entry.Listed.{Listed}
use Rattle.name_space.specs.declared.reply.Reply.TheVariants.{Entries, Refused}
use Rattle.name_space.specs.declared.reply.Exception.TheVariants.{FileNotFound}
use Rattle.name_space.specs.Namespace.{Namespace, Path, entry_at, children}
use Rattle.name_space.specs.Namespace as spaces
use Rattle.name_space.specs.Plain.{told, listed, listing, list_at}
use Rattle.inode_table.specs.declared.inode.Inode.{Inode}
use Rattle.inode_table.specs.declared.inode.Kind.{Kind}
use Rattle.inode_table.specs.declared.inode.Kind.TheVariants.{Dir, File}
use Rattle.inode_table.specs.Inode.{is_dir_kind}
use Rattle.quota_table.specs.declared.quota.QuotaRow.{QuotaRow}
use Rattle.db_state.specs.Stored.{Tables}
use Rattle.db_state.specs.Spelled.{Inodes}
use Rattle.db_state.specs.Stands.{quota_of, entry_of, entry_of_kind}
use Rattle.db_state.specs.Current.{is_locked, listed_row, listed_under, children_told}
use Rattle.db_state.proofs.ListLaws.{told_as_row, children_told_as_rows, last_name_is}
use Rattle.db_state.specs.Plan.{is_whole, deepest, plan}
use Rattle.db_state.specs.declared.outcome.Outcome.{Outcome}
use Rattle.db_state.specs.declared.view.Place.{Place}
use Rattle.db_state.specs.declared.view.View.{View}
use Rattle.inode_ops.specs.Outcomes.{IsViewOf, IsTableOf}
use Rattle.inode_ops.specs.Steps.{IsTold, IsRefused}
use Rattle.inode_ops.proofs.PlaceLemmas.{IsSet, deepest_is, last_is}
use Rattle.inode_ops.proofs.ToldLemmas.{told_result, set_at, low_locked, own_row}
use Rattle.inode_ops.proofs.OutcomeLemmas.{whole_entry, partial_entry, view_has}

-- ---- the rule

list_dir : (space : Namespace) (path : Path) (kind : Kind) (row : Inode) (quota : Option QuotaRow) → kind ≡ Dir → list_at space path (Some (entry_of_kind kind row quota)) ≡ told (listing (list_map listed (children space path))) space
list_dir space path Dir row quota is = refl
list_dir space path File row quota is = absurd (let bad = is in cc)

list_file : (space : Namespace) (path : Path) (kind : Kind) (row : Inode) (quota : Option QuotaRow) → kind ≡ File → list_at space path (Some (entry_of_kind kind row quota)) ≡ told (listing (listed (path, entry_of_kind kind row quota) ∷ [])) space
list_file space path Dir row quota is = absurd (let bad = is in cc)
list_file space path File row quota is = refl

never_file : (kind : Kind) (row : Inode) (quota : Option QuotaRow) → kind ≡ File → spaces.is_dir (Some (entry_of_kind kind row quota)) ≡ false
never_file Dir row quota is = absurd (let bad = is in cc)
never_file File row quota is = refl

-- only the root has no last name
pub no_last : (path : Path) → slice_get path (length path - 1) ≡ None → path ≡ []
no_last [] e = refl
no_last (name ∷ []) e = absurd (let bad : Some name ≡ None = e in cc)
no_last (name ∷ other ∷ path) e =
    let n : length (name ∷ other ∷ path) - 1 ≡ suc (length (other ∷ path) - 1) = omega arith in
    let none : other ∷ path ≡ [] = no_last (other ∷ path) (sym (ap (slice_get (name ∷ other ∷ path)) n) ∙ e) in
    absurd (let bad = none in cc)

-- the rows that are told of where a directory was found
told_children : (inodes : Inodes) (place : Place) (row : Inode) → is_whole place ≡ true → deepest place ≡ Some row → row.kind ≡ Dir → children_told inodes (call.List place.path) (place ∷ []) ≡ listed_under inodes row.id
told_children inodes place row whole last dir =
    let found : Rattle.db_state.specs.Plan.own_row place ≡ Some row = ap (λ (b : Bool). if b then deepest place else None) whole ∙ last in
    ap (λ (o : Option Inode). flat_map (λ (r : Inode). listed_under inodes r.id) (filter (λ (r : Inode). is_dir_kind r.kind) (option_to_list o)) ++ []) found
    ∙ ap (λ (b : Bool). flat_map (λ (r : Inode). listed_under inodes r.id) (if b then row ∷ [] else []) ++ []) (ap is_dir_kind dir)
    ∙ append-nil (listed_under inodes row.id ++ []) ∙ append-nil (listed_under inodes row.id)

module _ (tables : Tables) (bound : ℕ) (space : Namespace) (client : ClientNo) (user : List ℕ) (view : View) (place : Place) (locked : List (Key × Mode)) (set : IsSet tables view.next.0 space locked view.quotas.items place) (whole : is_whole place ≡ true) where
  there : (kind : Kind) → set.walk.down.bottom.1.kind ≡ kind → set.walk.down.at.there.row.kind ≡ kind
  there kind is = set.walk.down.at.there.kind ∙ is

  -- the root is a directory
  never_root : set.walk.down.bottom.1.kind ≡ File → place.path ≡ [] → ⊥
  never_root file root =
      let here : entry_at space [] ≡ Some (entry_of tables.quotas set.walk.down.at.there.row) = ap (entry_at space) (sym root) ∙ whole_entry tables bound space client user view place locked set whole in
      true≢false (sym set.names.root ∙ ap spaces.is_dir here ∙ never_file set.walk.down.at.there.row.kind set.walk.down.at.there.row (quota_of tables.quotas set.walk.down.at.there.row.id) (there File file))

  -- a directory's children are told
  answer_dir : (told_of : List Listed) → told_of ≡ children_told tables.inodes (call.List place.path) (place ∷ []) → set.walk.down.bottom.1.kind ≡ Dir → list_at space place.path (entry_at space place.path) ≡ told (listing told_of) space
  answer_dir told_of is dir =
      ap (list_at space place.path) (whole_entry tables bound space client user view place locked set whole)
      ∙ list_dir space place.path set.walk.down.at.there.row.kind set.walk.down.at.there.row (quota_of tables.quotas set.walk.down.at.there.row.id) (there Dir dir)
      ∙ ap (λ (es : List Listed). told (listing es) space) (
      children_told_as_rows tables.inodes tables.quotas space set.names set.stands place.path set.walk.down.at.there.row (own_row tables view.next.0 space locked view.quotas.items place set whole)
      ∙ ap (listed_under tables.inodes) set.walk.down.at.there.id
      ∙ sym (is ∙ told_children tables.inodes place set.walk.down.bottom.1 whole (deepest_is tables view.next.0 space locked view.quotas.items place set) dir))

  -- a file alone is
  answer_file : (name : List ℕ) → slice_get place.path (length place.path - 1) ≡ Some name → is_locked locked set.walk.down.bottom.0 ≡ true → set.walk.down.bottom.1.kind ≡ File
      → list_at space place.path (entry_at space place.path) ≡ told (listing (listed_row name set.walk.down.bottom.1 ∷ [])) space
  answer_file name named lock file =
      let same : set.walk.down.at.there.row ≡ set.walk.down.bottom.1 = set.walk.down.at.there.whole lock in
      ap (list_at space place.path) (whole_entry tables bound space client user view place locked set whole)
      ∙ list_file space place.path set.walk.down.at.there.row.kind set.walk.down.at.there.row (quota_of tables.quotas set.walk.down.at.there.row.id) (there File file)
      ∙ ap (λ (l : Listed). told (listing (l ∷ [])) space) (own ∙ ap (listed_row name) same)
    where
      own : listed (place.path, entry_of tables.quotas set.walk.down.at.there.row) ≡ listed_row name set.walk.down.at.there.row
      own = λ i. record { name = last_name_is place.path name named i; status = told_as_row tables.quotas set.walk.down.at.there.row i }

-- ---- the outcomes

-- a missing path is refused
pub missing_result : (view : View) (path : Path) (place : Place) (r : Result Outcome NoMemory) → IsViewOf view (call.List path) → slice_get view.places.items 0 ≡ Some place → is_whole place ≡ false
    → IfOk r (IsRefused FileNotFound) → IfOk r (IsTableOf view (call.List path))
missing_result view path place r is first part refused = told_result view (call.List path) (Refused FileNotFound) (λ space. refl) (λ tables bound space own client user before.
    let set = set_at view (call.List path) place path is first refl tables bound space own client before in
    let same = (view_has view (call.List path) place path is first refl).1 in
    ap (list_at space path) (ap (entry_at space) (sym same) ∙ partial_entry tables bound space client user view place (plan client (call.List path) (place ∷ [])) set part)) r refused

-- a directory is told by its children
pub children_result : (view : View) (path : Path) (place : Place) (last : Inode) (entries : Roomy Listed) (r : Result Outcome NoMemory) → IsViewOf view (call.List path) → slice_get view.places.items 0 ≡ Some place → is_whole place ≡ true
    → deepest place ≡ Some last → (last.kind ≡ Dir) ⊎ ((last.kind ≡ File) × (path ≡ [])) → entries ≡ view.children → IfOk r (IsTold (Entries entries)) → IfOk r (IsTableOf view (call.List path))
children_result view path place last entries r is first whole deep kinds same_list done = told_result view (call.List path) (Entries entries) (λ space. refl) (λ tables bound space own client user before.
    let set = set_at view (call.List path) place path is first refl tables bound space own client before in
    let has = view_has view (call.List path) place path is first refl in
    let bottom : Some last ≡ Some set.walk.down.bottom.1 = sym deep ∙ deepest_is tables view.next.0 space (plan client (call.List path) (place ∷ [])) view.quotas.items place set in
    let ends : last ≡ set.walk.down.bottom.1 = cc in
    let items : entries.items ≡ children_told tables.inodes (call.List place.path) (place ∷ []) =
    ap (λ (l : Roomy Listed). l.items) same_list ∙ before.current.children ∙ ap (children_told tables.inodes (call.List path)) has.0 in
    let dir : set.walk.down.bottom.1.kind ≡ Dir = (elim kinds [
      | inl d ↦ ap (λ (x : Inode). x.kind) (sym ends) ∙ d
      | inr f ↦ absurd (never_root tables bound space client user view place (plan client (call.List path) (place ∷ [])) set whole (ap (λ (x : Inode). x.kind) (sym ends) ∙ f.0) (has.1 ∙ f.1))
    ]) in
    subst (λ (p : Path). list_at space p (entry_at space p) ≡ told (listing entries.items) space) has.1
    (answer_dir tables bound space client user view place (plan client (call.List path) (place ∷ [])) set whole entries.items items dir)) r done

-- a file is told alone
pub file_result : (view : View) (path : Path) (place : Place) (last : Inode) (name : List ℕ) (entries : Roomy Listed) (r : Result Outcome NoMemory) → IsViewOf view (call.List path) → slice_get view.places.items 0 ≡ Some place → is_whole place ≡ true
    → deepest place ≡ Some last → last.kind ≡ File → slice_get path (length path - 1) ≡ Some name → entries.items ≡ listed_row name last ∷ [] → IfOk r (IsTold (Entries entries)) → IfOk r (IsTableOf view (call.List path))
file_result view path place last name entries r is first whole deep file named alone done = told_result view (call.List path) (Entries entries) (λ space. refl) (λ tables bound space own client user before.
    let set = set_at view (call.List path) place path is first refl tables bound space own client before in
    let has = view_has view (call.List path) place path is first refl in
    let bottom : Some last ≡ Some set.walk.down.bottom.1 = sym deep ∙ deepest_is tables view.next.0 space (plan client (call.List path) (place ∷ [])) view.quotas.items place set in
    let ends : last ≡ set.walk.down.bottom.1 = cc in
    let found = last_is tables view.next.0 space (plan client (call.List path) (place ∷ [])) view.quotas.items place set in
    let lock : is_locked (plan client (call.List path) (place ∷ [])) set.walk.down.bottom.0 ≡ true = low_locked Shared place set.walk.down.bottom ((key.Reply client, Exclusive) ∷ []) found in
    let here : slice_get place.path (length place.path - 1) ≡ Some name = ap (λ (p : Path). slice_get p (length p - 1)) has.1 ∙ named in
    subst (λ (p : Path). list_at space p (entry_at space p) ≡ told (listing entries.items) space) has.1
    (answer_file tables bound space client user view place (plan client (call.List path) (place ∷ [])) set whole name here lock (ap (λ (x : Inode). x.kind) (sym ends) ∙ file)
    ∙ ap (λ (es : List Listed). told (listing es) space) (ap (λ (x : Inode). listed_row name x ∷ []) (sym ends) ∙ sym alone))) r done
