-- What `chmod` answers, against the calls table.
use Rattle.std.proofs.Common.{◌≡◌, ◌≢◌, ℕ, Bool, true, false, not, ◌==◌, List, [], ◌∷◌, length, slice_get, Option, Some, None, is_some, option_map, Result, Ok, Err, IfOk, arith, refl, sym, ap, subst, ◌∙◌, eqb-true}
use Rattle.std.proofs.lemmas.Bool.{false_from_ne_true}
use Rattle.hops_base.specs.declared.ids.ClientNo.{ClientNo}
use Rattle.hops_base.specs.declared.ids.Mode.{Mode}
use Rattle.hops_base.specs.declared.ids.Mode.TheVariants.{Exclusive}
use Rattle.hops_base.specs.declared.key.Key.{Key}
use Rattle.hops_base.specs.declared.key.Key.TheVariants as key
use Rattle.hops_base.specs.declared.memory.NoMemory.{NoMemory}
use Rattle.name_space.specs.declared.call.Call.TheVariants as call
use Rattle.name_space.specs.declared.entry.Entry.{Entry}
use Rattle.name_space.specs.declared.reply.Reply.{Reply}
use Rattle.name_space.specs.declared.reply.Reply.TheVariants.{Truth, Refused}
use Rattle.name_space.specs.declared.reply.Exception.{Exception}
use Rattle.name_space.specs.declared.reply.Exception.TheVariants.{FileNotFound, IO}
use Rattle.name_space.specs.declared.reply.Why.TheVariants.{RootFixed}
use Rattle.name_space.specs.Namespace.{Namespace, Path, entry_at, bytes_of, with_entry}
use Rattle.name_space.specs.Calls.{as_read}
use Rattle.name_space.specs.Quota.{first_some}
use Rattle.name_space.specs.Plain as rule
use Rattle.name_space.specs.Plain.{unless, when, granted, fixed_or_missing}
use Rattle.inode_table.specs.declared.inode.Inode.{Inode}
use Rattle.inode_table.specs.declared.inode.Kind.{Kind}
use Rattle.inode_table.specs.declared.inode.Kind.TheVariants.{Dir, File}
use Rattle.quota_table.specs.declared.quota.QuotaRow.{QuotaRow}
use Rattle.db_state.specs.Stored.{Tables}
use Rattle.db_state.specs.Stands.{quota_of, entry_of, entry_of_kind}
use Rattle.db_state.specs.Current.{is_locked}
use Rattle.db_state.specs.Plan.{is_whole, last_found, plan}
use Rattle.db_state.specs.declared.outcome.Outcome.{Outcome}
use Rattle.db_state.specs.declared.outcome.Outcome.TheVariants.{Answer, Subtree}
use Rattle.db_state.specs.declared.view.Place.{Place}
use Rattle.db_state.specs.declared.view.View.{View}
use Rattle.db_state.specs.declared.writes.Row.{Row}
use Rattle.db_state.specs.declared.writes.Row.TheVariants as row
use Rattle.inode_ops.specs.ChmodSteps.{row_with_mode, IsModeSet}
use Rattle.inode_ops.specs.Outcomes.{IsViewOf, IsTableOf}
use Rattle.inode_ops.specs.Steps.{IsRefused}
use Rattle.db_state.specs.CallsTable.{IsAnswer}
use Rattle.inode_ops.proofs.PlaceLemmas.{IsSet, last_is}
use Rattle.inode_ops.proofs.ToldLemmas.{told_result, set_at, low_locked, own_row}
use Rattle.inode_ops.proofs.ChangedLemmas.{changed}
use Rattle.inode_ops.proofs.OutcomeLemmas.{whole_entry, partial_entry, view_has}

-- ---- the rule

no_name : (path : Path) → length path ≡ 0 → path ≡ []
no_name [] e = refl
no_name (name ∷ path) e = absurd (omega arith)

some_name : (path : Path) → length path ≢ 0 → (length path == 0) ≡ false
some_name path some = false_from_ne_true (length path == 0) (λ t. some (eqb-true (length path) 0 t))

-- what the tests say of a path other than the root
tests : (b : Bool) (o : Option Entry) → b ≡ false → first_some (when b (IO RootFixed) ∷ when (not (is_some o)) FileNotFound ∷ []) ≡ when (not (is_some o)) FileNotFound
tests true o e = absurd (let bad = e in cc)
tests false None e = refl
tests false (Some entry) e = refl

fixed_is : (space : Namespace) (path : Path) → length path ≢ 0 → (o : Option Entry) → entry_at space path ≡ o → fixed_or_missing space path ≡ when (not (is_some o)) FileNotFound
fixed_is space path some o here = tests (length path == 0) (entry_at space path) (some_name path some) ∙ ap (λ (e : Option Entry). when (not (is_some e)) FileNotFound) here

chmod_root : (space : Namespace) (path : Path) (bits : ℕ) → length path ≡ 0 → rule.chmod space path bits ≡ rule.refused (IO RootFixed) space
chmod_root space [] bits none = refl
chmod_root space (name ∷ path) bits none = absurd (omega arith)

chmod_missing : (space : Namespace) (path : Path) (bits : ℕ) → length path ≢ 0 → entry_at space path ≡ None → rule.chmod space path bits ≡ rule.refused FileNotFound space
chmod_missing space path bits some none = ap (λ (o : Option Exception). unless o space (granted (rule.changed_at space path (rule.with_mode bits)))) (fixed_is space path some None none)

chmod_there : (space : Namespace) (path : Path) (bits : ℕ) (entry : Entry) → length path ≢ 0 → entry_at space path ≡ Some entry → rule.chmod space path bits ≡ granted (with_entry space path (rule.with_mode bits entry))
chmod_there space path bits entry some here =
    ap (λ (o : Option Exception). unless o space (granted (rule.changed_at space path (rule.with_mode bits)))) (fixed_is space path some (Some entry) here)
    ∙ ap (λ (o : Option Entry). granted (rule.with_some space path (option_map (rule.with_mode bits) o))) here

-- ---- the row

entry_mode : (kind : Kind) (inode : Inode) (quota : Option QuotaRow) (bits : ℕ) → rule.with_mode bits (entry_of_kind kind inode quota) ≡ entry_of_kind kind (row_with_mode bits inode) quota
entry_mode Dir inode quota bits = refl
entry_mode File inode quota bits = refl

same_bytes : (kind : Kind) (inode : Inode) (quota : Option QuotaRow) (bits : ℕ) → bytes_of (entry_of_kind kind inode quota) ≡ bytes_of (entry_of_kind kind (row_with_mode bits inode) quota)
same_bytes Dir inode quota bits = refl
same_bytes File inode quota bits = refl

module _ (tables : Tables) (bound : ℕ) (space : Namespace) (client : ClientNo) (user : List ℕ) (view : View) (place : Place) (locked : List (Key × Mode)) (set : IsSet tables view.next.0 space locked view.quotas.items place) (whole : is_whole place ≡ true) where
  answer_mode : (bits : ℕ) → length place.path ≢ 0 → is_locked locked set.walk.down.bottom.0 ≡ true → (reply : Reply) (writes : List (Key × Option Row)) → reply ≡ Truth true → writes ≡ (set.walk.down.bottom.0, Some (row.Inode (row_with_mode bits set.walk.down.bottom.1))) ∷ []
      → IsAnswer tables space client user (call.Chmod place.path bits) view reply writes
  answer_mode bits some lock reply writes granted_is written_is =
      let same : set.walk.down.at.there.row ≡ set.walk.down.bottom.1 = set.walk.down.at.there.whole lock in
      changed tables view space set.tree set.names set.stands set.counts set.walk.down.bottom.0 set.walk.down.at.there.row (row_with_mode bits set.walk.down.at.there.row) set.walk.down.at.there.there place.path (own_row tables view.next.0 space locked view.quotas.items place set whole) (λ e. some (ap (λ (p : Path). length p) e))
      refl refl (set.tree.dirs set.walk.down.bottom.0 set.walk.down.at.there.row set.walk.down.at.there.there) refl refl (same_bytes set.walk.down.at.there.row.kind set.walk.down.at.there.row (quota_of tables.quotas set.walk.down.at.there.row.id) bits)
      client user (call.Chmod place.path bits) reply writes (λ was is. refl) refl
      (chmod_there space place.path bits (entry_of tables.quotas set.walk.down.at.there.row) some (whole_entry tables bound space client user view place locked set whole)
      ∙ ap (λ (e : Entry). granted (with_entry space place.path e)) (entry_mode set.walk.down.at.there.row.kind set.walk.down.at.there.row (quota_of tables.quotas set.walk.down.at.there.row.id) bits))
      (ap as_read granted_is)
      (written_is ∙ ap (λ (r : Inode). (set.walk.down.bottom.0, Some (row.Inode (row_with_mode bits r))) ∷ []) (sym same))

-- ---- the outcomes

-- the root keeps its mode
pub root_result : (view : View) (path : Path) (bits : ℕ) (r : Result Outcome NoMemory) → length path ≡ 0 → IfOk r (IsRefused (IO RootFixed)) → IfOk r (IsTableOf view (call.Chmod path bits))
root_result view path bits r none is = told_result view (call.Chmod path bits) (Refused (IO RootFixed)) (λ space. refl) (λ tables bound space own client user before. chmod_root space path bits none) r is

-- a missing path has none
pub missing_result : (view : View) (path : Path) (bits : ℕ) (place : Place) (r : Result Outcome NoMemory) → IsViewOf view (call.Chmod path bits) → slice_get view.places.items 0 ≡ Some place → length path ≢ 0 → is_whole place ≡ false
    → IfOk r (IsRefused FileNotFound) → IfOk r (IsTableOf view (call.Chmod path bits))
missing_result view path bits place r is first some part refused = told_result view (call.Chmod path bits) (Refused FileNotFound) (λ space. refl) (λ tables bound space own client user before.
    let set = set_at view (call.Chmod path bits) place path is first refl tables bound space own client before in
    let same = (view_has view (call.Chmod path bits) place path is first refl).1 in
    chmod_missing space path bits some (ap (entry_at space) (sym same) ∙ partial_entry tables bound space client user view place (plan client (call.Chmod path bits) (place ∷ [])) set part)) r refused

-- any other has this one then
pub mode_result : (view : View) (path : Path) (bits : ℕ) (place : Place) (r : Result Outcome NoMemory) → IsViewOf view (call.Chmod path bits) → slice_get view.places.items 0 ≡ Some place → length path ≢ 0 → is_whole place ≡ true
    → IfOk r (IsModeSet (last_found place) bits) → IfOk r (IsTableOf view (call.Chmod path bits))
mode_result view path bits place (Err e) is first some whole done = tt
mode_result view path bits place (Ok (Subtree kind)) is first some whole done = never (last_found place) done
  where
    never : (o : Option (Key × Inode)) → IsModeSet o bits (Subtree kind) → IsTableOf view (call.Chmod path bits) (Subtree kind)
    never None bad = absurd bad
    never (Some found) bad = absurd bad
mode_result view path bits place (Ok (Answer reply writes)) is first some whole done = λ client user tables bound space own before.
    let set = set_at view (call.Chmod path bits) place path is first refl tables bound space own client before in
    let same = (view_has view (call.Chmod path bits) place path is first refl).1 in
    let found = last_is tables view.next.0 space (plan client (call.Chmod path bits) (place ∷ [])) view.quotas.items place set in
    let lock : is_locked (plan client (call.Chmod path bits) (place ∷ [])) set.walk.down.bottom.0 ≡ true = low_locked Exclusive place set.walk.down.bottom ((key.Reply client, Exclusive) ∷ []) found in
    let set_mode : IsModeSet (Some set.walk.down.bottom) bits (Answer reply writes) = subst (λ (o : Option (Key × Inode)). IsModeSet o bits (Answer reply writes)) found done in
    subst (λ (p : Path). IsAnswer tables space client user (call.Chmod p bits) view reply writes.items) same
    (answer_mode tables bound space client user view place (plan client (call.Chmod path bits) (place ∷ [])) set whole bits (λ e. some (ap (λ (p : Path). length p) (sym same) ∙ e)) lock reply writes.items set_mode.0 set_mode.1)
