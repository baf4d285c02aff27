-- Calls that are told something and change nothing, against the calls table.
use Rattle.std.proofs.Common.{◌≡◌, ℕ, true, List, [], ◌∷◌, ◌++◌, reverse, slice_get, Option, Some, None, Result, Ok, Err, IfOk, sym, ap, ◌∙◌, append-nil}
use Rattle.std.proofs.lemmas.List.{reverse-reverse}
use Rattle.hops_base.specs.declared.ids.ClientNo.{ClientNo}
use Rattle.hops_base.specs.declared.ids.OpId.{OpId}
use Rattle.hops_base.specs.declared.ids.InodeId.{InodeId}
use Rattle.hops_base.specs.declared.ids.Mode.{Mode}
use Rattle.hops_base.specs.declared.key.Key.{Key}
use Rattle.hops_base.specs.declared.memory.NoMemory.{NoMemory}
use Rattle.name_space.specs.declared.call.Call.{Call}
use Rattle.name_space.specs.declared.reply.Reply.{Reply}
use Rattle.name_space.specs.Namespace.{Namespace}
use Rattle.name_space.specs.Plain.{told}
use Rattle.name_space.specs.Calls.{plain, as_read}
use Rattle.commit_log.specs.Ids.{move_of}
use Rattle.inode_table.specs.declared.inode.Inode.{Inode}
use Rattle.quota_table.specs.declared.quota.QuotaRow.{QuotaRow}
use Rattle.db_state.specs.Stored.{Tables}
use Rattle.db_state.specs.Spelled.{spelled, row_of}
use Rattle.db_state.specs.Current.{is_locked}
use Rattle.db_state.specs.Plan.{in_mode, low, last_found, is_whole, plan}
use Rattle.db_state.specs.declared.outcome.Outcome.{Outcome}
use Rattle.db_state.specs.declared.outcome.Outcome.TheVariants.{Answer, Subtree}
use Rattle.db_state.specs.declared.view.Place.{Place}
use Rattle.db_state.specs.declared.view.View.{View}
use Rattle.inode_ops.specs.Outcomes.{IsViewOf, IsTableOf, path_of}
use Rattle.inode_ops.specs.Steps.{IsTold}
use Rattle.db_state.specs.CallsTable.{IsBefore}
use Rattle.inode_ops.proofs.PlaceLemmas.{IsSet, path_is, whole_rest}
use Rattle.inode_ops.proofs.TableLemmas.{tree_at, unchanged}
use Rattle.inode_ops.proofs.OwnLemmas.{low_among}
use Rattle.inode_ops.proofs.OutcomeLemmas.{set_of, view_has, locked_in, locked_more}

-- the plain call is told this wherever the view may have been read
abbrev pub AlwaysTold : View → Call → Reply → Type 0
AlwaysTold view asked reply =
    (tables : Tables) (bound : ℕ) (space : Namespace) (own : Option OpId) (client : ClientNo) (user : List ℕ) → IsBefore tables bound space own client asked view
    → plain space client user asked ≡ told (as_read reply) space

-- so what is told is what the calls table says
pub told_result : (view : View) (asked : Call) (reply : Reply) → ((space : Namespace) → move_of space space asked ≡ None) → AlwaysTold view asked reply
    → (r : Result Outcome NoMemory) → IfOk r (IsTold reply) → IfOk r (IsTableOf view asked)
told_result view asked reply still answer (Err e) is = tt
told_result view asked reply still answer (Ok (Subtree kind)) is = absurd is
told_result view asked reply still answer (Ok (Answer said writes)) is = λ client user tables bound space own before.
    unchanged tables bound space client user asked view said (as_read reply) writes.items (tree_at tables.inodes bound view.next.0 before.tree before.current.next) before.names before.stands before.counts (still space)
    (answer tables bound space own client user before) (ap as_read is.0) is.1

-- what is known before a call of the place's path
pub set_at : (view : View) (asked : Call) (place : Place) (path : List (List ℕ)) → IsViewOf view asked → slice_get view.places.items 0 ≡ Some place → path_of asked ≡ Some path
    → (tables : Tables) (bound : ℕ) (space : Namespace) (own : Option OpId) (client : ClientNo) → IsBefore tables bound space own client asked view → IsSet tables view.next.0 space (plan client asked (place ∷ [])) view.quotas.items place
set_at view asked place path is first named tables bound space own client before = set_of tables bound space own client asked view place (view_has view asked place path is first named).0 before

module _ (tables : Tables) (next : ℕ) (space : Namespace) (locked : List (Key × Mode)) (seen : List (InodeId × QuotaRow)) (place : Place) (set : IsSet tables next space locked seen place) (whole : is_whole place ≡ true) where
  -- a path that is found whole is that of the last row found
  own_path : reverse set.walk.down.dir ≡ place.path
  own_path = sym (append-nil (reverse set.walk.down.dir)) ∙ sym (ap (λ (p : List (List ℕ)). reverse set.walk.down.dir ++ p) (whole_rest tables next space locked seen place set whole)) ∙ path_is tables next space locked seen place set

  pub own_row : row_of tables.inodes place.path ≡ Some set.walk.down.at.there.row
  own_row = ap (row_of tables.inodes) (sym own_path) ∙ ap (spelled tables.inodes) (reverse-reverse set.walk.down.dir) ∙ set.walk.down.at.spelt

-- the last row found is locked, whatever else is
pub low_locked : (mode : Mode) (place : Place) (last : Key × Inode) (more : List (Key × Mode)) → last_found place ≡ Some last → is_locked ((in_mode mode (low place) ++ []) ++ more) last.0 ≡ true
low_locked mode place last more is =
    locked_more (in_mode mode (low place) ++ []) more last.0 (locked_more (in_mode mode (low place)) [] last.0 (locked_in mode (low place) last.0
    ∙ low_among place last is))
