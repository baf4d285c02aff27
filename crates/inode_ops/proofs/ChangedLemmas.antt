-- Answers that change one row in place, against the calls table.
use Rattle.std.proofs.Common.{◌≡◌, ◌≢◌, ℕ, ◌+◌, ◌<◌, Bool, true, false, cond, not, ◌||◌, max, List, [], ◌∷◌, Option, Some, None, is_some, option_map, arith, inl, inr, refl, sym, ap, subst, ◌∙◌}
use Rattle.std.specs.FinMap as map
use Rattle.hops_base.proofs.Tells.{paths_tell}
use Rattle.hops_base.specs.declared.ids.ClientNo.{ClientNo}
use Rattle.hops_base.specs.declared.key.Key.{Key}
use Rattle.name_space.specs.declared.call.Call.{Call}
use Rattle.name_space.specs.declared.reply.Reply.{Reply}
use Rattle.name_space.specs.declared.reply.Reply.TheVariants.{Truth, Refused}
use Rattle.name_space.specs.Namespace.{Namespace, Path, IsNamespace, entry_at, exists, is_within, missing, with_entry, bytes_of}
use Rattle.name_space.specs.Namespace.{Rises}
use Rattle.name_space.proofs.NamespaceLaws.{Rises-with_entry, entry_at-with_entry, dir-exists}
use Rattle.name_space.specs.Plain.{Answered, granted}
use Rattle.name_space.specs.Call.{changes}
use Rattle.name_space.specs.Calls.{plain, as_read}
use Rattle.commit_log.specs.declared.note.Note.{Note}
use Rattle.commit_log.specs.declared.note.Note.TheVariants.{Did}
use Rattle.commit_log.specs.Ids.{Numbering, id_at, with_new, move_of, move_in, numbering_after}
use Rattle.commit_log.proofs.NumberLaws.{numbering-missing}
use Rattle.inode_table.specs.declared.inode.Inode.{Inode}
use Rattle.db_state.specs.Stored.{Tables}
use Rattle.db_state.specs.Spelled.{row_of, FitsKind, IsTree}
use Rattle.db_state.specs.Stands.{entry_of, Stands}
use Rattle.db_state.specs.Counts.{Counts}
use Rattle.db_state.proofs.ChangeLaws.{tree_changed, stands_changed, given_changed, flags_changed}
use Rattle.db_state.proofs.CountLaws.{counts_changed_plain}
use Rattle.db_state.proofs.RemoveLaws.{not_root_key}
use Rattle.db_state.specs.declared.view.View.{View}
use Rattle.db_state.specs.declared.writes.Row.{Row}
use Rattle.db_state.specs.declared.writes.Row.TheVariants as row
use Rattle.db_state.specs.CallsTable.{IsOf, IsNumberedBy, AreIds, IsAnswer}

-- a note after which the same paths are there gives no ids
pub numbering_same : (numbering : Numbering) (space later : Namespace) (note : Note) → IsNamespace space → Rises later → move_in space later note ≡ None → ((q : Path) → is_some (id_at numbering q) ≡ exists space q)
    → ((q : Path) → exists later q ≡ exists space q) → numbering_after numbering space later note ≡ numbering
numbering_same numbering space later note is rises still all same =
    let root : exists space [] ≡ true = dir-exists (entry_at space []) is.root in
    let none : missing space [] ≡ [] = ap (λ (b : Bool). cond (not b) ([] ∷ []) []) root in
    numbering-missing numbering space later note [] still all rises (λ q. same q ∙ added root q) ∙ ap (with_new numbering) none
  where
    stays : (b : Bool) → b ≡ true → b ≡ (b || true)
    stays true e = refl
    stays false e = e

    as_before : (b : Bool) → b ≡ (b || false)
    as_before true = refl
    as_before false = refl

    added : exists space [] ≡ true → (q : Path) → exists space q ≡ (exists space q || is_within q [])
    added root [] = stays (exists space []) root
    added root (name ∷ names) = as_before (exists space (name ∷ names))

module _ (tables : Tables) (view : View) (space : Namespace) (tree : IsTree tables.inodes view.next.0) (names : IsNamespace space) (stands : Stands tables.inodes tables.quotas [] space) (counts : Counts tables.inodes tables.quotas space)
    (at : Key) (old new : Inode) (there : map.get tables.inodes at ≡ Some old) (path : Path) (here : row_of tables.inodes path ≡ Some old) (below : path ≢ [])
    (ids : new.id ≡ old.id) (kinds : new.kind ≡ old.kind) (fits : FitsKind new) (quoted : new.has_quota ≡ old.has_quota) (flags : new.flag ≡ old.flag) (bytes : bytes_of (entry_of tables.quotas old) ≡ bytes_of (entry_of tables.quotas new)) where
  -- the namespace then
  abbrev later : Namespace
  later = with_entry space path (entry_of tables.quotas new)

  -- the rows then
  abbrev after : Tables
  after = record { inodes = map.insert tables.inodes at new; quotas = tables.quotas }

  found : entry_at space path ≡ Some (entry_of tables.quotas old)
  found = stands.entries path ∙ ap (option_map (entry_of tables.quotas)) here

  rows_then : IsOf after view.next.0 later
  rows_then = record {
    tree = tree_changed tables.inodes view.next.0 tree at old new there ids (not_root_key tables.inodes view.next.0 tree path at old below here there) kinds fits;
    stands = stands_changed tables.inodes view.next.0 tree at old new there ids path here tables.quotas [] space stands kinds quoted;
    counts = counts_changed_plain tables.inodes view.next.0 tree at old new there ids path here tables.quotas [] space stands names.rises counts (entry_of tables.quotas old) (entry_of tables.quotas new) found bytes;
  }

  -- the same paths are there
  same_paths : (q : Path) → exists later q ≡ exists space q
  same_paths q = ap is_some (entry_at-with_entry space path (entry_of tables.quotas new) q) ∙ (elim (paths_tell q path) [
    | inl h ↦ ap (λ (b : Bool). is_some (cond b (Some (entry_of tables.quotas new)) (entry_at space q))) h.0 ∙ sym (ap (λ (p : Path). is_some (entry_at space p)) h.1 ∙ ap is_some found)
    | inr h ↦ ap (λ (b : Bool). is_some (cond b (Some (entry_of tables.quotas new)) (entry_at space q))) h.0
  ])

  -- with the same ids
  ids_then : (numbering : Numbering) (note : Note) → move_in space later note ≡ None → IsNumberedBy numbering tables.inodes view.next.0 space → IsNumberedBy (numbering_after numbering space later note) after.inodes view.next.0 later
  ids_then numbering note still given =
      subst (λ (n : Numbering). IsNumberedBy n after.inodes view.next.0 later)
      (sym (numbering_same numbering space later note names (Rises-with_entry space path (entry_of tables.quotas new) names.rises) still given.all same_paths)) (record {
        all = λ q. given.all q ∙ sym (same_paths q);
        given = given_changed tables.inodes view.next.0 tree at old new there ids numbering given.given;
        least = given.least;
      })

  -- no id is taken
  next_then : max view.next.0 (new.id.0 + 1) ≡ view.next.0
  next_then =
      let range = tree.range at old there in
      let low : old.id.0 < view.next.0 = range.1 in
      let same : new.id.0 ≡ old.id.0 = ap (λ i. i.0) ids in
      omega arith

  -- an answer that writes the new row
  pub changed : (client : ClientNo) (user : List ℕ) (asked : Call) (reply : Reply) (writes : List (Key × Option Row)) → ((was is : Namespace) → move_of was is asked ≡ None) → changes asked ≡ true
      → plain space client user asked ≡ granted later → as_read reply ≡ Truth true → writes ≡ (at, Some (row.Inode new)) ∷ [] → IsAnswer tables space client user asked view reply writes
  changed client user asked reply writes still acts answer reads is = subst (IsAnswer tables space client user asked view reply) (sym is) (record {
    told = reads ∙ sym (ap (λ (a : Answered). a.reply) answer);
    quiet = λ exception refused. (let bad : Truth true ≡ Refused exception = sym reads ∙ ap as_read refused in cc);
    looks = λ same. (let bad : true ≡ false = sym acts ∙ same in cc);
    rows = subst (IsOf after (max view.next.0 (new.id.0 + 1))) (sym (ap (λ (a : Answered). a.space) answer)) (subst (λ (n : ℕ). IsOf after n later) (sym next_then) rows_then);
    flags = λ k some. flags_changed tables.inodes view.next.0 tree at old new there ids flags k;
    few = let past = next_then in omega arith;
    ids = subst (AreIds tables view.next.0 after (max view.next.0 (new.id.0 + 1)) space client asked) (sym answer) (λ numbering s number times answered given.
        subst (λ (n : ℕ). IsNumberedBy (numbering_after numbering space later (Did s client number asked times answered)) after.inodes n later) (sym next_then) (ids_then numbering (Did s client number asked times answered) (still space later) given));
  })
