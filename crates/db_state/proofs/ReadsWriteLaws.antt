-- What a session has read stands on beside the writes of another, which leave each key that the session locks.
use Rattle.std.proofs.Common.{◌≡◌, ◌≢◌, ℕ, Bool, true, false, ◌||◌, cond, inl, inr, List, [], ◌∷◌, ◌++◌, Option, Some, None, refl, sym, ap, ◌∙◌}
use Rattle.std.proofs.lemmas.Bool.{or_cases}
use Rattle.std.specs.FinMap as map
use Rattle.std.specs.List.{AllByRecursion}
use Rattle.hops_base.specs.declared.ids.InodeId.{InodeId}
use Rattle.hops_base.specs.declared.ids.OpId.{OpId}
use Rattle.hops_base.specs.declared.ids.SessionId.{SessionId}
use Rattle.hops_base.specs.declared.ids.Mode.{Mode}
use Rattle.hops_base.specs.declared.key.Key.{Key}
use Rattle.hops_base.specs.declared.key.Key.TheVariants as key
use Rattle.hops_base.specs.Key.{key_cmp_total, same_key}
use Rattle.hops_base.proofs.Tells.{keys_tell}
use Rattle.quota_table.specs.declared.quota.QuotaRow.{QuotaRow}
use Rattle.commit_log.specs.declared.note.Note.{Note}
use Rattle.commit_log.specs.Locks.{held, Sound}
use Rattle.db_state.specs.declared.writes.Row.{Row}
use Rattle.db_state.specs.declared.writes.Row.TheVariants as row
use Rattle.db_state.specs.Stored.{Stored, Tables}
use Rattle.db_state.specs.Spelled.{IsTree}
use Rattle.db_state.specs.Stands.{Quotas, quota_of}
use Rattle.db_state.specs.Consistent.{IsConsistent}
use Rattle.db_state.specs.Written.{with_row, written, tables_of, next_after, committed}
use Rattle.db_state.specs.Current.{is_locked, SeesQuotas}
use Rattle.db_state.specs.Locked.{is_own, is_in_new, MayWrite}
use Rattle.db_state.specs.Effects.{KeepsRows}
use Rattle.db_state.specs.Reads.{Asked, Reads, locked_by, IsChain, ReadsStand, AllFixed}
use Rattle.db_state.specs.Holding.{HoldsAll, StandsIn}
use Rattle.db_state.proofs.ReadsHoldLaws.{HaveNoneInCommon, apart_by_locks}
use Rattle.db_state.proofs.ReadsKeptLaws.{all_stay}

-- ---- one write

inodes_beside : (tables : Tables) (k at : Key) (new : Option Row) → same_key at k ≡ false → map.get (with_row tables k new).inodes at ≡ map.get tables.inodes at
inodes_beside tables k at None e = map.get-remove key_cmp_total tables.inodes k at ∙ ap (λ (b : Bool). cond b None (map.get tables.inodes at)) e
inodes_beside tables k at (Some (row.Inode inode)) e = map.get-insert key_cmp_total tables.inodes k inode at ∙ ap (λ (b : Bool). cond b (Some inode) (map.get tables.inodes at)) e
inodes_beside tables k at (Some (row.Quota quota)) e = refl

quotas_beside : (tables : Tables) (k at : Key) (new : Option Row) → same_key at k ≡ false → map.get (with_row tables k new).quotas at ≡ map.get tables.quotas at
quotas_beside tables k at None e = map.get-remove key_cmp_total tables.quotas k at ∙ ap (λ (b : Bool). cond b None (map.get tables.quotas at)) e
quotas_beside tables k at (Some (row.Inode inode)) e = refl
quotas_beside tables k at (Some (row.Quota quota)) e = map.get-insert key_cmp_total tables.quotas k quota at ∙ ap (λ (b : Bool). cond b (Some quota) (map.get tables.quotas at)) e

-- ---- the writes of another session

module _ (ours theirs : List (Key × Mode)) (next : ℕ) (apart : HaveNoneInCommon ours theirs) where
  -- a locked key is none that it writes
  beside : (at k : Key) → is_locked ours at ≡ true → is_in_new next at ≡ false → (is_own theirs k || is_in_new next k) ≡ true → same_key at k ≡ false
  beside at k lock old may = elim (keys_tell at k) [
    | inr h ↦ h.0
    | inl h ↦ absurd (elim (or_cases (is_own theirs k) (is_in_new next k) may) [
      | inl own ↦ (let free : is_locked ours k ≡ false = apart k own in let bad : is_locked ours k ≡ true = ap (is_locked ours) (sym h.1) ∙ lock in cc)
      | inr new ↦ (let bad : is_in_new next k ≡ false = ap (is_in_new next) (sym h.1) ∙ old in cc)
    ])
  ]

  pub inodes_left : (writes : List (Key × Option Row)) (tables : Tables) → AllByRecursion (MayWrite theirs next) writes → (at : Key) → is_locked ours at ≡ true → is_in_new next at ≡ false
      → map.get (written tables writes).inodes at ≡ map.get tables.inodes at
  inodes_left [] tables may at lock old = refl
  inodes_left (write ∷ writes) tables may at lock old = inodes_left writes (with_row tables write.0 write.1) may.1 at lock old ∙ inodes_beside tables write.0 at write.1 (beside at write.0 lock old may.0)

  pub quotas_left : (writes : List (Key × Option Row)) (tables : Tables) → AllByRecursion (MayWrite theirs next) writes → (at : Key) → is_locked ours at ≡ true → is_in_new next at ≡ false
      → map.get (written tables writes).quotas at ≡ map.get tables.quotas at
  quotas_left [] tables may at lock old = refl
  quotas_left (write ∷ writes) tables may at lock old = quotas_left writes (with_row tables write.0 write.1) may.1 at lock old ∙ quotas_beside tables write.0 at write.1 (beside at write.0 lock old may.0)

-- the quota rows that were read are still so, where those at the locked keys are
pub sees_still : (old new : Quotas) (locked : List (Key × Mode)) (seen : List (InodeId × QuotaRow)) → ((id : InodeId) → is_locked locked (key.Quota id) ≡ true → quota_of new id ≡ quota_of old id) → SeesQuotas old locked seen → SeesQuotas new locked seen
sees_still old new locked seen same sees = record { once = sees.once; rows = λ id. sees.rows id ∙ by_lock id (is_locked locked (key.Quota id)) refl }
  where
    by_lock : (id : InodeId) (b : Bool) → is_locked locked (key.Quota id) ≡ b → cond b (quota_of old id) None ≡ cond b (quota_of new id) None
    by_lock id true e = sym (same id e)
    by_lock id false e = refl

-- ---- a commit

-- what a session has read stands on, where the commit moves none of the rows that stand above the last of their place
pub reads_stay : (tables : Tables) (next bound : ℕ) (writes : List (Key × Option Row)) → IsTree tables.inodes next → IsTree (written tables writes).inodes bound
    → (ours theirs : List (Key × Mode)) (moves : Option InodeId) → HaveNoneInCommon ours theirs → AllByRecursion (MayWrite theirs next) writes → KeepsRows theirs next moves tables.inodes (written tables writes).inodes
    → (own : Option OpId) (reads : Reads) → AllFixed moves reads.marks reads.places → AllByRecursion (IsChain ours own) reads.places → ReadsStand tables.inodes tables.quotas ours reads
    → ReadsStand (written tables writes).inodes (written tables writes).quotas ours reads
reads_stay tables next bound writes before after ours theirs moves apart may keeps own reads fixed chains stand = record {
  chains = all_stay tables.inodes (written tables writes).inodes next bound before after ours theirs moves (inodes_left ours theirs next apart writes tables may) apart keeps own reads.marks reads.places chains fixed stand.chains;
  quotas = sees_still tables.quotas (written tables writes).quotas ours reads.quotas (λ id lock. quotas_left ours theirs next apart writes tables may (key.Quota id) lock refl) stand.quotas;
}

-- so it does where the other holds the keys that it writes
pub session_stays : (state : Stored) (writes : List (Key × Option Row)) (notes : List Note) → IsConsistent state → IsConsistent (committed state writes notes) → Sound state.notes
    → (s t : SessionId) → s.0 ≢ t.0 → (asked : Asked) (reads : Reads) → StandsIn state s asked reads
    → (theirs : List (Key × Mode)) → HoldsAll (held state.notes) t theirs → AllByRecursion (MayWrite theirs state.next) writes
    → (moves : Option InodeId) → KeepsRows theirs state.next moves state.inodes (committed state writes notes).inodes
    → AllFixed moves reads.marks reads.places → HoldsAll (held (state.notes ++ notes)) s (locked_by asked reads)
    → StandsIn (committed state writes notes) s asked reads
session_stays state writes notes before after sound s t differ asked reads stands theirs all may moves keeps fixed holds = record {
  reads = stands.reads;
  holds = holds;
  stand = reads_stay (tables_of state) state.next (next_after state.next writes) writes before.tree after.tree (locked_by asked reads) theirs moves
      (apart_by_locks state.notes sound s t differ (locked_by asked reads) theirs stands.holds all) may keeps asked.own reads fixed stands.reads.chains stands.stand;
}
