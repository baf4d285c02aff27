-- While no directory has a quota, no row says that it has one and there are no quota rows.
use Rattle.std.proofs.Common.{◌≡◌, Bool, true, false, cond, ◌||◌, ◌==◌, is_some, List, [], reverse, Option, Some, None, IsSome, option_map, ◌⊎◌, inl, inr, refl, ap, sym, subst, ◌∙◌}
use Rattle.std.specs.FinMap as map
use Rattle.std.specs.Option.{option_or}
use Rattle.std.specs.List.{IsDistinct}
use Rattle.std.proofs.lemmas.List.{reverse-reverse}
use Rattle.hops_base.specs.declared.ids.InodeId.{InodeId}
use Rattle.hops_base.specs.declared.ids.Mode.{Mode}
use Rattle.hops_base.specs.declared.key.Key.{Key}
use Rattle.hops_base.specs.declared.key.Key.TheVariants as key
use Rattle.name_space.specs.Namespace.{entry_at}
use Rattle.inode_table.specs.declared.inode.Inode.{Inode}
use Rattle.inode_table.specs.declared.inode.Kind.{Kind}
use Rattle.inode_table.specs.declared.inode.Kind.TheVariants.{Dir}
use Rattle.quota_table.specs.declared.quota.QuotaRow.{QuotaRow}
use Rattle.commit_log.specs.Legal.{space}
use Rattle.db_state.specs.Stored.{Stored, Inodes, Quotas}
use Rattle.db_state.specs.Spelled.{spelled, row_of}
use Rattle.db_state.specs.Stands.{quota_of, entry_of, entry_of_kind}
use Rattle.db_state.specs.Consistent.{IsConsistent}
use Rattle.db_state.specs.Current.{is_locked, SeesQuotas}
use Rattle.hops_core.specs.Steady.{has_limit, IsLimitless}

-- a directory's entry with a quota row that has a limit has one
limited : (inodes : Inodes) (quotas : Quotas) (row : Inode) (quota : QuotaRow) → row.kind ≡ Dir → quota_of quotas row.id ≡ Some quota → (IsSome quota.max_names ⊎ IsSome quota.max_bytes) → has_limit (Some (entry_of quotas row)) ≡ true
limited inodes quotas row quota dir here limit =
    ap (λ (k : Kind). has_limit (Some (entry_of_kind k row (quota_of quotas row.id)))) dir
    ∙ ap (λ (q : Option QuotaRow). has_limit (Some (entry_of_kind Dir row q))) here
    ∙ either (is_some quota.max_names) (is_some quota.max_bytes) limit
  where
    either : (a b : Bool) → ((a ≡ true) ⊎ (b ≡ true)) → (a || b) ≡ true
    either true b is = refl
    either false b (inl is) = absurd (let bad = is in cc)
    either false b (inr is) = is

-- where no directory of the namespace has a quota, no inode has a quota row
pub no_quota : (state : Stored) → IsConsistent state → IsLimitless (space state.settings.users state.notes) → (id : InodeId) → quota_of state.quotas id ≡ None
no_quota state kept limitless id =
    (elim (quota_of state.quotas id) as (λ o. quota_of state.quotas id ≡ o → o ≡ None) [
      | None ↦ λ e. refl
      | Some quota ↦ λ e. absurd (
          let of = kept.stands.rows id quota e in
          let path = kept.tree.spelled of.at of.row of.there in
          let here : quota_of state.quotas of.row.id ≡ Some quota = subst (λ (i : InodeId). quota_of state.quotas i ≡ Some quota) (sym of.is) e in
          let row : row_of state.inodes (reverse path.0) ≡ Some of.row = ap (spelled state.inodes) (reverse-reverse path.0) ∙ path.1 in
          let entry : entry_at (space state.settings.users state.notes) (reverse path.0) ≡ Some (entry_of state.quotas of.row) =
          kept.stands.entries (reverse path.0) ∙ ap (λ (o : Option Inode). option_or None (option_map (entry_of state.quotas) o)) row in
          let none : has_limit (entry_at (space state.settings.users state.notes) (reverse path.0)) ≡ false = limitless (reverse path.0) in
          let some : has_limit (entry_at (space state.settings.users state.notes) (reverse path.0)) ≡ true = ap has_limit entry ∙ limited state.inodes state.quotas of.row quota of.dir here of.limit in
          cc)
    ]) refl

-- no quota rows are seen twice
none_twice : IsDistinct (λ (a b : InodeId × QuotaRow). a.0.0 == b.0.0) []
unfolding IsDistinct
none_twice = tt

pub sees_none : (quotas : Quotas) (locked : List (Key × Mode)) (seen : List (InodeId × QuotaRow)) → ((id : InodeId) → quota_of quotas id ≡ None) → seen ≡ [] → SeesQuotas quotas locked seen
sees_none quotas locked seen none is = subst (SeesQuotas quotas locked) (sym is) (record {
  once = none_twice;
  rows = λ id. sym (ap (λ (q : Option QuotaRow). cond (is_locked locked (key.Quota id)) q None) (none id) ∙ either (is_locked locked (key.Quota id)) None);
})
  where
    either : (b : Bool) (o : Option QuotaRow) → cond b o o ≡ o
    either true o = refl
    either false o = refl

-- where no directory of the namespace has a quota, no row says that it has one
pub no_mark : (state : Stored) → IsConsistent state → IsLimitless (space state.settings.users state.notes) → (at : Key) (row : Inode) → map.get state.inodes at ≡ Some row → row.has_quota ≡ false
no_mark state kept limitless at row there = kept.stands.marks at row there ∙ ap is_some (no_quota state kept limitless row.id)
