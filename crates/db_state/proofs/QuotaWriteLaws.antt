-- Laws of writes of quota rows: what they leave of the tables, and that they recount what stands along a path.
use Rattle.std.proofs.Common.{◌≡◌, ℕ, ◌≤◌, Bool, true, false, ◌||◌, ◌==◌, cond, List, [], ◌∷◌, Option, Some, None, option_map, inl, inr, arith, refl, sym, ap, subst, ◌∙◌, eqb-true, eq-eqb}
use Rattle.std.specs.FinMap as map
use Rattle.std.proofs.lemmas.Bool.{false_from_ne_true}
use Rattle.hops_base.specs.declared.ids.InodeId.{InodeId}
use Rattle.hops_base.specs.declared.key.Key.{Key}
use Rattle.hops_base.specs.declared.key.Key.TheVariants as key
use Rattle.hops_base.specs.Key.{key_cmp_total, same_key, number_of}
use Rattle.hops_base.proofs.Tells.{keys_tell}
use Rattle.name_space.specs.Namespace.{Path}
use Rattle.quota_table.specs.declared.quota.QuotaRow.{QuotaRow}
use Rattle.db_state.specs.Stored.{Tables}
use Rattle.db_state.specs.Spelled.{Inodes}
use Rattle.db_state.specs.Stands.{Quotas, quota_of}
use Rattle.db_state.specs.Written.{written, next_after}
use Rattle.db_state.proofs.PathLaws.{same_id}
use Rattle.db_state.specs.QuotaWrites.{quota_writes, raised, lowered}
use Rattle.db_state.specs.Recounted.{is_along, Change, Becomes, Turns, IsRecounted}
use Rattle.db_state.specs.QuotaWrites.{is_written, AreOf}

-- the inode rows stay
pub inodes_written : (change : QuotaRow → QuotaRow) (rows : List (InodeId × QuotaRow)) (tables : Tables) → (written tables (quota_writes change rows)).inodes ≡ tables.inodes
inodes_written change [] tables = refl
inodes_written change (q ∷ rows) tables = inodes_written change rows (record { inodes = tables.inodes; quotas = map.insert tables.quotas (key.Quota q.0) (change q.1) })

-- and the next free id
pub next_written : (change : QuotaRow → QuotaRow) (rows : List (InodeId × QuotaRow)) (next : ℕ) → next_after next (quota_writes change rows) ≡ next
next_written change [] next = refl
next_written change (q ∷ rows) next = next_written change rows next

put_at : (quotas : Quotas) (id other : InodeId) (quota : QuotaRow) → quota_of (map.insert quotas (key.Quota other) quota) id ≡ cond (other.0 == id.0) (Some quota) (quota_of quotas id)
put_at quotas id other quota = map.get-insert key_cmp_total quotas (key.Quota other) quota (key.Quota id) ∙ (elim (keys_tell (key.Quota id) (key.Quota other)) [
  | inl h ↦ rw (h.0, eq-eqb other.0 id.0 (sym (ap number_of h.1))) refl
  | inr h ↦
      let differ : (other.0 == id.0) ≡ false = false_from_ne_true (other.0 == id.0) (λ eq. h.1 (ap (λ (i : InodeId). key.Quota i) (sym (same_id other id (eqb-true other.0 id.0 eq))))) in
      rw (h.0, differ) refl
])

-- the quota rows of the ids that are written are changed, and the others stay
pub quotas_written : (change : QuotaRow → QuotaRow) (rows : List (InodeId × QuotaRow)) (quotas : Quotas) → AreOf quotas rows → (tables : Tables) (id : InodeId)
    → quota_of (written tables (quota_writes change rows)).quotas id ≡ cond (is_written rows id) (option_map change (quota_of quotas id)) (quota_of tables.quotas id)
quotas_written change [] quotas are tables id = refl
quotas_written change (q ∷ rows) quotas are tables id =
    quotas_written change rows quotas are.1 (record { inodes = tables.inodes; quotas = map.insert tables.quotas (key.Quota q.0) (change q.1) }) id
    ∙ ap (cond (is_written rows id) (option_map change (quota_of quotas id))) (put_at tables.quotas id q.0 (change q.1))
    ∙ one (q.0.0 == id.0) refl (is_written rows id)
  where
    one : (b : Bool) → (q.0.0 == id.0) ≡ b → (more : Bool) → cond more (option_map change (quota_of quotas id)) (cond b (Some (change q.1)) (quota_of tables.quotas id)) ≡ cond (b || more) (option_map change (quota_of quotas id)) (quota_of tables.quotas id)
    one true e true = refl
    one true e false = ap (option_map change) (sym are.0 ∙ ap (quota_of quotas) (same_id q.0 id (eqb-true q.0.0 id.0 e)))
    one false e more = refl

-- they stand under keys of quotas still
pub quota_keys : (change : QuotaRow → QuotaRow) (rows : List (InodeId × QuotaRow)) (tables : Tables) → ((k : Key) (quota : QuotaRow) → map.get tables.quotas k ≡ Some quota → (id : InodeId) × (k ≡ key.Quota id))
    → (k : Key) (quota : QuotaRow) → map.get (written tables (quota_writes change rows)).quotas k ≡ Some quota → (id : InodeId) × (k ≡ key.Quota id)
quota_keys change [] tables keys = keys
quota_keys change (q ∷ rows) tables keys = quota_keys change rows (record { inodes = tables.inodes; quotas = map.insert tables.quotas (key.Quota q.0) (change q.1) }) (λ k quota e.
    let got : cond (same_key k (key.Quota q.0)) (Some (change q.1)) (map.get tables.quotas k) ≡ Some quota = sym (map.get-insert key_cmp_total tables.quotas (key.Quota q.0) (change q.1) k) ∙ e in
    elim (keys_tell k (key.Quota q.0)) [
      | inl h ↦ (q.0, h.1)
      | inr h ↦ let same = rw h.0 at got in keys k quota same
    ])

-- so they are recounted, where just those along the path are written and each becomes what counts the change
pub recounted_written : (change : Change) (make : QuotaRow → QuotaRow) (rows : List (InodeId × QuotaRow)) (tables : Tables) (inodes : Inodes) (path : Path) → AreOf tables.quotas rows
    → ((k : Key) (quota : QuotaRow) → map.get tables.quotas k ≡ Some quota → (id : InodeId) × (k ≡ key.Quota id))
    → ((id : InodeId) (quota : QuotaRow) → quota_of tables.quotas id ≡ Some quota → is_written rows id ≡ is_along inodes path id)
    → ((id : InodeId) (quota : QuotaRow) → quota_of tables.quotas id ≡ Some quota → is_along inodes path id ≡ true → Becomes change true quota (make quota))
    → IsRecounted inodes path change tables.quotas (written tables (quota_writes make rows)).quotas
recounted_written change make rows tables inodes path are keys along becomes = record {
  keys = quota_keys make rows tables keys;
  rows = λ id. subst (Turns change (is_along inodes path id) (quota_of tables.quotas id)) (sym (quotas_written make rows tables.quotas are tables id)) (each id (quota_of tables.quotas id) refl (is_along inodes path id) refl);
}
  where
    itself : (quota : QuotaRow) → Becomes change false quota quota
    itself quota = record { limit_names = refl; limit_bytes = refl; names = refl; bytes = refl }

    none_turns : (b written : Bool) → Turns change b None (cond written (option_map make None) None)
    none_turns b true = tt
    none_turns b false = tt

    each : (id : InodeId) (o : Option QuotaRow) → quota_of tables.quotas id ≡ o → (b : Bool) → is_along inodes path id ≡ b → Turns change b o (cond (is_written rows id) (option_map make o) o)
    each id None e b along_is = none_turns b (is_written rows id)
    each id (Some quota) e true along_is = rw (along id quota e ∙ along_is) (becomes id quota e along_is)
    each id (Some quota) e false along_is = rw (along id quota e ∙ along_is) (itself quota)

-- a raised row counts what comes
pub becomes_raised : (names bytes : ℕ) (quota : QuotaRow) → Becomes (record { names_gone = 0; bytes_gone = 0; names_come = names; bytes_come = bytes }) true quota (raised names bytes quota)
becomes_raised names bytes quota = record { limit_names = refl; limit_bytes = refl; names = omega arith; bytes = omega arith }

-- a lowered one what goes, where it counted that
pub becomes_lowered : (names bytes : ℕ) (quota : QuotaRow) → names ≤ quota.used_names → bytes ≤ quota.used_bytes → Becomes (record { names_gone = names; bytes_gone = bytes; names_come = 0; bytes_come = 0 }) true quota (lowered names bytes quota)
becomes_lowered names bytes quota enough_names enough_bytes = record { limit_names = refl; limit_bytes = refl; names = omega arith; bytes = omega arith }
