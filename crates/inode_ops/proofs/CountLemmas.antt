-- Counting the quota rows of the rows found anew, one after another.
use Rattle.std.proofs.Common.{◌≡◌, ℕ, ◌+◌, ◌<◌, ◌≤◌, ◌^◌, Bool, true, false, ◌||◌, ◌==◌, cond, List, [], ◌∷◌, ◌++◌, length, length-append, take, get_or, Option, Some, None, option_map, refl, sym, ap, subst, ◌∙◌, append_assoc, append-nil, arith, zero, suc, inl, inr, eqb-true, eq-eqb}
use Rattle.std.proofs.lemmas.Bool.{true≢false, or_left, or_right, or_cases, false_from_ne_true}
use Rattle.std.proofs.lemmas.List.{take_more}
use Rattle.std.proofs.lemmas.List.Folds.{list_any-append}
use Rattle.std.specs.List.{AllByRecursion, find, list_any}
use Rattle.std.specs.Map.{keys_of}
use Rattle.hops_base.specs.Roomy.{Roomy}
use Rattle.hops_base.specs.declared.ids.InodeId.{InodeId}
use Rattle.hops_base.specs.declared.key.Key.{Key}
use Rattle.hops_base.specs.declared.key.Key.TheVariants as key
use Rattle.hops_base.specs.Key.{same_key, number_of}
use Rattle.hops_base.proofs.Tells.{keys_tell}
use Rattle.inode_table.specs.declared.inode.Inode.{Inode}
use Rattle.quota_table.specs.declared.quota.QuotaRow.{QuotaRow}
use Rattle.db_state.specs.declared.writes.Row.{Row}
use Rattle.db_state.specs.declared.writes.Row.TheVariants as row
use Rattle.db_state.proofs.PathLaws.{same_id}
use Rattle.db_state.specs.QuotaWrites.{quota_writes}
use Rattle.db_state.specs.QuotaWrites as quota_rows
use Rattle.inode_ops.specs.declared.quotas.Change.{Change}
use Rattle.inode_ops.specs.declared.quotas.Change.TheVariants.{More, Less}
use Rattle.inode_ops.specs.QuotaSteps.{quota_in, has_id, is_key_written, CanCountIn, CanCount, quota_left, IsQuotaFound, AreQuotasFound, GoesOnCounted}

-- ---- one quota row

-- each quota row among those that were read can count what all can
pub can_count : (change : Change) (quotas : List (InodeId × QuotaRow)) (id : InodeId) (quota : QuotaRow) → CanCount change quotas → quota_in quotas id ≡ Some quota → CanCountIn change quota
can_count (Less names bytes) quotas id quota can is = tt
can_count (More names bytes) [] id quota can is = absurd (let bad = is in cc)
can_count (More names bytes) (q ∷ quotas) id quota can is =
    (elim (q.0.0 == id.0) as (λ b. option_map (λ (q : InodeId × QuotaRow). q.1) (cond b (Some q) (find (λ (q : InodeId × QuotaRow). q.0.0 == id.0) quotas)) ≡ Some quota → CanCountIn (More names bytes) quota) [
      | true ↦ λ e. let same : q.1 ≡ quota = cc in subst (λ (r : QuotaRow). CanCountIn (More names bytes) r) same can.0
      | false ↦ λ e. can_count (More names bytes) quotas id quota can.1 e
    ]) is

-- bytes that come have room, and none need none
pub bytes_fit : (used bytes : ℕ) → used < 2 ^ 64 → (1 ≤ bytes → used + bytes < 2 ^ 64) → used + bytes < 2 ^ 64
bytes_fit used zero low can = omega arith
bytes_fit used (suc bytes) low can = can (omega arith)

-- ---- writes of quota rows

-- whether a write has a key
pub any_key : (k : Key) (ws : List (Key × Option Row)) → list_any (λ (w : Key × Option Row). same_key k w.0) ws ≡ list_any (same_key k) (keys_of ws)
any_key k [] = refl
any_key k (w ∷ ws) = ap (λ (b : Bool). same_key k w.0 || b) (any_key k ws)

keys_append : (ws vs : List (Key × Option Row)) → keys_of (ws ++ vs) ≡ keys_of ws ++ keys_of vs
keys_append [] vs = refl
keys_append (w ∷ ws) vs = ap (λ (ks : List Key). w.0 ∷ ks) (keys_append ws vs)

same_quota_key : (a b : InodeId) → same_key (key.Quota a) (key.Quota b) ≡ (b.0 == a.0)
same_quota_key a b = elim (keys_tell (key.Quota a) (key.Quota b)) [
  | inl h ↦ h.0 ∙ sym (eq-eqb b.0 a.0 (sym (ap number_of h.1)))
  | inr h ↦ h.0 ∙ sym (false_from_ne_true (b.0 == a.0) (λ same. h.1 (ap (λ (i : InodeId). key.Quota i) (sym (same_id b a (eqb-true b.0 a.0 same))))))
]

-- a quota key is written where the quota row of its id is
any_written : (change : QuotaRow → QuotaRow) (quotas : List (InodeId × QuotaRow)) (id : InodeId) → list_any (same_key (key.Quota id)) (keys_of (quota_writes change quotas)) ≡ quota_rows.is_written quotas id
any_written change [] id = refl
any_written change (q ∷ quotas) id = λ i. same_quota_key id q.0 i || any_written change quotas id i

writes_append : (change : QuotaRow → QuotaRow) (quotas more : List (InodeId × QuotaRow)) → quota_writes change (quotas ++ more) ≡ quota_writes change quotas ++ quota_writes change more
writes_append change [] more = refl
writes_append change (q ∷ quotas) more = ap (λ (ws : List (Key × Option Row)). (key.Quota q.0, Some (row.Quota (change q.1))) ∷ ws) (writes_append change quotas more)

written_more : (quotas : List (InodeId × QuotaRow)) (q : InodeId × QuotaRow) (id : InodeId) → quota_rows.is_written (quotas ++ q ∷ []) id ≡ quota_rows.is_written quotas id || (q.0.0 == id.0 || false)
written_more quotas q id = list_any-append (λ (x : InodeId × QuotaRow). x.0.0 == id.0) quotas (q ∷ [])

-- a quota row that is written was found
pub written_found : (rows : List (Key × Inode)) (seen quotas : List (InodeId × QuotaRow)) (id : InodeId) → AllByRecursion (IsQuotaFound rows seen) quotas → quota_rows.is_written quotas id ≡ true → has_id rows id ≡ true
written_found rows seen [] id each wrote = absurd (true≢false (sym wrote))
written_found rows seen (q ∷ quotas) id each wrote = elim (or_cases (q.0.0 == id.0) (quota_rows.is_written quotas id) wrote) [
  | inl here ↦ ap (has_id rows) (sym (same_id q.0 id (eqb-true q.0.0 id.0 here))) ∙ each.0.0
  | inr further ↦ written_found rows seen quotas id each.1 further
]

-- none of the writes is of a quota row
abbrev pub HasNoQuotas : List (Key × Option Row) → Type 0
HasNoQuotas writes = (id : InodeId) → list_any (same_key (key.Quota id)) (keys_of writes) ≡ false

-- after such writes come the quota rows of all the directories found
pub all_found : (rows : List (Key × Inode)) (seen : List (InodeId × QuotaRow)) (before : List (Key × Option Row)) (quotas : List (InodeId × QuotaRow)) → HasNoQuotas before → AreQuotasFound rows seen before quotas → AreQuotasFound rows seen [] quotas
all_found rows seen before quotas none are = record { each = are.each; all = λ id quota has is new. are.all id quota has is (none id) }

-- ---- one row more

-- ids of the first rows are ids of one row more
has_more : (rows : List (Key × Inode)) (r : Key × Inode) (id : InodeId) → has_id (rows ++ r ∷ []) id ≡ has_id rows id || (r.1.id.0 == id.0 || false)
has_more rows r id = list_any-append (λ (x : Key × Inode). x.1.id.0 == id.0) rows (r ∷ [])

each_found : (rows : List (Key × Inode)) (r : Key × Inode) (seen quotas : List (InodeId × QuotaRow)) → AllByRecursion (IsQuotaFound rows seen) quotas → AllByRecursion (IsQuotaFound (rows ++ r ∷ []) seen) quotas
each_found rows r seen [] each = tt
each_found rows r seen (q ∷ quotas) each = ((has_more rows r q.0 ∙ or_left (has_id rows q.0) (r.1.id.0 == q.0.0 || false) each.0.0, each.0.1), each_found rows r seen quotas each.1)

each_pushed : (rows : List (Key × Inode)) (seen quotas : List (InodeId × QuotaRow)) (q : InodeId × QuotaRow) → AllByRecursion (IsQuotaFound rows seen) quotas → IsQuotaFound rows seen q → AllByRecursion (IsQuotaFound rows seen) (quotas ++ q ∷ [])
each_pushed rows seen [] q each one = (one, tt)
each_pushed rows seen (p ∷ quotas) q each one = (each.0, each_pushed rows seen quotas q each.1 one)

own_id : (r : Key × Inode) (id : InodeId) → ((r.1.id.0 == id.0) || false) ≡ true → r.1.id ≡ id
own_id r id has = elim (or_cases (r.1.id.0 == id.0) false has) [
  | inl here ↦ same_id r.1.id id (eqb-true r.1.id.0 id.0 here)
  | inr bad ↦ absurd (true≢false (sym bad))
]

-- a row that has no quota row, or whose quota row is written, adds none
found_skipped : (rows : List (Key × Inode)) (r : Key × Inode) (seen : List (InodeId × QuotaRow)) (before : List (Key × Option Row)) (quotas : List (InodeId × QuotaRow)) → AreQuotasFound rows seen before quotas
    → ((quota : QuotaRow) → quota_in seen r.1.id ≡ Some quota → list_any (same_key (key.Quota r.1.id)) (keys_of before) ≡ false → quota_rows.is_written quotas r.1.id ≡ true) → AreQuotasFound (rows ++ r ∷ []) seen before quotas
found_skipped rows r seen before quotas are wrote = record {
  each = each_found rows r seen quotas are.each;
  all = λ id quota has was new. elim (or_cases (has_id rows id) (r.1.id.0 == id.0 || false) (sym (has_more rows r id) ∙ has)) [
    | inl earlier ↦ are.all id quota earlier was new
    | inr here ↦
        let same : r.1.id ≡ id = own_id r id here in
        subst (λ (i : InodeId). quota_rows.is_written quotas i ≡ true) same (wrote quota (ap (quota_in seen) same ∙ was) (ap (λ (i : InodeId). list_any (same_key (key.Quota i)) (keys_of before)) same ∙ new))
  ];
}

-- one that has one adds it
found_added : (rows : List (Key × Inode)) (r : Key × Inode) (seen : List (InodeId × QuotaRow)) (before : List (Key × Option Row)) (quotas : List (InodeId × QuotaRow)) → AreQuotasFound rows seen before quotas
    → (quota : QuotaRow) → quota_in seen r.1.id ≡ Some quota → AreQuotasFound (rows ++ r ∷ []) seen before (quotas ++ (r.1.id, quota) ∷ [])
found_added rows r seen before quotas are quota is = record {
  each = each_pushed (rows ++ r ∷ []) seen quotas (r.1.id, quota) (each_found rows r seen quotas are.each)
      (has_more rows r r.1.id ∙ or_right (has_id rows r.1.id) (r.1.id.0 == r.1.id.0 || false) (or_left (r.1.id.0 == r.1.id.0) false (eq-eqb r.1.id.0 r.1.id.0 refl)), is);
  all = λ id q has was new. written_more quotas (r.1.id, quota) id ∙ (elim (or_cases (has_id rows id) (r.1.id.0 == id.0 || false) (sym (has_more rows r id) ∙ has)) [
    | inl earlier ↦ or_left (quota_rows.is_written quotas id) (r.1.id.0 == id.0 || false) (are.all id q earlier was new)
    | inr here ↦ or_right (quota_rows.is_written quotas id) (r.1.id.0 == id.0 || false) here
  ]);
}

-- ---- the walk over the rows

-- so far the first i of the rows found have their quota rows counted anew, and there is room for the others
pub record IsCounting (rows : List (Key × Inode)) (seen : List (InodeId × QuotaRow)) (change : QuotaRow → QuotaRow) (before : List (Key × Option Row)) (i : ℕ) (writes : Roomy (Key × Option Row)) : Type 0 where
  pub goes : GoesOnCounted before (take i rows) seen change writes.items
  pub room : length writes.items + length rows ≤ writes.room + i

pub counting_none : (rows : List (Key × Inode)) (seen : List (InodeId × QuotaRow)) (change : QuotaRow → QuotaRow) (before : List (Key × Option Row)) (writes : Roomy (Key × Option Row)) → writes.items ≡ before → length writes.items + length rows ≤ writes.room → IsCounting rows seen change before 0 writes
counting_none rows seen change before writes is room = record {
  goes = ([], is ∙ sym (append-nil before), record { each = tt; all = λ id quota has. absurd (true≢false (sym has)) });
  room = omega arith;
}

module _ (rows : List (Key × Inode)) (seen : List (InodeId × QuotaRow)) (change : QuotaRow → QuotaRow) (before : List (Key × Option Row)) (i : ℕ) (writes : Roomy (Key × Option Row)) (r : Key × Inode)
    (counting : IsCounting rows seen change before i writes) (low : i < length rows) (item : r ≡ get_or rows i r) where
  grown : take (i + 1) rows ≡ take i rows ++ r ∷ []
  grown = take_more rows i r low ∙ ap (λ (x : Key × Inode). take i rows ++ x ∷ []) (sym item)

  -- a quota key that is written, and not by the writes before, is among those that were counted
  among : (id : InodeId) → list_any (same_key (key.Quota id)) (keys_of before) ≡ false → is_key_written writes.items (key.Quota id) ≡ true → quota_rows.is_written counting.goes.0 id ≡ true
  among id new wrote =
      sym (
      any_key (key.Quota id) writes.items
      ∙ ap (λ (ws : List (Key × Option Row)). list_any (same_key (key.Quota id)) (keys_of ws)) counting.goes.1
      ∙ ap (list_any (same_key (key.Quota id))) (keys_append before (quota_writes change counting.goes.0))
      ∙ list_any-append (same_key (key.Quota id)) (keys_of before) (keys_of (quota_writes change counting.goes.0))
      ∙ ap (λ (b : Bool). b || list_any (same_key (key.Quota id)) (keys_of (quota_writes change counting.goes.0))) new
      ∙ any_written change counting.goes.0 id)
      ∙ wrote

  skips : ((quota : QuotaRow) → quota_in seen r.1.id ≡ Some quota → is_key_written writes.items (key.Quota r.1.id) ≡ true) → IsCounting rows seen change before (i + 1) writes
  skips wrote = record {
    goes = (
      counting.goes.0,
      counting.goes.1,
      subst (λ (rs : List (Key × Inode)). AreQuotasFound rs seen before counting.goes.0) (sym grown)
          (found_skipped (take i rows) r seen before counting.goes.0 counting.goes.2 (λ quota was new. among r.1.id new (wrote quota was))),
    );
    room = let room = counting.room in omega arith;
  }

  adds : (quota : QuotaRow) (after : Roomy (Key × Option Row)) → quota_in seen r.1.id ≡ Some quota
      → after ≡ record writes { items = writes.items ++ quota_writes change ((r.1.id, quota) ∷ []) } → IsCounting rows seen change before (i + 1) after
  adds quota after was is =
      let w : List (Key × Option Row) = quota_writes change ((r.1.id, quota) ∷ []) in
      let items : after.items ≡ writes.items ++ w = ap (λ (l : Roomy (Key × Option Row)). l.items) is in
      let room_is : after.room ≡ writes.room = ap (λ (l : Roomy (Key × Option Row)). l.room) is in
      let long : length after.items ≡ length writes.items + 1 = ap length items ∙ length-append writes.items w in
      record {
        goes = (
          counting.goes.0 ++ (r.1.id, quota) ∷ [],
          items ∙ ap (λ (ws : List (Key × Option Row)). ws ++ w) counting.goes.1 ∙ append_assoc before (quota_writes change counting.goes.0) w
              ∙ ap (λ (ws : List (Key × Option Row)). before ++ ws) (sym (writes_append change counting.goes.0 ((r.1.id, quota) ∷ []))),
          subst (λ (rs : List (Key × Inode)). AreQuotasFound rs seen before (counting.goes.0 ++ (r.1.id, quota) ∷ [])) (sym grown)
              (found_added (take i rows) r seen before counting.goes.0 counting.goes.2 quota was),
        );
        room = let room = counting.room in omega arith;
      }

  -- a row, whether it adds its quota row or not
  pub counting_next : (after : Roomy (Key × Option Row)) → after ≡ record writes { items = writes.items ++ quota_writes change (quota_left r.1.id (quota_in seen r.1.id) (is_key_written writes.items (key.Quota r.1.id))) }
      → IsCounting rows seen change before (i + 1) after
  counting_next after is = by_cases (quota_in seen r.1.id) (is_key_written writes.items (key.Quota r.1.id)) refl refl is
    where
      stays : (after : Roomy (Key × Option Row)) → after ≡ record writes { items = writes.items ++ [] } → after ≡ writes
      stays after is = is ∙ ap (λ (items : List (Key × Option Row)). record { items = items; room = writes.room }) (append-nil writes.items)

      by_cases : (quota : Option QuotaRow) (done : Bool) → quota_in seen r.1.id ≡ quota → is_key_written writes.items (key.Quota r.1.id) ≡ done
          → after ≡ record writes { items = writes.items ++ quota_writes change (quota_left r.1.id quota done) } → IsCounting rows seen change before (i + 1) after
      by_cases None done q w is = subst (IsCounting rows seen change before (i + 1)) (sym (stays after is)) (skips (λ quota was. absurd (let bad : None ≡ Some quota = sym q ∙ was in cc)))
      by_cases (Some quota) true q w is = subst (IsCounting rows seen change before (i + 1)) (sym (stays after is)) (skips (λ _ was. w))
      by_cases (Some quota) false q w is = adds quota after q is
