-- What the kept lists say of the locks, and what edits of them do.
use Rattle.std.proofs.Common.{◌≡◌, ℕ, Bool, true, false, ◌&&◌, ◌==◌, nat_eq, cond, List, [], ◌∷◌, ◌++◌, Option, Some, None, Vec, refl, ap, ◌∙◌}
use Rattle.std.specs.FinMap as map
use Rattle.std.specs.FinMap.{find}
use Rattle.std.specs.BTreeMap.{BTreeMap, is_at}
use Rattle.std.specs.Map.{lookup, keys_of}
use Rattle.std.specs.List.{IsDistinct}
use Rattle.std.specs.Option.{option_or}
use Rattle.std.specs.Ordering.{eq_by_cmp}
use Rattle.std.specs.Cmp.{eq_by_cmp_equiv}
use Rattle.std.specs.declared.cmp.Ordering.{Ordering}
use Rattle.std.proofs.lemmas.Map.{lookup-none}
use Rattle.std.proofs.lemmas.Map.Entries.{none_past_head}
use Rattle.std.proofs.lemmas.Map.Keys.{IsDistinct-tail, IsDistinct-from_sorted}
use Rattle.hops_base.specs.declared.ids.SessionId.{SessionId}
use Rattle.hops_base.specs.declared.ids.Mode.{Mode}
use Rattle.hops_base.specs.declared.key.Key.{Key}
use Rattle.hops_base.specs.Key.{key_cmp, key_cmp_total, same_key}
use Rattle.row_locks.specs.declared.holders.Holder.{Holder}
use Rattle.row_locks.specs.Holders.{mode_in}
use Rattle.row_locks.specs.Kept.{locks_of, locks_in, holder_session_cmp, AreKept}
use Rattle.row_locks.specs.Lists.{items_at, items_in, IsLists}
use Rattle.row_locks.specs.Locks.{Locks, held_cmp, mode_of}
use Rattle.row_locks.proofs.LockLaws.{lock_cmp_total, lock_test}

-- ---- what the kept locks have
or_none : {X : Type 0} (x : Option X) → option_or x None ≡ x
or_none None = refl
or_none (Some x) = refl

find-append : (q : ℕ × Key) (xs ys : List ((ℕ × Key) × Mode)) → find held_cmp q (xs ++ ys) ≡ option_or (find held_cmp q xs) (find held_cmp q ys)
find-append q [] ys = refl
find-append q (x ∷ xs) ys = elim (eq_by_cmp held_cmp q x.0) as (λ b. cond b (Some x.1) (find held_cmp q (xs ++ ys)) ≡ option_or (cond b (Some x.1) (find held_cmp q xs)) (find held_cmp q ys)) [
  | true ↦ refl
  | false ↦ find-append q xs ys
]

find-locks_of : (s : SessionId) (key k : Key) (holders : List Holder) → find held_cmp (s.0, key) (locks_of k holders) ≡ cond (same_key key k) (mode_in holders s) None
find-locks_of s key k [] = elim (same_key key k) as (λ b. None ≡ cond {A = Option Mode} b None None) [ true ↦ refl | false ↦ refl ]
find-locks_of s key k (h ∷ holders) = rw (lock_test s.0 h.session.0 key k) (elim (h.session.0 == s.0) as (λ a. cond (a && same_key key k) (Some h.mode) (find held_cmp (s.0, key) (locks_of k holders)) ≡ cond (same_key key k) (cond a (Some h.mode) (mode_in holders s)) None) [
  | true ↦ elim (same_key key k) as (λ b. same_key key k ≡ b → cond b (Some h.mode) (find held_cmp (s.0, key) (locks_of k holders)) ≡ cond b (Some h.mode) None) [
    | true ↦ λ e. refl
    | false ↦ λ e. find-locks_of s key k holders ∙ rw e refl
  ] refl
  | false ↦ find-locks_of s key k holders
])

pub IsDistinct-none : {K : Type 0} (same : K → K → Bool) → IsDistinct same []
unfolding IsDistinct
IsDistinct-none same = tt

module _ {Z : Type 0} where
  -- the locks of kept lists
  abbrev pub locks_at : BTreeMap Key (Vec Holder Z) → Locks
  locks_at holders = map.from_entries (locks_in holders.entries)

  find-locks_in : (s : SessionId) (key : Key) (entries : List (Key × Vec Holder Z)) → IsDistinct same_key (keys_of entries) → find held_cmp (s.0, key) (locks_in entries) ≡ mode_in (items_in (lookup (same_key key) entries)) s
  find-locks_in s key [] once = refl
  find-locks_in s key ((k, holders) ∷ entries) once =
      find-append (s.0, key) (locks_of k holders.items) (locks_in entries) ∙ rw (find-locks_of s key k holders.items, find-locks_in s key entries (IsDistinct-tail _ _ _ once)) (elim (same_key key k) as (λ b. same_key key k ≡ b → option_or (cond b (mode_in holders.items s) None) (mode_in (items_in (lookup (same_key key) entries)) s) ≡ mode_in (items_in (cond b (Some holders) (lookup (same_key key) entries))) s) [
        | true ↦ λ e. rw (lookup-none (same_key key) entries (none_past_head (eq_by_cmp_equiv key_cmp_total) key (k, holders) entries once e)) (or_none (mode_in holders.items s))
        | false ↦ λ e. refl
      ] refl)

  -- what they have of a session and a key
  pub mode_kept : (holders : BTreeMap Key (Vec Holder Z)) → IsLists key_cmp holders → (s : SessionId) (key : Key) → mode_of (locks_at holders) s key ≡ mode_in (items_at key_cmp holders key) s
  mode_kept holders kept s key = map.get-from_entries lock_cmp_total (locks_in holders.entries) (s.0, key) ∙ find-locks_in s key holders.entries (IsDistinct-from_sorted key_cmp (keys_of holders.entries) kept.ordered)

  -- lists without any entries
  none_kept : {K T : Type 0} (cmp : K → K → Ordering) (lists : BTreeMap K (Vec T Z)) → lists.entries ≡ [] → (key : K) → items_at cmp lists key ≡ []
  none_kept {K} {T} cmp lists none key = ap (λ (entries : List (K × Vec T Z)). items_in (lookup (is_at (cmp key)) entries)) none

  pub nothing_kept : (holders : BTreeMap Key (Vec Holder Z)) (keys : BTreeMap SessionId (Vec Key Z)) → IsLists key_cmp holders → IsLists holder_session_cmp keys → holders.entries ≡ [] → keys.entries ≡ [] → AreKept holders keys
  nothing_kept holders keys by_key by_session no_holders no_keys = record {
    by_key = by_key;
    by_session = by_session;
    tied = record {
      holders_once = λ key. rw (none_kept key_cmp holders no_holders key) (IsDistinct-none nat_eq);
      keys_once = λ s. rw (none_kept holder_session_cmp keys no_keys s) (IsDistinct-none same_key);
      both = λ s key. rw (none_kept holder_session_cmp keys no_keys s, none_kept key_cmp holders no_holders key) refl;
    };
  }
