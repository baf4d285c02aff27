-- What it does to the locks to add one, and to take away those of a session.
use Rattle.std.proofs.Common.{◌≡◌, Bool, true, false, not, ◌&&◌, ◌||◌, ◌==◌, cond, List, [], ◌∷◌, ◌++◌, Option, Some, None, Vec, is_some, length, take, ◌-◌, refl, sym, ap, ◌∙◌, inl, inr, subst, arith}
use Rattle.std.specs.FinMap as map
use Rattle.std.specs.BTreeMap.{BTreeMap}
use Rattle.std.specs.List.{list_any, IsDistinct}
use Rattle.std.specs.Ordering.{eq_by_cmp}
use Rattle.std.specs.Cmp.{IsEquivalence, eq_by_cmp_equiv}
use Rattle.std.proofs.Math.Seq.{take-append_seam}
use Rattle.std.proofs.lemmas.Bool.{or_right}
use Rattle.std.proofs.lemmas.List.{length-append}
use Rattle.std.proofs.lemmas.List.Folds.{list_any-append}
use Rattle.std.proofs.lemmas.Map.Keys.{IsDistinct-push}
use Rattle.hops_base.specs.declared.ids.SessionId.{SessionId}
use Rattle.hops_base.specs.declared.ids.Mode.{Mode}
use Rattle.hops_base.specs.declared.key.Key.{Key}
use Rattle.hops_base.specs.Key.{key_cmp, key_cmp_total, same_key}
use Rattle.hops_base.proofs.Tells.{keys_tell}
use Rattle.row_locks.specs.declared.holders.Holder.{Holder}
use Rattle.row_locks.specs.Holders.{mode_in, without}
use Rattle.row_locks.specs.Kept.{AreKept, AreTied, holder_session_cmp}
use Rattle.row_locks.specs.Lists.{items_at, all_but_last, IsLists}
use Rattle.row_locks.specs.Locks.{Locks, mode_of, IsGivenBack}
use Rattle.row_locks.proofs.LockLaws.{numbers_tell, same_flips}
use Rattle.row_locks.proofs.HolderLemmas.{mode_in-push, mode_in-without, without_absent, once-push, once-without}
use Rattle.row_locks.proofs.LockLaws.{number_test, mode_of-insert, same_locks}
use Rattle.row_locks.proofs.KeptLemmas.{IsDistinct-none, locks_at, mode_kept}

-- the laws of the test of keys
laws : IsEquivalence same_key
laws = eq_by_cmp_equiv key_cmp_total

or_nothing : (b : Bool) → (b || false) ≡ b
or_nothing true = refl
or_nothing false = refl

-- ---- a lock is added
module _ (at at' : Key → List Holder) (own own' : SessionId → List Key) (s : SessionId) (key : Key) (mode : Mode)
    (tied : AreTied at own) (absent : mode_in (at key) s ≡ None)
    (holders : (q : Key) → at' q ≡ cond (same_key key q) (at q ++ record { session = s; mode = mode } ∷ []) (at q))
    (keys : (t : SessionId) → own' t ≡ cond (t.0 == s.0) (own t ++ key ∷ []) (own t)) where
  absent_at : (q : Key) → key ≡ q → mode_in (at q) s ≡ None
  absent_at q e = subst (λ k. mode_in (at k) s ≡ None) e absent

  pub mode_added : (t : SessionId) (q : Key) → mode_in (at' q) t ≡ cond ((s.0 == t.0) && same_key q key) (Some mode) (mode_in (at q) t)
  mode_added t q = rw (holders q, laws.symm q key) (elim (keys_tell key q) [
    | inl e ↦ rw e.0 (mode_in-push (at q) (record { session = s; mode = mode }) t (absent_at q e.1) ∙ elim (s.0 == t.0) as (λ b. cond b (Some mode) (mode_in (at q) t) ≡ cond (b && true) (Some mode) (mode_in (at q) t)) [ true ↦ refl | false ↦ refl ])
    | inr e ↦ rw e.0 (elim (s.0 == t.0) as (λ b. mode_in (at q) t ≡ cond (b && false) (Some mode) (mode_in (at q) t)) [ true ↦ refl | false ↦ refl ])
  ])

  same_session : (t : SessionId) → s.0 ≡ t.0 → s ≡ t
  same_session t e i = record { 0 = e i }

  own_absent : (t : SessionId) → s ≡ t → list_any (same_key key) (own t) ≡ false
  own_absent t e = subst (λ u. list_any (same_key key) (own u) ≡ false) e (tied.both s key ∙ ap is_some absent)

  pub tied_added : AreTied at' own'
  tied_added = record {
    holders_once = λ q. rw (holders q) (elim (keys_tell key q) [
      | inl e ↦ rw e.0 (once-push (at q) (record { session = s; mode = mode }) (tied.holders_once q) (absent_at q e.1))
      | inr e ↦ rw e.0 (tied.holders_once q)
    ]);
    keys_once = λ t. rw (keys t, same_flips t.0 s.0) (elim (numbers_tell s.0 t.0) [
      | inl e ↦ rw e.0 (IsDistinct-push laws (own t) key (tied.keys_once t) (own_absent t (same_session t e.1)))
      | inr e ↦ rw e.0 (tied.keys_once t)
    ]);
    both = λ t q. rw (keys t, same_flips t.0 s.0, mode_added t q) (both_added (s.0 == t.0) (same_key q key) (own t) q (mode_in (at q) t) (tied.both t q) refl);
  }
    where
      both_added : (a b : Bool) (own : List Key) (q : Key) (was : Option Mode) → list_any (same_key q) own ≡ is_some was → same_key q key ≡ b → list_any (same_key q) (cond a (own ++ key ∷ []) own) ≡ is_some (cond (a && b) (Some mode) was)
      both_added true true own q was e is = list_any-append (same_key q) own (key ∷ []) ∙ rw is (or_right (list_any (same_key q) own) true refl)
      both_added true false own q was e is = list_any-append (same_key q) own (key ∷ []) ∙ rw is (or_nothing (list_any (same_key q) own)) ∙ e
      both_added false b own q was e is = e

-- ---- the locks of a session are taken away
module _ (at at' : Key → List Holder) (own own' : SessionId → List Key) (s : SessionId) (tied : AreTied at own)
    (holders : (q : Key) → at' q ≡ cond (list_any (same_key q) (own s)) (without (at q) s) (at q))
    (keys : (t : SessionId) → own' t ≡ cond (t.0 == s.0) [] (own t)) where
  -- a key that isn't the session's has no such holder
  all_without : (q : Key) → at' q ≡ without (at q) s
  all_without q = holders q ∙ choose (list_any (same_key q) (own s)) refl
    where
      none : (x : Option Mode) → false ≡ is_some x → x ≡ None
      none None e = refl
      none (Some x) e = absurd (let bad = e in cc)

      choose : (b : Bool) → list_any (same_key q) (own s) ≡ b → cond b (without (at q) s) (at q) ≡ without (at q) s
      choose true e = refl
      choose false e = sym (without_absent (at q) s (none (mode_in (at q) s) (sym e ∙ tied.both s q)))

  pub mode_given : (t : SessionId) (q : Key) → mode_in (at' q) t ≡ cond (t.0 == s.0) None (mode_in (at q) t)
  mode_given t q = ap (λ hs. mode_in hs t) (all_without q) ∙ mode_in-without (at q) s t

  pub tied_given : AreTied at' own'
  tied_given = record {
    holders_once = λ q. rw (all_without q) (once-without (at q) s (tied.holders_once q));
    keys_once = λ t. rw (keys t) (elim (t.0 == s.0) as (λ b. IsDistinct same_key (cond b [] (own t))) [ true ↦ IsDistinct-none same_key | false ↦ tied.keys_once t ]);
    both = λ t q. rw (keys t, mode_given t q) (elim (t.0 == s.0) as (λ b. list_any (same_key q) (cond b [] (own t)) ≡ is_some (cond b None (mode_in (at q) t))) [ true ↦ refl | false ↦ tied.both t q ]);
  }

-- ---- the session goes from the holders of one more key
without_twice : (holders : List Holder) (s : SessionId) → without (without holders s) s ≡ without holders s
without_twice [] s = refl
without_twice (h ∷ holders) s = elim (h.session.0 == s.0) as (λ b. h.session.0 == s.0 ≡ b → without (cond (not b) (h ∷ without holders s) (without holders s)) s ≡ cond (not b) (h ∷ without holders s) (without holders s)) [
  | true ↦ λ e. without_twice holders s
  | false ↦ λ e. rw e (ap (λ hs. h ∷ hs) (without_twice holders s))
] refl

pub more_dropped : (keys : List Key) (key q : Key) (s : SessionId) (old mid new : List Holder) → mid ≡ cond (list_any (same_key q) keys) (without old s) old → new ≡ cond (same_key key q) (without mid s) mid
    → new ≡ cond (list_any (same_key q) (keys ++ key ∷ [])) (without old s) old
more_dropped keys key q s old mid new m n = n ∙ ap (λ hs. cond (same_key key q) (without hs s) hs) m ∙ rw (list_any-append (same_key q) keys (key ∷ []), laws.symm q key) (step (list_any (same_key q) keys) (same_key key q))
  where
    step : (a b : Bool) → cond b (without (cond a (without old s) old) s) (cond a (without old s) old) ≡ cond (a || (b || false)) (without old s) old
    step true true = without_twice old s
    step true false = refl
    step false true = refl
    step false false = refl

-- ---- a key that was added to a session's is taken away again
pub undone : (b : Bool) (old mid new : List Key) (key : Key) → mid ≡ cond b (old ++ key ∷ []) old → new ≡ cond b (all_but_last mid) mid → new ≡ old
undone true old mid new key m n = n ∙ ap all_but_last m ∙ ap (λ k. take k (old ++ key ∷ [])) (one_less old key) ∙ take-append_seam old (key ∷ [])
  where
    one_less : (keys : List Key) (key : Key) → length (keys ++ key ∷ []) - 1 ≡ length keys
    one_less keys key = simp length-append (omega arith)
undone false old mid new key m n = n ∙ m

-- ---- the same of kept lists
module _ {Z : Type 0} (holders holders' : BTreeMap Key (Vec Holder Z)) (keys keys' : BTreeMap SessionId (Vec Key Z)) (kept : AreKept holders keys) (by_key : IsLists key_cmp holders') (by_session : IsLists holder_session_cmp keys') where
  pub record AreLeft (locks : Locks) : Type 0 where
    pub kept_still : AreKept holders' keys'
    pub locks_are : locks_at holders' ≡ locks

  pub unchanged : ((q : Key) → items_at key_cmp holders' q ≡ items_at key_cmp holders q) → ((t : SessionId) → items_at holder_session_cmp keys' t ≡ items_at holder_session_cmp keys t) → AreLeft (locks_at holders)
  unchanged same_holders same_keys = record {
    kept_still = record {
      by_key = by_key;
      by_session = by_session;
      tied = record {
        holders_once = λ q. rw (same_holders q) (kept.tied.holders_once q);
        keys_once = λ t. rw (same_keys t) (kept.tied.keys_once t);
        both = λ t q. rw (same_holders q, same_keys t) (kept.tied.both t q);
      };
    };
    locks_are = same_locks _ _ (λ t q. mode_kept holders' by_key t q ∙ ap (λ hs. mode_in hs t) (same_holders q) ∙ sym (mode_kept holders kept.by_key t q));
  }

  pub added : (s : SessionId) (key : Key) (mode : Mode) → mode_of (locks_at holders) s key ≡ None
      → ((q : Key) → items_at key_cmp holders' q ≡ cond (same_key key q) (items_at key_cmp holders q ++ record { session = s; mode = mode } ∷ []) (items_at key_cmp holders q))
      → ((t : SessionId) → items_at holder_session_cmp keys' t ≡ cond (eq_by_cmp holder_session_cmp s t) (items_at holder_session_cmp keys t ++ key ∷ []) (items_at holder_session_cmp keys t))
      → AreLeft (map.insert (locks_at holders) (s.0, key) mode)
  added s key mode none more_holders more_keys = record {
    kept_still = record { by_key = by_key; by_session = by_session; tied = tied_added _ _ _ _ s key mode kept.tied absent more_holders own_keys };
    locks_are = same_locks _ _ (λ t q.
        mode_kept holders' by_key t q
        ∙ mode_added (items_at key_cmp holders) (items_at key_cmp holders') (items_at holder_session_cmp keys) (items_at holder_session_cmp keys') s key mode kept.tied absent more_holders own_keys t q
        ∙ ap (cond ((s.0 == t.0) && same_key q key) (Some mode)) (sym (mode_kept holders kept.by_key t q))
        ∙ sym (mode_of-insert (locks_at holders) s key mode t q));
  }
    where
      absent : mode_in (items_at key_cmp holders key) s ≡ None
      absent = sym (mode_kept holders kept.by_key s key) ∙ none

      own_keys : (t : SessionId) → items_at holder_session_cmp keys' t ≡ cond (t.0 == s.0) (items_at holder_session_cmp keys t ++ key ∷ []) (items_at holder_session_cmp keys t)
      own_keys t = more_keys t ∙ ap (λ b. cond b (items_at holder_session_cmp keys t ++ key ∷ []) (items_at holder_session_cmp keys t)) (number_test s.0 t.0)

  pub given_back : (s : SessionId)
      → ((q : Key) → items_at key_cmp holders' q ≡ cond (list_any (same_key q) (items_at holder_session_cmp keys s)) (without (items_at key_cmp holders q) s) (items_at key_cmp holders q))
      → ((t : SessionId) → items_at holder_session_cmp keys' t ≡ cond (eq_by_cmp holder_session_cmp s t) [] (items_at holder_session_cmp keys t))
      → AreKept holders' keys' × IsGivenBack s (locks_at holders) (locks_at holders')
  given_back s fewer_holders fewer_keys = (
    record { by_key = by_key; by_session = by_session; tied = tied_given _ _ _ _ s kept.tied fewer_holders own_keys },
    λ t key. mode_kept holders' by_key t key
        ∙ mode_given (items_at key_cmp holders) (items_at key_cmp holders') (items_at holder_session_cmp keys) (items_at holder_session_cmp keys') s kept.tied fewer_holders own_keys t key
        ∙ ap (cond (t.0 == s.0) None) (sym (mode_kept holders kept.by_key t key)),
  )
    where
      own_keys : (t : SessionId) → items_at holder_session_cmp keys' t ≡ cond (t.0 == s.0) [] (items_at holder_session_cmp keys t)
      own_keys t = fewer_keys t ∙ ap (λ b. cond b [] (items_at holder_session_cmp keys t)) (number_test s.0 t.0)
