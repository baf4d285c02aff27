-- What one note more says of namenodes: which commits they made, and who is left by one that is gone.
use Rattle.std.specs.Prelude.{◌≡◌, ℕ, ◌+◌, Bool, true, false, not, ◌&&◌, ◌||◌, if◌then◌else◌, List, [], ◌∷◌, ◌++◌, Option, Some, None, refl}
use Rattle.std.specs.List.{list_any, after_first}
use Rattle.std.proofs.Common.{sym, ap, subst, ◌∙◌, arith, append_assoc, append-nil}
use Rattle.std.proofs.lemmas.List.Folds.{list_any-append}
use Rattle.hops_base.specs.declared.ids.SessionId.{SessionId}
use Rattle.hops_base.specs.declared.ids.OpId.{OpId}
use Rattle.hops_base.specs.declared.ids.NodeNo.{NodeNo}
use Rattle.commit_log.specs.declared.note.Note.{Note}
use Rattle.commit_log.specs.Parts.{passes, Opening, opens_session, opening_of, Flagging, flags_op, flag_of, is_loss_of, is_eviction_of}
use Rattle.commit_log.proofs.PartLaws.{opening_of-kept, opening_of-none, flag_of-none}
use Rattle.commit_log.specs.Flags.{since_flag, is_live}
use Rattle.commit_log.proofs.FlagLaws.{after_first-found, after_first-new, since_flag-push, since_flag-new}
use Rattle.commit_log.specs.Told.{was_lost}
use Rattle.commit_log.specs.Stops.{commits_at, commits_from, commits_of}
use Rattle.commit_log.specs.Members.{is_void}

-- ---- commits

commits_from-push : (node : NodeNo) (before notes : List Note) (note : Note)
    → commits_from node before (notes ++ note ∷ []) ≡ commits_from node before notes + (if commits_at (before ++ notes) node note then 1 else 0)
commits_from-push node before [] note =
    subst (λ (b : List Note). (if commits_at before node note then 1 else 0) + 0 ≡ 0 + (if commits_at b node note then 1 else 0)) (sym (append-nil before)) (turned (if commits_at before node note then 1 else 0))
  where
    turned : (n : ℕ) → n + 0 ≡ 0 + n
    turned n = omega arith
commits_from-push node before (n ∷ notes) note =
    let rest : commits_from node (before ++ n ∷ []) (notes ++ note ∷ []) ≡ commits_from node (before ++ n ∷ []) notes + (if commits_at (before ++ n ∷ notes) node note then 1 else 0) =
    subst (λ (b : List Note). commits_from node (before ++ n ∷ []) (notes ++ note ∷ []) ≡ commits_from node (before ++ n ∷ []) notes + (if commits_at b node note then 1 else 0)) (append_assoc before (n ∷ []) notes)
    (commits_from-push node (before ++ n ∷ []) notes note) in
    joined (if commits_at before node n then 1 else 0) _ _ _ rest
  where
    joined : (a b c d : ℕ) → b ≡ c + d → a + b ≡ a + c + d
    joined a b c d e = omega arith

-- one note more
pub commits_of-push : (notes : List Note) (note : Note) (node : NodeNo) → commits_of (notes ++ note ∷ []) node ≡ commits_of notes node + (if commits_at notes node note then 1 else 0)
commits_of-push notes note node = commits_from-push node [] notes note

-- ---- what there is an opening or a flag of was opened or flagged

pub opened_by : (notes : List Note) (s : SessionId) (o : Opening) → opening_of notes s ≡ Some o → list_any (opens_session s) notes ≡ true
opened_by notes s o e = elim (list_any (opens_session s) notes) as (λ b. list_any (opens_session s) notes ≡ b → b ≡ true) [
  | true ↦ λ h. refl
  | false ↦ λ h. let none = opening_of-none notes s h in cc
] refl

pub flagged_by : (notes : List Note) (op : OpId) (flag : Flagging) → flag_of notes op ≡ Some flag → list_any (flags_op op) notes ≡ true
flagged_by notes op flag e = elim (list_any (flags_op op) notes) as (λ b. list_any (flags_op op) notes ≡ b → b ≡ true) [
  | true ↦ λ h. refl
  | false ↦ λ h. let none = flag_of-none notes op h in cc
] refl

-- ---- who is left by a namenode that is gone

one_more : (p : Note → Bool) (notes : List Note) (note : Note) → list_any p (notes ++ note ∷ []) ≡ (list_any p notes || p note)
one_more p notes note = list_any-append p notes (note ∷ []) ∙ ap (λ b. list_any p notes || b) (or_false (p note))
  where
    or_false : (b : Bool) → (b || false) ≡ b
    or_false true = refl
    or_false false = refl

-- a test of what stands since a flag, at the namenode of its session
since : (p : NodeNo → Note → Bool) (notes : List Note) (note : Note) (flag : Flagging) (o : Opening) → opening_of notes flag.session ≡ Some o → list_any (flags_op flag.op) notes ≡ true
    → passes (λ (n : Opening). list_any (p n.node) (since_flag (notes ++ note ∷ []) flag.op)) (opening_of (notes ++ note ∷ []) flag.session)
    ≡ (passes (λ (n : Opening). list_any (p n.node) (since_flag notes flag.op)) (opening_of notes flag.session) || p o.node note)
since p notes note flag o e h =
    ap (passes (λ (n : Opening). list_any (p n.node) (since_flag (notes ++ note ∷ []) flag.op))) (opening_of-kept notes (note ∷ []) flag.session o e)
    ∙ ap (list_any (p o.node)) (since_flag-push notes note flag.op h)
    ∙ one_more (p o.node) (since_flag notes flag.op) note
    ∙ ap (λ (t : Option Opening). passes (λ (n : Opening). list_any (p n.node) (since_flag notes flag.op)) t || p o.node note) (sym e)

-- a flag is live until its namenode is evicted
pub is_live-push : (notes : List Note) (note : Note) (flag : Flagging) (o : Opening) → opening_of notes flag.session ≡ Some o → list_any (flags_op flag.op) notes ≡ true
    → is_live (notes ++ note ∷ []) flag ≡ (is_live notes flag && not (is_eviction_of o.node note))
is_live-push notes note flag o e h = ap not (since is_eviction_of notes note flag o e h) ∙ not_or _ (is_eviction_of o.node note)
  where
    not_or : (a b : Bool) → not (a || b) ≡ (not a && not b)
    not_or true b = refl
    not_or false b = refl

-- a new one is live
pub is_live-new : (notes : List Note) (note : Note) (flag : Flagging) → list_any (flags_op flag.op) notes ≡ false → is_live (notes ++ note ∷ []) flag ≡ true
is_live-new notes note flag h =
    ap (λ (ns : List Note). not (passes (λ (n : Opening). list_any (is_eviction_of n.node) ns) (opening_of (notes ++ note ∷ []) flag.session))) (since_flag-new notes note flag.op h)
    ∙ none (opening_of (notes ++ note ∷ []) flag.session)
  where
    none : (t : Option Opening) → not (passes (λ (n : Opening). false) t) ≡ true
    none None = refl
    none (Some n) = refl

-- a flag is lost once its namenode is gone
pub was_lost-push : (notes : List Note) (note : Note) (flag : Flagging) (o : Opening) → opening_of notes flag.session ≡ Some o → list_any (flags_op flag.op) notes ≡ true
    → was_lost (notes ++ note ∷ []) flag ≡ (was_lost notes flag || is_loss_of o.node note)
was_lost-push notes note flag o e h = since is_loss_of notes note flag o e h

-- a session is void once its namenode is gone
pub is_void-push : (notes : List Note) (note : Note) (s : SessionId) (o : Opening) → opening_of notes s ≡ Some o → is_void (notes ++ note ∷ []) s ≡ (is_void notes s || is_loss_of o.node note)
is_void-push notes note s o e =
    ap (passes (λ (n : Opening). list_any (is_loss_of n.node) (after_first (opens_session s) (notes ++ note ∷ [])))) (opening_of-kept notes (note ∷ []) s o e)
    ∙ ap (list_any (is_loss_of o.node)) (after_first-found (opens_session s) notes (note ∷ []) (opened_by notes s o e))
    ∙ one_more (is_loss_of o.node) (after_first (opens_session s) notes) note
    ∙ ap (λ (t : Option Opening). passes (λ (n : Opening). list_any (is_loss_of n.node) (after_first (opens_session s) notes)) t || is_loss_of o.node note) (sym e)

-- a new one isn't
pub is_void-new : (notes : List Note) (note : Note) (s : SessionId) → list_any (opens_session s) notes ≡ false → is_void (notes ++ note ∷ []) s ≡ false
is_void-new notes note s h =
    ap (λ (ns : List Note). passes (λ (n : Opening). list_any (is_loss_of n.node) ns) (opening_of (notes ++ note ∷ []) s)) (after_first-new (opens_session s) notes note h)
    ∙ none (opening_of (notes ++ note ∷ []) s)
  where
    none : (t : Option Opening) → passes (λ (n : Opening). false) t ≡ false
    none None = refl
    none (Some n) = refl
