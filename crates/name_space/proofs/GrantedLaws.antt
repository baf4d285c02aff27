-- What a granted rename leaves.
use Rattle.std.proofs.Common.{◌≡◌, ◌≢◌, Bool, true, false, not, ◌||◌, cond, [], ◌∷◌, ◌++◌, Option, Some, None, is_some, IsSome, refl, sym, ap, ◌∙◌, subst, inl, inr}
use Rattle.std.proofs.Math.Seq.{drop-append_seam}
use Rattle.std.proofs.lemmas.Bool.{true≢false, or_parts, not-false, false_from_ne_true}
use Rattle.hops_base.specs.Path.{same_path, is_below, parent_of}
use Rattle.name_space.specs.declared.reply.Exception.{Exception}
use Rattle.name_space.specs.declared.reply.Exception.TheVariants.{FileNotFound, FileAlreadyExists, IO}
use Rattle.name_space.specs.declared.reply.Why.TheVariants.{Descendant, BadParent}
use Rattle.name_space.specs.declared.reply.Reply.TheVariants.{Truth}
use Rattle.name_space.specs.Namespace.{Namespace, Path, IsNamespace, entry_at, exists, is_dir, is_file, is_within, used_names, used_bytes}
use Rattle.name_space.specs.Quota.{over_quota, newly_above}
use Rattle.name_space.specs.Plain.{Answered, told, refused, granted, unless, is_root, last_name}
use Rattle.name_space.specs.Rename.{moved, rename, rename_to, has_parent, target_of}
use Rattle.name_space.proofs.PathLaws.{same_path-self, same_path-not, is_within-append, is_within-pop, not_within-apart, within_either}
use Rattle.name_space.proofs.NamespaceLaws.{none_from, missing_within}
use Rattle.name_space.proofs.MoveLaws.{moved-within, moved-gone, moved-stays}
use Rattle.name_space.specs.Laws.{IsMoved, RenameMovesAll}

-- where the first of two answers isn't true, an answer that is comes from the second
second_is : (space : Namespace) (test : Bool) (exception : Exception) (second : Answered) → (cond test (refused exception space) second).reply ≡ Truth true
    → (test ≡ false) × (second.reply ≡ Truth true) × ((cond test (refused exception space) second).space ≡ second.space)
second_is space true exception second is = cc
second_is space false exception second is = (refl, is, refl)

skipped : (test : Bool) (first second : Answered) → test ≡ false → (cond test first second).reply ≡ Truth true → (second.reply ≡ Truth true) × ((cond test first second).space ≡ second.space)
skipped test first second fails is = (sym (ap (λ (b : Bool). (cond b first second).reply) fails) ∙ is, ap (λ (b : Bool). (cond b first second).space) fails)

granted_is : (space : Namespace) (refusal : Option Exception) (answer : Answered) → (unless refusal space answer).reply ≡ Truth true → (unless refusal space answer).space ≡ answer.space
granted_is space None answer is = refl
granted_is space (Some exception) answer is = cc

module _ (space : Namespace) (is : IsNamespace space) (source target : Path) (none : entry_at space target ≡ None) (apart : is_within source target ≡ false) where
  -- the source isn't within a target that is free
  outside : IsSome (entry_at space source) → (rest : Path) → is_within target (source ++ rest) ≡ false
  outside here rest = false_from_ne_true (is_within target (source ++ rest)) (λ within. elim (within_either source target (source ++ rest) (is_within-append source rest) within) [
    | inl inside ↦ true≢false (sym inside ∙ apart)
    | inr inside ↦ true≢false (sym here ∙ ap is_some (missing_within space is target none source inside))
  ])

  moved_is : IsSome (entry_at space source) → IsMoved space (moved space source target) source target
  moved_is here = record {
    there = λ rest. moved-within space is source target none (target ++ rest) (is_within-append target rest) ∙ ap (λ (p : Path). entry_at space (source ++ p)) (drop-append_seam target rest);
    gone = λ rest. moved-gone space is source target none (source ++ rest) (outside here rest) (is_within-append source rest);
    others = λ path out away. moved-stays space is source target none path away out;
  }

module _ (space : Namespace) (is : IsNamespace space) (source destination : Path) where
  -- where the source goes
  abbrev target : Path
  target = target_of space source destination

  -- the target is free, and the namespace is the one after the move, where the answer is true
  abbrev Answer : Answered → Type 0
  Answer answer = (answer.reply ≡ Truth true) → (entry_at space target ≡ None) × IsMoved space answer.space source target

  moves : (here : IsSome (entry_at space source)) → is_below destination source ≡ false → same_path source destination ≡ false → same_path target source ≡ false → Answer (rename_to space source target)
  moves here not_below differ elsewhere told_true =
      let first = skipped (same_path target source) (told (Truth true) space) _ elsewhere told_true in
      let second = second_is space (exists space target) FileAlreadyExists _ first.0 in
      let third = granted_is space (over_quota space (used_names space source) (used_bytes space source) (newly_above source target)) (granted (moved space source target)) second.1 in
      let none = none_from (entry_at space target) second.0 in
      (none, subst (λ (s : Namespace). IsMoved space s source target) (sym (first.1 ∙ second.2 ∙ third)) (moved_is space is source target none (target_apart (is_dir (entry_at space destination)) elsewhere) here))
    where
      target_apart : (dir : Bool) → same_path (cond dir (destination ++ last_name source ∷ []) destination) source ≡ false → is_within source (cond dir (destination ++ last_name source ∷ []) destination) ≡ false
      target_apart true other = false_from_ne_true (is_within source (destination ++ last_name source ∷ [])) (λ within. elim (is_within-pop source destination (last_name source) within) [
        | inl same ↦ true≢false (sym (same_path-self source) ∙ ap (λ (p : Path). same_path p source) same ∙ other)
        | inr inside ↦ true≢false (sym inside ∙ not_within-apart source destination not_below differ)
      ])
      target_apart false other = not_within-apart source destination not_below differ

  rename_is : (rename space source destination).reply ≡ Truth true → source ≢ destination → source ≢ target → (entry_at space target ≡ None) × IsMoved space (rename space source destination).space source target
  rename_is told_true differ elsewhere =
      let first = second_is space (not (exists space source)) FileNotFound _ told_true in
      let second = second_is space (is_root source || is_below destination source) (IO Descendant) _ first.1 in
      let parts = or_parts (is_root source) (is_below destination source) second.0 in
      let third = skipped (same_path source destination) (told (Truth true) space) _ (same_path-not source destination differ) second.1 in
      let fourth = second_is space (is_file (entry_at space destination)) FileAlreadyExists _ third.0 in
      let fifth = second_is space (not (has_parent space (parent_of destination))) (IO BadParent) _ fourth.1 in
      let last = moves (not-false (exists space source) first.0) parts.1 (same_path-not source destination differ) (same_path-not target source (λ same. elsewhere (sym same))) fifth.1 in
      (last.0, subst (λ (s : Namespace). IsMoved space s source target) (sym (first.2 ∙ second.2 ∙ third.1 ∙ fourth.2 ∙ fifth.2)) last.1)

pub rename_moves_all : RenameMovesAll
rename_moves_all space source destination is told_true differ elsewhere = rename_is space is source destination told_true differ elsewhere
