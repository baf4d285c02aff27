-- What the parts of a step come to.
use Rattle.std.proofs.Common.{◌≡◌, ℕ, ◌⊎◌, inl, inr, false, List, Option, Some, None, IfSome, option_and_then, sym, subst, ◌∙◌}
use Rattle.std.specs.FinMap as map
use Rattle.hops_base.specs.declared.ids.Mode.{Mode}
use Rattle.hops_base.specs.declared.ids.OpId.{OpId}
use Rattle.hops_base.specs.declared.ids.SessionId.{SessionId}
use Rattle.hops_base.specs.declared.key.Key.{Key}
use Rattle.name_space.specs.Namespace.{Path}
use Rattle.inode_table.specs.declared.inode.Inode.{Inode}
use Rattle.db_state.specs.declared.session.Phase.TheVariants as phase
use Rattle.db_state.specs.declared.session.Session.{Session}
use Rattle.db_state.specs.declared.session.Stage.{Stage}
use Rattle.db_state.specs.declared.session.Stage.TheVariants as stage
use Rattle.db_state.specs.Consistent.{IsUnflagged}
use Rattle.db_state.specs.Moves.{IsReadAsFound}
use Rattle.db_state.specs.Reads.{Reads}
use Rattle.db_state.specs.ReadSteps.{IsFoundAgain}
use Rattle.db_state.specs.Stages.{phase_of}
use Rattle.db_state.specs.State.{State}
use Rattle.db_state.specs.Stored.{Inodes}
use Rattle.db_state.specs.Steps.{CanChange, IsRunning}
use Rattle.path_resolver.specs.declared.resolve.Resolve as resolve
use Rattle.path_resolver.specs.declared.resolve.Resolve.TheVariants as resolved
use Rattle.path_resolver.specs.Resolving.{begun, next_read, IsResolveStep, IsUnresolved}
use Rattle.chain_check.specs.declared.reread.Reread as reread
use Rattle.chain_check.specs.declared.reread.Reread.TheVariants as reread_told
use Rattle.chain_check.specs.Rereading.{HasLeft, IsRereadStep}
use Rattle.hops_core.specs.declared.progress.Progress.{Progress}
use Rattle.hops_core.specs.declared.progress.Progress.TheVariants.{More, Met, Done, Fenced, NoMemory}
use Rattle.hops_core.specs.Commits.{IsCommitted}
use Rattle.hops_core.specs.Events.{GoesOn, IsAdvance, Meets}
use Rattle.hops_core.specs.Reading.{MeetsChange, Moves}
use Rattle.hops_core.specs.Steady.{HasMore, IsSteady}
use Rattle.hops_core.specs.Steps.{IsChanging}
use Rattle.hops_core.proofs.StageLaws.{at_resolve, at_read, at_reread}

-- a key that is looked for has no row with a flag
no_flag_at : (inodes : Inodes) → IsUnflagged inodes → (at : Option Key) (row : Inode) (op : OpId) → option_and_then (map.get inodes) at ≡ Some row → row.flag ≡ Some op → ⊥
no_flag_at inodes bare None row op is flag = (let bad = is in cc)
no_flag_at inodes bare (Some at) row op is flag = (let none = bare at row is in let bad = sym none ∙ flag in cc)

module _ (old : State) (s : SessionId) (doing : Session) (runs : IsRunning old s doing) where
  -- ---- it resolves its path

  pub unresolved : IsSteady old → phase_of doing.stage ≡ phase.Resolve → (path : Path) × (found : List (Key × Inode)) × IsUnresolved doing path found
  unresolved steady here =
      let at = at_resolve doing.stage here in
      let more = subst (HasMore doing) at.2 ((steady.each s doing runs).more) in
      (more.0, at.1.items, more.1)

  pub resolves : (path : Path) (found : List (Key × Inode)) (told : resolve.Resolve) (new : State) → IsUnresolved doing path found → (told ≡ resolved.More) ⊎ (told ≡ resolved.Found)
      → IsResolveStep old s doing path found told new → GoesOn old s doing doing.stage new
  resolves path found told new un which is =
      let goes : IsResolveStep old s doing path found resolved.More new ⊎ IsResolveStep old s doing path found resolved.Found new = elim which [
        | inl more ↦ inl (subst (λ (t : resolve.Resolve). IsResolveStep old s doing path found t new) more is)
        | inr all ↦ inr (subst (λ (t : resolve.Resolve). IsResolveStep old s doing path found t new) all is)
      ] in
      subst (λ (st : Stage). GoesOn old s doing st new) (sym un.stage) (path, un, goes)

  pub resolves_unflagged : IsUnflagged old.stored.inodes → (path : Path) (found : List (Key × Inode)) (op : OpId) (new : State) → IsResolveStep old s doing path found (resolved.Flagged op) new → ⊥
  resolves_unflagged bare path found op new is = no_flag_at old.stored.inodes bare (next_read path (begun found)) is.0 op is.1 is.2

  -- ---- it reads rows again

  pub has_left : IsSteady old → phase_of doing.stage ≡ phase.Reread → (reads : Reads) × (keys : List (Key × Mode)) × HasLeft doing reads keys
  has_left steady here =
      let at = at_reread doing.stage here in
      (at.0, at.1, subst (HasMore doing) at.2 ((steady.each s doing runs).more))

  pub rereads : (reads : Reads) (keys : List (Key × Mode)) (told : reread.Reread) (new : State) → HasLeft doing reads keys → (told ≡ reread_told.More) ⊎ (told ≡ reread_told.Current)
      → IsRereadStep old s doing reads keys told new → GoesOn old s doing doing.stage new
  rereads reads keys told new left which is =
      let goes : IsRereadStep old s doing reads keys reread_told.More new ⊎ IsRereadStep old s doing reads keys reread_told.Current new = elim which [
        | inl more ↦ inl (subst (λ (t : reread.Reread). IsRereadStep old s doing reads keys t new) more is)
        | inr all ↦ inr (subst (λ (t : reread.Reread). IsRereadStep old s doing reads keys t new) all is)
      ] in
      subst (λ (st : Stage). GoesOn old s doing st new) (sym left.stage) goes

  pub rereads_unflagged : IsUnflagged old.stored.inodes → (reads : Reads) (keys : List (Key × Mode)) (op : OpId) (new : State) → IsRereadStep old s doing reads keys (reread_told.Flagged op) new → ⊥
  rereads_unflagged bare reads keys op new is = (let none = bare is.0.0 is.2.0.now is.2.0.there in let bad = sym none ∙ is.2.1 in cc)

  -- ---- what it reads isn't as it was found

  pub differs_again : IsSteady old → (reads : Reads) (keys : List (Key × Mode)) (new : State) → HasLeft doing reads keys → IsRereadStep old s doing reads keys reread_told.Changed new → CanChange old s doing false
  differs_again steady reads keys new left is = record {
    runs = runs;
    differs = λ same. is.2 (subst (λ (o : Option (Key × Inode)). IfSome o (IsFoundAgain old.stored.inodes)) is.1 (subst (IsReadAsFound old.stored) left.stage same));
    by_hints = (steady.each s doing runs).unhinted;
  }

  pub differs : IsSteady old → (IsReadAsFound old.stored doing.stage → ⊥) → CanChange old s doing false
  differs steady unlike = record { runs = runs; differs = unlike; by_hints = (steady.each s doing runs).unhinted }

  -- it meets that as it reads, or reads again
  meets_at : (st : Stage) → ((i : ℕ) (new : State) → MeetsChange old new s doing i → Meets old s doing st i new) → doing.stage ≡ st
      → (told : Progress) (new : State) → IsChanging old s told new → IsAdvance old s doing told new
  meets_at st meets is More new made = absurd made
  meets_at st meets is (Done i reply) new made = absurd made
  meets_at st meets is (Fenced i) new made = absurd made
  meets_at st meets is NoMemory new made = made
  meets_at st meets is (Met i) new made = subst (λ (x : Stage). Meets old s doing x i new) (sym is) (meets i new (made doing runs))

  pub meets_reading : phase_of doing.stage ≡ phase.Read → (told : Progress) (new : State) → IsChanging old s told new → IsAdvance old s doing told new
  meets_reading here = let at = at_read doing.stage here in meets_at (stage.Read at.0 at.1) (λ i new met. met) at.2

  pub meets_rereading : phase_of doing.stage ≡ phase.Reread → (told : Progress) (new : State) → IsChanging old s told new → IsAdvance old s doing told new
  meets_rereading here = let at = at_reread doing.stage here in meets_at (stage.Reread at.0 at.1) (λ i new met. met) at.2

  pub goes_reading : phase_of doing.stage ≡ phase.Read → (new : State) → Moves old new s doing → GoesOn old s doing doing.stage new
  goes_reading here new moves = let at = at_read doing.stage here in subst (λ (x : Stage). GoesOn old s doing x new) (sym at.2) moves

  -- ---- it answers

  pub commits : (told : Progress) (new : State) → IsCommitted old s doing told new → IsAdvance old s doing told new
  commits More new made = absurd made
  commits (Met i) new made = absurd made
  commits (Done i reply) new made = made
  commits (Fenced i) new made = absurd made
  commits NoMemory new made = made
