-- A session comes nearer to the end of its phase with each step.
use Rattle.std.proofs.Common.{◌≡◌, ◌≢◌, ℕ, zero, suc, ◌+◌, ◌-◌, ◌≤◌, ◌<◌, Bool, true, false, ◌==◌, cond, List, [], ◌∷◌, ◌++◌, length, slice_get, Option, Some, None, refl, ap, sym, subst, ◌∙◌, arith, inl, inr, eqb-true}
use Rattle.std.specs.FinMap as map
use Rattle.std.specs.Prelude.{option_and_then}
use Rattle.std.proofs.lemmas.Bool.{eq-eqb}
use Rattle.std.proofs.lemmas.List.{length-append}
use Rattle.hops_base.specs.declared.ids.SessionId.{SessionId}
use Rattle.hops_base.specs.declared.key.Key.{Key}
use Rattle.inode_table.specs.declared.inode.Inode.{Inode}
use Rattle.name_space.specs.Namespace.{Path}
use Rattle.name_space.specs.Call.{paths_of}
use Rattle.db_state.specs.declared.session.Phase.{Phase}
use Rattle.db_state.specs.declared.session.Session.{Session}
use Rattle.db_state.specs.declared.session.Stage.{Stage}
use Rattle.db_state.specs.declared.session.Stage.TheVariants.{Resolve, Lock, Read, Reread, Commit, Answered}
use Rattle.db_state.specs.Current.{stops_at}
use Rattle.db_state.specs.Moves as moves
use Rattle.db_state.specs.Moves.{left_in}
use Rattle.db_state.specs.Plan.{last}
use Rattle.db_state.specs.Stages.{next_key, phase_of}
use Rattle.db_state.specs.Stored.{Inodes}
use Rattle.db_state.specs.State.{State}
use Rattle.db_state.specs.Steps.{one_more, IsRunning}
use Rattle.path_resolver.specs.Resolving.{begun, got_by, next_read, read_at, read_on, with_read, IsResolved}
use Rattle.hops_core.specs.Events.{GoesOn}
use Rattle.hops_cli.specs.Turning.{rank}
use Rattle.hops_cli.proofs.StepsLeft.{names_in, left_at, steps_left}
use Rattle.hops_cli.proofs.WayLemmas.{put_there}

-- a session that has fewer steps left at its stage has fewer in the phase
fewer : (at : Phase) (after : Session) (n : ℕ) → (rank (phase_of after.stage) ≡ rank at → left_at after.call after.stage < n) → steps_left at (Some after) < n + 1
fewer at after n less =
    elim (rank (phase_of after.stage) == rank at) as (λ b. (rank (phase_of after.stage) == rank at) ≡ b → cond b (left_at after.call after.stage + 1) 0 < n + 1) [
      | true ↦ λ is. (let few = less (eqb-true (rank (phase_of after.stage)) (rank at) is) in omega arith)
      | false ↦ λ is. omega arith
    ] refl

-- what a session has left that is in the phase
all_left : (at : Phase) (old : State) (s : SessionId) (doing : Session) (stage : Stage) → IsRunning old s doing → doing.stage ≡ stage → rank (phase_of stage) ≡ rank at
    → steps_left at (map.get old.sessions s.0) ≡ left_at doing.call stage + 1
all_left at old s doing stage runs is here =
    ap (steps_left at) runs.there
    ∙ ap (λ (b : Bool). cond b (left_at doing.call doing.stage + 1) 0) (eq-eqb (rank (phase_of doing.stage)) (rank at) (ap (λ (on : Stage). rank (phase_of on)) is ∙ here))
    ∙ ap (λ (on : Stage). left_at doing.call on + 1) is

-- so it comes nearer, by the session that is there then
nearer_by : (at : Phase) (old new : State) (s : SessionId) (doing after : Session) (stage : Stage) → IsRunning old s doing → doing.stage ≡ stage → rank (phase_of stage) ≡ rank at → map.get new.sessions s.0 ≡ Some after
    → (rank (phase_of after.stage) ≡ rank at → left_at after.call after.stage < left_at doing.call stage) → steps_left at (map.get new.sessions s.0) < steps_left at (map.get old.sessions s.0)
nearer_by at old new s doing after stage runs is here there less =
    let few : steps_left at (Some after) < left_at doing.call stage + 1 = fewer at after (left_at doing.call stage) less in
    subst (λ (n : ℕ). steps_left at (map.get new.sessions s.0) < n) (sym (all_left at old s doing stage runs is here))
    (subst (λ (o : Option Session). steps_left at o < left_at doing.call stage + 1) (sym there) few)

-- ---- names are left to look for

within : {X : Type 0} (xs : List X) (i : ℕ) → slice_get xs i ≢ None → i < length xs
within [] i some = absurd (some refl)
within (y ∷ xs) zero some = omega arith
within (y ∷ xs) (suc i) some = let rest = within xs i some in omega arith

-- a row that is still to be read is one of the path's
not_long : (path : Path) (rows : List (Key × Inode)) → next_read path rows ≢ None → length rows ≤ length path
not_long path rows more =
    (elim (last rows) as (λ o. option_and_then (λ (r : Key × Inode). option_and_then (stops_at r.1.kind r.1.id) (slice_get path (length rows - 1))) o ≢ None → length rows ≤ length path) [
      | None ↦ λ some. absurd (some refl)
      | Some r ↦ λ some. (let low : length rows - 1 < length path = within path (length rows - 1) (λ none. some (ap (option_and_then (stops_at r.1.kind r.1.id)) none)) in omega arith)
    ]) more

begun_long : (found : List (Key × Inode)) → length found ≤ length (begun found)
begun_long [] = omega arith
begun_long (row ∷ rows) = omega arith

-- a read that doesn't resolve the path finds a row more
grows : (inodes : Inodes) (path : Path) (found : List (Key × Inode)) → (IsResolved path (read_on inodes path found) → ⊥) → length found < length (read_on inodes path found).0
grows inodes path found unfinished =
    (elim (next_read path (begun found)) as (λ o. next_read path (begun found) ≡ o → (IsResolved path (read_at inodes (begun found) o) → ⊥) → length found < length (read_at inodes (begun found) o).0) [
      | None ↦ λ is not. absurd (not (inr is))
      | Some at ↦ λ is not.
          (elim (map.get inodes at) as (λ o. (IsResolved path (with_read (begun found) at o) → ⊥) → length found < length (with_read (begun found) at o).0) [
            | None ↦ λ still. absurd (still (inl (λ none. absurd (let bad = none in cc))))
            | Some row ↦ λ still. (let low = begun_long found in let long : length (begun found ++ (at, row) ∷ []) ≡ length (begun found) + 1 = length-append (begun found) ((at, row) ∷ []) in omega arith)
          ]) not
    ]) refl unfinished

-- so fewer names are left
fewer_names : (old : State) (doing after : Session) (path : Path) (found : List (Key × Inode)) → paths_of doing.call ≡ path ∷ [] → after.call ≡ doing.call → (IsResolved path (got_by old path found) → ⊥)
    → names_in (paths_of after.call) + 2 - length (got_by old path found).0 < names_in (paths_of doing.call) + 2 - length found
fewer_names old doing after path found one call unfinished =
    let more : length found < length (got_by old path found).0 = grows old.stored.inodes path found unfinished in
    let short : length (got_by old path found).0 ≤ length path = not_long path (got_by old path found).0 (λ none. unfinished (inr none)) in
    let names : names_in (paths_of doing.call) ≡ length path = ap names_in one in
    let same : names_in (paths_of after.call) ≡ length path = ap (λ (c : _). names_in (paths_of c)) call ∙ names in
    omega arith

-- ---- every step

no_rank : (a b : ℕ) → a ≢ b → {A : Type 0} → a ≡ b → A
no_rank a b apart {A} same = absurd (apart same)

-- each step brings the session nearer
pub nearer : (at : Phase) (old new : State) (s : SessionId) (doing : Session) (stage : Stage) → IsRunning old s doing → doing.stage ≡ stage → rank (phase_of stage) ≡ rank at → GoesOn old s doing stage new
    → steps_left at (map.get new.sessions s.0) < steps_left at (map.get old.sessions s.0)
nearer at old new s doing (Resolve places found) runs is here g =
    elim g.2 [
      | inl reads ↦
          nearer_by at old new s doing reads.after (Resolve places found) runs is here (ap (λ (state : State). map.get state.sessions s.0) reads.moved ∙ put_there old s reads.after)
          (λ still. subst (λ (d : Session). left_at d.call d.stage < left_at doing.call (Resolve places found)) (sym reads.is)
          (fewer_names old doing doing g.0 found.items g.1.one refl reads.unfinished))
      | inr finds ↦
          nearer_by at old new s doing _ (Resolve places found) runs is here (ap (λ (state : State). map.get state.sessions s.0) finds.moved ∙ put_there old s _)
          (λ still. absurd (let off : 1 ≡ 0 = still ∙ sym here in omega arith))
    ]
nearer at old new s doing (Lock places keys taken) runs is here g =
    let after : Session = record doing { stage = one_more doing.stage } in
    let there : map.get new.sessions s.0 ≡ Some after = ap (λ (state : State). map.get state.sessions s.0) g.taken ∙ put_there old s after in
    let next : slice_get keys taken ≡ Some g.next = subst (λ (on : Stage). next_key on ≡ Some g.next) is g.can.next in
    let low : taken < length keys = within keys taken (λ none. absurd (let bad = sym next ∙ none in cc)) in
    nearer_by at old new s doing after (Lock places keys taken) runs is here there
    (λ still. subst (λ (on : Stage). rank (phase_of (one_more on)) ≡ rank at → left_at doing.call (one_more on) < length keys - taken) (sym is)
    (elim (taken + 1 == length keys) as (λ b. rank (phase_of (cond b (Read places keys) (Lock places keys (taken + 1)))) ≡ rank at → left_at doing.call (cond b (Read places keys) (Lock places keys (taken + 1))) < length keys - taken) [
      | true ↦ λ on. absurd (let off : 2 ≡ 1 = on ∙ sym here in omega arith)
      | false ↦ λ on. omega arith
    ]) still)
nearer at old new s doing (Read places keys) runs is here g =
    nearer_by at old new s doing g.after (Read places keys) runs is here (ap (λ (state : State). map.get state.sessions s.0) g.moved ∙ put_there old s g.after)
    (λ still. absurd (by g.after.stage (subst (λ (on : Stage). moves.GoesOn old.stored.inodes on g.after.stage) is g.can.goes) (still ∙ sym here)))
  where
    by : (after : Stage) → moves.GoesOn old.stored.inodes (Read places keys) after → rank (phase_of after) ≡ 2 → ⊥
    by (Resolve places' found) h e = h
    by (Lock places' keys' taken) h e = h
    by (Read places' keys') h e = h
    by (Reread reads keys') h e = omega arith
    by (Commit reads keys') h e = omega arith
    by Answered h e = h
nearer at old new s doing (Reread reads keys) runs is here g =
    elim g [
      | inl more ↦
          nearer_by at old new s doing (record doing { stage = Reread more.0 keys }) (Reread reads keys) runs is here (ap (λ (state : State). map.get state.sessions s.0) more.2.moved ∙ put_there old s (record doing { stage = Reread more.0 keys }))
          (λ still. (let long : length (left_in keys reads) ≡ suc (length (left_in keys more.0)) = ap length more.2.one.left in omega arith))
      | inr rest ↦
          nearer_by at old new s doing (record doing { stage = Commit rest.0 keys }) (Reread reads keys) runs is here (ap (λ (state : State). map.get state.sessions s.0) rest.2.moved ∙ put_there old s (record doing { stage = Commit rest.0 keys }))
          (λ still. absurd (let off : 4 ≡ 3 = still ∙ sym here in omega arith))
    ]
nearer at old new s doing (Commit reads keys) runs is here g = absurd g
nearer at old new s doing Answered runs is here g = absurd g
