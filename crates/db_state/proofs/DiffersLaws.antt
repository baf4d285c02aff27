-- All that the core keeps, once a session has met a change of what it had found and begins anew.
use Rattle.std.proofs.Common.{◌≡◌, ℕ, ◌<◌, ◌≤◌, Bool, true, false, ◌||◌, ◌==◌, cond, List, [], ◌∷◌, ◌++◌, length, drop, Option, Some, IsSomeAnd, arith, refl, sym, ap, subst, ◌∙◌, eq-eqb}
use Rattle.std.proofs.lemmas.Bool.{true_from_ne_false}
use Rattle.std.proofs.lemmas.List.{drop-append-le}
use Rattle.std.proofs.lemmas.Map.Lookups.{exact_unsigned}
use Rattle.std.proofs.lemmas.List.Folds.{list_any-append}
use Rattle.std.specs.FinMap as map
use Rattle.std.specs.Cmp.{nat_cmp_total}
use Rattle.std.specs.List.{list_any}
use Rattle.hops_base.specs.declared.ids.SessionId.{SessionId}
use Rattle.hops_base.specs.declared.ids.Mode.{Mode}
use Rattle.hops_base.specs.declared.key.Key.{Key}
use Rattle.commit_log.specs.declared.note.Note.{Note}
use Rattle.commit_log.specs.declared.note.Note.TheVariants.{Gave}
use Rattle.commit_log.specs.declared.note.Cause.TheVariants.{Changed}
use Rattle.commit_log.specs.Locks.{held}
use Rattle.commit_log.specs.Licensed.{is_change_beside, Found}
use Rattle.db_state.specs.declared.session.Session.{Session}
use Rattle.db_state.specs.Stored.{Stored}
use Rattle.db_state.specs.State.{Sessions, State}
use Rattle.db_state.specs.Stages.{keys_in}
use Rattle.db_state.specs.Core.{IsCore}
use Rattle.db_state.specs.Steps.{start, given_stored, with_session, moved_by, CanChange, Changes}
use Rattle.db_state.specs.SessionParts.{IsOpened}
use Rattle.db_state.proofs.SessionMapLaws.{get-with}
use Rattle.db_state.proofs.BookTellLaws.{length-push}
use Rattle.db_state.proofs.GiveLaws.{start_is_bare, given_core}
use Rattle.db_state.proofs.MetLaws.{met_state, met_core}
use Rattle.db_state.proofs.AsFoundLaws.{read_as_found}
use Rattle.db_state.proofs.MoveLaws.{moved_core}

-- what holds of a book holds once a session has given its keys back, where one note more keeps it
given_notes : (P : List Note → Type 0) (stored : Stored) (s : SessionId) (keys : List (Key × Mode)) → P stored.notes → P (stored.notes ++ Gave s ∷ []) → P (given_stored stored s keys).notes
given_notes P stored s [] old more = old
given_notes P stored s (k ∷ keys) old more = more

-- a session that is put twice is there as it was put last
put_twice : (sessions : Sessions) (s : SessionId) (first last : Session) → with_session (with_session sessions s first) s last ≡ with_session sessions s last
put_twice sessions s first last = map.same_map nat_cmp_total exact_unsigned (with_session (with_session sessions s first) s last) (with_session sessions s last) (λ n.
    let t : SessionId = record { 0 = n } in
    get-with (with_session sessions s first) s t last ∙ ap (cond (n == s.0) (Some last)) (get-with sessions s t first) ∙ go (n == s.0) (map.get sessions n) ∙ sym (get-with sessions s t last))
  where
    go : (b : Bool) (o : Option Session) → cond b (Some last) (cond b (Some first) o) ≡ cond b (Some last) o
    go true o = refl
    go false o = refl

module _ (old new : State) (s : SessionId) (doing : Session) (core : IsCore old) (can : CanChange old s doing false) (changes : Changes old new s doing) where
  abbrev stored : Stored
  stored = given_stored old.stored s (keys_in doing.stage)

  -- the session that begins anew, where the book has this length
  abbrev anew : ℕ → Session
  anew long = record doing { is_first = false; used_hints = false; since = long; stage = start }

  -- once it has given its locks back
  abbrev given : State
  given = record { stored = stored; locks = new.locks; seats = old.seats; sessions = with_session old.sessions s (anew (length stored.notes)) }

  given_is : IsCore given
  given_is = given_core old given s doing start core can.runs start_is_bare (record { stored = refl; locks = changes.locks; seats = refl; sessions = refl })

  there_given : map.get given.sessions s.0 ≡ Some (anew (length stored.notes))
  there_given = get-with old.sessions s s (anew (length stored.notes)) ∙ ap (λ (b : Bool). cond b (Some (anew (length stored.notes))) (map.get old.sessions s.0)) (eq-eqb s.0 s.0 refl)

  mine : IsOpened old.stored.notes s doing
  mine = core.opened s doing can.runs.there

  -- another has committed a change since the attempt began to read
  changed : list_any (is_change_beside s) (drop doing.since old.stored.notes) ≡ true
  changed = true_from_ne_false (list_any (is_change_beside s) (drop doing.since old.stored.notes)) (λ quiet. can.differs (read_as_found old.stored core.stored doing.stage (core.found s doing can.runs.there quiet)))

  changed_still : list_any (is_change_beside s) (drop doing.since stored.notes) ≡ true
  changed_still = given_notes (λ (notes : List Note). list_any (is_change_beside s) (drop doing.since notes) ≡ true) old.stored s (keys_in doing.stage) changed
      (ap (list_any (is_change_beside s)) (drop-append-le doing.since old.stored.notes (Gave s ∷ []) mine.since.1)
      ∙ list_any-append (is_change_beside s) (drop doing.since old.stored.notes) (Gave s ∷ []) ∙ ap (λ (b : Bool). b || list_any (is_change_beside s) (Gave s ∷ [])) changed)

  long_still : doing.since ≤ length stored.notes
  long_still = given_notes (λ (notes : List Note). doing.since ≤ length notes) old.stored s (keys_in doing.stage) mine.since.1
      (let more = length-push old.stored.notes (Gave s) in let low : doing.since ≤ length old.stored.notes = mine.since.1 in omega arith)

  opened_given : IsOpened stored.notes s (anew (length stored.notes))
  opened_given = given_is.opened s (anew (length stored.notes)) there_given

  found : Found stored.notes s (Changed doing.since)
  found = (subst (λ (o : Option ℕ). IsSomeAnd o (λ opening. opening < doing.since)) (sym opened_given.place) mine.since.0, long_still, changed_still)

  -- once it has told of the change
  abbrev met : State
  met = met_state given s (Changed doing.since)

  met_is : IsCore met
  met_is = met_core given s (Changed doing.since) given_is (record { doing = anew (length stored.notes); runs = record { there = there_given; running = refl }; cause_there = found; goes_on = refl; within = refl })

  moved_is : IsCore (moved_by met s (anew (length met.stored.notes)))
  moved_is = moved_core met s (anew (length stored.notes)) (anew (length met.stored.notes)) met_is (record {
    runs = record { there = there_given; running = refl };
    goes = record { again = []; found = []; missed = []; places = ([], refl); rows = refl; gaps = refl; before = tt; there = tt; gone = tt; one = omega arith };
    same = refl;
    trail = refl;
    reading = start_is_bare.reading met.stored.inodes met.stored.quotas (held met.stored.notes) s (anew (length met.stored.notes));
    found = λ quiet. (tt, tt);
  })

  same : new ≡ moved_by met s (anew (length met.stored.notes))
  same =
      let sessions : new.sessions ≡ with_session given.sessions s (anew (length met.stored.notes)) =
      changes.sessions ∙ ap (λ (x : Stored). with_session old.sessions s (anew (length x.notes))) changes.stored ∙ sym (put_twice old.sessions s (anew (length stored.notes)) (anew (length met.stored.notes))) in
      rw (← changes.stored, ← changes.seats, ← sessions) refl

  pub differs_at : IsCore new
  differs_at = subst IsCore (sym same) moved_is

-- all that the core keeps, once a session has met a change of what it had found
pub changed_core : (old new : State) (s : SessionId) (doing : Session) → IsCore old → CanChange old s doing false → Changes old new s doing → IsCore new
changed_core old new s doing core can changes = differs_at old new s doing core can changes
