-- What each event of a session leaves as it was.
use Rattle.std.proofs.Common.{◌≡◌, ◌≢◌, inl, inr, ℕ, ◌≤◌, ◌==◌, Bool, true, false, ◌&&◌, cond, List, [], ◌∷◌, ◌++◌, Some, None, slice_get, refl, sym, ap, subst, ◌∙◌, arith, append_assoc, eqb-true}
use Rattle.std.specs.FinMap as map
use Rattle.std.specs.List.{AllByRecursion, count_by}
use Rattle.hops_base.specs.declared.ids.Mode.{Mode}
use Rattle.hops_base.specs.declared.ids.SessionId.{SessionId}
use Rattle.hops_base.specs.declared.key.Key.{Key}
use Rattle.hops_base.specs.Key.{same_key}
use Rattle.name_space.specs.declared.reply.Reply.{Reply}
use Rattle.row_locks.specs.Locks.{mode_of, IsGivenBack}
use Rattle.commit_log.specs.declared.note.Note.{Note}
use Rattle.commit_log.specs.declared.note.Note.TheVariants.{Took, Gave, Did, Met}
use Rattle.commit_log.specs.declared.note.Cause.TheVariants.{Locked, Changed}
use Rattle.commit_log.specs.Parts.{actor, is_commit}
use Rattle.db_state.specs.declared.session.Seat.{Seat}
use Rattle.db_state.specs.declared.session.Session.{Session}
use Rattle.db_state.specs.declared.session.Stage.{Stage}
use Rattle.db_state.specs.declared.session.Stage.TheVariants as stage
use Rattle.db_state.specs.Stages.{keys_in}
use Rattle.db_state.specs.State.{State}
use Rattle.db_state.specs.Stored.{Stored}
use Rattle.db_state.specs.Steps.{given_stored, met_by, moved_by, taken_by, with_session, Gives}
use Rattle.db_state.proofs.LockPartLaws.{mode_of-put}
use Rattle.db_state.proofs.SeatLaws.{get-set_other}
use Rattle.db_state.proofs.SessionMapLaws.{get-with}
use Rattle.hops_core.specs.declared.progress.Progress.{Progress}
use Rattle.hops_core.specs.declared.progress.Progress.TheVariants as progress
use Rattle.hops_core.specs.Commits.{Answers}
use Rattle.hops_core.specs.Events.{GoesOn, IsAdvance, Meets}
use Rattle.hops_core.specs.Follows.{is_took, Follows, IsOfSession}
use Rattle.hops_core.specs.Reading.{MeetsChange}

unequal : (a b : ℕ) → a ≢ b → (a == b) ≡ false
unequal a b apart = (elim (a == b) as (λ t. (a == b) ≡ t → t ≡ false) [
  | true ↦ λ is. absurd (apart (eqb-true a b is))
  | false ↦ λ is. refl
]) refl

-- other sessions stay as one is put
others_stay : (old new : State) (s : SessionId) (doing : Session) → new.sessions ≡ with_session old.sessions s doing → (t : SessionId) → t.0 ≢ s.0 → map.get new.sessions t.0 ≡ map.get old.sessions t.0
others_stay old new s doing is t apart =
    ap (λ m. map.get m t.0) is ∙ get-with old.sessions s t doing ∙ ap (λ (b : Bool). cond b (Some doing) (map.get old.sessions t.0)) (unequal t.0 s.0 apart)

-- and keep what they hold as one gives its locks back
locks_stay : (old new : State) (s : SessionId) → IsGivenBack s old.locks new.locks → (t : SessionId) (at : Key) → t.0 ≢ s.0 → mode_of new.locks t at ≡ mode_of old.locks t at
locks_stay old new s given t at apart = given t at ∙ ap (λ (b : Bool). cond b None (mode_of old.locks t at)) (unequal t.0 s.0 apart)

no_more : (notes : List Note) → notes ≡ notes ++ []
no_more [] = refl
no_more (note ∷ notes) = ap (λ (rest : List Note). note ∷ rest) (no_more notes)

-- the notes by which a session gives back these keys
abbrev gave_for : SessionId → List (Key × Mode) → List Note
gave_for s [] = []
gave_for s (k ∷ keys) = Gave s ∷ []

given_notes : (stored : Stored) (s : SessionId) (keys : List (Key × Mode)) → (given_stored stored s keys).notes ≡ stored.notes ++ gave_for s keys
given_notes stored s [] = no_more stored.notes
given_notes stored s (k ∷ keys) = refl

given_rows : (stored : Stored) (s : SessionId) (keys : List (Key × Mode)) → ((given_stored stored s keys).inodes ≡ stored.inodes) × ((given_stored stored s keys).quotas ≡ stored.quotas)
given_rows stored s [] = (refl, refl)
given_rows stored s (k ∷ keys) = (refl, refl)

given_settings : (stored : Stored) (s : SessionId) (keys : List (Key × Mode)) → (given_stored stored s keys).settings ≡ stored.settings
given_settings stored s [] = refl
given_settings stored s (k ∷ keys) = refl

module _ (old : State) (s : SessionId) (doing : Session) where
  -- without a note
  moved_follows : (new : State) (after : Session) → new ≡ moved_by old s after → Follows old new s doing
  moved_follows new after is = subst (λ (x : State). Follows old x s doing) (sym is) (record {
    added = [];
    notes = no_more old.stored.notes;
    own = tt;
    tooks = omega arith;
    commits = omega arith;
    rows = λ quiet. (refl, refl);
    answer = tt;
    settings = refl;
    locks = λ t at apart. refl;
    others = others_stay old (moved_by old s after) s after refl;
    seats = λ client apart. refl;
  })

  took_follows : (new : State) (k : Key × Mode) → new ≡ taken_by old s doing k → Follows old new s doing
  took_follows new k is = subst (λ (x : State). Follows old x s doing) (sym is) (record {
    added = Took s k.0 k.1 ∷ [];
    notes = refl;
    own = (refl, tt);
    tooks = omega arith;
    commits = omega arith;
    rows = λ quiet. (refl, refl);
    answer = (tt, tt);
    settings = refl;
    locks = λ t at apart. mode_of-put old.locks s t k.0 at k.1 ∙ ap (λ (b : Bool). cond (b && same_key at k.0) (Some k.1) (mode_of old.locks t at)) (unequal t.0 s.0 apart);
    others = others_stay old (taken_by old s doing k) s _ refl;
    seats = λ client apart. refl;
  })

  met_follows : (new : State) (k : Key × Mode) (holder : SessionId) → new ≡ met_by old s k holder → Follows old new s doing
  met_follows new k holder is = subst (λ (x : State). Follows old x s doing) (sym is) (record {
    added = Met s (Locked k.0 k.1 holder) ∷ [];
    notes = refl;
    own = (refl, tt);
    tooks = omega arith;
    commits = omega arith;
    rows = λ quiet. (refl, refl);
    answer = (tt, tt);
    settings = refl;
    locks = λ t at apart. refl;
    others = λ t apart. refl;
    seats = λ client apart. refl;
  })

  -- what is given back and what is told of it
  changed_notes : (keys : List (Key × Mode)) → (added : List Note) × (added ≡ gave_for s keys ++ Met s (Changed doing.since) ∷ []) × AllByRecursion (λ (note : Note). actor note ≡ Some s) added
      × (count_by is_took added ≤ 1) × (count_by is_commit added ≤ 1) × AllByRecursion (IsOfSession doing) added
  changed_notes [] = (Met s (Changed doing.since) ∷ [], refl, (refl, tt), omega arith, omega arith, (tt, tt))
  changed_notes (k ∷ keys) = (Gave s ∷ Met s (Changed doing.since) ∷ [], refl, (refl, (refl, tt)), omega arith, omega arith, (tt, (tt, tt)))

  change_follows : (new : State) (i : ℕ) → MeetsChange old new s doing i → Follows old new s doing
  change_follows new i met =
      let keys = keys_in doing.stage in
      let told = changed_notes keys in
      let book : new.stored.notes ≡ old.stored.notes ++ told.0 =
      ap (λ (st : Stored). st.notes) met.changes.stored
      ∙ ap (λ (ns : List Note). ns ++ Met s (Changed doing.since) ∷ []) (given_notes old.stored s keys)
      ∙ append_assoc old.stored.notes (gave_for s keys) (Met s (Changed doing.since) ∷ [])
      ∙ ap (λ (ns : List Note). old.stored.notes ++ ns) (sym told.1) in
      let rows = given_rows old.stored s keys in
      record {
        added = told.0;
        notes = book;
        own = told.2;
        tooks = told.3;
        commits = told.4;
        rows = λ quiet. (ap (λ (st : Stored). st.inodes) met.changes.stored ∙ rows.0, ap (λ (st : Stored). st.quotas) met.changes.stored ∙ rows.1);
        answer = told.5;
        settings = ap (λ (st : Stored). st.settings) met.changes.stored ∙ given_settings old.stored s keys;
        locks = locks_stay old new s met.changes.locks;
        others = others_stay old new s _ met.changes.sessions;
        seats = λ client apart. ap (λ (seats : List Seat). slice_get seats client.0) met.changes.seats;
      }

  answer_follows : (new : State) (i : ℕ) (reply : Reply) → Answers old new s doing i reply → Follows old new s doing
  answer_follows new i reply done = record {
    added = Did s doing.client doing.number doing.call doing.reads reply ∷ [];
    notes = ap (λ (st : Stored). st.notes) done.completes.stored;
    own = (refl, tt);
    tooks = omega arith;
    commits = omega arith;
    rows = λ quiet. absurd (let bad = quiet in cc);
    answer = ((refl, refl, refl, refl), tt);
    settings = ap (λ (st : Stored). st.settings) done.completes.stored;
    locks = locks_stay old new s done.completes.locks;
    others = others_stay old new s _ done.completes.sessions;
    seats = λ client apart. ap (λ (seats : List Seat). slice_get seats client.0) done.completes.seats ∙ get-set_other old.seats doing.client.0 client.0 _ apart;
  }

  -- ---- so it is after each step

  goes_follows : (new : State) (st : Stage) → GoesOn old s doing st new → Follows old new s doing
  goes_follows new (stage.Resolve places found) goes = elim goes.2 [
    | inl one ↦ moved_follows new one.after one.moved
    | inr all ↦ moved_follows new _ all.moved
  ]
  goes_follows new (stage.Lock places keys taken) goes = took_follows new goes.next goes.taken
  goes_follows new (stage.Read places keys) goes = moved_follows new goes.after goes.moved
  goes_follows new (stage.Reread reads keys) goes = elim goes [
    | inl more ↦ moved_follows new _ more.2.moved
    | inr last ↦ moved_follows new _ last.2.moved
  ]
  goes_follows new (stage.Commit reads keys) goes = absurd goes
  goes_follows new stage.Answered goes = absurd goes

  meets_follows : (new : State) (st : Stage) (i : ℕ) → Meets old s doing st i new → Follows old new s doing
  meets_follows new (stage.Resolve places found) i met = absurd met
  meets_follows new (stage.Lock places keys taken) i met = met_follows new met.next met.holder met.met
  meets_follows new (stage.Read places keys) i met = change_follows new i met
  meets_follows new (stage.Reread reads keys) i met = change_follows new i met
  meets_follows new (stage.Commit reads keys) i met = absurd met
  meets_follows new stage.Answered i met = absurd met

  unchanged_follows : (new : State) → new ≡ old → Follows old new s doing
  unchanged_follows new is = subst (λ (x : State). Follows old x s doing) (sym is) (record {
    added = [];
    notes = no_more old.stored.notes;
    own = tt;
    tooks = omega arith;
    commits = omega arith;
    rows = λ quiet. (refl, refl);
    answer = tt;
    settings = refl;
    locks = λ t at apart. refl;
    others = λ t apart. refl;
    seats = λ client apart. refl;
  })

  pub advance_follows : (told : Progress) (new : State) → IsAdvance old s doing told new → Follows old new s doing
  advance_follows progress.More new made = goes_follows new doing.stage made
  advance_follows (progress.Met i) new made = meets_follows new doing.stage i made
  advance_follows (progress.Done i reply) new made = answer_follows new i reply made
  advance_follows (progress.Fenced i) new made = absurd made
  advance_follows progress.NoMemory new made = unchanged_follows new made

  -- ---- and once it is given up

  gave_notes : (keys : List (Key × Mode)) → AllByRecursion (λ (note : Note). actor note ≡ Some s) (gave_for s keys)
      × (count_by is_took (gave_for s keys) ≤ 1) × (count_by is_commit (gave_for s keys) ≤ 1) × AllByRecursion (IsOfSession doing) (gave_for s keys)
  gave_notes [] = (tt, omega arith, omega arith, tt)
  gave_notes (k ∷ keys) = ((refl, tt), omega arith, omega arith, (tt, tt))

  pub quit_follows : (new : State) → Gives old new s doing stage.Answered → Follows old new s doing
  quit_follows new gives =
      let keys = keys_in doing.stage in
      let told = gave_notes keys in
      let rows = given_rows old.stored s keys in
      record {
        added = gave_for s keys;
        notes = ap (λ (st : Stored). st.notes) gives.stored ∙ given_notes old.stored s keys;
        own = told.0;
        tooks = told.1;
        commits = told.2;
        rows = λ quiet. (ap (λ (st : Stored). st.inodes) gives.stored ∙ rows.0, ap (λ (st : Stored). st.quotas) gives.stored ∙ rows.1);
        answer = told.3;
        settings = ap (λ (st : Stored). st.settings) gives.stored ∙ given_settings old.stored s keys;
        locks = locks_stay old new s gives.locks;
        others = others_stay old new s _ gives.sessions;
        seats = λ client apart. ap (λ (seats : List Seat). slice_get seats client.0) gives.seats;
      }
