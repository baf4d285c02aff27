-- What each event leaves steady.
use Rattle.std.proofs.Common.{◌≡◌, ◌≢◌, inl, inr, ℕ, ◌+◌, ◌==◌, true, false, if◌then◌else◌, List, [], ◌∷◌, ◌++◌, length, Option, Some, None, unwrap_or, slice_get, refl, sym, ap, subst, ◌∙◌}
use Rattle.std.specs.FinMap as map
use Rattle.std.specs.Ordering.{nat_cmp}
use Rattle.hops_base.specs.Roomy.{Roomy}
use Rattle.hops_base.specs.declared.ids.ClientNo.{ClientNo}
use Rattle.hops_base.specs.declared.ids.Mode.{Mode}
use Rattle.hops_base.specs.declared.ids.NodeNo.{NodeNo}
use Rattle.hops_base.specs.declared.ids.SessionId.{SessionId}
use Rattle.hops_base.specs.declared.key.Key.{Key}
use Rattle.name_space.specs.declared.call.Call.{Call}
use Rattle.name_space.specs.declared.call.Call.TheVariants as call
use Rattle.name_space.specs.declared.reply.Reply.{Reply}
use Rattle.name_space.specs.Call.{paths_of}
use Rattle.name_space.specs.Namespace.{Path}
use Rattle.inode_table.specs.declared.inode.Inode.{Inode}
use Rattle.commit_log.specs.declared.note.Note.{Note}
use Rattle.commit_log.specs.declared.note.Note.TheVariants.{Open, Took, Gave, Did, Met}
use Rattle.commit_log.specs.declared.note.Cause.TheVariants.{Locked, Changed}
use Rattle.commit_log.specs.Legal.{space, space_after}
use Rattle.commit_log.proofs.SpaceLaws.{space-push, space-none}
use Rattle.db_state.specs.declared.session.Session.{Session}
use Rattle.db_state.specs.declared.session.Stage.{Stage}
use Rattle.db_state.specs.declared.session.Stage.TheVariants as stage
use Rattle.db_state.specs.declared.view.Place.{Place}
use Rattle.db_state.specs.Core.{IsCore}
use Rattle.db_state.specs.Moves.{left_in, GoesOn as StagesGoOn}
use Rattle.db_state.specs.Reads.{Reads}
use Rattle.db_state.specs.ReadSteps.{IsOfPath}
use Rattle.db_state.specs.Settings.{Settings}
use Rattle.db_state.specs.Stages.{is_over, keys_in, next_key, rows_in}
use Rattle.db_state.specs.State.{State, opening_state}
use Rattle.db_state.specs.Stored.{Stored}
use Rattle.db_state.specs.Steps.{begun_by, given_stored, met_by, moved_by, new_session, next_session, one_more, opened_by, seat_of, start, taken_by, with_session, without_last, Gives, IsRunning}
use Rattle.db_state.proofs.AllLemmas.{all_both, all_front}
use Rattle.db_state.proofs.SessionMapLaws.{with_all, without_all}
use Rattle.path_resolver.specs.Resolving.{got_by, FindsAll, IsUnresolved, ReadsOne}
use Rattle.chain_check.specs.declared.reread.Reread.TheVariants as reread_told
use Rattle.chain_check.specs.Rereading.{IsRereadStep}
use Rattle.hops_core.specs.declared.progress.Progress.{Progress}
use Rattle.hops_core.specs.declared.progress.Progress.TheVariants as progress
use Rattle.hops_core.specs.Built.{IsBuilt}
use Rattle.hops_core.specs.Commits.{Answers}
use Rattle.hops_core.specs.Events.{GoesOn, IsAdvance, Meets}
use Rattle.hops_core.specs.Reading.{MeetsChange, Moves}
use Rattle.hops_core.specs.Steady.{HasMore, IsInStep, IsLimitless, IsSteady}
use Rattle.hops_core.proofs.LimitLaws.{call_limitless, opening_limitless}
use Rattle.hops_core.proofs.QuotaLaws.{no_mark}
use Rattle.hops_core.proofs.UnlimitedLaws.{got_unlimited, places_unlimited, rows_of, AreUnlimited, IsUnlimited}

-- ---- no directory gets a quota

quiet_limitless : (users : List (List ℕ)) (notes : List Note) (note : Note) → space_after users (space users notes) note ≡ space users notes → IsLimitless (space users notes) → IsLimitless (space users (notes ++ note ∷ []))
quiet_limitless users notes note quiet bare = subst IsLimitless (sym (space-push users notes note ∙ quiet)) bare

did_limitless : (users : List (List ℕ)) (notes : List Note) (s : SessionId) (client : ClientNo) (number : ℕ) (asked : Call) (reads : ℕ) (reply : Reply) → IsBuilt asked → IsLimitless (space users notes)
    → IsLimitless (space users (notes ++ Did s client number asked reads reply ∷ []))
did_limitless users notes s client number asked reads reply built bare =
    subst IsLimitless (sym (space-push users notes (Did s client number asked reads reply))) (call_limitless (space users notes) client (unwrap_or (slice_get users client.0) []) asked built bare)

-- ---- the sessions stay in step

-- one session is put, in step unless it has ended; the others are those that were
steady_put : (old new : State) (s : SessionId) (doing : Session) → IsSteady old → new.sessions ≡ with_session old.sessions s doing → (is_over doing.stage ≡ false → IsInStep doing)
    → IsLimitless (space new.stored.settings.users new.stored.notes) → IsSteady new
steady_put old new s doing steady are here bare = record {
  each = λ t other runs. with_all (λ (t : SessionId) (d : Session). is_over d.stage ≡ false → IsInStep d) old.sessions s doing here (λ t other apart there running. steady.each t other (record { there = there; running = running })) t other
      (subst (λ m. map.get m t.0 ≡ Some other) are runs.there) runs.running;
  limitless = bare;
}

-- a call that is built has one path
of_path : (asked : Call) → IsBuilt asked → IsOfPath asked × ((path : Path) × (paths_of asked ≡ path ∷ []))
of_path (call.Mkdirs path) built = (tt, (path, refl))
of_path (call.Create path overwrite) built = (tt, (path, refl))
of_path (call.Append path) built = absurd (let bad = built in cc)
of_path (call.Grow path bytes) built = absurd (let bad = built in cc)
of_path (call.Close path) built = absurd (let bad = built in cc)
of_path (call.Stat path) built = (tt, (path, refl))
of_path (call.List path) built = (tt, (path, refl))
of_path (call.Delete path recursive) built = (tt, (path, refl))
of_path (call.Rename source target) built = absurd (let bad = built in cc)
of_path (call.Chmod path mode) built = (tt, (path, refl))
of_path (call.SetQuota path names bytes) built = absurd (let bad = built in cc)
of_path (call.Usage path) built = absurd (let bad = built in cc)

-- a session that begins an attempt is in step
in_step_start : (doing : Session) → IsBuilt doing.call → doing.used_hints ≡ false → doing.stage ≡ start → IsInStep doing
in_step_start doing built unhinted is =
    let path = of_path doing.call built in
    record {
      built = built;
      unhinted = unhinted;
      unlimited = subst (λ (st : Stage). AreUnlimited (rows_in st)) (sym is) tt;
      more = subst (HasMore doing) (sym is) (path.1.0, record { of = path.0; one = path.1.1; room = 0; place_room = 0; stage = is; unfinished = inl refl });
    }

module _ (old : State) (s : SessionId) (doing : Session) (runs : IsRunning old s doing) (core : IsCore old) (steady : IsSteady old) where
  step : IsInStep doing
  step = steady.each s doing runs

  none : (at : Key) (row : Inode) → map.get old.stored.inodes at ≡ Some row → row.has_quota ≡ false
  none = no_mark old.stored core.stored steady.limitless

  -- it goes on to another without a note
  moved_steady : (new : State) (after : Session) → new ≡ moved_by old s after → (is_over after.stage ≡ false → IsInStep after) → IsSteady new
  moved_steady new after is here = subst IsSteady (sym is) (steady_put old (moved_by old s after) s after steady refl here steady.limitless)

  -- ---- it resolves its path

  found_unlimited : (path : Path) (found : List (Key × Inode)) → IsUnresolved doing path found → AreUnlimited found
  found_unlimited path found un = subst (λ (st : Stage). AreUnlimited (rows_in st)) un.stage step.unlimited

  reads_one : (new : State) (path : Path) (found : List (Key × Inode)) → IsUnresolved doing path found → ReadsOne old new s doing path found → IsSteady new
  reads_one new path found un one =
      let built : IsBuilt one.after.call = subst (λ (d : Session). IsBuilt d.call) (sym one.is) step.built in
      let unhinted : one.after.used_hints ≡ false = ap (λ (d : Session). d.used_hints) one.is ∙ step.unhinted in
      let rows : AreUnlimited (got_by old path found).0 = got_unlimited old.stored.inodes none path found (found_unlimited path found un) in
      moved_steady new one.after one.moved (λ running. record {
        built = built;
        unhinted = unhinted;
        unlimited = subst (λ (st : Stage). AreUnlimited (rows_in st)) (sym one.unresolved.stage) rows;
        more = subst (HasMore one.after) (sym one.unresolved.stage) (path, one.unresolved);
      })

  no_more_rows : (rows : List (Key × Inode)) → AreUnlimited rows → AreUnlimited ((rows ++ []) ++ [])
  no_more_rows rows all = all_both IsUnlimited (rows ++ []) [] (all_both IsUnlimited rows [] all tt) tt

  finds_all : (new : State) (path : Path) (found : List (Key × Inode)) → IsUnresolved doing path found → FindsAll old new s doing path found → IsSteady new
  finds_all new path found un all =
      let rows : AreUnlimited all.place.found.items = subst AreUnlimited (sym all.rows) (got_unlimited old.stored.inodes none path found (found_unlimited path found un)) in
      moved_steady new _ all.moved (λ running. record {
        built = step.built;
        unhinted = step.unhinted;
        unlimited = no_more_rows all.place.found.items rows;
        more = tt;
      })

  -- ---- it takes a key

  taken_step : (st : Stage) → doing.stage ≡ st → (k : Key × Mode) → next_key st ≡ Some k → IsInStep (record doing { stage = one_more st })
  taken_step (stage.Lock places keys taken) is k next =
      let rows : AreUnlimited (rows_in (stage.Lock places keys taken)) = subst (λ (x : Stage). AreUnlimited (rows_in x)) is step.unlimited in
      (elim (taken + 1 == length keys) as (λ b. IsInStep (record doing { stage = if b then stage.Read places keys else stage.Lock places keys (taken + 1) })) [
        | true ↦ record { built = step.built; unhinted = step.unhinted; unlimited = rows; more = tt }
        | false ↦ record { built = step.built; unhinted = step.unhinted; unlimited = rows; more = tt }
      ])
  taken_step (stage.Resolve places found) is k next = absurd (let bad = next in cc)
  taken_step (stage.Read places keys) is k next = absurd (let bad = next in cc)
  taken_step (stage.Reread reads keys) is k next = absurd (let bad = next in cc)
  taken_step (stage.Commit reads keys) is k next = absurd (let bad = next in cc)
  taken_step stage.Answered is k next = absurd (let bad = next in cc)

  took : (new : State) (k : Key × Mode) → next_key doing.stage ≡ Some k → new ≡ taken_by old s doing k → IsSteady new
  took new k next is = subst IsSteady (sym is)
      (steady_put old (taken_by old s doing k) s (record doing { stage = one_more doing.stage }) steady refl (λ running. taken_step doing.stage refl k next)
      (quiet_limitless old.stored.settings.users old.stored.notes (Took s k.0 k.1) refl steady.limitless))

  -- ---- it reads what it has locked, and reads rows again

  read_step : (st st' : Stage) (after : Session) → doing.stage ≡ st → after.stage ≡ st' → StagesGoOn old.stored.inodes st st' → after.call ≡ doing.call → after.used_hints ≡ doing.used_hints
      → (places : Roomy Place) (keys : List (Key × Mode)) → st ≡ stage.Read places keys → is_over after.stage ≡ false → IsInStep after
  read_step (stage.Read places keys) (stage.Reread reads keys') after is to goes call hints p k e running =
      let rows : AreUnlimited (rows_in (stage.Read places keys)) = subst (λ (x : Stage). AreUnlimited (rows_in x)) is step.unlimited in
      let same : keys' ≡ keys = goes.3 in
      record {
        built = subst IsBuilt (sym call) step.built;
        unhinted = hints ∙ step.unhinted;
        unlimited = subst (λ (x : Stage). AreUnlimited (rows_in x)) (sym to)
            (all_both IsUnlimited (rows_of reads.places) [] (places_unlimited old.stored.inodes keys places.items reads.places goes.0 (all_front IsUnlimited (rows_of places.items) [] rows)) tt);
        more = subst (HasMore after) (sym to) (record { stage = to; some = subst (λ (ks : List (Key × Mode)). left_in ks reads ≢ []) (sym same) goes.2 });
      }
  read_step (stage.Read places keys) (stage.Commit reads keys') after is to goes call hints p k e running =
      let rows : AreUnlimited (rows_in (stage.Read places keys)) = subst (λ (x : Stage). AreUnlimited (rows_in x)) is step.unlimited in
      record {
        built = subst IsBuilt (sym call) step.built;
        unhinted = hints ∙ step.unhinted;
        unlimited = subst (λ (x : Stage). AreUnlimited (rows_in x)) (sym to)
            (all_both IsUnlimited (rows_of reads.places) [] (places_unlimited old.stored.inodes keys places.items reads.places goes.0 (all_front IsUnlimited (rows_of places.items) [] rows)) tt);
        more = subst (HasMore after) (sym to) tt;
      }
  read_step (stage.Read places keys) (stage.Resolve places' found) after is to goes call hints p k e running = absurd goes
  read_step (stage.Read places keys) (stage.Lock places' keys' taken) after is to goes call hints p k e running = absurd goes
  read_step (stage.Read places keys) (stage.Read places' keys') after is to goes call hints p k e running = absurd goes
  read_step (stage.Read places keys) stage.Answered after is to goes call hints p k e running = absurd goes
  read_step (stage.Resolve places found) st' after is to goes call hints p k e running = absurd (let bad = e in cc)
  read_step (stage.Lock places keys taken) st' after is to goes call hints p k e running = absurd (let bad = e in cc)
  read_step (stage.Reread reads keys) st' after is to goes call hints p k e running = absurd (let bad = e in cc)
  read_step (stage.Commit reads keys) st' after is to goes call hints p k e running = absurd (let bad = e in cc)
  read_step stage.Answered st' after is to goes call hints p k e running = absurd (let bad = e in cc)

  reads_locked : (new : State) (places : Roomy Place) (keys : List (Key × Mode)) → doing.stage ≡ stage.Read places keys → Moves old new s doing → IsSteady new
  reads_locked new places keys is moves = moved_steady new moves.after moves.moved
      (read_step doing.stage moves.after.stage moves.after refl refl moves.can.goes (ap (λ (d : Session). d.call) moves.can.same) (ap (λ (d : Session). d.used_hints) moves.can.same) places keys is)

  reread_rows : (reads reads' : Reads) (keys : List (Key × Mode)) → doing.stage ≡ stage.Reread reads keys → reads'.places ≡ reads.places → AreUnlimited (rows_in (stage.Reread reads' keys))
  reread_rows reads reads' keys is same = subst (λ (places : List Place). AreUnlimited (rows_of places ++ [])) (sym same) (subst (λ (x : Stage). AreUnlimited (rows_in x)) is step.unlimited)

  rereads_more : (new : State) (reads : Reads) (keys : List (Key × Mode)) → doing.stage ≡ stage.Reread reads keys → IsRereadStep old s doing reads keys reread_told.More new → IsSteady new
  rereads_more new reads keys is one = moved_steady new (record doing { stage = stage.Reread one.0 keys }) one.2.moved (λ running. record {
    built = step.built;
    unhinted = step.unhinted;
    unlimited = reread_rows reads one.0 keys is one.2.one.places;
    more = record { stage = refl; some = one.1 };
  })

  rereads_last : (new : State) (reads : Reads) (keys : List (Key × Mode)) → doing.stage ≡ stage.Reread reads keys → IsRereadStep old s doing reads keys reread_told.Current new → IsSteady new
  rereads_last new reads keys is one = moved_steady new (record doing { stage = stage.Commit one.0 keys }) one.2.moved (λ running. record {
    built = step.built;
    unhinted = step.unhinted;
    unlimited = reread_rows reads one.0 keys is one.2.one.places;
    more = tt;
  })

  -- ---- it meets a conflict

  met_lock : (new : State) (k : Key × Mode) (holder : SessionId) → new ≡ met_by old s k holder → IsSteady new
  met_lock new k holder is = subst IsSteady (sym is) (record {
    each = λ t other runs. steady.each t other (record { there = runs.there; running = runs.running });
    limitless = quiet_limitless old.stored.settings.users old.stored.notes (Met s (Locked k.0 k.1 holder)) refl steady.limitless;
  })

  given_limitless : (keys : List (Key × Mode)) → IsLimitless (space (given_stored old.stored s keys).settings.users (given_stored old.stored s keys).notes)
  given_limitless [] = steady.limitless
  given_limitless (k ∷ keys) = quiet_limitless old.stored.settings.users old.stored.notes (Gave s) refl steady.limitless

  same_users : (keys : List (Key × Mode)) → (given_stored old.stored s keys).settings.users ≡ old.stored.settings.users
  same_users [] = refl
  same_users (k ∷ keys) = refl

  met_change : (new : State) (i : ℕ) → MeetsChange old new s doing i → IsSteady new
  met_change new i met =
      let given = given_stored old.stored s (keys_in doing.stage) in
      let bare : IsLimitless (space given.settings.users (given.notes ++ Met s (Changed doing.since) ∷ [])) = quiet_limitless given.settings.users given.notes (Met s (Changed doing.since)) refl (given_limitless (keys_in doing.stage)) in
      steady_put old new s _ steady met.changes.sessions
      (λ running. in_step_start (record doing { is_first = false; used_hints = false; since = length new.stored.notes; stage = start }) step.built refl refl)
      (subst (λ (st : Stored). IsLimitless (space st.settings.users st.notes)) (sym met.changes.stored) bare)

  -- ---- it answers

  answered : (new : State) (i : ℕ) (reply : Reply) → Answers old new s doing i reply → IsSteady new
  answered new i reply done =
      let bare : IsLimitless (space old.stored.settings.users (old.stored.notes ++ Did s doing.client doing.number doing.call doing.reads reply ∷ [])) =
      did_limitless old.stored.settings.users old.stored.notes s doing.client doing.number doing.call doing.reads reply step.built steady.limitless in
      steady_put old new s _ steady done.completes.sessions (λ running. absurd (let bad = running in cc))
      (subst (λ (st : Stored). IsLimitless (space st.settings.users st.notes)) (sym done.completes.stored) bare)

  -- ---- so it is after each step

  goes_steady : (new : State) (st : Stage) → doing.stage ≡ st → GoesOn old s doing st new → IsSteady new
  goes_steady new (stage.Resolve places found) is goes = elim goes.2 [
    | inl one ↦ reads_one new goes.0 found.items goes.1 one
    | inr all ↦ finds_all new goes.0 found.items goes.1 all
  ]
  goes_steady new (stage.Lock places keys taken) is goes = took new goes.next goes.can.next goes.taken
  goes_steady new (stage.Read places keys) is goes = reads_locked new places keys is goes
  goes_steady new (stage.Reread reads keys) is goes = elim goes [
    | inl more ↦ rereads_more new reads keys is more
    | inr last ↦ rereads_last new reads keys is last
  ]
  goes_steady new (stage.Commit reads keys) is goes = absurd goes
  goes_steady new stage.Answered is goes = absurd goes

  meets_steady : (new : State) (st : Stage) (i : ℕ) → Meets old s doing st i new → IsSteady new
  meets_steady new (stage.Resolve places found) i met = absurd met
  meets_steady new (stage.Lock places keys taken) i met = met_lock new met.next met.holder met.met
  meets_steady new (stage.Read places keys) i met = met_change new i met
  meets_steady new (stage.Reread reads keys) i met = met_change new i met
  meets_steady new (stage.Commit reads keys) i met = absurd met
  meets_steady new stage.Answered i met = absurd met

  pub advance_steady : (told : Progress) (new : State) → IsAdvance old s doing told new → IsSteady new
  advance_steady progress.More new made = goes_steady new doing.stage refl made
  advance_steady (progress.Met i) new made = meets_steady new doing.stage i made
  advance_steady (progress.Done i reply) new made = answered new i reply made
  advance_steady (progress.Fenced i) new made = absurd made
  advance_steady progress.NoMemory new made = subst IsSteady (sym made) steady

  -- ---- it is given up

  pub quit_steady : (new : State) → Gives old new s doing stage.Answered → IsSteady new
  quit_steady new gives =
      steady_put old new s _ steady gives.sessions (λ running. absurd (let bad = running in cc))
      (subst (λ (st : Stored). IsLimitless (space st.settings.users st.notes)) (sym gives.stored) (given_limitless (keys_in doing.stage)))

-- ---- a session is opened

fewer : (old : State) (last : Option SessionId) → IsSteady old → (t : SessionId) (other : Session) → map.get (without_last old.sessions last) t.0 ≡ Some other → is_over other.stage ≡ false → IsInStep other
fewer old None steady t other there running = steady.each t other (record { there = there; running = running })
fewer old (Some last) steady t other there running =
    without_all (λ (t : SessionId) (d : Session). is_over d.stage ≡ false → IsInStep d) old.sessions last (λ t other there running. steady.each t other (record { there = there; running = running })) t other there running

pub opened_steady : (old : State) (client : ClientNo) (number : ℕ) (asked : Call) (node : NodeNo) → IsSteady old → IsBuilt asked → IsSteady (opened_by old client number asked node)
opened_steady old client number asked node steady built = record {
  each = λ t other runs. with_all (λ (t : SessionId) (d : Session). is_over d.stage ≡ false → IsInStep d) (without_last old.sessions (seat_of old.seats client).last) (next_session old)
      (new_session client number asked node (length old.stored.notes))
      (λ running. in_step_start (new_session client number asked node (length old.stored.notes)) built refl refl)
      (λ t other apart there running. fewer old (seat_of old.seats client).last steady t other there running) t other runs.there runs.running;
  limitless = quiet_limitless old.stored.settings.users old.stored.notes (Open (next_session old) client number node) refl steady.limitless;
}

pub begun_steady : (old : State) (client : ClientNo) (number : ℕ) → IsSteady old → IsSteady (begun_by old client number)
begun_steady old client number steady = record { each = λ t other runs. steady.each t other (record { there = runs.there; running = runs.running }); limitless = steady.limitless }

pub opening_steady : (settings : Settings) → IsSteady (opening_state settings)
opening_steady settings = record {
  each = λ t other runs. absurd (let bad = sym (map.get-empty {X = Session} nat_cmp t.0) ∙ runs.there in cc);
  limitless = subst IsLimitless (sym (space-none settings.users)) opening_limitless;
}
