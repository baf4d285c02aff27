-- A session of the one client goes on its way: it takes locks and meets nobody.
use Rattle.std.proofs.Common.{◌≡◌, ℕ, zero, suc, ◌+◌, ◌≤◌, ◌<◌, Bool, true, false, not, ◌||◌, ◌==◌, cond, List, [], ◌∷◌, ◌++◌, length, drop, slice_get, Option, Some, None, refl, ap, sym, subst, ◌∙◌, arith, append_assoc, inl, inr}
use Rattle.std.specs.FinMap as map
use Rattle.std.specs.List.{list_any}
use Rattle.std.specs.Option.{option_map_or}
use Rattle.std.specs.Cmp.{first_so, second_so}
use Rattle.std.proofs.lemmas.Bool.{eq-eqb}
use Rattle.std.proofs.lemmas.List.{length-append, map-append}
use Rattle.hops_base.specs.declared.ids.Mode.{Mode}
use Rattle.hops_base.specs.declared.ids.SessionId.{SessionId}
use Rattle.hops_base.specs.declared.key.Key.{Key}
use Rattle.hops_base.specs.Mode.{conflict}
use Rattle.row_locks.specs.Locks.{mode_of, keeps_away}
use Rattle.row_locks.specs.Plans.{planned_mode}
use Rattle.commit_log.specs.declared.note.Note.{Note}
use Rattle.commit_log.specs.declared.note.Note.TheVariants.{Took}
use Rattle.commit_log.specs.Licensed.{is_change_beside}
use Rattle.db_state.specs.declared.session.Seat.{Seat}
use Rattle.db_state.specs.declared.session.Session.{Session}
use Rattle.db_state.specs.declared.session.Stage.{Stage}
use Rattle.db_state.specs.declared.session.Stage.TheVariants.{Resolve, Lock, Read, Reread, Commit, Answered}
use Rattle.db_state.specs.Core.{IsCore}
use Rattle.db_state.specs.LockParts.{keys_of_session}
use Rattle.db_state.specs.Moves as moves
use Rattle.db_state.specs.Stages.{is_over, phase_of}
use Rattle.db_state.specs.Stored.{Inodes}
use Rattle.db_state.specs.State.{State}
use Rattle.db_state.specs.Steps.{moved_by, one_more, taken_by}
use Rattle.db_state.proofs.AsFoundLaws.{read_as_found}
use Rattle.db_state.proofs.SessionMapLaws.{get-with}
use Rattle.hops_core.specs.Events.{GoesOn, Meets}
use Rattle.hops_cli.specs.Turning.{takes, rank, Start, IsUnderway}

-- ---- it goes on

-- the book was as long at least, whichever is kept
since_low : (stage : Stage) (since long low : ℕ) → low ≤ since → low ≤ long → low ≤ moves.since_after stage since long
since_low stage since long low before now = elim (moves.read_in stage == 0) as (λ b. low ≤ cond b long since) [ true ↦ now | false ↦ before ]

front_short : (front back : List Note) → length front ≤ length (front ++ back)
front_short front back = let e = length-append front back in omega arith

-- so is the book of a session on its way
pub book_long : (start : Start) (s : SessionId) (r : ℕ) (old : State) (u : IsUnderway start s r old) → length start.before ≤ length old.stored.notes
book_long start s r old u = subst (λ (notes : List Note). length start.before ≤ length notes) (sym u.notes) (front_short start.before (takes s u.keys))

-- the session that is put is there
pub put_there : (old : State) (s : SessionId) (after : Session) → map.get (moved_by old s after).sessions s.0 ≡ Some after
put_there old s after = get-with old.sessions s s after ∙ ap (λ (b : Bool). cond b (Some after) (map.get old.sessions s.0)) (eq-eqb s.0 s.0 refl)

-- without a note it is on its way still
moved : (start : Start) (s : SessionId) (r : ℕ) (old : State) (u : IsUnderway start s r old) (after : Session) → after.client ≡ u.doing.client → after.number ≡ u.doing.number → after.call ≡ u.doing.call
    → length start.before ≤ after.since → is_over after.stage ≡ false → r ≤ rank (phase_of after.stage) → IsUnderway start s r (moved_by old s after)
moved start s r old u after by as_number as_call since running comes = record {
  doing = after;
  runs = record { there = put_there old s after; running = running };
  one = u.one;
  client_is = by ∙ u.client_is;
  number_is = as_number ∙ u.number_is;
  call_is = as_call ∙ u.call_is;
  keys = u.keys;
  notes = u.notes;
  settings = u.settings;
  since = since;
  comes = comes;
}

-- with a lock more it is too
locked : (start : Start) (s : SessionId) (r : ℕ) (old : State) (u : IsUnderway start s r old) (k : Key × Mode) → is_over (one_more u.doing.stage) ≡ false → r ≤ rank (phase_of (one_more u.doing.stage))
    → IsUnderway start s r (taken_by old s u.doing k)
locked start s r old u k running comes = record {
  doing = record u.doing { stage = one_more u.doing.stage };
  runs = record { there = put_there old s (record u.doing { stage = one_more u.doing.stage }); running = running };
  one = u.one;
  client_is = u.client_is;
  number_is = u.number_is;
  call_is = u.call_is;
  keys = u.keys ++ k ∷ [];
  notes = ap (λ (notes : List Note). notes ++ Took s k.0 k.1 ∷ []) u.notes
      ∙ append_assoc start.before (takes s u.keys) (Took s k.0 k.1 ∷ [])
      ∙ ap (λ (notes : List Note). start.before ++ notes) (sym (map-append (λ (key : Key × Mode). Took s key.0 key.1) u.keys (k ∷ [])));
  settings = u.settings;
  since = u.since;
  comes = comes;
}

-- its next lock brings it to this stage
one_more_at : (stage : Stage) (places : _) (keys : List (Key × Mode)) (taken r : ℕ) → stage ≡ Lock places keys taken → r ≤ 1 → (is_over (one_more stage) ≡ false) × (r ≤ rank (phase_of (one_more stage)))
one_more_at stage places keys taken r is low =
    subst (λ (at : Stage). (is_over (one_more at) ≡ false) × (r ≤ rank (phase_of (one_more at)))) (sym is)
    (elim (taken + 1 == length keys) as (λ b. (is_over (cond b (Read places keys) (Lock places keys (taken + 1))) ≡ false) × (r ≤ rank (phase_of (cond b (Read places keys) (Lock places keys (taken + 1)))))) [
      | true ↦ (refl, omega arith)
      | false ↦ (refl, low)
    ])

-- what it reads under its locks brings it to reread or to answer
read_on : (inodes : Inodes) (places : _) (keys : List (Key × Mode)) (stage after : Stage) (r : ℕ) → stage ≡ Read places keys → moves.GoesOn inodes stage after → r ≤ 2 → (is_over after ≡ false) × (3 ≤ rank (phase_of after))
read_on inodes places keys stage after r is goes low = by after (subst (λ (at : Stage). moves.GoesOn inodes at after) is goes)
  where
    by : (after : Stage) → moves.GoesOn inodes (Read places keys) after → (is_over after ≡ false) × (3 ≤ rank (phase_of after))
    by (Resolve places' found) g = absurd g
    by (Lock places' keys' taken) g = absurd g
    by (Read places' keys') g = absurd g
    by (Reread reads keys') g = (refl, omega arith)
    by (Commit reads keys') g = (refl, omega arith)
    by Answered g = absurd g

-- whatever its step, it is on its way still
pub goes : (start : Start) (s : SessionId) (r : ℕ) (old new : State) (u : IsUnderway start s r old) (stage : Stage) → u.doing.stage ≡ stage → GoesOn old s u.doing stage new → IsUnderway start s r new
goes start s r old new u (Resolve places found) is g =
    let low : r ≤ 0 = subst (λ (at : Stage). r ≤ rank (phase_of at)) is u.comes in
    let since = since_low u.doing.stage u.doing.since (length old.stored.notes) (length start.before) u.since (book_long start s r old u) in
    elim g.2 [
      | inl reads ↦
          subst (IsUnderway start s r) (sym reads.moved)
          (moved start s r old u reads.after (ap (λ (d : Session). d.client) reads.is) (ap (λ (d : Session). d.number) reads.is) (ap (λ (d : Session). d.call) reads.is)
          (subst (λ (d : Session). length start.before ≤ d.since) (sym reads.is) since)
          (ap (λ (d : Session). is_over d.stage) reads.is)
          (subst (λ (d : Session). r ≤ rank (phase_of d.stage)) (sym reads.is) low))
      | inr finds ↦ subst (IsUnderway start s r) (sym finds.moved) (moved start s r old u _ refl refl refl since refl (omega arith))
    ]
goes start s r old new u (Lock places keys taken) is g =
    let low : r ≤ 1 = subst (λ (at : Stage). r ≤ rank (phase_of at)) is u.comes in
    let next = one_more_at u.doing.stage places keys taken r is low in
    subst (IsUnderway start s r) (sym g.taken) (locked start s r old u g.next next.0 next.1)
goes start s r old new u (Read places keys) is g =
    let low : r ≤ 2 = subst (λ (at : Stage). r ≤ rank (phase_of at)) is u.comes in
    let next = read_on old.stored.inodes places keys u.doing.stage g.after.stage r is g.can.goes low in
    let far : 3 ≤ rank (phase_of g.after.stage) = next.1 in
    subst (IsUnderway start s r) (sym g.moved)
    (moved start s r old u g.after (ap (λ (d : Session). d.client) g.can.same) (ap (λ (d : Session). d.number) g.can.same) (ap (λ (d : Session). d.call) g.can.same)
    (subst (λ (d : Session). length start.before ≤ d.since) (sym g.can.same)
    (since_low u.doing.stage u.doing.since (length old.stored.notes) (length start.before) u.since (book_long start s r old u)))
    next.0 (omega arith))
goes start s r old new u (Reread reads keys) is g =
    let low : r ≤ 3 = subst (λ (at : Stage). r ≤ rank (phase_of at)) is u.comes in
    elim g [
      | inl more ↦ subst (IsUnderway start s r) (sym more.2.moved) (moved start s r old u (record u.doing { stage = Reread more.0 keys }) refl refl refl u.since refl low)
      | inr last ↦ subst (IsUnderway start s r) (sym last.2.moved) (moved start s r old u (record u.doing { stage = Commit last.0 keys }) refl refl refl u.since refl (omega arith))
    ]
goes start s r old new u (Commit reads keys) is g = absurd g
goes start s r old new u Answered is g = absurd g

-- it is on its way from any phase that isn't behind its own
pub further : (start : Start) (s : SessionId) (r least : ℕ) (state : State) (u : IsUnderway start s r state) → least ≤ rank (phase_of u.doing.stage) → IsUnderway start s least state
further start s r least state u comes = record {
  doing = u.doing;
  runs = u.runs;
  one = u.one;
  client_is = u.client_is;
  number_is = u.number_is;
  call_is = u.call_is;
  keys = u.keys;
  notes = u.notes;
  settings = u.settings;
  since = u.since;
  comes = comes;
}

-- ---- it meets nobody

none_dropped : (p : Note → Bool) (k : ℕ) (notes : List Note) → list_any p notes ≡ false → list_any p (drop k notes) ≡ false
none_dropped p zero notes e = e
none_dropped p (suc k) [] e = refl
none_dropped p (suc k) (note ∷ notes) e = none_dropped p k notes (rest (p note) e)
  where
    rest : (b : Bool) → (b || list_any p notes) ≡ false → list_any p notes ≡ false
    rest true h = absurd (let bad = h in cc)
    rest false h = h

none_behind : (p : Note → Bool) (k : ℕ) (front back : List Note) → length front ≤ k → list_any p back ≡ false → list_any p (drop k (front ++ back)) ≡ false
none_behind p k [] back long e = none_dropped p k back e
none_behind p zero (note ∷ front) back long e = absurd (omega arith)
none_behind p (suc k) (note ∷ front) back long e = none_behind p k front back (omega arith) e

takes_quiet : (s : SessionId) (keys : List (Key × Mode)) → list_any (is_change_beside s) (takes s keys) ≡ false
takes_quiet s [] = refl
takes_quiet s (k ∷ keys) = takes_quiet s keys

-- nobody has changed anything since it began to read
alone : (start : Start) (s : SessionId) (r : ℕ) (old : State) (u : IsUnderway start s r old) → list_any (is_change_beside s) (drop u.doing.since old.stored.notes) ≡ false
alone start s r old u =
    subst (λ (notes : List Note). list_any (is_change_beside s) (drop u.doing.since notes) ≡ false) (sym u.notes)
    (none_behind (is_change_beside s) u.doing.since start.before (takes s u.keys) u.since (takes_quiet s u.keys))

within : {X : Type 0} (xs : List X) (i : ℕ) (x : X) → slice_get xs i ≡ Some x → i < length xs
within [] i x e = absurd (let bad = e in cc)
within (y ∷ xs) zero x e = omega arith
within (y ∷ xs) (suc i) x e = let rest = within xs i x e in omega arith

-- any session that is there is this one
only_one : (start : Start) (s : SessionId) (r : ℕ) (old : State) (u : IsUnderway start s r old) → IsCore old → (h : SessionId) (other : Session) → map.get old.sessions h.0 ≡ Some other → (h.0 == s.0) ≡ true
only_one start s r old u core h other there =
    let hers = core.seats.seated h other there in
    let mine = core.seats.seated s u.doing u.runs.there in
    let one : length old.seats ≡ 1 = core.seats.each ∙ ap (λ (settings : _). length settings.users) u.settings ∙ u.one in
    let low : other.client.0 < length old.seats = within old.seats other.client.0 hers.seat hers.there in
    let at : other.client.0 ≡ 0 = omega arith in
    let mine_at : u.doing.client.0 ≡ 0 = ap (λ (c : _). c.0) u.client_is in
    let same : Some hers.seat ≡ Some mine.seat = sym hers.there ∙ ap (slice_get old.seats) (at ∙ sym mine_at) ∙ mine.there in
    let seats : hers.seat ≡ mine.seat = cc in
    let lasts : Some h ≡ Some s = sym hers.last ∙ ap (λ (seat : Seat). seat.last) seats ∙ mine.last in
    let sessions : h ≡ s = cc in
    eq-eqb h.0 s.0 (ap (λ (t : SessionId). t.0) sessions)

no_holder : (start : Start) (s : SessionId) (r : ℕ) (old : State) (u : IsUnderway start s r old) → IsCore old → (key : Key) (mode : Mode) (h : SessionId) → keeps_away old.locks s key mode h ≡ true → ⊥
no_holder start s r old u core key mode h keeps =
    let other : not (h.0 == s.0) ≡ true = first_so _ _ keeps in
    let holds : option_map_or (conflict mode) (mode_of old.locks h key) false ≡ true = second_so _ _ keeps in
    let planned : option_map_or (conflict mode) (planned_mode (keys_of_session (map.get old.sessions h.0)) key) false ≡ true = subst (λ (m : Option Mode). option_map_or (conflict mode) m false ≡ true) (core.plans h key) holds in
    (elim (map.get old.sessions h.0) as (λ o. map.get old.sessions h.0 ≡ o → option_map_or (conflict mode) (planned_mode (keys_of_session o) key) false ≡ true → ⊥) [
      | None ↦ λ is e. absurd (let bad = e in cc)
      | Some there ↦ λ is e. (let same = only_one start s r old u core h there is in let bad : not true ≡ true = subst (λ (b : Bool). not b ≡ true) same other in absurd (let no = bad in cc))
    ]) refl planned

-- it meets no conflict
pub never_meets : (start : Start) (s : SessionId) (r : ℕ) (old new : State) (i : ℕ) (u : IsUnderway start s r old) → IsCore old → (stage : Stage) → Meets old s u.doing stage i new → ⊥
never_meets start s r old new i u core (Resolve places found) m = m
never_meets start s r old new i u core (Lock places keys taken) m = no_holder start s r old u core m.next.0 m.next.1 m.holder m.can.busy.keeps
never_meets start s r old new i u core (Read places keys) m =
    m.can.differs (read_as_found old.stored core.stored u.doing.stage (core.found s u.doing u.runs.there (alone start s r old u)))
never_meets start s r old new i u core (Reread reads keys) m =
    m.can.differs (read_as_found old.stored core.stored u.doing.stage (core.found s u.doing u.runs.there (alone start s r old u)))
never_meets start s r old new i u core (Commit reads keys) m = m
never_meets start s r old new i u core Answered m = m
