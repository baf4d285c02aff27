-- What the book tells of a client's seat, with one note more.
use Rattle.std.proofs.Common.{◌≡◌, ℕ, ◌+◌, ◌<◌, suc, Bool, true, false, ◌||◌, ◌==◌, cond, nat_lt, List, [], ◌∷◌, ◌++◌, take, drop, slice_get, Option, Some, None, IfSome, IsSomeAnd, is_some, arith, refl, sym, ap, subst, ◌∙◌, eqb-true}
use Rattle.std.proofs.lemmas.Bool.{and_parts, false_from_ne_true, ltb-true}
use Rattle.std.proofs.lemmas.List.{take-append-drop}
use Rattle.std.proofs.lemmas.List.Sums.{sum_by-append}
use Rattle.std.specs.FinMap as map
use Rattle.std.specs.List.{list_any}
use Rattle.hops_base.specs.Ids.{session}
use Rattle.hops_base.specs.declared.ids.ClientNo.{ClientNo}
use Rattle.hops_base.specs.declared.ids.SessionId.{SessionId}
use Rattle.commit_log.specs.declared.note.Note.{Note}
use Rattle.commit_log.specs.declared.note.Note.TheVariants.{Open, Took, Gave, Wrote, Did, Cut, Met, Gone}
use Rattle.commit_log.specs.Along.{Each}
use Rattle.commit_log.specs.Parts.{opened}
use Rattle.commit_log.specs.Orderly.{NumberedAt, openings}
use Rattle.commit_log.specs.Kept.{answers_after}
use Rattle.commit_log.proofs.AlongLaws.{Each-at}
use Rattle.db_state.specs.declared.session.Session.{Session}
use Rattle.db_state.specs.declared.session.Seat.{Seat}
use Rattle.db_state.specs.State.{Sessions}
use Rattle.db_state.specs.Steps.{with_session}
use Rattle.db_state.specs.BookParts.{opens_after, opens_past, IsSeat}
use Rattle.db_state.proofs.SessionMapLaws.{get-with}
use Rattle.db_state.proofs.BookTellLaws.{any-push}

-- where some note passes, one does
pub any_at : (test : Note → Bool) (notes : List Note) → list_any test notes ≡ true → (i : ℕ) × (note : Note) × (slice_get notes i ≡ Some note) × (test note ≡ true)
any_at test [] e = let bad = e in cc
any_at test (n ∷ notes) e =
    elim (test n) as (λ b. test n ≡ b → (b || list_any test notes) ≡ true → (i : ℕ) × (note : Note) × (slice_get (n ∷ notes) i ≡ Some note) × (test note ≡ true)) [
      | true ↦ λ is f. (0, n, refl, is)
      | false ↦ λ is f. let rest = any_at test notes f in (suc rest.0, rest.1, rest.2, rest.3)
    ] refl e

-- ---- a note that opens nothing

opens_none : (client : ClientNo) (number : ℕ) (note : Note) → opened note ≡ None → opens_after client number note ≡ false
opens_none client number (Open s other q node) e = let bad = e in cc
opens_none client number (Took s key mode) e = refl
opens_none client number (Gave s) e = refl
opens_none client number (Wrote s work) e = refl
opens_none client number (Did s other q call reads reply) e = refl
opens_none client number (Cut op path gone) e = refl
opens_none client number (Met s cause) e = refl
opens_none client number (Gone node ended) e = refl

pub past_none : (client : ClientNo) (last : Option SessionId) (note : Note) → opened note ≡ None → opens_past client last note ≡ false
past_none client last (Open s other q node) e = let bad = e in cc
past_none client None (Took s key mode) e = refl
past_none client None (Gave s) e = refl
past_none client None (Wrote s work) e = refl
past_none client None (Did s other q call reads reply) e = refl
past_none client None (Cut op path gone) e = refl
past_none client None (Met s cause) e = refl
past_none client None (Gone node ended) e = refl
past_none client (Some t) (Took s key mode) e = refl
past_none client (Some t) (Gave s) e = refl
past_none client (Some t) (Wrote s work) e = refl
past_none client (Some t) (Did s other q call reads reply) e = refl
past_none client (Some t) (Cut op path gone) e = refl
past_none client (Some t) (Met s cause) e = refl
past_none client (Some t) (Gone node ended) e = refl

-- ---- the last session of a seat

-- the session is there, and the client's
abbrev pub IsThere : Sessions → ClientNo → SessionId → Type 0
IsThere sessions client s = IsSomeAnd (map.get sessions s.0) (λ doing. doing.client ≡ client)

-- who is there stays there once a session is put in the place of one of the same client
pub there_with : (sessions : Sessions) (s : SessionId) (was now : Session) (client : ClientNo) → map.get sessions s.0 ≡ Some was → now.client ≡ was.client
    → (t : SessionId) → IsThere sessions client t → IsThere (with_session sessions s now) client t
there_with sessions s was now client there same t is = subst (λ (o : Option Session). IsSomeAnd o (λ doing. doing.client ≡ client)) (sym (get-with sessions s t now)) (go (t.0 == s.0) refl)
  where
    go : (b : Bool) → (t.0 == s.0) ≡ b → IsSomeAnd (cond b (Some now) (map.get sessions t.0)) (λ doing. doing.client ≡ client)
    go true e = same ∙ subst (λ (o : Option Session). IsSomeAnd o (λ doing. doing.client ≡ client)) (ap (λ (n : ℕ). map.get sessions n) (eqb-true t.0 s.0 e) ∙ there) is
    go false e = is

pub last_there : (old new : Sessions) (client : ClientNo) → ((t : SessionId) → IsThere old client t → IsThere new client t) → (last : Option SessionId) → IfSome last (IsThere old client) → IfSome last (IsThere new client)
last_there old new client stays None is = tt
last_there old new client stays (Some s) is = stays s is

-- ---- with no note, and with one that opens nothing and is no later answer

pub told_still : (old new : Sessions) (notes : List Note) (client : ClientNo) (seat : Seat) → ((t : SessionId) → IsThere old client t → IsThere new client t)
    → IsSeat old notes client seat → IsSeat new notes client seat
told_still old new notes client seat stays is = record { opens = is.opens; answers = is.answers; last = is.last; there = last_there old new client stays seat.last is.there }

pub told_on : (old new : Sessions) (notes : List Note) (note : Note) (client : ClientNo) (seat : Seat) → opened note ≡ None → answers_after client seat.answered note ≡ false
    → ((t : SessionId) → IsThere old client t → IsThere new client t) → IsSeat old notes client seat → IsSeat new (notes ++ note ∷ []) client seat
told_on old new notes note client seat no_opening low stays is = record {
  opens = any-push (opens_after client seat.begun) notes note is.opens (opens_none client seat.begun note no_opening);
  answers = any-push (answers_after client seat.answered) notes note is.answers low;
  last = any-push (opens_past client seat.last) notes note is.last (past_none client seat.last note no_opening);
  there = last_there old new client stays seat.last is.there;
}

-- ---- the next session

not_past : (client : ClientNo) (n : ℕ) (before : List Note) (note : Note) → openings before + 1 < n + 2 → NumberedAt before note → opens_past client (Some (session (n + 1))) note ≡ true → ⊥
not_past client n before (Open t other q node) few numbered e =
    let past : n + 1 < t.0 = ltb-true (n + 1) t.0 (and_parts (other.0 == client.0) (nat_lt (n + 1) t.0) e).1 in
    let is : t.0 ≡ openings before + 1 = numbered.0 in
    omega arith
not_past client n before (Took s key mode) few numbered e = let bad = e in cc
not_past client n before (Gave s) few numbered e = let bad = e in cc
not_past client n before (Wrote s work) few numbered e = let bad = e in cc
not_past client n before (Did s other q call reads reply) few numbered e = let bad = e in cc
not_past client n before (Cut op path gone) few numbered e = let bad = e in cc
not_past client n before (Met s cause) few numbered e = let bad = e in cc
not_past client n before (Gone node ended) few numbered e = let bad = e in cc

-- no session of the book is after the next one that is opened
pub none_past_next : (notes : List Note) (client : ClientNo) → Each NumberedAt notes → list_any (opens_past client (Some (session (openings notes + 1)))) notes ≡ false
none_past_next notes client each = false_from_ne_true (list_any (opens_past client (Some (session (openings notes + 1)))) notes) (λ is.
    let found = any_at (opens_past client (Some (session (openings notes + 1)))) notes is in
    let f : Note → ℕ = λ (n : Note). cond (is_some (opened n)) 1 0 in
    let split : openings (take found.0 notes ++ drop found.0 notes) ≡ openings (take found.0 notes) + openings (drop found.0 notes) = sum_by-append f (take found.0 notes) (drop found.0 notes) in
    let whole : openings (take found.0 notes ++ drop found.0 notes) ≡ openings notes = ap openings (take-append-drop found.0 notes) in
    not_past client (openings notes) (take found.0 notes) found.1 (omega arith) (Each-at NumberedAt notes each found.0 found.1 found.2) found.3)
