-- All that the core keeps before anything happened.
use Rattle.std.proofs.Common.{◌≡◌, ℕ, zero, suc, ◌+◌, ◌*◌, ◌≤◌, List, [], ◌∷◌, map as list_map, length, slice_get, Option, Some, None, arith, refl, sym, ap, subst, ◌∙◌}
use Rattle.std.specs.List.{list_any, sum_by, AllByRecursion}
use Rattle.std.specs.FinMap as map
use Rattle.std.specs.Ordering.{nat_cmp}
use Rattle.hops_base.specs.declared.ids.SessionId.{SessionId}
use Rattle.hops_base.specs.declared.ids.Mode.{Mode}
use Rattle.hops_base.specs.declared.key.Key.{Key}
use Rattle.name_space.specs.Script.{most_calls}
use Rattle.row_locks.specs.Locks.{held_cmp, mode_of}
use Rattle.row_locks.specs.Plans.{planned_mode}
use Rattle.commit_log.specs.Parts.{passes}
use Rattle.commit_log.specs.Locks.{SoundAt}
use Rattle.commit_log.specs.Licensed.{LicensedAt}
use Rattle.commit_log.specs.Kept.{InOrderAt, AnswersHeldAt}
use Rattle.commit_log.proofs.AlongLaws.{Each-none}
use Rattle.commit_log.proofs.HeldLaws.{held-none}
use Rattle.commit_log.proofs.OrderLaws.{orderly-none}
use Rattle.db_state.specs.Settings.{Settings}
use Rattle.db_state.specs.declared.session.Session.{Session}
use Rattle.db_state.specs.declared.session.Seat.{Seat}
use Rattle.db_state.specs.State.{empty_seat, opening_state}
use Rattle.db_state.specs.LockParts.{same_mode, is_lock, keys_of_session}
use Rattle.db_state.specs.BookParts.{terms_in, IsSeat, NeverFallsAt, IsLastAt}
use Rattle.db_state.specs.Core.{IsCore}
use Rattle.db_state.proofs.ConsistentLaws.{opening_consistent}

pub no_lock : (s : SessionId) (key : Key) → mode_of map.empty s key ≡ None
no_lock s key = map.get-empty {X = Mode} held_cmp (s.0, key)

pub no_session : (s : SessionId) → map.get {R = nat_cmp} (map.empty {X = Session}) s.0 ≡ None
no_session s = map.get-empty {X = Session} nat_cmp s.0

seats_there : (users : List (List ℕ)) → length (list_map (λ (user : List ℕ). empty_seat) users) ≡ length users
seats_there [] = refl
seats_there (user ∷ users) = ap (λ (n : ℕ). suc n) (seats_there users)

seats_fit : (users : List (List ℕ)) → AllByRecursion (λ (x : Seat). (x.answered ≤ x.begun) × (x.begun ≤ most_calls)) (list_map (λ (user : List ℕ). empty_seat) users)
seats_fit [] = tt
seats_fit (user ∷ users) = (((let none : 0 ≤ 0 = omega arith in none), (let few : 0 ≤ most_calls = omega arith in few)), seats_fit users)

empty_at : (users : List (List ℕ)) (i : ℕ) (seat : Seat) → slice_get (list_map (λ (user : List ℕ). empty_seat) users) i ≡ Some seat → empty_seat ≡ seat
empty_at [] i seat e = absurd (let bad = e in cc)
empty_at (user ∷ users) zero seat e = cc
empty_at (user ∷ users) (suc i) seat e = empty_at users i seat e

pub opening_core : (settings : Settings) → IsCore (opening_state settings)
opening_core settings = record {
  stored = opening_consistent settings;
  locks = λ s key mode. ap (list_any (is_lock s key mode)) held-none ∙ ap (passes (same_mode mode)) (sym (no_lock s key));
  plans = λ s key. no_lock s key ∙ ap (λ (o : Option Session). planned_mode (keys_of_session o) key) (sym (no_session s));
  reads = λ s doing e. absurd (let none = no_session s in cc);
  found = λ s doing e. absurd (let none = no_session s in cc);
  old = λ s doing e. absurd (let none = no_session s in cc);
  opened = λ s doing e. absurd (let none = no_session s in cc);
  seats = record {
    each = seats_there settings.users;
    numbers = seats_fit settings.users;
    told = λ client seat e. subst (IsSeat map.empty [] client) (empty_at settings.users client.0 seat e) (record { opens = refl; answers = refl; last = refl; there = tt });
    seated = λ s doing e. absurd (let none = no_session s in cc);
  };
  ids = (let low : 2 ≤ 2 + 2000 * sum_by (λ (x : Seat). x.answered) (list_map (λ (user : List ℕ). empty_seat) settings.users) = omega arith in low);
  book = record {
    orderly = orderly-none (terms_in settings);
    sound = Each-none SoundAt;
    licensed = Each-none LicensedAt;
    in_order = Each-none InOrderAt;
    never_falls = Each-none NeverFallsAt;
    last = Each-none IsLastAt;
    within = refl;
    held = Each-none (AnswersHeldAt settings.users);
  };
}
