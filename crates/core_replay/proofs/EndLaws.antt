-- How a call of the program ends.
use Rattle.std.proofs.Common.{◌≡◌, ℕ, ◌≤◌, List, [], ◌∷◌, length, map, Option, Some, None, Ok, refl, sym, ap, subst, ◌∙◌, arith}
use Rattle.hops_base.specs.Devices.{Stock, Store}
use Rattle.program_io.specs.Transfer.{HasTaken}
use Rattle.program_io.proofs.Transfers.{HasTaken-none, HasGiven-none}
use Rattle.core_replay.specs.declared.input.Input.{Input}
use Rattle.core_replay.specs.declared.listed.Listed.{Listed}
use Rattle.core_replay.specs.declared.status.Status.{Status}
use Rattle.core_replay.specs.declared.status.Status.TheVariants.{Usage}
use Rattle.core_replay.specs.declared.unbuilt.Unbuilt.{Unbuilt}
use Rattle.core_replay.specs.Built.{first_unbuilt}
use Rattle.core_replay.specs.Ends.{Cause, Ends, IsBySize, Needs, Replays}
use Rattle.core_replay.specs.Input.{IsInputRead}
use Rattle.core_replay.specs.Replay.{IsReplayOf}

-- with words, nothing is taken or written
pub any_words : {A : Type 0} (f : A → List ℕ) (words : List A) (stock : Stock) (store : Store) → 1 ≤ length words → Ends (map f words) (Usage 0) stock stock store store
any_words f [] stock store some = absurd (omega (arith, some))
any_words f (word ∷ more) stock store some =
    record { taken = []; text = []; written = 0; takes = HasTaken-none stock; gives = HasGiven-none store; by_size = omega arith; cause = (refl, refl, refl) }

-- nothing was written
pub nothing_written : (status : Status) (taken : List ℕ) (stock stock' : Stock) (store : Store) → HasTaken taken stock stock' → IsBySize taken status → Cause status taken stock stock' store store [] 0
    → Ends [] status stock stock' store store
nothing_written status taken stock stock' store takes size cause =
    record { taken = taken; text = []; written = 0; takes = takes; gives = HasGiven-none store; by_size = size; cause = cause }

-- the bytes that were read, as they were taken
module _ (taken shown : List ℕ) (input : Input) (events : List Listed) (found : Option Unbuilt) (read : IsInputRead shown (Ok input)) (same : shown ≡ taken) (listed : events ≡ input.events.items)
    (is : found ≡ first_unbuilt input.script events) where
  pub needs : (what : Unbuilt) → found ≡ Some what → Needs taken what
  needs what so = (input, subst (λ bytes. IsInputRead bytes (Ok input)) same read, ap (first_unbuilt input.script) (sym listed) ∙ sym is ∙ so)

  pub replays : (text : List ℕ) → found ≡ None → IsReplayOf input.script events text → Replays taken text
  replays text so told =
      (input, subst (λ bytes. IsInputRead bytes (Ok input)) same read, ap (first_unbuilt input.script) (sym listed) ∙ sym is ∙ so, subst (λ es. IsReplayOf input.script es text) listed told)
