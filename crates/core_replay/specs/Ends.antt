-- What a call of the program takes, writes and answers. This project's own.
use Rattle.std.specs.Prelude.{◌≡◌, ◌⊎◌, ℕ, ◌+◌, ◌≤◌, List, [], ◌∷◌, length, take, Some, None, Ok}
use Rattle.hops_base.specs.Devices.{Stock, Store, Rose}
use Rattle.program_io.specs.Transfer.{HasTaken, HasGiven, IsAtEnd}
use Rattle.core_replay.specs.declared.input.Input.{Input}
use Rattle.core_replay.specs.declared.status.Status.{Status}
use Rattle.core_replay.specs.declared.status.Status.TheVariants.{Done, Usage, BadInput, ReadFault, WriteFault, TooLarge, NoMemory, NotBuilt}
use Rattle.core_replay.specs.declared.unbuilt.Unbuilt.{Unbuilt}
use Rattle.core_replay.specs.Built.{first_unbuilt}
use Rattle.core_replay.specs.Input.{input_fault, IsInputRead}
use Rattle.core_replay.specs.Replay.{IsReplayOf}

-- the most bytes of an input
abbrev pub input_limit : ℕ
input_limit = 67108864

-- the status is TooLarge exactly where more bytes were taken than an input may have, and then it was one byte more
abbrev pub IsBySize : List ℕ → Status → Type 0
IsBySize taken TooLarge = length taken ≡ input_limit + 1
IsBySize taken status = length taken ≤ input_limit

-- the bytes taken are an input that needs nothing but what is built, and the text tells what its events make
abbrev pub Replays : List ℕ → List ℕ → Type 0
Replays taken text = (input : Input) × IsInputRead taken (Ok input) × (first_unbuilt input.script input.events.items ≡ None) × IsReplayOf input.script input.events.items text

-- the bytes are an input that needs this first that isn't built
abbrev pub Needs : List ℕ → Unbuilt → Type 0
Needs taken what = (input : Input) × IsInputRead taken (Ok input) × (first_unbuilt input.script input.events.items ≡ Some what)

-- what each status says of the bytes taken, of the source and the sink before and after, and of how many bytes of the text were
-- written
abbrev pub Cause : Status → List ℕ → Stock → Stock → Store → Store → List ℕ → ℕ → Type 0
Cause Done taken stock stock' store store' text written = IsAtEnd stock' × Replays taken text × (written ≡ length text)
Cause (Usage place) taken stock stock' store store' text written = ⊥
Cause (BadInput fault) taken stock stock' store store' text written = IsAtEnd stock' × (input_fault taken ≡ Some fault) × (store' ≡ store)
Cause ReadFault taken stock stock' store store' text written = Rose stock.faults stock'.faults × (store' ≡ store)
Cause WriteFault taken stock stock' store store' text written = IsAtEnd stock' × Replays taken text × Rose store.faults store'.faults
Cause TooLarge taken stock stock' store store' text written = store' ≡ store
Cause NoMemory taken stock stock' store store' text written = (store' ≡ store) ⊎ (IsAtEnd stock' × Replays taken text)
Cause (NotBuilt what) taken stock stock' store store' text written = IsAtEnd stock' × Needs taken what × (store' ≡ store)

-- what it says by the words: with any, it is Usage with the place of the first, and nothing is taken or written
abbrev pub HasCause : List (List ℕ) → Status → List ℕ → Stock → Stock → Store → Store → List ℕ → ℕ → Type 0
HasCause [] status taken stock stock' store store' text written = Cause status taken stock stock' store store' text written
HasCause (word ∷ more) status taken stock stock' store store' text written = (status ≡ Usage 0) × (stock' ≡ stock) × (store' ≡ store)

-- With these words, the call answered this status. It took bytes from the source in order, and wrote the first so many bytes of a
-- text.
pub record Ends (words : List (List ℕ)) (status : Status) (stock stock' : Stock) (store store' : Store) : Type 0 where
  pub taken : List ℕ
  pub text : List ℕ
  pub written : ℕ
  pub takes : HasTaken taken stock stock'
  pub gives : HasGiven (take written text) store store'
  pub by_size : IsBySize taken status
  pub cause : HasCause words status taken stock stock' store store' text written
