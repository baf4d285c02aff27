-- What is taken from a source and written to a sink, by what is known of them before and after. This project's own.
use Rattle.std.specs.Prelude.{◌≡◌, ℕ, ◌+◌, ◌≤◌, List, [], ◌++◌, length, take, MatchOption, ⊤}
use Rattle.std.specs.Option.{option_map}
use Rattle.hops_base.specs.Devices.{Stock, Store, Rose}
use Rattle.program_io.specs.declared.take_in.TakenIn.{TakenIn}
use Rattle.program_io.specs.declared.take_in.TakenIn.TheVariants as taken_in
use Rattle.program_io.specs.declared.give_out.GivenOut.{GivenOut}
use Rattle.program_io.specs.declared.give_out.GivenOut.TheVariants as given_out

-- these bytes were taken from the source, in order, and its count of faults didn't fall
pub record HasTaken (taken : List ℕ) (old new : Stock) : Type 0 where
  pub left : old.left ≡ option_map (λ rest. taken ++ rest) new.left
  pub faults : old.faults ≤ new.faults

-- these bytes were added at the end of what the sink holds, and its count of faults didn't fall
pub record HasGiven (written : List ℕ) (old new : Store) : Type 0 where
  pub held : new.held ≡ option_map (λ held. held ++ written) old.held
  pub faults : old.faults ≤ new.faults

-- a source that tells what it has left has nothing left
abbrev pub IsAtEnd : Stock → Type 0
IsAtEnd stock = MatchOption stock.left ⊤ (λ left. left ≡ [])

-- what came of taking in a source that may have so many bytes: no more than one byte past them is taken
abbrev pub IsTakenIn : ℕ → TakenIn → Stock → Stock → Type 0
IsTakenIn limit (taken_in.All bytes) old new = HasTaken bytes.items old new × (length bytes.items ≤ limit) × IsAtEnd new
IsTakenIn limit taken_in.TooLarge old new = (taken : List ℕ) × HasTaken taken old new × (length taken ≡ limit + 1)
IsTakenIn limit taken_in.Failed old new = (taken : List ℕ) × HasTaken taken old new × (length taken ≤ limit) × Rose old.faults new.faults
IsTakenIn limit taken_in.NoMemory old new = (taken : List ℕ) × HasTaken taken old new × (length taken ≤ limit)

-- what came of giving this text out
abbrev pub GivesOut : List ℕ → GivenOut → Store → Store → Type 0
GivesOut text given_out.All old new = HasGiven text old new
GivesOut text given_out.Failed old new = (written : ℕ) × HasGiven (take written text) old new × Rose old.faults new.faults
GivesOut text given_out.NoMemory old new = (written : ℕ) × HasGiven (take written text) old new
