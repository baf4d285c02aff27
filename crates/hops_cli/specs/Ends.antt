-- What a call of the program takes, writes and answers. This project's own.
use Rattle.std.specs.Prelude.{◌≡◌, ◌⊎◌, ℕ, ◌+◌, ◌≤◌, List, [], ◌∷◌, ◌++◌, length, take, Some, None, Result, Ok, Err, ⊤}
use Rattle.hops_base.specs.Devices.{Stock, Store, Rose}
use Rattle.name_space.specs.Script.{Script}
use Rattle.script_text.specs.Faults.{script_fault}
use Rattle.script_text.specs.Grammar.{IsScriptText}
use Rattle.script_text.specs.Form.{script_text}
use Rattle.script_text.specs.Generator.{generated}
use Rattle.hops_cli.specs.declared.words.Command.{Command}
use Rattle.hops_cli.specs.declared.words.Command.TheVariants.{Run, Gen}
use Rattle.hops_cli.specs.Built.{unbuilt}
use Rattle.hops_cli.specs.Run.{IsReportOf}
use Rattle.program_io.specs.Transfer.{HasTaken, HasGiven, IsAtEnd}
use Rattle.hops_cli.specs.declared.status.Status.{Status}
use Rattle.hops_cli.specs.declared.status.Status.TheVariants.{Done, Usage, BadScript, ReadFault, WriteFault, TooLarge, NoMemory, Unbuilt}

-- the most bytes of a script
abbrev pub script_limit : ℕ
script_limit = 16777216

-- the status is TooLarge exactly where more bytes were taken than a script may have, and then it was one byte more
abbrev pub IsBySize : List ℕ → Status → Type 0
IsBySize taken TooLarge = length taken ≡ script_limit + 1
IsBySize taken status = length taken ≤ script_limit

-- the bytes taken are the text of a script that needs nothing but what is built, and the text is the report of its run
abbrev pub Reports : List ℕ → List ℕ → Type 0
Reports taken text = (script : Script) × IsScriptText taken script × (unbuilt script ≡ None) × IsReportOf script text

-- the bytes are the text of a script that needs this first that isn't built
abbrev pub Needs : List ℕ → ℕ × ℕ → Type 0
Needs taken what = (script : Script) × IsScriptText taken script × (unbuilt script ≡ Some what)

-- what each status of a run says of the bytes taken, of the source and the sink before and after, and of how many bytes
-- of the text were written
abbrev pub RunCause : Status → List ℕ → Stock → Stock → Store → Store → List ℕ → ℕ → Type 0
RunCause Done taken stock stock' store store' text written = IsAtEnd stock' × Reports taken text × (written ≡ length text)
RunCause (Usage place) taken stock stock' store store' text written = ⊥
RunCause (BadScript fault) taken stock stock' store store' text written = IsAtEnd stock' × (script_fault taken ≡ Some fault) × (store' ≡ store)
RunCause ReadFault taken stock stock' store store' text written = Rose stock.faults stock'.faults × (store' ≡ store)
RunCause WriteFault taken stock stock' store store' text written = IsAtEnd stock' × Reports taken text × Rose store.faults store'.faults
RunCause TooLarge taken stock stock' store store' text written = store' ≡ store
RunCause NoMemory taken stock stock' store store' text written = (store' ≡ store) ⊎ (IsAtEnd stock' × Reports taken text)
RunCause (Unbuilt client call) taken stock stock' store store' text written = IsAtEnd stock' × Needs taken (client, call) × (store' ≡ store)

-- the canonical text of a generated script, and a newline
abbrev pub generated_line : ℕ → ℕ → ℕ → List ℕ
generated_line seed clients calls = script_text (generated seed clients calls) ++ 10 ∷ []

-- what each status says where a script is generated
abbrev pub GenCause : Status → Store → Store → List ℕ → ℕ → Type 0
GenCause Done store store' text written = written ≡ length text
GenCause (Usage place) store store' text written = ⊥
GenCause (BadScript fault) store store' text written = ⊥
GenCause ReadFault store store' text written = ⊥
GenCause WriteFault store store' text written = Rose store.faults store'.faults
GenCause TooLarge store store' text written = ⊥
GenCause NoMemory store store' text written = ⊤
GenCause (Unbuilt client call) store store' text written = ⊥

-- what each status says by what the words ask for; where they are no command, it is Usage with the place
abbrev pub HasCause : Result Command ℕ → Status → List ℕ → Stock → Stock → Store → Store → List ℕ → ℕ → Type 0
HasCause (Ok Run) status taken stock stock' store store' text written = RunCause status taken stock stock' store store' text written
HasCause (Ok (Gen seed clients calls)) status taken stock stock' store store' text written = (stock' ≡ stock) × (text ≡ generated_line seed clients calls) × GenCause status store store' text written
HasCause (Err place) status taken stock stock' store store' text written = (status ≡ Usage place) × (stock' ≡ stock) × (store' ≡ store)

-- Asked for this, the call answered this status. It took bytes from the source in order, and wrote the first so many
-- bytes of a text.
pub record Ends (asked : Result Command ℕ) (status : Status) (stock stock' : Stock) (store store' : Store) : Type 0 where
  pub taken : List ℕ
  pub text : List ℕ
  pub written : ℕ
  pub takes : HasTaken taken stock stock'
  pub gives : HasGiven (take written text) store store'
  pub by_size : IsBySize taken status
  pub cause : HasCause asked status taken stock stock' store store' text written
