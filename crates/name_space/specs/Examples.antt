-- The words of the worked examples: runs of calls, and what each call is answered in them. The numbers in examples are
-- their own, so that a slip in a definition shows.
use Prim.Native.String.{String}
use Rattle.std.specs.Prelude.{◌≡◌, ℕ, List, map, codes}
use Rattle.hops_base.specs.Ids.{client}
use Rattle.hops_base.specs.Path.{names_in}
use Rattle.name_space.specs.declared.call.Call.{Call}
use Rattle.name_space.specs.declared.entry.FileStatus.TheVariants as status
use Rattle.name_space.specs.declared.entry.Listed.{Listed}
use Rattle.name_space.specs.declared.reply.Reply.{Reply}
use Rattle.name_space.specs.Namespace.{Namespace, Path, opening}
use Rattle.name_space.specs.Calls.{replies_of, space_after_calls}

-- the path with this text
abbrev pub at : String → Path
at text = names_in (codes text)

-- the user of client 0
abbrev pub ann : List ℕ
ann = codes "ann"

-- the user of client 1
abbrev pub bob : List ℕ
bob = codes "bob"

-- calls that the client of a number, whose user this is, makes on a namespace one after another are answered so
abbrev pub are_answered_on : Namespace → ℕ → List ℕ → List (Call × Reply) → Type 0
are_answered_on space number user run = replies_of space (client number) user (map (λ (made : Call × Reply). made.0) run) ≡ map (λ (made : Call × Reply). made.1) run

-- the first calls that are made, all by client 0, are answered so
abbrev pub are_answered : List (Call × Reply) → Type 0
are_answered run = are_answered_on opening 0 ann run

-- the namespace after these calls, the first that are made, all by client 0
abbrev pub after : List Call → Namespace
after calls = space_after_calls opening (client 0) ann calls

-- the namespace after calls of client 1 on a namespace
abbrev pub after_bob : Namespace → List Call → Namespace
after_bob space calls = space_after_calls space (client 1) bob calls

-- a name with the status of a directory of mode 493 of ann
abbrev pub dir_named : String → Listed
dir_named name = record { name = codes name; status = status.Dir 493 ann }

-- a name with the status of an empty file of mode 420 of ann
abbrev pub file_named : String → Listed
file_named name = record { name = codes name; status = status.File 0 420 ann }
