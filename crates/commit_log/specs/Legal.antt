-- The history that a book tells: its Did and Cut notes are calls on a plain namespace, one after another. This project's own.
use Rattle.std.specs.Prelude.{◌≡◌, ℕ, List, [], ◌∷◌, slice_get, unwrap_or, ⊤}
use Rattle.std.specs.List.Sorted.{IsStrictlySortedBy}
use Rattle.hops_base.specs.declared.ids.ClientNo.{ClientNo}
use Rattle.hops_base.specs.Path.{path_cmp}
use Rattle.name_space.specs.declared.call.Call.{Call}
use Rattle.name_space.specs.Namespace.{Namespace, opening}
use Rattle.name_space.specs.Plain.{Answered}
use Rattle.name_space.specs.Calls.{plain, as_read}
use Rattle.name_space.specs.Cut.{MayCut, cut}
use Rattle.commit_log.specs.declared.note.Note.{Note}
use Rattle.commit_log.specs.declared.note.Note.TheVariants.{Open, Took, Gave, Wrote, Did, Cut, Met, Gone}
use Rattle.commit_log.specs.Along.{Each}

-- what a call of this client does, where these are the users that clients act for
abbrev pub applied : List (List ℕ) → Namespace → ClientNo → Call → Answered
applied users space client call = plain space client (unwrap_or (slice_get users client.0) []) call

-- the namespace after a note
abbrev pub space_after : List (List ℕ) → Namespace → Note → Namespace
space_after users space (Open s client number node) = space
space_after users space (Took s key mode) = space
space_after users space (Gave s) = space
space_after users space (Wrote s work) = space
space_after users space (Did s client number call reads reply) = (applied users space client call).space
space_after users space (Cut op path gone) = cut space gone.items
space_after users space (Met s cause) = space
space_after users space (Gone node ended) = space

-- the namespace after these notes
abbrev pub space_from : List (List ℕ) → Namespace → List Note → Namespace
space_from users space [] = space
space_from users space (note ∷ notes) = space_from users (space_after users space note) notes

-- the last namespace of the history
unfoldable pub space : List (List ℕ) → List Note → Namespace
space users notes = space_from users opening notes

-- the namespace permits the note: a Did has the reply of its call there, and a Cut's paths rise and may go
abbrev pub LegalIn : List (List ℕ) → Namespace → Note → Type 0
LegalIn users space (Open s client number node) = ⊤
LegalIn users space (Took s key mode) = ⊤
LegalIn users space (Gave s) = ⊤
LegalIn users space (Wrote s work) = ⊤
LegalIn users space (Did s client number call reads reply) = as_read reply ≡ (applied users space client call).reply
LegalIn users space (Cut op path gone) = IsStrictlySortedBy path_cmp gone.items × MayCut space path gone.items
LegalIn users space (Met s cause) = ⊤
LegalIn users space (Gone node ended) = ⊤

-- the last namespace of the notes before permits the note
abbrev pub LegalAt : List (List ℕ) → List Note → Note → Type 0
LegalAt users before note = LegalIn users (space users before) note

-- the history is legal
abbrev pub Legal : List (List ℕ) → List Note → Type 0
Legal users notes = Each (LegalAt users) notes
