-- What a session holds and has read, by how far it has come. This project's own.
use Rattle.std.specs.Prelude.{Bool, true, false, List, [], take, ◌++◌, Option, None, slice_get, option_to_list}
use Rattle.std.specs.List.{flat_map}
use Rattle.hops_base.specs.declared.ids.Mode.{Mode}
use Rattle.hops_base.specs.declared.key.Key.{Key}
use Rattle.inode_table.specs.declared.inode.Inode.{Inode}
use Rattle.db_state.specs.declared.session.Phase.{Phase}
use Rattle.db_state.specs.declared.session.Phase.TheVariants as phase
use Rattle.db_state.specs.declared.session.Position.{Position}
use Rattle.db_state.specs.declared.session.Session.{Session}
use Rattle.db_state.specs.declared.session.Stage.{Stage}
use Rattle.db_state.specs.declared.session.Stage.TheVariants.{Resolve, Lock, Read, Reread, Commit, Answered}
use Rattle.db_state.specs.declared.view.Place.{Place}

-- the phase alone
abbrev pub phase_of : Stage → Phase
phase_of (Resolve places found) = phase.Resolve
phase_of (Lock places plan taken) = phase.Lock
phase_of (Read places plan) = phase.Read
phase_of (Reread reads plan) = phase.Reread
phase_of (Commit reads plan) = phase.Commit
phase_of Answered = phase.Answered

-- the session has ended
abbrev pub is_over : Stage → Bool
is_over Answered = true
is_over stage = false

-- the keys that the session holds
abbrev pub keys_in : Stage → List (Key × Mode)
keys_in (Lock places plan taken) = take taken plan
keys_in (Read places plan) = plan
keys_in (Reread reads plan) = plan
keys_in (Commit reads plan) = plan
keys_in stage = []

-- the next key that it asks for
abbrev pub next_key : Stage → Option (Key × Mode)
next_key (Lock places plan taken) = slice_get plan taken
next_key stage = None

-- the places that are whole
abbrev pub places_in : Stage → List Place
places_in (Resolve places found) = places.items
places_in (Lock places plan taken) = places.items
places_in (Read places plan) = places.items
places_in (Reread reads plan) = reads.places
places_in (Commit reads plan) = reads.places
places_in Answered = []

-- the rows found for the next one
abbrev pub found_in : Stage → List (Key × Inode)
found_in (Resolve places found) = found.items
found_in stage = []

-- all rows that the session has found in its attempt
abbrev pub rows_in : Stage → List (Key × Inode)
rows_in stage = flat_map (λ (place : Place). place.found.items) (places_in stage) ++ found_in stage

-- the keys at which it has found none
abbrev pub missing_in : Stage → List Key
missing_in stage = flat_map (λ (place : Place). option_to_list place.missing) (places_in stage)

-- what of a session changes as it goes on
abbrev pub position_of : Session → Position
position_of session = record { since = session.since; reads = session.reads; trail = session.trail; stage = session.stage }

-- the session, so far gone on
abbrev pub with_position : Session → Position → Session
with_position session position = record session { since = position.since; reads = position.reads; trail = position.trail; stage = position.stage }
