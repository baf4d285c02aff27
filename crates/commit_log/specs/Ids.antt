-- The inode ids that a history gives to paths. This project's own.
use Rattle.std.specs.Prelude.{ℕ, ◌+◌, not, ◌&&◌, if◌then◌else◌, List, [], ◌∷◌, map, Option, Some, None, is_some, option_map, codes}
use Rattle.std.specs.List.{filter, last_or}
use Rattle.std.specs.FinMap.Entries as map
use Rattle.hops_base.specs.declared.key.Key.{Key}
use Rattle.hops_base.specs.declared.key.Key.TheVariants as key
use Rattle.hops_base.specs.Path.{path_cmp, parent_of}
use Rattle.name_space.specs.declared.call.Call.{Call}
use Rattle.name_space.specs.declared.call.Call.TheVariants as call
use Rattle.name_space.specs.declared.entry.Entry.{Entry}
use Rattle.name_space.specs.Namespace.{Namespace, Path, exists, opening, prefixes}
use Rattle.name_space.specs.Plain.{last_name}
use Rattle.name_space.specs.Rename.{moved_path, target_of}
use Rattle.commit_log.specs.declared.note.Note.{Note}
use Rattle.commit_log.specs.declared.note.Note.TheVariants.{Did}
use Rattle.commit_log.specs.Legal.{space, space_after}

-- the id of each path, in path order, and the next id that no path was given
pub record Numbering : Type 0 where
  pub ids : List (Path × ℕ)
  pub next : ℕ

-- the root has id 1
abbrev pub first_numbering : Numbering
first_numbering = record { ids = ([], 1) ∷ []; next = 2 }

-- the id of a path
abbrev pub id_at : Numbering → Path → Option ℕ
id_at numbering path = map.find path_cmp path numbering.ids

-- these new paths take the next ids in turn
abbrev pub with_new : Numbering → List Path → Numbering
with_new numbering [] = numbering
with_new numbering (path ∷ paths) =
    with_new (record { ids = map.put path_cmp path numbering.next numbering.ids; next = numbering.next + 1 }) paths

-- the ids once some paths stand elsewhere
abbrev pub placed : List (Path × ℕ) → List (Path × ℕ)
placed [] = []
placed (p ∷ ps) = map.put path_cmp p.0 p.1 (placed ps)

-- the source and the target of a call that moved something between these namespaces: a rename by which the source went
abbrev pub move_of : Namespace → Namespace → Call → Option (Path × Path)
move_of old new (call.Rename source destination) =
    if exists old source && not (exists new source) then Some (source, target_of old source destination) else None
move_of old new call = None

-- what a note moves between these namespaces
abbrev pub move_in : Namespace → Namespace → Note → Option (Path × Path)
move_in old new (Did s client number call reads reply) = move_of old new call
move_in old new note = None

-- ids move along with their paths
abbrev pub moved_ids : Option (Path × Path) → List (Path × ℕ) → List (Path × ℕ)
moved_ids None ids = ids
moved_ids (Some move) ids = placed (map (λ (p : Path × ℕ). (moved_path move.0 move.1 p.0, p.1)) ids)

-- the paths of a namespace that have no id
abbrev pub unnumbered : List (Path × ℕ) → Namespace → List Path
unnumbered ids space = filter (λ (path : Path). not (is_some (map.find path_cmp path ids))) (map (λ (e : Path × Entry). e.0) space)

-- the numbering after a note by which the one namespace becomes the other: what moves keeps its id, what goes loses it,
-- and what is new takes the next ids from the top on
abbrev pub numbering_after : Numbering → Namespace → Namespace → Note → Numbering
numbering_after numbering old new note =
    with_new (record { ids = filter (λ (p : Path × ℕ). exists new p.0) (moved_ids (move_in old new note) numbering.ids); next = numbering.next })
    (unnumbered (moved_ids (move_in old new note) numbering.ids) new)

-- the numbering after these notes
abbrev pub numbering_from : List (List ℕ) → Numbering → Namespace → List Note → Numbering
numbering_from users numbering old [] = numbering
numbering_from users numbering old (note ∷ notes) =
    numbering_from users (numbering_after numbering old (space_after users old note) note) (space_after users old note) notes

-- the ids at the end of these notes
unfoldable pub ids : List (List ℕ) → List Note → Numbering
ids users notes = numbering_from users first_numbering opening notes

-- the longest prefix of a path that exists
abbrev pub nearest_path : Namespace → Path → Option Path
nearest_path space path = last_or None (filter (exists space) (prefixes path))

-- the key of the inode row of a path, by the id of the path above it
abbrev pub inode_key_under : Numbering → Path → Option Path → Option Key
inode_key_under numbering path None = Some (key.Inode (record { 0 = 0 }) (codes "root"))
inode_key_under numbering path (Some up) = option_map (λ id. key.Inode (record { 0 = id }) (last_name path)) (id_at numbering up)

-- the same of a path alone
abbrev pub inode_key : Numbering → Path → Option Key
inode_key numbering path = inode_key_under numbering path (parent_of path)
