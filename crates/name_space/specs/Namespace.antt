-- The plain namespace: what stands at which path. After the Hadoop file system specification; the opening one is this
-- project's own.
use Rattle.std.specs.Prelude.{◌≡◌, ℕ, ◌+◌, Bool, true, false, not, ◌&&◌, ◌==◌, List, [], ◌∷◌, ◌++◌, map, length, codes, Option, Some, None, IsSome, is_some}
use Rattle.std.specs.List.{filter, filter_map, last_or, list_all, starts_with, sum_by}
use Rattle.std.specs.FinMap.Entries as map
use Rattle.hops_base.specs.Name.{is_name}
use Rattle.std.specs.Prelude.{bytes_eq}
use Rattle.hops_base.specs.Path.{path_cmp}
use Rattle.name_space.specs.declared.entry.Entry.{Entry}
use Rattle.name_space.specs.declared.entry.Entry.TheVariants.{Dir, File}

-- a path: its names from the root on; the root is the empty path
abbrev pub Path : Type 0
Path = List (List ℕ)

-- a finite map from paths to entries, as the list of its pairs; in a namespace they stand in the order of the paths
abbrev pub Namespace : Type 0
Namespace = List (Path × Entry)

-- the entry that stands at a path, where there is one
abbrev pub entry_at : Namespace → Path → Option Entry
entry_at space path = map.find path_cmp path space

-- something stands at the path
abbrev pub exists : Namespace → Path → Bool
exists space path = is_some (entry_at space path)

-- what was found at a path is a directory
abbrev pub is_dir : Option Entry → Bool
is_dir None = false
is_dir (Some (Dir mode owner max_names max_bytes)) = true
is_dir (Some (File len writer mode owner)) = false

-- what was found at a path is a file
abbrev pub is_file : Option Entry → Bool
is_file None = false
is_file (Some (Dir mode owner max_names max_bytes)) = false
is_file (Some (File len writer mode owner)) = true

-- the mode of a new directory
abbrev pub dir_mode : ℕ
dir_mode = 493

-- a new directory of this owner, without quotas
abbrev pub new_dir : List ℕ → Entry
new_dir owner = Dir dir_mode owner None None

-- the owner of the root
abbrev pub root_owner : List ℕ
root_owner = codes "hdfs"

-- the namespace before any call: the root alone
abbrev pub opening : Namespace
opening = ([], new_dir root_owner) ∷ []

-- the namespace with this entry at the path, in place of what stood there
abbrev pub with_entry : Namespace → Path → Entry → Namespace
with_entry space path entry = map.put path_cmp path entry space

-- the namespace with each of these entries at its path
abbrev pub with_entries : Namespace → List (Path × Entry) → Namespace
with_entries space [] = space
with_entries space (e ∷ es) = with_entries (with_entry space e.0 e.1) es

-- the path lies within the top: it is the top or lies below it, so it has the top as a prefix
abbrev pub is_within : Path → Path → Bool
is_within top path = starts_with bytes_eq path top

-- the part of a namespace that stands at a path and below it
abbrev pub below : Namespace → Path → Namespace
below space top = filter (λ (e : Path × Entry). is_within top e.0) space

-- the namespace without what stands at a path and below it
abbrev pub without : Namespace → Path → Namespace
without space top = filter (λ (e : Path × Entry). not (is_within top e.0)) space

-- the children of a path: the part of a namespace that stands one name below it
abbrev pub children : Namespace → Path → Namespace
children space top = filter (λ (e : Path × Entry). is_within top e.0 && (length e.0 == length top + 1)) space

-- the bytes that an entry counts: a file its length, a directory none
abbrev pub bytes_of : Entry → ℕ
bytes_of (Dir mode owner max_names max_bytes) = 0
bytes_of (File len writer mode owner) = len

-- the names that a path uses: how many stand at it and below it
abbrev pub used_names : Namespace → Path → ℕ
used_names space top = length (below space top)

-- the bytes that a path uses: those of all that stands at it and below it
abbrev pub used_bytes : Namespace → Path → ℕ
used_bytes space top = sum_by (λ (e : Path × Entry). bytes_of e.1) (below space top)

-- the paths above a path, from the root on: its proper prefixes
abbrev pub above : Path → List Path
above [] = []
above (name ∷ names) = [] ∷ map (λ (up : Path). name ∷ up) (above names)

-- the prefixes of a path, from the root on: the paths above it, and the path itself
abbrev pub prefixes : Path → List Path
prefixes path = above path ++ path ∷ []

-- the prefixes of a path at which nothing stands, from the root on
abbrev pub missing : Namespace → Path → List Path
missing space path = filter (λ (up : Path). not (exists space up)) (prefixes path)

-- the paths of these names below a path, each below the one before
abbrev pub paths_below : Path → List (List ℕ) → List Path
paths_below path [] = []
paths_below path (name ∷ names) = (path ++ name ∷ []) ∷ paths_below (path ++ name ∷ []) names

-- what stands at the longest prefix of a path that exists
abbrev pub nearest : Namespace → Path → Option Entry
nearest space path = last_or None (filter_map (entry_at space) (prefixes path))

-- the paths of a namespace rise
abbrev pub Rises : Namespace → Type 0
Rises space = map.is_sorted path_cmp space ≡ true

-- this is a namespace: its paths rise and consist of names, the root is a directory, and so is what stands above every
-- other path
pub record IsNamespace (space : Namespace) : Type 0 where
  pub rises : Rises space
  pub names : list_all (λ (e : Path × Entry). list_all is_name e.0) space ≡ true
  pub root : is_dir (entry_at space []) ≡ true
  pub parents : (up : Path) (name : List ℕ) → IsSome (entry_at space (up ++ name ∷ [])) → is_dir (entry_at space up) ≡ true
