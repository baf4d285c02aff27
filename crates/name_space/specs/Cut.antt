-- The removal that a delete which was cut off leaves in the history. This project's own.
use Rattle.std.specs.Prelude.{◌≡◌, ◌≢◌, Bool, true, not, ◌&&◌, ◌||◌, List, []}
use Rattle.std.specs.List.{filter, list_any, list_all, IsDistinct}
use Rattle.hops_base.specs.Path.{same_path, is_below}
use Rattle.name_space.specs.declared.entry.Entry.{Entry}
use Rattle.name_space.specs.Namespace.{Namespace, Path, entry_at, exists, is_dir, is_within}

-- the path is one of these
abbrev pub is_among : List Path → Path → Bool
is_among paths path = list_any (same_path path) paths

-- one of these is the path or stands above it
abbrev pub is_covered : List Path → Path → Bool
is_covered paths path = list_any (λ (top : Path). is_within top path) paths

-- these paths may be cut off below a path: it is a directory other than the root; there is at least one of them; each
-- stands once, is in the namespace and lies strictly below the path; and with each goes all that lies below it
pub record MayCut (space : Namespace) (path : Path) (gone : List Path) : Type 0 where
  pub dir : is_dir (entry_at space path) ≡ true
  pub not_root : path ≢ []
  pub some : gone ≢ []
  pub once : IsDistinct same_path gone
  pub below : list_all (λ (p : Path). exists space p && is_below p path) gone ≡ true
  pub closed : list_all (λ (e : Path × Entry). not (is_covered gone e.0) || is_among gone e.0) space ≡ true

-- the namespace without these paths
abbrev pub cut : Namespace → List Path → Namespace
cut space gone = filter (λ (e : Path × Entry). not (is_among gone e.0)) space
