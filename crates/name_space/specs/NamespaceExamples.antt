-- Worked examples of lists of paths and entries that are no namespace.
use Rattle.std.specs.Prelude.{[], ◌∷◌, None}
use Rattle.name_space.specs.declared.entry.Entry.{Entry}
use Rattle.name_space.specs.declared.entry.Entry.TheVariants.{File}
use Rattle.name_space.specs.Namespace.{Path, IsNamespace, new_dir}
use Rattle.name_space.specs.Examples.{at, ann}

-- a directory of ann at the path
abbrev pub a_dir : Path → Path × Entry
a_dir path = (path, new_dir ann)

-- a file of ann at the path
abbrev pub a_file : Path → Path × Entry
a_file path = (path, File 0 None 420 ann)

-- which lists of paths and entries are no namespace
pub record NoNamespaces : Type 0 where
  pub empty : ¬ (IsNamespace [])
  pub root_missing : ¬ (IsNamespace (a_dir (at "/a") ∷ []))
  pub root_a_file : ¬ (IsNamespace (a_file [] ∷ []))
  pub parent_missing : ¬ (IsNamespace (a_dir [] ∷ a_dir (at "/a/b") ∷ []))
  pub parent_a_file : ¬ (IsNamespace (a_dir [] ∷ a_file (at "/a") ∷ a_dir (at "/a/b") ∷ []))
  pub falling : ¬ (IsNamespace (a_dir [] ∷ a_dir (at "/b") ∷ a_dir (at "/a") ∷ []))
  pub twice : ¬ (IsNamespace (a_dir [] ∷ a_dir (at "/a") ∷ a_dir (at "/a") ∷ []))
  pub no_name : ¬ (IsNamespace (a_dir [] ∷ a_dir (at "/.") ∷ []))
