-- Worked examples of what may be cut off below a path.
use Rattle.std.specs.Prelude.{◌≡◌, [], ◌∷◌}
use Rattle.name_space.specs.declared.call.Call.TheVariants.{Mkdirs}
use Rattle.name_space.specs.Namespace.{Namespace, entry_at}
use Rattle.name_space.specs.Cut.{MayCut, cut}
use Rattle.name_space.specs.Examples.{at, after}
use Rattle.name_space.specs.NamespaceExamples.{a_dir, a_file}

-- the root, /d, /d/a and /d/a/b
abbrev pub four_dirs : Namespace
four_dirs = after (Mkdirs (at "/d/a/b") ∷ [])

-- what may be cut off below a path
pub record CutCases : Type 0 where
  pub not_closed : ¬ (MayCut four_dirs (at "/d") (at "/d/a" ∷ []))
  pub closed : MayCut four_dirs (at "/d") (at "/d/a/b" ∷ [])
  pub rest : cut four_dirs (at "/d/a/b" ∷ []) ≡ after (Mkdirs (at "/d/a") ∷ [])
  pub no_more : entry_at (cut four_dirs (at "/d/a" ∷ [])) (at "/d/a/b") ≡ entry_at four_dirs (at "/d/a/b")
  pub all : MayCut four_dirs (at "/d") (at "/d/a/b" ∷ at "/d/a" ∷ [])
  pub itself : ¬ (MayCut four_dirs (at "/d") (at "/d" ∷ at "/d/a" ∷ at "/d/a/b" ∷ []))
  pub beside : ¬ (MayCut (after (Mkdirs (at "/d/a/b") ∷ Mkdirs (at "/x") ∷ [])) (at "/d") (at "/x" ∷ []))
  pub missing : ¬ (MayCut four_dirs (at "/d") (at "/d/x" ∷ []))
  pub twice : ¬ (MayCut four_dirs (at "/d") (at "/d/a/b" ∷ at "/d/a/b" ∷ []))
  pub nothing : ¬ (MayCut four_dirs (at "/d") [])
  pub root : ¬ (MayCut four_dirs (at "/") (at "/d/a/b" ∷ []))
  pub no_directory : ¬ (MayCut (a_file (at "/f") ∷ a_dir (at "/f/x") ∷ []) (at "/f") (at "/f/x" ∷ []))
