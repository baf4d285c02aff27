-- What a proof unfolds to compute a script on a literal.
use Rattle.std.specs.Prelude.{⊤}
use Rattle.std.specs.Str.{chars, is_utf8}
use Rattle.std.specs.Fmt.{digits}
use Rattle.serde_json.proofs.OnLiterals.{serde_json_on_literals}

unfoldable pub on_literals : ⊤
unfolding serde_json_on_literals chars is_utf8 digits
on_literals = tt
