use Rattle.std.proofs.Common.{refl}
use Rattle.std.specs.Str.{is_utf8, chars}
use Rattle.name_space.proofs.examples.numbers_in_range.Goals as goal

pub returns : goal.returns
unfolding is_utf8 chars lib.Utf8.encode
returns c = record { grow = refl; chmod = refl; names = refl; bytes = refl }
