use Rattle.std.proofs.Common.{refl, sym}
use Rattle.std.specs.Prelude.{codes}
use Rattle.std.proofs.lemmas.Bool.{true≢false}
use Rattle.name_space.specs.Examples.{at}
use Rattle.name_space.proofs.examples.no_namespaces.Goals as goal

pub returns : goal.returns
returns c = record {
  empty = λ is. true≢false (sym is.root);
  root_missing = λ is. true≢false (sym is.root);
  root_a_file = λ is. true≢false (sym is.root);
  parent_missing = λ is. true≢false (sym (is.parents (at "/a") (codes "b") refl));
  parent_a_file = λ is. true≢false (sym (is.parents (at "/a") (codes "b") refl));
  falling = λ is. true≢false (sym is.rises);
  twice = λ is. true≢false (sym is.rises);
  no_name = λ is. true≢false (sym is.names);
}
