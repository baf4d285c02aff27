use Rattle.std.proofs.Common.{refl, sym, rules}
use Rattle.std.specs.List.{IsDistinct}
use Rattle.std.proofs.lemmas.Bool.{true≢false}
use Rattle.name_space.proofs.examples.cut_cases.Goals as goal

pub returns : goal.returns
unfolding IsDistinct
returns c = record {
  not_closed = λ may. true≢false (sym may.closed);
  closed = record { dir = refl; not_root = λ e. cc; some = λ e. cc; once = search rules; below = refl; closed = refl };
  rest = refl;
  no_more = refl;
  all = record { dir = refl; not_root = λ e. cc; some = λ e. cc; once = search rules; below = refl; closed = refl };
  itself = λ may. true≢false (sym may.below);
  beside = λ may. true≢false (sym may.below);
  missing = λ may. true≢false (sym may.below);
  twice = λ may. true≢false (may.once.0.0);
  nothing = λ may. may.some refl;
  root = λ may. may.not_root refl;
  no_directory = λ may. true≢false (sym may.dir);
}
