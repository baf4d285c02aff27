use Rattle.std.proofs.Common.{◌≡◌, ◌∙◌, sym, not, ◌&&◌, nat_lt, nat_le, [], ◌∷◌, length, arith}
use Rattle.std.proofs.lemmas.Bool.Decides.{nat_tests}
use Rattle.std.proofs.lemmas.Grind.{common_steps}
use Rattle.std.proofs.lemmas.Str.{is_utf8-from_IsUtf8}
use Rattle.std.specs.List.{list_all}
use Rattle.hops_base.specs.Name.{most_name_bytes, is_name_byte}
use Rattle.std.specs.Prelude.{bytes_eq}
use Rattle.hops_base.proofs.TextLemmas.{and-true}
use Rattle.hops_base.proofs.name.is_good.Goals as goal

pub returns : goal.returns
returns c =
    let plain : c.has_good_bytes.result ≡ (nat_lt 0 (length c.args.text.now) && nat_le (length c.args.text.now) most_name_bytes && not (bytes_eq c.args.text.now (46 ∷ [])) && not (bytes_eq c.args.text.now (46 ∷ 46 ∷ [])) && list_all is_name_byte c.args.text.now) = grind (arith, nat_tests, common_steps) in
    plain ∙ sym (and-true _ _ (is_utf8-from_IsUtf8 c.args.text.now c.utf8.text))
