use Rattle.std.proofs.Common.{◌≡◌, ◌≤◌, ◌∙◌, sym, map, length, arith, true}
use Rattle.std.proofs.lemmas.List.{length-map}
use Rattle.hops_base.specs.Path.{most_path_bytes, most_path_names, is_absolute, names_in}
use Rattle.hops_base.proofs.PathLemmas.{names_are_pieces, read_by_names, short_when_read}
use Rattle.std.proofs.lemmas.Str.{is_utf8-from_IsUtf8}
use Rattle.hops_base.proofs.TextLemmas.{names_utf8}
use Rattle.hops_base.proofs.PathLaws.{fault_of_short}
use Rattle.hops_base.proofs.path.Path.read.Goals as goal

pub read_names-requires : goal.read_names-requires
read_names-requires c = record {
  pieces = rw (c.deref.ensures.value, c.in-Ok.ensures) (names_are_pieces c.args.text.now);
  texts = rw (c.deref.ensures.value, c.in-Ok.ensures) (names_utf8 c.args.text.now (sym c.begins_with_slash.ensures ∙ c.if-not-begins_with_slash.false) (is_utf8-from_IsUtf8 c.args.text.now c.utf8.text));
}

pub returns-clause-read : goal.returns-clause-read
returns-clause-read c =
    let absolute : is_absolute c.args.text.now ≡ true = sym c.begins_with_slash.ensures ∙ c.if-not-begins_with_slash.false in
    let few : length (names_in c.args.text.now) ≤ most_path_names = rw (← c.in-Ok.ensures, length-map) (omega (arith, c.in-Ok.names.ok.0)) in
    let short : length c.args.text.now ≤ most_path_bytes = omega arith in
    read_by_names _ c.args.text.now (map (λ name. name.now) c.deref.result.now) c.read_names.result absolute (rw c.deref.ensures.value c.in-Ok.ensures) (fault_of_short c.args.text.now short absolute few) c.read_names.ensures

pub returns-clause-short : goal.returns-clause-short
returns-clause-short c =
    let absolute : is_absolute c.args.text.now ≡ true = sym c.begins_with_slash.ensures ∙ c.if-not-begins_with_slash.false in
    let few : length (map (λ name. name.now) c.deref.result.now) ≤ most_path_names = rw (length-map, c.deref.ensures.value) (omega (arith, c.in-Ok.names.ok.0)) in
    short_when_read c.args.text.now (map (λ name. name.now) c.deref.result.now) c.read_names.result (omega arith) few absolute (rw c.deref.ensures.value c.in-Ok.ensures) c.read_names.ensures
