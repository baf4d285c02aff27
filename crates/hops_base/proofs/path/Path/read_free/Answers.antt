use Rattle.std.proofs.Common.{◌≡◌, ◌∙◌, sym, map, true}
use Rattle.hops_base.specs.Path.{is_absolute}
use Rattle.std.proofs.lemmas.Str.{is_utf8-from_IsUtf8}
use Rattle.hops_base.proofs.TextLemmas.{names_utf8}
use Rattle.hops_base.proofs.PathLemmas.{names_are_pieces, read_by_names, fault_of_free}
use Rattle.hops_base.proofs.path.Path.read_free.Goals as goal

pub read_names-requires : goal.read_names-requires
read_names-requires c = record {
  pieces = rw (c.deref.ensures.value, c.in-Ok.ensures) (names_are_pieces c.args.text.now);
  texts = rw (c.deref.ensures.value, c.in-Ok.ensures) (names_utf8 c.args.text.now (sym c.begins_with_slash.ensures ∙ c.if-not-begins_with_slash.false) (is_utf8-from_IsUtf8 c.args.text.now c.utf8.text));
}

pub returns : goal.returns
returns c =
    let absolute : is_absolute c.args.text.now ≡ true = sym c.begins_with_slash.ensures ∙ c.if-not-begins_with_slash.false in
    read_by_names _ c.args.text.now (map (λ name. name.now) c.deref.result.now) c.read_names.result absolute (rw c.deref.ensures.value c.in-Ok.ensures) (fault_of_free c.args.text.now absolute) c.read_names.ensures
