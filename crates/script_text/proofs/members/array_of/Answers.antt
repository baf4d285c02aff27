use Rattle.std.proofs.Common.{Some, sym, ap, ◌∙◌, map, option_map}
use Rattle.serde_json.specs.View.{view}
use Rattle.script_text.specs.Json.{values_of}
use Rattle.script_text.proofs.ViewLemmas.{values_of-items_view}
use Rattle.script_text.proofs.members.array_of.Goals as goal

pub returns-in-Some : goal.returns-in-Some
returns-in-Some c =
    ap (λ values. Some (map view values)) c.as_slice.ensures.value
    ∙ ap Some (sym (values_of-items_view c.in-Some.values.now.items))
    ∙ ap (option_map values_of) c.in-Some.ensures
