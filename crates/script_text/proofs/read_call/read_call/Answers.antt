use Rattle.std.proofs.Common.{Some, map, sym, ap, subst, ◌∙◌}
use Rattle.serde_json.specs.View.{view}
use Rattle.script_text.specs.Reading.{IsCallMade}
use Rattle.script_text.proofs.Calls.{valid_told, invalid_told}
use Rattle.script_text.proofs.read_call.read_call.Goals as goal

pub returns : goal.returns
returns c =
    let name = c.in-Some.name.now in
    let rest = map view c.behind_name-rest.result.now in
    valid_told (view c.args.value.now) name rest c.in-Some.ensures c.behind_name-rest.ensures (sym c.has_form.ensures ∙ c.if-not-has_form.false) (sym c.in_ok-why.ensures ∙ c.in_default-2.is) c.in-Some-3.call
    (subst (IsCallMade name rest) c.in-Some-3.is c.in_ok-call.ensures) c.args.at c.args.number (sym c.is_valid.ensures ∙ c.if-not-is_valid.false)

pub returns-then-not-is_valid : goal.returns-then-not-is_valid
returns-then-not-is_valid c =
    let name = c.in-Some.name.now in
    let rest = map view c.behind_name-rest.result.now in
    invalid_told (view c.args.value.now) name rest c.in-Some.ensures c.behind_name-rest.ensures (sym c.has_form.ensures ∙ c.if-not-has_form.false) (sym c.in_ok-why.ensures ∙ c.in_default-2.is) c.in-Some-3.call
    (subst (IsCallMade name rest) c.in-Some-3.is c.in_ok-call.ensures) c.args.at c.args.number (sym c.is_valid.ensures ∙ c.if-not-is_valid.true)
    ∙ ap Some (sym c.new-then-not-is_valid.ensures)
