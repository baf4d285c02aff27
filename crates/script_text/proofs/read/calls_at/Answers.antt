use Rattle.std.proofs.Common.{map}
use Rattle.serde_json.specs.View.{view, members_view}
use Rattle.script_text.specs.Json.{at_key}
use Rattle.script_text.proofs.Reading.{read_so, array_there, few_seen, calls_fault_is}
use Rattle.script_text.proofs.read.calls_at.Goals as goal

pub returns-in-Some : goal.returns-in-Some
returns-in-Some c =
    let there = array_there (at_key "calls" (members_view c.args.members.now.entries)) (map view c.in-Some.values.now) c.in-Some.ensures in
    read_so _ _ _ _ c.calls_of.result (calls_fault_is c.args.at (members_view c.args.members.now.entries) (map view c.in-Some.values.now) there (few_seen _ c.in-Some.values.now c.if-values-le-MOST_CALLS.true)) (λ calls said. (map view c.in-Some.values.now, there, said)) c.calls_of.ensures
