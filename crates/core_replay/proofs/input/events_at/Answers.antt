use Rattle.std.proofs.Common.{map}
use Rattle.serde_json.specs.View.{view, members_view}
use Rattle.script_text.specs.Json.{at_key}
use Rattle.script_text.proofs.Reading.{array_there, few_seen}
use Rattle.core_replay.proofs.InputLaws.{read_so, events_fault_is}
use Rattle.core_replay.proofs.input.events_at.Goals as goal

pub returns-in-Some : goal.returns-in-Some
returns-in-Some c =
    let ms = members_view c.args.members.now.entries in
    let values = map view c.in-Some.values.now in
    let there = array_there (at_key "events" ms) values c.in-Some.ensures in
    read_so _ _ _ _ c.events_of.result (events_fault_is ms values there (few_seen _ c.in-Some.values.now c.if-values-le-MOST_EVENTS.true)) (λ events said. (values, there, said)) c.events_of.ensures
