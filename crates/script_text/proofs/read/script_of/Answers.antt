use Rattle.std.proofs.Common.{◌≡◌, ℕ, None, option_and_then, sym, ap, subst, ◌∙◌}
use Rattle.serde_json.specs.View.{members_view}
use Rattle.script_text.specs.Json.{at_key}
use Rattle.script_text.specs.Faults.{members_fault, clients_fault, stops_fault, namenodes_in}
use Rattle.script_text.specs.Grammar.{HasClients, Says}
use Rattle.script_text.proofs.Reading.{passed_on, settings_persist, clients_later, members_read, no_fault_joined}
use Rattle.script_text.proofs.read.script_of.Goals as goal

pub returns-in_err-clients : goal.returns-in_err-clients
returns-in_err-clients c =
    let ms = members_view c.args.members.now.entries in
    let settings = sym c.settings_fault.ensures ∙ c.in_default.is in
    let stops : option_and_then (stops_fault (namenodes_in ms)) (at_key "stops" ms) ≡ None = ap (λ (n : ℕ). option_and_then (stops_fault n) (at_key "stops" ms)) (sym c.count_at-namenodes.ensures) ∙ c.in_ok-stops.ensures.0 in
    passed_on (clients_fault ms) (members_fault ms) (λ clients. HasClients ms clients.items) (Says ms) c.clients_at.result c.from_residual-in_err-clients.result c.in_err-clients.field-0.0 c.clients_at.ensures c.in_err-clients.was c.from_residual-in_err-clients.ensures
    (λ f told. clients_later ms f settings stops told)

pub new-requires : goal.new-requires
new-requires c =
    let ms = members_view c.args.members.now.entries in
    let settings = sym c.settings_fault.ensures ∙ c.in_default.is in
    let stops : option_and_then (stops_fault (namenodes_in ms)) (at_key "stops" ms) ≡ None = ap (λ (n : ℕ). option_and_then (stops_fault n) (at_key "stops" ms)) (sym c.count_at-namenodes.ensures) ∙ c.in_ok-stops.ensures.0 in
    (members_read ms _ (no_fault_joined ms settings stops c.in_ok-clients.ensures.0) c.count_at-namenodes.ensures c.in_ok-clients.ensures.1 c.in_ok-stops.ensures.1 c.count_at.ensures c.count_at-2.ensures (c.persist_at.ensures (settings_persist ms settings))).1

pub returns : goal.returns
returns c =
    let ms = members_view c.args.members.now.entries in
    let settings = sym c.settings_fault.ensures ∙ c.in_default.is in
    let stops : option_and_then (stops_fault (namenodes_in ms)) (at_key "stops" ms) ≡ None = ap (λ (n : ℕ). option_and_then (stops_fault n) (at_key "stops" ms)) (sym c.count_at-namenodes.ensures) ∙ c.in_ok-stops.ensures.0 in
    let none = no_fault_joined ms settings stops c.in_ok-clients.ensures.0 in
    (none, subst (Says ms) (sym c.new.ensures) (members_read ms _ none c.count_at-namenodes.ensures c.in_ok-clients.ensures.1 c.in_ok-stops.ensures.1 c.count_at.ensures c.count_at-2.ensures (c.persist_at.ensures (settings_persist ms settings))).0)
