use Rattle.std.proofs.Common.{refl, map, List, [], ◌∷◌, codes}
use Rattle.serde_json.specs.Data.{Data, Members, string}
use Rattle.script_text.specs.Json.{members, row, whole}
use Rattle.script_text.specs.Form.{call_data, client_data}
use Rattle.script_text.specs.Examples.{first_calls, first_script}
use Rattle.script_text.proofs.Literals.{on_literals}
use Rattle.script_text.proofs.examples.first_script_is_read.Goals as goal

-- the value of the calls
call_values : List Data
call_values = map call_data first_calls

-- the members of the one client
client_members : Members
client_members = members (("calls", row call_values) ∷ ("user", string (codes "ann")) ∷ [])

-- the members of the script
script_members : Members
script_members = members (("clients", row (map client_data first_script.clients)) ∷ ("namenodes", whole 1) ∷ ("version", whole 1) ∷ [])

pub returns : goal.returns
unfolding on_literals call_values client_members script_members
returns c =
    record {
      good = refl;
      says = (
        script_members,
        refl,
        record {
          namenodes = refl;
          clients = (map client_data first_script.clients, refl, ((client_members, refl, (refl, (call_values, refl, ((refl, refl), ((refl, refl), tt))))), tt));
          stops = refl;
          tries = refl;
          grace = refl;
          persist = refl;
        },
      );
    }
