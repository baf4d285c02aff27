use Rattle.std.proofs.Common.{refl}
use Rattle.script_text.proofs.Literals.{on_literals}
use Rattle.script_text.proofs.examples.each_rule_is_told.Goals as goal

pub returns-clause-cut : goal.returns-clause-cut
unfolding on_literals
returns-clause-cut c = refl

pub returns-clause-no_object : goal.returns-clause-no_object
unfolding on_literals
returns-clause-no_object c = refl

pub returns-clause-unknown_key : goal.returns-clause-unknown_key
unfolding on_literals
returns-clause-unknown_key c = refl

pub returns-clause-version : goal.returns-clause-version
unfolding on_literals
returns-clause-version c = refl

pub returns-clause-namenodes : goal.returns-clause-namenodes
unfolding on_literals
returns-clause-namenodes c = refl

pub returns-clause-tries : goal.returns-clause-tries
unfolding on_literals
returns-clause-tries c = refl

pub returns-clause-grace : goal.returns-clause-grace
unfolding on_literals
returns-clause-grace c = refl

pub returns-clause-persist : goal.returns-clause-persist
unfolding on_literals
returns-clause-persist c = refl

pub returns-clause-no_stops : goal.returns-clause-no_stops
unfolding on_literals
returns-clause-no_stops c = refl

pub returns-clause-second_stop : goal.returns-clause-second_stop
unfolding on_literals
returns-clause-second_stop c = refl

pub returns-clause-no_clients : goal.returns-clause-no_clients
unfolding on_literals
returns-clause-no_clients c = refl

pub returns-clause-client_keys : goal.returns-clause-client_keys
unfolding on_literals
returns-clause-client_keys c = refl

pub returns-clause-user : goal.returns-clause-user
unfolding on_literals
returns-clause-user c = refl

pub returns-clause-no_calls : goal.returns-clause-no_calls
unfolding on_literals
returns-clause-no_calls c = refl

pub returns-clause-call_items : goal.returns-clause-call_items
unfolding on_literals
returns-clause-call_items c = refl

pub returns-clause-call_name : goal.returns-clause-call_name
unfolding on_literals
returns-clause-call_name c = refl

pub returns-clause-call_path : goal.returns-clause-call_path
unfolding on_literals
returns-clause-call_path c = refl

pub returns-clause-call_number : goal.returns-clause-call_number
unfolding on_literals
returns-clause-call_number c = refl
