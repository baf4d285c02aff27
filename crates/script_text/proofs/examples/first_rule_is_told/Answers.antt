use Rattle.std.proofs.Common.{refl}
use Rattle.script_text.proofs.Literals.{on_literals}
use Rattle.script_text.proofs.examples.first_rule_is_told.Goals as goal

pub returns-clause-key_before_version : goal.returns-clause-key_before_version
unfolding on_literals
returns-clause-key_before_version c = refl

pub returns-clause-last_version_counts : goal.returns-clause-last_version_counts
unfolding on_literals
returns-clause-last_version_counts c = refl

pub returns-clause-tries_before_grace : goal.returns-clause-tries_before_grace
unfolding on_literals
returns-clause-tries_before_grace c = refl

pub returns-clause-stops_before_clients : goal.returns-clause-stops_before_clients
unfolding on_literals
returns-clause-stops_before_clients c = refl

pub returns-clause-stops_before_calls : goal.returns-clause-stops_before_calls
unfolding on_literals
returns-clause-stops_before_calls c = refl

pub returns-clause-user_before_calls : goal.returns-clause-user_before_calls
unfolding on_literals
returns-clause-user_before_calls c = refl

pub returns-clause-calls_before_next_client : goal.returns-clause-calls_before_next_client
unfolding on_literals
returns-clause-calls_before_next_client c = refl

pub returns-clause-second_client : goal.returns-clause-second_client
unfolding on_literals
returns-clause-second_client c = refl

pub returns-clause-items_before_path : goal.returns-clause-items_before_path
unfolding on_literals
returns-clause-items_before_path c = refl

pub returns-clause-path_before_number : goal.returns-clause-path_before_number
unfolding on_literals
returns-clause-path_before_number c = refl

pub returns-clause-source_before_target : goal.returns-clause-source_before_target
unfolding on_literals
returns-clause-source_before_target c = refl

pub returns-clause-target : goal.returns-clause-target
unfolding on_literals
returns-clause-target c = refl
