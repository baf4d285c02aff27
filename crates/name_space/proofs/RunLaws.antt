-- Calls one after another leave a namespace.
use Rattle.std.proofs.Common.{[], ◌∷◌}
use Rattle.std.specs.List.{list_all}
use Rattle.std.proofs.lemmas.Bool.{and_parts}
use Rattle.hops_base.specs.Name.{is_name}
use Rattle.name_space.specs.declared.call.Call.{Call}
use Rattle.name_space.specs.Call.{paths_of}
use Rattle.name_space.specs.Calls.{plain}
use Rattle.name_space.specs.Laws.{CallsKeepANamespace}
use Rattle.name_space.proofs.PlainLaws.{plain_keeps_a_namespace}

pub calls_keep_a_namespace : CallsKeepANamespace
calls_keep_a_namespace space client user [] is names = is
calls_keep_a_namespace space client user (call ∷ calls) is names =
    let parts = and_parts (list_all (list_all is_name) (paths_of call)) (list_all (λ (next : Call). list_all (list_all is_name) (paths_of next)) calls) names in
    calls_keep_a_namespace (plain space client user call).space client user calls (plain_keeps_a_namespace space client user call is parts.0) parts.1
