use Rattle.std.proofs.Common.{List, refl, ap, subst, ◌∙◌}
use Rattle.name_space.specs.Script.{ClientCalls}
use Rattle.db_state.specs.Settings.{Settings}
use Rattle.db_state.specs.State.{State}
use Rattle.hops_cli.specs.Turning.{AreAllTurned}
use Rattle.hops_cli.proofs.RunLemmas.{run_all}
use Rattle.hops_cli.proofs.engine.run.Goals as goal

pub returns : goal.returns
returns c =
    run_all c.args.script.now c.args.script.now.clients c.in_ok-core.core.stored.settings c.run_clients.new.core c.into_book.result.notes c.run_clients.new.answers.items c.in_ok-tree.tree.items c.requires refl
    (subst (λ (clients : List ClientCalls). AreAllTurned c.in_ok-core.core.stored.settings clients c.run_clients.new.core c.run_clients.new.answers.items) c.clients.ensures.clients c.in_ok-run_clients.ensures)
    (ap (λ (s : State). s.stored.settings.users) c.in_ok-core.ensures ∙ ap (λ (s : Settings). s.users) c.in_ok-settings.ensures)
    c.kept.ensures c.into_book.ensures c.in_ok-tree.ensures
