use Rattle.std.proofs.Common.{length, refl, ap, ◌∙◌}
use Rattle.core_replay.proofs.ReplayLaws.{built_from, is_replay}
use Rattle.core_replay.proofs.replay.replay.Goals as goal

pub make_all-requires-clause-built : goal.make_all-requires-clause-built
make_all-requires-clause-built c = (built_from c.args.script.now c.args.events.now c.requires).1

pub returns : goal.returns
returns c =
    is_replay c.args.script.now c.in_ok-settings.settings c.in_ok-core.core c.make_all.new.core c.args.events.now c.in_ok-tree.tree.items c.as_slice.result.now c.len-notes.result _ c.len.result
    c.make_all.new.text.items c.add_places.new.text.items c.add_counts.new.text.items c.in_ok-make_all.ensures c.in_ok-settings.ensures c.in_ok-core.ensures c.kept.ensures
    c.in_ok-tree.ensures c.as_slice.ensures.items c.in_ok-add_places.ensures (c.len-notes.ensures ∙ ap length c.book.ensures) refl c.len.ensures c.in_ok-add_counts.ensures
