use Rattle.std.proofs.Common.{ap, map, ◌∙◌}
use Rattle.script_text.proofs.ViewLemmas.{are_among, are_known-entries}
use Rattle.script_text.proofs.members.has_only.Goals as goal

pub loop-key-init : goal.loop-key-init
loop-key-init c =
    ap (are_among (map (λ k. k.now) c.args.known.now)) (c.into_iter-key-iterator.ensures.into_iter_gives ∙ c.keys-key-items.ensures.rest)
    ∙ are_known-entries (map (λ k. k.now) c.args.known.now) c.args.members.now.entries
