use Rattle.std.proofs.Common.{ap}
use Rattle.hops_base.specs.declared.hint.Hint.{Hint}
use Rattle.hops_base.specs.Roomy.{Roomy}
use Rattle.path_resolver.proofs.TrailLemmas.{all_hints}
use Rattle.path_resolver.proofs.trail.trail_of.Goals as goal

pub returns : goal.returns
returns c = all_hints c.args.way.now.above.now c.args.way.now.last.now c.new-hints.result.items c.add_hints.new.hints.items c.add_hint.new.hints.items c.from_vec-2.result.items
    c.in-len1-up.len_at_least c.new-hints.ensures.items c.in_ok-add_hints.ensures c.in_ok-add_hint.ensures (ap (λ (l : Roomy Hint). l.items) c.from_vec-2.ensures)
