use Rattle.std.proofs.Common.{◌<◌, IfSome, length, sym, subst}
use Rattle.path_resolver.specs.declared.step.Lists.{Lists}
use Rattle.path_resolver.proofs.step.Step.take.Goals as goal

pub push_row-requires : goal.push_row-requires
push_row-requires c = subst (λ (lists : Lists). IfSome c.args.self.look.row (λ row. length lists.found.items < lists.found.room)) (sym c.lists_for-places.ensures) c.requires.row
