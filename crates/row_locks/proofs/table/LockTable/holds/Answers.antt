use Rattle.std.proofs.Common.{ap, sym, ◌∙◌}
use Rattle.row_locks.specs.Holders.{mode_in}
use Rattle.row_locks.specs.Locks.{mode_of}
use Rattle.row_locks.proofs.KeptLemmas.{mode_kept}
use Rattle.row_locks.proofs.table.LockTable.holds.Goals as goal

pub returns : goal.returns
returns c =
    c.mode_in.ensures
    ∙ ap (λ hs. mode_in hs c.args.s) c.items_at.ensures
    ∙ sym (mode_kept c.self.inside.holders c.self.invariant.by_key c.args.s c.args.key.now)
    ∙ ap (λ locks. mode_of locks c.args.s c.args.key.now) c.self.view_is
