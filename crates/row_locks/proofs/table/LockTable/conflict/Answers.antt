use Rattle.std.proofs.Common.{not, ◌&&◌, ◌==◌, false, None, ap, sym, ◌∙◌, subst}
use Rattle.std.specs.Option.{option_map_or}
use Rattle.hops_base.specs.Key.{key_cmp}
use Rattle.hops_base.specs.Mode.{conflict}
use Rattle.row_locks.specs.Holders.{others_in_the_way, least_after}
use Rattle.row_locks.specs.Lists.{items_at}
use Rattle.row_locks.specs.Locks.{Locks, IsConflict}
use Rattle.row_locks.proofs.ConflictLemmas.{has-others, conflict_found}
use Rattle.row_locks.proofs.KeptLemmas.{locks_at, mode_kept}
use Rattle.row_locks.proofs.table.LockTable.conflict.Goals as goal

pub returns : goal.returns
returns c =
    let table = c.self.inside.holders in
    let holders = items_at key_cmp table c.args.key.now in
    subst (λ (locks : Locks). IsConflict locks c.args.s c.args.key.now c.args.mode c.least_in_the_way.result) c.self.view_is
    (conflict_found (locks_at table) c.args.s c.args.key.now c.args.mode (others_in_the_way holders c.args.s c.args.mode) c.least_in_the_way.result
    (λ t. has-others c.args.s c.args.mode holders t (c.self.invariant.tied.holders_once c.args.key.now)
    ∙ ap (λ other. not (t.0 == c.args.s.0) && option_map_or (conflict c.args.mode) other false) (sym (mode_kept table c.self.invariant.by_key t c.args.key.now)))
    (c.least_in_the_way.ensures ∙ ap (λ hs. least_after None (others_in_the_way hs c.args.s c.args.mode)) c.items_at.ensures))
