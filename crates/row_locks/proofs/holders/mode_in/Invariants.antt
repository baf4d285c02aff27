use Rattle.std.proofs.Common.{◌≡◌, drop}
use Rattle.row_locks.specs.Holders.{mode_in}
use Rattle.row_locks.proofs.holders.mode_in.Given as goal

-- the rest has what the whole has
abbrev pub invariant-loop-holder : goal.invariant-loop-holder
invariant-loop-holder l = mode_in (drop l.holder-index l.holders) l.s ≡ mode_in l.holders l.s
