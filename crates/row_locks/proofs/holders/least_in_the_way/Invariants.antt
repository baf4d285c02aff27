use Rattle.std.proofs.Common.{◌≡◌, None, drop}
use Rattle.row_locks.specs.Holders.{least_after, others_in_the_way}
use Rattle.row_locks.proofs.holders.least_in_the_way.Given as goal

-- what was found so far and the rest give what the whole gives
abbrev pub invariant-loop-holder : goal.invariant-loop-holder
invariant-loop-holder l = least_after l.least (others_in_the_way (drop l.holder-index l.holders) l.s l.mode) ≡ least_after None (others_in_the_way l.holders l.s l.mode)
