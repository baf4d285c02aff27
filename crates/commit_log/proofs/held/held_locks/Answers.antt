use Rattle.std.proofs.Common.{◌≡◌, ◌∙◌, map, rules}
use Rattle.commit_log.specs.Locks.{held}
use Rattle.commit_log.specs.Reads.{lock_of}
use Rattle.commit_log.proofs.LockMarkLemmas.{held_by_sifting}
use Rattle.commit_log.proofs.held.held_locks.Goals as goal

pub returns : goal.returns
returns c =
    let same : c.in_ok-locks.locks.items ≡ map lock_of (held c.args.notes.now) = c.in_ok-locks.ensures ∙ held_by_sifting c.args.notes.now c.in_ok-marks.marks c.in_ok-marks.takings.items c.in_ok-marks.ensures.marks c.in_ok-marks.ensures.takings in
    search rules
