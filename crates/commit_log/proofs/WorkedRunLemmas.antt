-- The worked runs hold together, and kept what a run keeps: each rule is computed on their books.
use Rattle.std.proofs.Common.{rules, refl}
use Rattle.std.specs.List.{IsDistinct}
use Rattle.std.specs.List.Sorted.{IsStrictlySortedBy}
use Rattle.hops_base.specs.Key.{key_cmp}
use Rattle.name_space.specs.Script.{users_of}
use Rattle.commit_log.specs.Along.{Each}
use Rattle.commit_log.specs.Kept.{IsHeld}
use Rattle.commit_log.specs.Parts.{did}
use Rattle.commit_log.specs.Ids.{ids}
use Rattle.commit_log.specs.Legal.{space}
use Rattle.commit_log.specs.Locks.{held}
use Rattle.commit_log.specs.WorkedRuns.{made_without_locks, made_and_seen, deleted_beside, cut_off, RunIsTold, RunIsKept, RunIsKeptWithoutLocks}
use Rattle.commit_log.proofs.AlongLaws.{Each-told}

pub made_without_locks-told : RunIsTold made_without_locks
unfolding Each space held key_cmp IsDistinct IsStrictlySortedBy
made_without_locks-told = record { orderly = search rules; legal = search rules; sound = search rules; answers = search rules; licensed = search rules; explained = search rules; tree = refl }

pub made_without_locks-kept : RunIsKeptWithoutLocks made_without_locks
unfolding Each
made_without_locks-kept = record { stops = search rules; evicts = search rules; silent = search rules; cuts = search rules; cut_once = search rules; reclaims = search rules; in_order = search rules; ends = search rules }

pub made_and_seen-told : RunIsTold made_and_seen
unfolding Each space held key_cmp IsDistinct IsStrictlySortedBy
made_and_seen-told = record { orderly = search rules; legal = search rules; sound = search rules; answers = search rules; licensed = search rules; explained = search rules; tree = refl }

pub made_and_seen-kept : RunIsKept made_and_seen
unfolding Each space held key_cmp ids
made_and_seen-kept = record {
  kept = record { stops = search rules; evicts = search rules; silent = search rules; cuts = search rules; cut_once = search rules; reclaims = search rules; in_order = search rules; ends = search rules };
  held = search rules;
  flagged = search rules;
}

pub deleted_beside-told : RunIsTold deleted_beside
unfolding Each space held key_cmp IsDistinct IsStrictlySortedBy
deleted_beside-told = record { orderly = search rules; legal = search rules; sound = search rules; answers = search rules; licensed = search rules; explained = search rules; tree = refl }

pub deleted_beside-kept : RunIsKept deleted_beside
unfolding Each space held key_cmp ids
deleted_beside-kept = record {
  kept = record { stops = search rules; evicts = search rules; silent = search rules; cuts = search rules; cut_once = search rules; reclaims = search rules; in_order = search rules; ends = search rules };
  held = Each-told did (IsHeld (users_of deleted_beside.script)) deleted_beside.notes (search rules);
  flagged = search rules;
}

pub cut_off-told : RunIsTold cut_off
unfolding Each space held key_cmp IsDistinct IsStrictlySortedBy
cut_off-told = record { orderly = search rules; legal = search rules; sound = search rules; answers = search rules; licensed = search rules; explained = search rules; tree = refl }

pub cut_off-kept : RunIsKept cut_off
unfolding Each space held key_cmp ids
cut_off-kept = record {
  kept = record { stops = search rules; evicts = search rules; silent = search rules; cuts = search rules; cut_once = search rules; reclaims = search rules; in_order = search rules; ends = search rules };
  held = Each-told did (IsHeld (users_of cut_off.script)) cut_off.notes (search rules);
  flagged = search rules;
}
