use Rattle.std.proofs.Common.{◌≡◌, ℕ, List, take}
use Rattle.std.specs.List.{list_any}
use Rattle.std.specs.BTreeSet as sorted
use Rattle.std.specs.Ordering.{nat_cmp}
use Rattle.std.specs.Cmp.Lexicographic.{slice_cmp}
use Rattle.row_store.specs.Slots.{is_child}
use Rattle.row_store.proofs.children.names_below.Given as goal

-- the set has the names found so far
abbrev pub invariant-loop-slot : goal.invariant-loop-slot
invariant-loop-slot g l = (q : List ℕ) → sorted.contains (slice_cmp nat_cmp) l.names q ≡ list_any (is_child l.parent q) (take l.slot-index l.slots)
