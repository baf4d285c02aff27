use Rattle.std.proofs.Common.{◌≡◌, take}
use Rattle.name_space.proofs.entry.copy_listing.Given as goal

abbrev pub invariant-loop-listed : goal.invariant-loop-listed
invariant-loop-listed l = l.copy ≡ record { items = take l.listed-index l.listed-items; room = l.listing.room }
