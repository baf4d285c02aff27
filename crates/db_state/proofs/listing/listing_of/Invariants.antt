use Rattle.std.proofs.Common.{◌≡◌, ◌++◌, length}
use Rattle.std.specs.List.{filter_map}
use Rattle.std.specs.Vec.Iter.{into_iter_items, into_iter_len}
use Rattle.db_state.specs.Current.{listed_under}
use Rattle.db_state.proofs.ListingLemmas.{told_at}
use Rattle.db_state.proofs.listing.listing_of.Given as goal

abbrev pub invariant-loop-name : goal.invariant-loop-name
invariant-loop-name l = record {
  told : l.listing.items ++ filter_map (told_at l.inodes.rows l.parent) (into_iter_items l.name-iterator) ≡ listed_under l.inodes.rows l.parent;
  left : into_iter_len l.name-iterator ≡ length (into_iter_items l.name-iterator);
}
