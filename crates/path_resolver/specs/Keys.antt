-- The keys that a call of one path locks, as they are gathered. This crate's own.
use Rattle.std.specs.Prelude.{◌≡◌, if◌then◌else◌, List, ◌++◌}
use Rattle.hops_base.specs.declared.ids.ClientNo.{ClientNo}
use Rattle.hops_base.specs.declared.ids.Mode.{Mode}
use Rattle.hops_base.specs.declared.ids.Mode.TheVariants.{Shared, Exclusive}
use Rattle.hops_base.specs.declared.key.Key.{Key}
use Rattle.name_space.specs.declared.call.Call.{Call}
use Rattle.name_space.specs.Call.{changes}
use Rattle.db_state.specs.declared.view.Place.{Place}
use Rattle.db_state.specs.Plan.{in_mode, path_keys}
use Rattle.path_resolver.specs.declared.keys.Wanted.{Wanted}

-- the mode in which a call locks the keys of its path
abbrev pub mode_of : Call → Mode
mode_of call = if changes call then Exclusive else Shared

-- these keys were added, in the mode of the others
pub record Adds (more : List Key) (old new : Wanted) : Type 0 where
  pub mode : new.mode ≡ old.mode
  pub keys : new.keys.items ≡ old.keys.items ++ in_mode old.mode more

-- those were added that the call locks by the place of its path
abbrev pub AddsPath : ClientNo → Call → Place → Wanted → Wanted → Type 0
AddsPath client call place old new = new.keys.items ≡ old.keys.items ++ path_keys client call place
