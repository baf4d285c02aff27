-- Which locks on one key keep each other away. This project's own.
use Rattle.std.specs.Prelude.{Bool, true, false}
use Rattle.hops_base.specs.declared.ids.Mode.{Mode}
use Rattle.hops_base.specs.declared.ids.Mode.TheVariants.{Shared, Exclusive}

-- two locks on one key go together only where both are shared
abbrev pub conflict : Mode → Mode → Bool
conflict Shared Shared = false
conflict Shared Exclusive = true
conflict Exclusive mode = true
