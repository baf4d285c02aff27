-- Laws of writes that are made one after the other.
use Rattle.std.proofs.Common.{◌≡◌, ℕ, List, [], ◌∷◌, ◌++◌, Option, refl}
use Rattle.hops_base.specs.declared.key.Key.{Key}
use Rattle.db_state.specs.Stored.{Tables}
use Rattle.db_state.specs.Written.{with_row, written, next_with, next_after}
use Rattle.db_state.specs.declared.writes.Row.{Row}

-- writes in two parts are made one after the other
pub written-append : (first second : List (Key × Option Row)) (tables : Tables) → written tables (first ++ second) ≡ written (written tables first) second
written-append [] second tables = refl
written-append (write ∷ first) second tables = written-append first second (with_row tables write.0 write.1)

-- the next free id after writes in two parts is that after the second
pub next_after-append : (first second : List (Key × Option Row)) (next : ℕ) → next_after next (first ++ second) ≡ next_after (next_after next first) second
next_after-append [] second next = refl
next_after-append (write ∷ first) second next = next_after-append first second (next_with next write.1)
