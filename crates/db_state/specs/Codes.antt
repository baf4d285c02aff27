-- Codes of what the values of this crate are made of.
use Rattle.std.specs.FinMap as map
use Rattle.std.specs.Coded.{Coded, coded_ℕ}
use Rattle.std.specs.Ordering.{nat_cmp}
use Rattle.hops_base.specs.Key.{key_cmp, coded_key}

-- rows by key are stored by their keys and rows
abbrev pub coded_rows : {R : Type 0} → Coded R → Coded (map.FinMap key_cmp R)
coded_rows row = map.code coded_key row

-- sessions are stored by their numbers
abbrev pub coded_sessions : {S : Type 0} → Coded S → Coded (map.FinMap nat_cmp S)
coded_sessions session = map.code coded_ℕ session
