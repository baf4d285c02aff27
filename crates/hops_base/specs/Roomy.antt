-- What a list with room is to its readers.
use Rattle.std.specs.Prelude.{ℕ, List, refl}
use Rattle.std.specs.Coded.{Coded, code_by, coded×, coded_ℕ, coded_list}

-- the items, and how many the list has room for
pub record Roomy (T : Type 0) : Type 0 where
  pub items : List T
  pub room : ℕ

-- it is stored as the pair of its fields
abbrev pub coded_roomy : {T : Type 0} → Coded T → Coded (Roomy T)
coded_roomy {T} item = code_by (List T × ℕ) (coded× (coded_list item) coded_ℕ) (λ l. (l.items, l.room)) (λ p. record { items = p.0; room = p.1 }) (λ _. refl)
