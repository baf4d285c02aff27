-- What a run is set up with, as contracts see it. This project's own.
use Rattle.std.specs.Prelude.{◌≡◌, ℕ, ◌≤◌, true, List, length}
use Rattle.std.specs.List.{list_all}
use Rattle.hops_base.specs.declared.ids.NodeNo.{NodeNo}
use Rattle.name_space.specs.Script.{most_namenodes, most_clients, is_count, is_stop, differ}

-- how many namenodes there are; the users that the clients act for; the beats that a member may be behind; which namenodes
-- stop, and at which of their commits
pub record Settings : Type 0 where
  pub namenodes : ℕ
  pub users : List (List ℕ)
  pub grace : ℕ
  pub stops : List (NodeNo × ℕ)

-- everything in them is within its range
pub record IsSettings (settings : Settings) : Type 0 where
  pub few : (1 ≤ settings.namenodes) × (settings.namenodes ≤ most_namenodes)
  pub clients : length settings.users ≤ most_clients
  pub beats : is_count settings.grace ≡ true
  pub stopping : (list_all (is_stop settings.namenodes) settings.stops ≡ true) × differ settings.stops
