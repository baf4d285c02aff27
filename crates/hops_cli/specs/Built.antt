-- Which scripts need nothing but what is built. This project's own.
use Rattle.std.specs.Prelude.{◌≡◌, ℕ, ◌+◌, ◌≤◌, Bool, true, not, ◌&&◌, ◌==◌, nat_le, if◌then◌else◌, List, [], length, map, Option, Some, option_map}
use Rattle.std.specs.List.{list_all, position_from, enumerate_from}
use Rattle.hops_base.specs.First.{first_some}
use Rattle.name_space.specs.declared.call.Call.{Call}
use Rattle.name_space.specs.Script.{ClientCalls, Script}
use Rattle.hops_core.specs.Built.{is_built}

-- the number of a client's first call, from 1, of a kind that isn't
abbrev pub unbuilt_in : List Call → Option ℕ
unbuilt_in calls = option_map (λ (place : ℕ). place + 1) (position_from (λ (c : Call). not (is_built c)) 0 calls)

-- one namenode, at most one client, and no stops
abbrev pub has_built_counts : Script → Bool
has_built_counts script = (script.namenodes == 1) && nat_le (length script.clients) 1 && (length script.stops == 0)

-- the first call of a kind that isn't built, by its client and its number
abbrev pub unbuilt_call : Script → Option (ℕ × ℕ)
unbuilt_call script = first_some (map (λ (c : ℕ × ClientCalls). option_map (λ (number : ℕ). (c.0, number)) (unbuilt_in c.1.calls)) (enumerate_from 0 script.clients))

-- what a script needs first that isn't built: its counts, as client 0 and call 0, or else a call
abbrev pub unbuilt : Script → Option (ℕ × ℕ)
unbuilt script = if has_built_counts script then unbuilt_call script else Some (0, 0)

-- all calls of a client are of kinds that are built
abbrev pub is_built_client : ClientCalls → Bool
is_built_client client = list_all is_built client.calls

-- the script needs nothing else
pub record IsBuilt (script : Script) : Type 0 where
  pub namenodes : script.namenodes ≡ 1
  pub few : length script.clients ≤ 1
  pub stays : script.stops ≡ []
  pub calls : list_all is_built_client script.clients ≡ true
