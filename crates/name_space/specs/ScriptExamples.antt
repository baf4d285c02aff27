-- Worked examples of scripts: who makes which calls, and what is within its range.
use Rattle.std.specs.Prelude.{◌≡◌, ℕ, true, false, List, [], ◌∷◌, map, codes, Some, None}
use Rattle.std.specs.List.{repeat}
use Rattle.hops_base.specs.declared.ids.NodeNo.{NodeNo}
use Rattle.hops_base.specs.Ids.{client, node}
use Rattle.name_space.specs.declared.call.Call.{Call}
use Rattle.name_space.specs.declared.call.Call.TheVariants.{Mkdirs, Stat, Usage, Grow}
use Rattle.name_space.specs.Script.{ClientCalls, Script, IsScript, client_of, users_of, call_of, is_count, is_stop, is_client, default_tries, default_grace}
use Rattle.name_space.specs.Examples.{at, ann, bob}

-- a client of this user with these calls
abbrev pub made_by : List ℕ → List Call → ClientCalls
made_by user calls = record { user = user; calls = calls }

-- a script of so many namenodes, with these clients, stops, tries and beats
abbrev pub script : ℕ → List ClientCalls → List (NodeNo × ℕ) → ℕ → ℕ → Script
script namenodes clients stops tries grace = record { namenodes = namenodes; clients = clients; stops = stops; tries = tries; grace = grace; persist = true }

-- a script in which client 0 is ann and makes two calls, and client 1 is bob and makes none
abbrev pub two_client_script : Script
two_client_script = script 2 (made_by ann (Mkdirs (at "/a") ∷ Stat (at "/a") ∷ []) ∷ made_by bob [] ∷ []) ((node 1, 1000000) ∷ (node 0, 1) ∷ []) 1 1000000

-- clients are counted from 0, and their calls from 1
pub record WhoCalls : Type 0 where
  pub clients : map (λ (n : ℕ). client_of two_client_script (client n)) (1 ∷ 2 ∷ []) ≡ Some (made_by bob []) ∷ None ∷ []
  pub users : users_of two_client_script ≡ ann ∷ bob ∷ []
  pub calls : map (call_of two_client_script (client 0)) (0 ∷ 1 ∷ 2 ∷ 3 ∷ []) ≡ None ∷ Some (Mkdirs (at "/a")) ∷ Some (Stat (at "/a")) ∷ None ∷ []
  pub no_calls : map (λ (n : ℕ). call_of two_client_script (client n) 1) (1 ∷ 2 ∷ []) ≡ None ∷ None ∷ []

-- what a script says of tries and beats where it says nothing
pub record Defaults : Type 0 where
  pub tries : default_tries ≡ 10000
  pub grace : default_grace ≡ 64

-- a client without calls
abbrev pub quiet : ClientCalls
quiet = made_by ann []

-- the parts of a script at the ends of their ranges and beyond them
pub record PartsInRange : Type 0 where
  pub counts : map is_count (0 ∷ 1 ∷ 1000000 ∷ 1000001 ∷ []) ≡ false ∷ true ∷ true ∷ false ∷ []
  pub stops : map (is_stop 2) ((node 0, 1) ∷ (node 1, 1000000) ∷ (node 2, 1) ∷ (node 0, 0) ∷ (node 0, 1000001) ∷ []) ≡ true ∷ true ∷ false ∷ false ∷ false ∷ []
  pub users : map is_client (quiet ∷ made_by (codes "Ann") [] ∷ made_by [] [] ∷ []) ≡ true ∷ false ∷ false ∷ []
  pub calls : map is_client (made_by ann (Usage [] ∷ Grow (at "/f") 1 ∷ []) ∷ made_by ann (Usage [] ∷ Grow (at "/f") 0 ∷ []) ∷ []) ≡ true ∷ false ∷ []
  pub most_calls : map is_client (made_by ann (repeat 65536 (Usage [] ∷ [])) ∷ made_by ann (repeat 65537 (Usage [] ∷ [])) ∷ []) ≡ true ∷ false ∷ []

-- which scripts are within all ranges
pub record ScriptCases : Type 0 where
  pub two : IsScript two_client_script
  pub smallest : IsScript (script 1 [] [] 1 1)
  pub largest : IsScript (script 16 (repeat 64 (quiet ∷ [])) ((node 15, 1) ∷ []) 1000000 1000000)
  pub no_namenode : ¬ (IsScript (script 0 [] [] 1 1))
  pub more_namenodes : ¬ (IsScript (script 17 [] [] 1 1))
  pub more_clients : ¬ (IsScript (script 1 (repeat 65 (quiet ∷ [])) [] 1 1))
  pub no_client : ¬ (IsScript (script 1 (quiet ∷ made_by [] [] ∷ []) [] 1 1))
  pub no_stop : ¬ (IsScript (script 2 [] ((node 0, 1) ∷ (node 2, 1) ∷ []) 1 1))
  pub two_stops : ¬ (IsScript (script 2 [] ((node 0, 1) ∷ (node 0, 2) ∷ []) 1 1))
  pub no_tries : ¬ (IsScript (script 1 [] [] 0 1))
  pub no_grace : ¬ (IsScript (script 1 [] [] 1 0))
