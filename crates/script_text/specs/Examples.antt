-- Worked scripts, and texts that are close to one of them. This project's own.
use Prim.Native.String.{String}
use Rattle.std.specs.Prelude.{ℕ, true, List, [], ◌∷◌, ◌++◌, codes}
use Rattle.name_space.specs.Script.{ClientCalls, Script, default_tries, default_grace}
use Rattle.name_space.specs.declared.call.Call.{Call}
use Rattle.name_space.specs.declared.call.Call.TheVariants.{Mkdirs, Stat}

-- one client that acts for a user and makes these calls
abbrev pub client_with : List ℕ → List Call → ClientCalls
client_with user calls = record { user = user; calls = calls }

-- one namenode, these clients, and nothing else said
abbrev pub plain_script : List ClientCalls → Script
plain_script clients = record { namenodes = 1; clients = clients; stops = []; tries = default_tries; grace = default_grace; persist = true }

-- the calls of the first script: a directory is made, and asked for its status
abbrev pub first_calls : List Call
first_calls = Mkdirs (codes "a" ∷ codes "b" ∷ []) ∷ Stat (codes "a" ∷ codes "b" ∷ []) ∷ []

-- the first script: ann makes these calls
abbrev pub first_script : Script
first_script = plain_script (client_with (codes "ann") first_calls ∷ [])

-- the first script as a user writes it
abbrev pub first_bytes : List ℕ
first_bytes = codes "{\"version\":1,\"namenodes\":1,\"clients\":[{\"user\":\"ann\",\"calls\":[[\"mkdirs\",\"/a/b\"],[\"stat\",\"/a/b\"]]}]}"

-- the text of the first script with these members in the place of those before the clients
abbrev pub with_members : String → List ℕ
with_members text = codes "{" ++ codes text ++ codes ",\"clients\":[{\"user\":\"ann\",\"calls\":[[\"mkdirs\",\"/a/b\"],[\"stat\",\"/a/b\"]]}]}"

-- the text of the first script with these clients in the place of its one
abbrev pub with_clients : String → List ℕ
with_clients text = codes "{\"version\":1,\"namenodes\":1,\"clients\":[" ++ codes text ++ codes "]}"

-- the text of the first script with this in the place of its second call
abbrev pub with_second_call : String → List ℕ
with_second_call text = codes "{\"version\":1,\"namenodes\":1,\"clients\":[{\"user\":\"ann\",\"calls\":[[\"mkdirs\",\"/a/b\"]," ++ codes text ++ codes "]}]}"

-- the script that is generated for one client and one call with seed 7
abbrev pub small_generated : Script
small_generated = plain_script (client_with (codes "u0") (Stat (codes "n2" ∷ []) ∷ []) ∷ [])

-- the text of that script
abbrev pub small_text : List ℕ
small_text = codes "{\"clients\":[{\"calls\":[[\"stat\",\"/n2\"]],\"user\":\"u0\"}],\"grace\":64,\"namenodes\":1,\"persist\":true,\"stops\":[],\"tries\":10000,\"version\":1}"
