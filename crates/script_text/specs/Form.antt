-- The form in which a script is written, which is one text for each script. This project's own.
use Rattle.std.specs.Prelude.{ℕ, List, [], ◌∷◌, map}
use Rattle.hops_base.specs.Path.{text_of}
use Rattle.hops_base.specs.declared.ids.NodeNo.{NodeNo}
use Rattle.name_space.specs.Call.{Argument, a_path, a_truth, a_number, a_quota, form_of}
use Rattle.name_space.specs.Script.{ClientCalls, Script}
use Rattle.name_space.specs.declared.call.Call.{Call}
use Rattle.serde_json.specs.Data.{Data, boolean, string}
use Rattle.serde_json.specs.Written.{compact_text}
use Rattle.script_text.specs.Json.{whole, optional, word, row, fields}

-- a path is its text
abbrev pub path_data : List (List ℕ) → Data
path_data path = string (text_of path)

-- an argument of a call: a path is its text, and an absent quota is null
abbrev pub argument_data : Argument → Data
argument_data (a_path path) = path_data path
argument_data (a_truth truth) = boolean truth
argument_data (a_number least most number) = whole number
argument_data (a_quota limit) = optional limit

-- a call is its word and its arguments
abbrev pub call_data : Call → Data
call_data asked = row (word (form_of asked).word ∷ map argument_data (form_of asked).arguments)

-- a client is its calls and its user
abbrev pub client_data : ClientCalls → Data
client_data client = fields (("calls", row (map call_data client.calls)) ∷ ("user", string client.user) ∷ [])

-- a stop is its namenode and its commit
abbrev pub stop_data : NodeNo × ℕ → Data
stop_data stop = row (whole stop.0.0 ∷ whole stop.1 ∷ [])

-- a script is an object with all of the seven keys
abbrev pub script_data : Script → Data
script_data script =
    fields (
    ("clients", row (map client_data script.clients))
    ∷ ("grace", whole script.grace)
    ∷ ("namenodes", whole script.namenodes)
    ∷ ("persist", boolean script.persist)
    ∷ ("stops", row (map stop_data script.stops))
    ∷ ("tries", whole script.tries)
    ∷ ("version", whole 1)
    ∷ []
    )

-- the bytes that are written for a script
abbrev pub script_text : Script → List ℕ
script_text script = compact_text (script_data script)
