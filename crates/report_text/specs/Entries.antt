-- What a namespace holds, as reports have it. This project's own.
use Rattle.std.specs.Prelude.{ℕ, List, [], ◌∷◌, Option, option_map}
use Rattle.hops_base.specs.declared.ids.ClientNo.{ClientNo}
use Rattle.name_space.specs.declared.entry.Entry.{Entry}
use Rattle.name_space.specs.declared.entry.Entry.TheVariants.{Dir, File}
use Rattle.serde_json.specs.Data.{Data, string}
use Rattle.script_text.specs.Json.{whole, optional, word, row, fields}
use Rattle.script_text.specs.Form.{path_data}

-- the value of a file's writer: the client's number, or null where there is none
abbrev pub writer_data : Option ClientNo → Data
writer_data writer = optional (option_map (λ (client : ClientNo). client.0) writer)

-- the value of an entry: an object of its kind and its fields, with null for each quota or writer that is absent
abbrev pub entry_data : Entry → Data
entry_data (Dir mode owner max_names max_bytes) = fields (("kind", word "dir") ∷ ("max_bytes", optional max_bytes) ∷ ("max_names", optional max_names) ∷ ("mode", whole mode) ∷ ("owner", string owner) ∷ [])
entry_data (File len writer mode owner) = fields (("kind", word "file") ∷ ("len", whole len) ∷ ("mode", whole mode) ∷ ("owner", string owner) ∷ ("writer", writer_data writer) ∷ [])

-- the value of the line of a path: an array of the word `path`, the path, and the entry there
abbrev pub place_data : List (List ℕ) × Entry → Data
place_data place = row (word "path" ∷ path_data place.0 ∷ entry_data place.1 ∷ [])
