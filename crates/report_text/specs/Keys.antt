-- Keys and how they are locked, as reports have them. This project's own.
use Rattle.std.specs.Prelude.{[], ◌∷◌}
use Rattle.hops_base.specs.declared.ids.Mode.{Mode}
use Rattle.hops_base.specs.declared.ids.Mode.TheVariants.{Shared, Exclusive}
use Rattle.hops_base.specs.declared.key.Key.{Key}
use Rattle.hops_base.specs.declared.key.Key.TheVariants.{Inode, Quota, Lease, Reply, Ongoing, Gate}
use Rattle.serde_json.specs.Data.{Data, string}
use Rattle.script_text.specs.Json.{whole, word, row}

-- the value of a key: an array of the word of its table and its fields
abbrev pub key_data : Key → Data
key_data (Inode parent name) = row (word "inode" ∷ whole parent.0 ∷ string name ∷ [])
key_data (Quota id) = row (word "quota" ∷ whole id.0 ∷ [])
key_data (Lease client id) = row (word "lease" ∷ whole client.0 ∷ whole id.0 ∷ [])
key_data (Reply client) = row (word "reply" ∷ whole client.0 ∷ [])
key_data (Ongoing op) = row (word "ongoing" ∷ whole op.0 ∷ [])
key_data Gate = row (word "gate" ∷ [])

-- the value of a mode: the letter S where it is shared, X where it is exclusive
abbrev pub mode_data : Mode → Data
mode_data Shared = word "S"
mode_data Exclusive = word "X"
