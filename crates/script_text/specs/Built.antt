-- What the builders of values have so far. This project's own.
use Rattle.std.specs.Prelude.{List, map}
use Rattle.serde_json.specs.Data.{Data, Members}
use Rattle.serde_json.specs.View.{view, members_view}
use Rattle.script_text.specs.declared.build.Row.{Row}
use Rattle.script_text.specs.declared.build.Fields.{Fields}

-- the values of a row, in order
abbrev pub data_in : Row → List Data
data_in row = map view row.values.items

-- the members of an object, in the order of their keys
abbrev pub members_in : Fields → Members
members_in fields = members_view fields.map.entries
