-- Which values of JSON are which events. This project's own.
use Rattle.std.specs.Prelude.{ℕ, ◌^◌, nat_lt, if◌then◌else◌, List, [], ◌∷◌, filter_map, Option, Some, None, is_some, option_map, option_and_then, bytes_eq, codes}
use Rattle.std.specs.List.{list_all}
use Rattle.hops_base.specs.Name.{is_name}
use Rattle.hops_base.specs.Roomy.{Roomy}
use Rattle.hops_base.specs.declared.hint.Hint.{Hint}
use Rattle.hops_base.specs.declared.ids.ClientNo.{ClientNo}
use Rattle.hops_base.specs.declared.ids.InodeId.{InodeId}
use Rattle.hops_base.specs.declared.ids.NodeNo.{NodeNo}
use Rattle.hops_base.specs.declared.ids.SessionId.{SessionId}
use Rattle.serde_json.specs.Data.{Data}
use Rattle.serde_json.specs.Find.{as_array, as_str}
use Rattle.script_text.specs.Json.{values_in, values_of, as_whole}
use Rattle.script_text.specs.CallForms.{named_by, behind_name}
use Rattle.script_text.specs.Faults.{only_if}
use Rattle.core_replay.specs.declared.listed.Listed.{Listed}
use Rattle.core_replay.specs.declared.listed.Listed.TheVariants.{Begin, Advance, Quit, Stop, Beat, Sweep}

-- ---- events, whatever room their lists have

-- a list of these hints
abbrev pub hint_list : List Hint → Roomy Hint
hint_list hints = record { items = hints; room = 0 }

-- the event; of its hints only the items count
abbrev pub as_listed : Listed → Listed
as_listed (Begin client call node) = Begin client call node
as_listed (Advance session hints) = Advance session (hint_list hints.items)
as_listed (Quit session) = Quit session
as_listed (Stop node) = Stop node
as_listed (Beat node) = Beat node
as_listed Sweep = Sweep

-- ---- what values are

-- the whole number below this bound that a value is
abbrev pub number_in : ℕ → Data → Option ℕ
number_in bound value = only_if (λ n. nat_lt n bound) (as_whole value)

-- the client that a value is, by its number
abbrev pub client_in : Data → Option ClientNo
client_in value = option_map (λ n. record { 0 = n }) (number_in (2 ^ 32) value)

-- the namenode that a value is, by its number
abbrev pub node_in : Data → Option NodeNo
node_in value = option_map (λ n. record { 0 = n }) (number_in (2 ^ 32) value)

-- the session that a value is, by its number
abbrev pub session_in : Data → Option SessionId
session_in value = option_map (λ n. record { 0 = n }) (as_whole value)

-- the inode that a value is, by its number
abbrev pub inode_in : Data → Option InodeId
inode_in value = option_map (λ n. record { 0 = n }) (as_whole value)

-- the name that a value is
abbrev pub name_in : Data → Option (List ℕ)
name_in value = only_if is_name (as_str value)

-- ---- hints

-- the hint of a parent, a name and an inode
abbrev pub hint_from : List Data → Option Hint
hint_from [] = None
hint_from (parent ∷ []) = None
hint_from (parent ∷ name ∷ []) = None
hint_from (parent ∷ name ∷ id ∷ []) =
    option_and_then (λ (p : InodeId). option_and_then (λ (i : InodeId). option_map (λ (n : List ℕ). record { parent = p; name = n; id = i }) (name_in name)) (inode_in id)) (inode_in parent)
hint_from (parent ∷ name ∷ id ∷ other ∷ rest) = None

-- the hint that a value is
abbrev pub hint_of : Data → Option Hint
hint_of value = hint_from (values_in value)

-- the hints that values are, where each of them is one
abbrev pub hints_from : List Data → Option (List Hint)
hints_from values = if list_all (λ value. is_some (hint_of value)) values then Some (filter_map hint_of values) else None

-- the hints in an array
abbrev pub hints_in : Data → Option (List Hint)
hints_in value = option_and_then (λ items. hints_from (values_of items)) (as_array value)

-- ---- events, by what stands behind their names

-- a begin, of a client, the number of its call and a namenode
abbrev pub begin_from : List Data → Option Listed
begin_from [] = None
begin_from (client ∷ []) = None
begin_from (client ∷ call ∷ []) = None
begin_from (client ∷ call ∷ node ∷ []) =
    option_and_then (λ (c : ClientNo). option_and_then (λ (q : ℕ). option_map (λ (n : NodeNo). Begin c q n) (node_in node)) (number_in (2 ^ 32) call)) (client_in client)
begin_from (client ∷ call ∷ node ∷ other ∷ rest) = None

-- a step, of a session, by hints where there are some
abbrev pub advance_from : List Data → Option Listed
advance_from [] = None
advance_from (session ∷ []) = option_map (λ (s : SessionId). Advance s (hint_list [])) (session_in session)
advance_from (session ∷ hints ∷ []) = option_and_then (λ (s : SessionId). option_map (λ (items : List Hint). Advance s (hint_list items)) (hints_in hints)) (session_in session)
advance_from (session ∷ hints ∷ other ∷ rest) = None

-- the event that is made of one value
abbrev pub from_one : {T : Type 0} → (Data → Option T) → (T → Listed) → List Data → Option Listed
from_one read make [] = None
from_one read make (value ∷ []) = option_map make (read value)
from_one read make (value ∷ other ∷ rest) = None

-- a sweep, of no values
abbrev pub sweep_from : List Data → Option Listed
sweep_from [] = Some Sweep
sweep_from (value ∷ rest) = None

-- the event of this name with these values behind it
abbrev pub event_named : List ℕ → List Data → Option Listed
event_named name values =
    if bytes_eq name (codes "begin") then begin_from values
    else if bytes_eq name (codes "advance") then advance_from values
    else if bytes_eq name (codes "quit") then from_one session_in Quit values
    else if bytes_eq name (codes "stop") then from_one node_in Stop values
    else if bytes_eq name (codes "beat") then from_one node_in Beat values
    else if bytes_eq name (codes "sweep") then sweep_from values
    else None

-- the event that a value says
abbrev pub event_of : Data → Option Listed
event_of value = option_and_then (λ name. event_named name (behind_name value)) (named_by value)
