-- The keys that a call locks, by the rows that were found for its paths. This project's own.
use Rattle.std.specs.Prelude.{◌-◌, Bool, not, if◌then◌else◌, List, [], ◌∷◌, ◌++◌, map, length, take, Option, None, option_map, option_to_list, nat_lt, slice_get}
use Rattle.std.specs.List.{filter, flat_map}
use Rattle.hops_base.specs.declared.ids.ClientNo.{ClientNo}
use Rattle.hops_base.specs.declared.ids.Mode.{Mode}
use Rattle.hops_base.specs.declared.ids.Mode.TheVariants.{Shared, Exclusive}
use Rattle.hops_base.specs.declared.key.Key.{Key}
use Rattle.hops_base.specs.declared.key.Key.TheVariants as key
use Rattle.name_space.specs.declared.call.Call.{Call}
use Rattle.name_space.specs.declared.call.Call.TheVariants as call
use Rattle.inode_table.specs.declared.inode.Inode.{Inode}
use Rattle.inode_table.specs.Inode.{is_dir_kind}
use Rattle.db_state.specs.declared.view.Place.{Place}

-- the list, where the test passes
abbrev pub where_so : {A : Type 0} → Bool → List A → List A
where_so test xs = if test then xs else []

-- the last of a list
abbrev pub last : {A : Type 0} → List A → Option A
last xs = slice_get xs (length xs - 1)

-- the last row found for a path, with its key
abbrev pub last_found : Place → Option (Key × Inode)
last_found place = last place.found.items

-- the row found before it, with its key
abbrev pub parent_found : Place → Option (Key × Inode)
parent_found place = last (take (length place.found.items - 1) place.found.items)

-- the last row found alone
abbrev pub deepest : Place → Option Inode
deepest place = option_map (λ (found : Key × Inode). found.1) (last_found place)

-- the path was found whole: there is a row of the root and of each of its names
abbrev pub is_whole : Place → Bool
is_whole place = nat_lt (length place.path) (length place.found.items)

-- the row that the path itself has
abbrev pub own_row : Place → Option Inode
own_row place = if is_whole place then deepest place else None

-- the key of the last row found
abbrev pub low : Place → List Key
low place = map (λ (r : Key × Inode). r.0) (option_to_list (last_found place))

-- the key of the first missing name
abbrev pub next : Place → List Key
next place = option_to_list place.missing

-- the key of the row above the path's own, where that was found
abbrev pub parent : Place → List Key
parent place = where_so (is_whole place) (map (λ (r : Key × Inode). r.0) (option_to_list (parent_found place)))

-- the quota keys of those among the rows found that have a quota, which are directories
abbrev pub quotas : Place → List Key
quotas place = flat_map (λ (r : Key × Inode). where_so r.1.has_quota (key.Quota r.1.id ∷ [])) place.found.items

-- the path's own row, where it is a directory's
abbrev pub own_dir : Place → List Inode
own_dir place = filter (λ (row : Inode). is_dir_kind row.kind) (option_to_list (own_row place))

-- the path's own row, where it is a file's
abbrev pub own_file : Place → List Inode
own_file place = filter (λ (row : Inode). not (is_dir_kind row.kind)) (option_to_list (own_row place))

-- the lease key of this client for the path's file
abbrev pub lease : ClientNo → Place → List Key
lease client place = map (λ (row : Inode). key.Lease client row.id) (own_file place)

-- the lease key of the file's writer for it, where it has one
abbrev pub writer_lease : Place → List Key
writer_lease place = flat_map (λ (row : Inode). map (λ (w : ClientNo). key.Lease w row.id) (option_to_list row.writer)) (own_file place)

-- the keys in this mode
abbrev pub in_mode : Mode → List Key → List (Key × Mode)
in_mode mode keys = map (λ k. (k, mode)) keys

-- what a rename locks: of the source's place, of the destination's, and of the one inside the destination
abbrev pub rename_keys : List Place → List Key
rename_keys [] = []
rename_keys (source ∷ []) = low source
rename_keys (source ∷ destination ∷ inside) =
    low source ++ parent source ++ quotas source ++ low destination ++ next destination ++ quotas destination
    ++ flat_map (λ (place : Place). if is_whole place then low place else next place) inside

-- what a call of one path locks besides its client's reply key
abbrev pub path_keys : ClientNo → Call → Place → List (Key × Mode)
path_keys client (call.Mkdirs path) place = in_mode Exclusive (low place ++ next place ++ where_so (not (is_whole place)) (quotas place))
path_keys client (call.Create path overwrite) place = in_mode Exclusive (low place ++ next place ++ quotas place ++ writer_lease place ++ lease client place)
path_keys client (call.Append path) place = in_mode Exclusive (low place ++ lease client place)
path_keys client (call.Grow path bytes) place = in_mode Exclusive (low place ++ lease client place ++ quotas place)
path_keys client (call.Close path) place = in_mode Exclusive (low place ++ lease client place)
path_keys client (call.Stat path) place = in_mode Shared (low place)
path_keys client (call.List path) place = in_mode Shared (low place)
path_keys client (call.Delete path recursive) place = in_mode Exclusive (low place ++ where_so (is_whole place) (parent place ++ writer_lease place ++ quotas place))
path_keys client (call.Rename source destination) place = []
path_keys client (call.Chmod path mode) place = in_mode Exclusive (low place)
path_keys client (call.SetQuota path names bytes) place = in_mode Exclusive (low place ++ map (λ (row : Inode). key.Quota row.id) (own_dir place))
path_keys client (call.Usage path) place = in_mode Shared (low place ++ flat_map (λ (row : Inode). where_so row.has_quota (key.Quota row.id ∷ [])) (own_dir place))

-- the keys that a client's call locks, and how. They are locked in the order of keys, and each once, whatever the order
-- here
abbrev pub plan : ClientNo → Call → List Place → List (Key × Mode)
plan client (call.Rename source destination) places = in_mode Exclusive (rename_keys places ++ key.Reply client ∷ [])
plan client asked places = flat_map (path_keys client asked) places ++ (key.Reply client, Exclusive) ∷ []
