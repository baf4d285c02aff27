-- The form of a call: its word, whether it may change something, and what it is made with. By it go the texts of calls, their
-- ranges and their paths. The words and the ranges are this project's own.
use Prim.Native.String.{String}
use Rattle.std.specs.Prelude.{ℕ, Bool, true, false, ◌&&◌, nat_le, List, [], ◌∷◌, Option, Some, None}
use Rattle.std.specs.List.{list_all, filter_map}
use Rattle.hops_base.specs.Name.{is_name}
use Rattle.hops_base.specs.Path.{is_short}
use Rattle.name_space.specs.declared.call.Call.{Call}
use Rattle.name_space.specs.declared.call.Call.TheVariants as call

-- ---- limits

-- the most bytes that one call adds
abbrev pub most_grown : ℕ
most_grown = 4294967296

-- the greatest mode
abbrev pub most_mode : ℕ
most_mode = 511

-- the greatest quota
abbrev pub most_quota : ℕ
most_quota = 1000000000000000

-- ---- forms

-- what a call is made with, by its kind: a path; a truth value; a number, with the least and the most that it may be; a quota,
-- which may be absent
pub data Argument : Type 0 where
  a_path : List (List ℕ) → Argument
  a_truth : Bool → Argument
  a_number : ℕ → ℕ → ℕ → Argument
  a_quota : Option ℕ → Argument

-- the word of a call, whether the call may change the namespace or only looks, and its arguments in order
pub record Form : Type 0 where
  pub word : String
  pub changes : Bool
  pub arguments : List Argument

-- the form of a call that may change the namespace
abbrev pub changing : String → List Argument → Form
changing word arguments = record { word = word; changes = true; arguments = arguments }

-- the form of a call that only looks
abbrev pub looking : String → List Argument → Form
looking word arguments = record { word = word; changes = false; arguments = arguments }

-- the form of each call
abbrev pub form_of : Call → Form
form_of (call.Mkdirs path) = changing "mkdirs" (a_path path ∷ [])
form_of (call.Create path overwrite) = changing "create" (a_path path ∷ a_truth overwrite ∷ [])
form_of (call.Append path) = changing "append" (a_path path ∷ [])
form_of (call.Grow path bytes) = changing "grow" (a_path path ∷ a_number 1 most_grown bytes ∷ [])
form_of (call.Close path) = changing "close" (a_path path ∷ [])
form_of (call.Stat path) = looking "stat" (a_path path ∷ [])
form_of (call.List path) = looking "list" (a_path path ∷ [])
form_of (call.Delete path recursive) = changing "delete" (a_path path ∷ a_truth recursive ∷ [])
form_of (call.Rename source destination) = changing "rename" (a_path source ∷ a_path destination ∷ [])
form_of (call.Chmod path mode) = changing "chmod" (a_path path ∷ a_number 0 most_mode mode ∷ [])
form_of (call.SetQuota path names bytes) = changing "set_quota" (a_path path ∷ a_quota names ∷ a_quota bytes ∷ [])
form_of (call.Usage path) = looking "usage" (a_path path ∷ [])

-- one call of each form
abbrev pub each_form : List Call
each_form =
    call.Mkdirs []
    ∷ call.Create [] false
    ∷ call.Append []
    ∷ call.Grow [] 1
    ∷ call.Close []
    ∷ call.Stat []
    ∷ call.List []
    ∷ call.Delete [] false
    ∷ call.Rename [] []
    ∷ call.Chmod [] 0
    ∷ call.SetQuota [] None None
    ∷ call.Usage []
    ∷ []

-- ---- what goes by the form

-- no quota, or one from 1 to the greatest
abbrev pub is_quota : Option ℕ → Bool
is_quota None = true
is_quota (Some limit) = nat_le 1 limit && nat_le limit most_quota

-- the argument is in its range; a path consists of names and is short
abbrev pub is_in_range : Argument → Bool
is_in_range (a_path path) = list_all is_name path && is_short path
is_in_range (a_truth truth) = true
is_in_range (a_number least most number) = nat_le least number && nat_le number most
is_in_range (a_quota limit) = is_quota limit

-- all that the call is made with is in its range
abbrev pub is_valid : Call → Bool
is_valid asked = list_all is_in_range (form_of asked).arguments

-- the call may change the namespace, and doesn't only look
abbrev pub changes : Call → Bool
changes asked = (form_of asked).changes

-- the path that an argument is, where it is one
abbrev pub path_in : Argument → Option (List (List ℕ))
path_in (a_path path) = Some path
path_in (a_truth truth) = None
path_in (a_number least most number) = None
path_in (a_quota limit) = None

-- the paths that a call names, in their order
abbrev pub paths_of : Call → List (List (List ℕ))
paths_of asked = filter_map path_in (form_of asked).arguments
