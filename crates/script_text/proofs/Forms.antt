-- The twelve forms of calls: what is known of each, and a call of each that is built of arguments.
use Rattle.std.proofs.Common.{◌≡◌, ℕ, ◌^◌, Bool, true, false, nat_lt, List, [], map, slice_get, Option, Some, None, unwrap_or, option_map, codes, refl, ap}
use Rattle.std.specs.List.{list_all}
use Rattle.json.proofs.Printed.Utf8.{are_ascii}
use Rattle.name_space.specs.Call.{Argument, a_path, a_truth, a_number, a_quota, form_of}
use Rattle.name_space.specs.declared.call.Call.{Call}
use Rattle.name_space.specs.declared.call.Call.TheVariants as call
use Rattle.serde_json.specs.Data.{Data}
use Rattle.script_text.specs.CallForms.{call_named, kinds_named, arguments_at}
use Rattle.script_text.proofs.Arguments.{kind_of}

-- ---- what an argument has

abbrev path_argument : Argument → List (List ℕ)
path_argument (a_path path) = path
path_argument (a_truth truth) = []
path_argument (a_number least most number) = []
path_argument (a_quota limit) = []

abbrev truth_argument : Argument → Bool
truth_argument (a_path path) = false
truth_argument (a_truth truth) = truth
truth_argument (a_number least most number) = false
truth_argument (a_quota limit) = false

abbrev number_argument : Argument → ℕ
number_argument (a_path path) = 0
number_argument (a_truth truth) = 0
number_argument (a_number least most number) = number
number_argument (a_quota limit) = 0

abbrev quota_argument : Argument → Option ℕ
quota_argument (a_path path) = None
quota_argument (a_truth truth) = None
quota_argument (a_number least most number) = None
quota_argument (a_quota limit) = limit

-- the argument at a place
abbrev at : ℕ → List Argument → Argument
at i all = unwrap_or (slice_get all i) (a_quota None)

-- ---- the forms

-- the call of the form of another that is made with these arguments
abbrev pub built : Call → List Argument → Call
built (call.Mkdirs path) all = call.Mkdirs (path_argument (at 0 all))
built (call.Create path overwrite) all = call.Create (path_argument (at 0 all)) (truth_argument (at 1 all))
built (call.Append path) all = call.Append (path_argument (at 0 all))
built (call.Grow path bytes) all = call.Grow (path_argument (at 0 all)) (number_argument (at 1 all))
built (call.Close path) all = call.Close (path_argument (at 0 all))
built (call.Stat path) all = call.Stat (path_argument (at 0 all))
built (call.List path) all = call.List (path_argument (at 0 all))
built (call.Delete path recursive) all = call.Delete (path_argument (at 0 all)) (truth_argument (at 1 all))
built (call.Rename source target) all = call.Rename (path_argument (at 0 all)) (path_argument (at 1 all))
built (call.Chmod path mode) all = call.Chmod (path_argument (at 0 all)) (number_argument (at 1 all))
built (call.SetQuota path names bytes) all = call.SetQuota (path_argument (at 0 all)) (quota_argument (at 1 all)) (quota_argument (at 2 all))
built (call.Usage path) all = call.Usage (path_argument (at 0 all))

-- the numbers of the argument fit 64 bits
abbrev pub is_small : Argument → Bool
is_small (a_path path) = true
is_small (a_truth truth) = true
is_small (a_number least most number) = nat_lt most (2 ^ 64)
is_small (a_quota limit) = true

-- a call of the same form is found by the call's word; of that and the call's arguments the call is built; the word is
-- plain text, and the numbers fit 64 bits
pub record IsFormed (asked : Call) : Type 0 where
  pub blank : Call
  pub named : call_named (codes (form_of asked).word) ≡ Some blank
  pub kinds : map kind_of (form_of blank).arguments ≡ map kind_of (form_of asked).arguments
  pub back : built blank (form_of asked).arguments ≡ asked
  pub ascii : are_ascii (codes (form_of asked).word) ≡ true
  pub small : list_all is_small (form_of asked).arguments ≡ true

pub formed : (asked : Call) → IsFormed asked
formed (call.Mkdirs path) = record { blank = call.Mkdirs []; named = refl; kinds = refl; back = refl; ascii = refl; small = refl }
formed (call.Create path overwrite) = record { blank = call.Create [] false; named = refl; kinds = refl; back = refl; ascii = refl; small = refl }
formed (call.Append path) = record { blank = call.Append []; named = refl; kinds = refl; back = refl; ascii = refl; small = refl }
formed (call.Grow path bytes) = record { blank = call.Grow [] 1; named = refl; kinds = refl; back = refl; ascii = refl; small = refl }
formed (call.Close path) = record { blank = call.Close []; named = refl; kinds = refl; back = refl; ascii = refl; small = refl }
formed (call.Stat path) = record { blank = call.Stat []; named = refl; kinds = refl; back = refl; ascii = refl; small = refl }
formed (call.List path) = record { blank = call.List []; named = refl; kinds = refl; back = refl; ascii = refl; small = refl }
formed (call.Delete path recursive) = record { blank = call.Delete [] false; named = refl; kinds = refl; back = refl; ascii = refl; small = refl }
formed (call.Rename source target) = record { blank = call.Rename [] []; named = refl; kinds = refl; back = refl; ascii = refl; small = refl }
formed (call.Chmod path mode) = record { blank = call.Chmod [] 0; named = refl; kinds = refl; back = refl; ascii = refl; small = refl }
formed (call.SetQuota path names bytes) = record { blank = call.SetQuota [] None None; named = refl; kinds = refl; back = refl; ascii = refl; small = refl }
formed (call.Usage path) = record { blank = call.Usage []; named = refl; kinds = refl; back = refl; ascii = refl; small = refl }

-- the kinds that the call's word asks for are those of that call
pub kinds_of_word : (asked : Call) → kinds_named (codes (form_of asked).word) ≡ Some (form_of (formed asked).blank).arguments
kinds_of_word asked = ap (option_map (λ (other : Call). (form_of other).arguments)) (formed asked).named

-- what is built of arguments that values give is of the same form, and has them
pub built_so : (blank : Call) (values : List Data) → let all = arguments_at 0 (form_of blank).arguments values in (codes (form_of (built blank all)).word ≡ codes (form_of blank).word) × ((form_of (built blank all)).arguments ≡ all)
built_so (call.Mkdirs path) values = (refl, refl)
built_so (call.Create path overwrite) values = (refl, refl)
built_so (call.Append path) values = (refl, refl)
built_so (call.Grow path bytes) values = (refl, refl)
built_so (call.Close path) values = (refl, refl)
built_so (call.Stat path) values = (refl, refl)
built_so (call.List path) values = (refl, refl)
built_so (call.Delete path recursive) values = (refl, refl)
built_so (call.Rename source target) values = (refl, refl)
built_so (call.Chmod path mode) values = (refl, refl)
built_so (call.SetQuota path names bytes) values = (refl, refl)
built_so (call.Usage path) values = (refl, refl)
