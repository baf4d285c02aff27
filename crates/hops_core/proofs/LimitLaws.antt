-- No call that is run sets a quota.
use Rattle.std.proofs.Common.{◌≡◌, ℕ, Bool, true, false, cond, List, [], Option, Some, None, refl, ap, ◌∙◌, not, ◌||◌, option_map, sym}
use Rattle.hops_base.specs.Path.{same_path}
use Rattle.name_space.specs.declared.call.Call.{Call}
use Rattle.name_space.specs.declared.call.Call.TheVariants as call
use Rattle.name_space.specs.declared.entry.Entry.{Entry}
use Rattle.name_space.specs.declared.reply.Exception.{Exception}
use Rattle.hops_base.specs.declared.ids.ClientNo.{ClientNo}
use Rattle.name_space.specs.Namespace.{Namespace, Path, entry_at, exists, is_within, new_dir, opening, missing, with_entry, without}
use Rattle.name_space.specs.declared.entry.Entry.TheVariants as entry
use Rattle.name_space.specs.declared.reply.Reply.TheVariants.{Truth}
use Rattle.name_space.proofs.NamespaceLaws.{entry_at-with_dirs, entry_at-with_entry, entry_at-without}
use Rattle.name_space.specs.Cut.{is_among}
use Rattle.name_space.specs.Plain.{with_dirs, unless, told, granted, new_file, stat_at, list_at, is_root, with_mode, with_some, changed_at, Answered}
use Rattle.name_space.specs.Calls.{plain}
use Rattle.hops_core.specs.Built.{IsBuilt}
use Rattle.hops_core.specs.Steady.{has_limit, IsLimitless}

with_dirs_limitless : (space : Namespace) (user : List ℕ) (paths : List Path) → IsLimitless space → IsLimitless (with_dirs space user paths)
with_dirs_limitless space user paths bare path = ap has_limit (entry_at-with_dirs space user paths path) ∙ either (is_among paths path)
  where
    either : (b : Bool) → has_limit (cond b (Some (new_dir user)) (entry_at space path)) ≡ false
    either true = refl
    either false = bare path

unless_limitless : (refusal : Option Exception) (space : Namespace) (answer : Answered) → IsLimitless space → IsLimitless answer.space → IsLimitless (unless refusal space answer).space
unless_limitless None space answer bare after = after
unless_limitless (Some exception) space answer bare after = bare

stat_limitless : (space : Namespace) (found : Option Entry) → IsLimitless space → IsLimitless (stat_at space found).space
stat_limitless space None bare = bare
stat_limitless space (Some entry) bare = bare

with_file_limitless : (space : Namespace) (path : Path) (len : ℕ) (writer : Option ClientNo) (mode : ℕ) (owner : List ℕ) → IsLimitless space → IsLimitless (with_entry space path (entry.File len writer mode owner))
with_file_limitless space path len writer mode owner bare at = ap has_limit (entry_at-with_entry space path (entry.File len writer mode owner) at) ∙ either (same_path at path)
  where
    either : (b : Bool) → has_limit (cond b (Some (entry.File len writer mode owner)) (entry_at space at)) ≡ false
    either true = refl
    either false = bare at

list_limitless : (space : Namespace) (path : Path) (found : Option Entry) → IsLimitless space → IsLimitless (list_at space path found).space
list_limitless space path None bare = bare
list_limitless space path (Some (entry.Dir mode owner max_names max_bytes)) bare = bare
list_limitless space path (Some (entry.File len writer mode owner)) bare = bare

without_limitless : (space : Namespace) (path : Path) → IsLimitless space → IsLimitless (without space path)
without_limitless space path bare at = ap has_limit (entry_at-without space path at) ∙ either (is_within path at)
  where
    either : (b : Bool) → has_limit (cond b None (entry_at space at)) ≡ false
    either true = refl
    either false = bare at

delete_limitless : (space : Namespace) (path : Path) (stays : Bool) → IsLimitless space → IsLimitless (cond stays (told (Truth false) space) (granted (without space path))).space
delete_limitless space path true bare = bare
delete_limitless space path false bare = without_limitless space path bare

same_limit : (mode : ℕ) (here : Entry) → has_limit (Some (with_mode mode here)) ≡ has_limit (Some here)
same_limit mode (entry.Dir old owner max_names max_bytes) = refl
same_limit mode (entry.File len writer old owner) = refl

mode_limitless : (space : Namespace) (path : Path) (mode : ℕ) (found : Option Entry) → entry_at space path ≡ found → IsLimitless space → IsLimitless (with_some space path (option_map (with_mode mode) found))
mode_limitless space path mode None is bare = bare
mode_limitless space path mode (Some here) is bare = λ at. ap has_limit (entry_at-with_entry space path (with_mode mode here) at) ∙ either at (same_path at path)
  where
    either : (at : Path) (b : Bool) → has_limit (cond b (Some (with_mode mode here)) (entry_at space at)) ≡ false
    either at true = same_limit mode here ∙ ap has_limit (sym is) ∙ bare path
    either at false = bare at

-- a call that is run sets none
pub call_limitless : (space : Namespace) (by : ClientNo) (user : List ℕ) (asked : Call) → IsBuilt asked → IsLimitless space → IsLimitless (plain space by user asked).space
call_limitless space by user (call.Mkdirs path) e bare = unless_limitless _ space (granted (with_dirs space user (missing space path))) bare (with_dirs_limitless space user (missing space path) bare)
call_limitless space by user (call.Create path overwrite) e bare =
    unless_limitless _ space (granted (with_entry (with_dirs space user (missing space path)) path (new_file by user))) bare
    (with_file_limitless (with_dirs space user (missing space path)) path 0 (Some by) 420 user (with_dirs_limitless space user (missing space path) bare))
call_limitless space by user (call.Append path) e bare = absurd (let bad = e in cc)
call_limitless space by user (call.Grow path bytes) e bare = absurd (let bad = e in cc)
call_limitless space by user (call.Close path) e bare = absurd (let bad = e in cc)
call_limitless space by user (call.Stat path) e bare = stat_limitless space (entry_at space path) bare
call_limitless space by user (call.List path) e bare = list_limitless space path (entry_at space path) bare
call_limitless space by user (call.Delete path recursive) e bare =
    unless_limitless _ space (cond (is_root path || not (exists space path)) (told (Truth false) space) (granted (without space path))) bare
    (delete_limitless space path (is_root path || not (exists space path)) bare)
call_limitless space by user (call.Rename source target) e bare = absurd (let bad = e in cc)
call_limitless space by user (call.Chmod path mode) e bare =
    unless_limitless _ space (granted (changed_at space path (with_mode mode))) bare (mode_limitless space path mode (entry_at space path) refl bare)
call_limitless space by user (call.SetQuota path names bytes) e bare = absurd (let bad = e in cc)
call_limitless space by user (call.Usage path) e bare = absurd (let bad = e in cc)

-- before anything happened none is set
pub opening_limitless : IsLimitless opening
opening_limitless path = either (Rattle.hops_base.specs.Path.same_path path [])
  where
    either : (b : Bool) → has_limit (cond b (Some (new_dir Rattle.name_space.specs.Namespace.root_owner)) None) ≡ false
    either true = refl
    either false = refl
