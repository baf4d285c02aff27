-- No call that is built takes a path away together with one below it.
use Rattle.std.proofs.Common.{◌≡◌, ℕ, ◌<◌, ◌≤◌, Bool, true, false, not, ◌&&◌, ◌||◌, nat_lt, cond, List, [], ◌∷◌, ◌++◌, length, drop, Option, Some, None, IsSome, refl, ap, sym, subst, ◌∙◌, arith, append_assoc}
use Rattle.std.specs.Prelude.{is_some}
use Rattle.std.specs.List.{list_any}
use Rattle.std.specs.Cmp.{first_so, second_so}
use Rattle.std.proofs.lemmas.Bool.{lt-ltb, ltb-true, or_parts}
use Rattle.std.specs.Option.{option_map}
use Rattle.hops_base.specs.Path.{is_below, same_path}
use Rattle.hops_base.specs.declared.ids.ClientNo.{ClientNo}
use Rattle.name_space.specs.declared.call.Call.{Call}
use Rattle.name_space.specs.declared.call.Call.TheVariants as call
use Rattle.name_space.specs.declared.entry.Entry.{Entry}
use Rattle.name_space.specs.declared.entry.Entry.TheVariants.{Dir, File}
use Rattle.name_space.specs.declared.reply.Exception.{Exception}
use Rattle.name_space.specs.declared.reply.Exception.TheVariants.{PathIsNotEmptyDirectory}
use Rattle.name_space.specs.declared.reply.Reply.TheVariants.{Refused, Truth}
use Rattle.name_space.specs.Namespace.{Namespace, Path, IsNamespace, children, entry_at, exists, is_dir, is_within, missing, with_entry, without}
use Rattle.name_space.specs.Plain.{Answered, granted, new_file, told, is_root, list_at, stat_at, unless, when, with_dirs, with_mode, with_some}
use Rattle.name_space.specs.Calls.{plain}
use Rattle.name_space.proofs.NamespaceLaws.{dir_above, entry_at-with_entry, entry_at-without, missing_within}
use Rattle.name_space.proofs.PathLaws.{is_within-append, is_within-long, is_within-rest}
use Rattle.std.proofs.lemmas.List.{length-append}
use Rattle.name_space.proofs.PrefixLaws.{entry_at-with_missing}
use Rattle.commit_log.specs.Kept.{is_gone, takes_subtree}
use Rattle.db_state.proofs.UnderLaws.{none_next}
use Rattle.hops_core.specs.Built.{is_built}

-- of what is gone after the call, nothing lies below another
abbrev LeavesNone : Namespace → Answered → Type 0
LeavesNone space a = (top at : Path) → is_gone space a.space top ≡ true → is_gone space a.space at ≡ true → is_below at top ≡ false

-- whatever was there is there after the call
abbrev Keeps : Namespace → Answered → Type 0
Keeps space a = (at : Path) → exists space at ≡ true → exists a.space at ≡ true

both_apart : (b : Bool) → b ≡ true → not b ≡ true → ⊥
both_apart true e f = absurd (let bad = f in cc)
both_apart false e f = absurd (let bad = e in cc)

-- where all is kept, nothing is gone
from_kept : (space : Namespace) (a : Answered) → Keeps space a → LeavesNone space a
from_kept space a kept top at gone other = absurd (both_apart (exists a.space top) (kept top (first_so _ _ gone)) (second_so _ _ gone))

same_kept : (space : Namespace) (reply : _) → Keeps space (told reply space)
same_kept space reply at here = here

-- a refusal keeps all
kept_unless : (space : Namespace) (refusal : Option Exception) (a : Answered) → Keeps space a → Keeps space (unless refusal space a)
kept_unless space None a kept = kept
kept_unless space (Some exception) a kept = λ at here. here

kept_by : (test : Bool) (entry : Entry) (was : Option Entry) → is_some was ≡ true → is_some (cond test (Some entry) was) ≡ true
kept_by true entry was here = refl
kept_by false entry was here = here

entry_kept : (space : Namespace) (path : Path) (entry : Entry) (at : Path) → exists space at ≡ true → exists (with_entry space path entry) at ≡ true
entry_kept space path entry at here = ap (λ (o : Option Entry). is_some o) (entry_at-with_entry space path entry at) ∙ kept_by (same_path at path) entry (entry_at space at) here

dirs_kept : (space : Namespace) (user : List ℕ) (path at : Path) → exists space at ≡ true → exists (with_dirs space user (missing space path)) at ≡ true
dirs_kept space user path at here = ap (λ (o : Option Entry). is_some o) (entry_at-with_missing space user path at) ∙ kept_by _ _ (entry_at space at) here

mode_kept : (space : Namespace) (path : Path) (new : Option Entry) (at : Path) → exists space at ≡ true → exists (with_some space path new) at ≡ true
mode_kept space path None at here = here
mode_kept space path (Some entry) at here = entry_kept space path entry at here

stat_kept : (space : Namespace) (at : Option Entry) → Keeps space (stat_at space at)
stat_kept space None = λ at here. here
stat_kept space (Some entry) = λ at here. here

list_kept : (space : Namespace) (path : Path) (at : Option Entry) → Keeps space (list_at space path at)
list_kept space path None = λ at here. here
list_kept space path (Some (Dir mode owner max_names max_bytes)) = λ at here. here
list_kept space path (Some (File len writer mode owner)) = λ at here. here

-- ---- a delete

nothing_there : {X : Type 0} (xs : List X) → nat_lt 0 (length xs) ≡ false → xs ≡ []
nothing_there [] none = refl
nothing_there (x ∷ xs) none = absurd (let yes = lt-ltb 0 (length (x ∷ xs)) (omega arith) in let bad : true ≡ false = sym yes ∙ none in let no = bad in cc)

was_within : (test : Bool) (was : Option Entry) → is_some was ≡ true → not (is_some (cond test None was)) ≡ true → test ≡ true
was_within true was here gone = refl
was_within false was here gone = absurd (both_apart (is_some was) here gone)

-- what is gone lay within the path
gone_within : (space : Namespace) (path at : Path) → is_gone space (without space path) at ≡ true → is_within path at ≡ true
gone_within space path at gone =
    was_within (is_within path at) (entry_at space at) (first_so _ _ gone) (subst (λ (o : Option Entry). not (is_some o) ≡ true) (entry_at-without space path at) (second_so _ _ gone))

-- below a directory without children nothing is there
none_below : (space : Namespace) → IsNamespace space → (path at : Path) → children space path ≡ [] → is_within path at ≡ true → length path < length at → exists space at ≡ true → ⊥
none_below space is path at none within long here =
    (elim (drop (length path) at) as (λ (r : Path). path ++ r ≡ at → ⊥) [
      | [] ↦ λ same. (let even : length (path ++ []) ≡ length at = ap (λ (p : Path). length p) same in let sum = length-append path [] in omega arith)
      | (name ∷ names) ↦ λ same.
          (let below : is_within (path ++ name ∷ []) at ≡ true = subst (λ (p : Path). is_within (path ++ name ∷ []) p ≡ true) (append_assoc path (name ∷ []) names ∙ same) (is_within-append (path ++ name ∷ []) names) in
          let missing_at : entry_at space at ≡ None = missing_within space is (path ++ name ∷ []) (none_next space path none name) at below in
          let bad : true ≡ false = sym here ∙ ap (λ (o : Option Entry). is_some o) missing_at in
          absurd (let no = bad in cc))
    ]) (is_within-rest path at within)

-- where something lies below a path, a directory is there
dir_from_below : (space : Namespace) → IsNamespace space → (path at : Path) → is_within path at ≡ true → length path < length at → exists space at ≡ true → is_dir (entry_at space path) ≡ true
dir_from_below space is path at within long here =
    (elim (drop (length path) at) as (λ (r : Path). path ++ r ≡ at → is_dir (entry_at space path) ≡ true) [
      | [] ↦ λ same. absurd (let even : length (path ++ []) ≡ length at = ap (λ (p : Path). length p) same in let sum = length-append path [] in omega arith)
      | (name ∷ names) ↦ λ same. dir_above space is path name names (subst (λ (p : Path). IsSome (entry_at space p)) (sym same) here)
    ]) (is_within-rest path at within)

below_longer : (top at : Path) → is_below at top ≡ true → length top < length at
below_longer top at below = ltb-true (length top) (length at) (second_so _ _ below)

within_long : (path at : Path) → is_within path at ≡ true → length path ≤ length at
within_long path at within = let e = is_within-long path at within in omega arith

-- where the path isn't a directory with children, only the path itself goes
one_gone : (space : Namespace) → IsNamespace space → (path : Path) → (is_dir (entry_at space path) && nat_lt 0 (length (children space path))) ≡ false → LeavesNone space (granted (without space path))
one_gone space is path leaf top at gone other =
    (elim (is_below at top) as (λ b. is_below at top ≡ b → b ≡ false) [
      | false ↦ λ e. refl
      | true ↦ λ e.
          (let high : length path ≤ length top = within_long path top (gone_within space path top gone) in
          let deep : length top < length at = below_longer top at e in
          let within : is_within path at ≡ true = gone_within space path at other in
          let here : exists space at ≡ true = first_so _ _ other in
          let long : length path < length at = omega arith in
          let dir : is_dir (entry_at space path) ≡ true = dir_from_below space is path at within long here in
          let none : nat_lt 0 (length (children space path)) ≡ false = sym (ap (λ b. b && nat_lt 0 (length (children space path))) dir) ∙ leaf in
          absurd (none_below space is path at (nothing_there (children space path) none) within long here))
    ]) refl

leaf_from : (dir root some : Bool) → root ≡ false → when (dir && not root && not false && some) PathIsNotEmptyDirectory ≡ None → (dir && some) ≡ false
leaf_from false root some no_root none = refl
leaf_from true true some no_root none = absurd (let bad = no_root in cc)
leaf_from true false true no_root none = absurd (let bad = none in cc)
leaf_from true false false no_root none = refl

-- a delete that isn't recursive takes no subtree
delete_leaves : (space : Namespace) → IsNamespace space → (path : Path) → LeavesNone space (plain space (record { 0 = 0 }) [] (call.Delete path false))
delete_leaves space is path =
    (elim (when (is_dir (entry_at space path) && not (is_root path) && not false && nat_lt 0 (length (children space path))) PathIsNotEmptyDirectory) as (λ r.
    when (is_dir (entry_at space path) && not (is_root path) && not false && nat_lt 0 (length (children space path))) PathIsNotEmptyDirectory ≡ r
    → LeavesNone space (unless r space (cond (is_root path || not (exists space path)) (told (Truth false) space) (granted (without space path))))) [
      | Some exception ↦ λ e. from_kept space (told (Refused exception) space) (λ at here. here)
      | None ↦ λ e.
          (elim (is_root path || not (exists space path)) as (λ b. (is_root path || not (exists space path)) ≡ b → LeavesNone space (cond b (told (Truth false) space) (granted (without space path)))) [
            | true ↦ λ f. from_kept space (told (Truth false) space) (λ at here. here)
            | false ↦ λ f. one_gone space is path (leaf_from (is_dir (entry_at space path)) (is_root path) (nat_lt 0 (length (children space path))) (or_parts (is_root path) (not (exists space path)) f).0 e)
          ]) refl
    ]) refl

-- ---- every call that is built

leaves_none : (space : Namespace) → IsNamespace space → (client : ClientNo) (user : List ℕ) (c : Call) → is_built c ≡ true → LeavesNone space (plain space client user c)
leaves_none space is client user (call.Mkdirs path) built =
    from_kept space (plain space client user (call.Mkdirs path)) (kept_unless space _ (granted (with_dirs space user (missing space path))) (λ at here. dirs_kept space user path at here))
leaves_none space is client user (call.Create path overwrite) built =
    from_kept space (plain space client user (call.Create path overwrite))
    (kept_unless space _ (granted (with_entry (with_dirs space user (missing space path)) path (new_file client user)))
    (λ at here. entry_kept (with_dirs space user (missing space path)) path (new_file client user) at (dirs_kept space user path at here)))
leaves_none space is client user (call.Append path) built = absurd (let bad = built in cc)
leaves_none space is client user (call.Grow path bytes) built = absurd (let bad = built in cc)
leaves_none space is client user (call.Close path) built = absurd (let bad = built in cc)
leaves_none space is client user (call.Stat path) built = from_kept space (plain space client user (call.Stat path)) (stat_kept space (entry_at space path))
leaves_none space is client user (call.List path) built = from_kept space (plain space client user (call.List path)) (list_kept space path (entry_at space path))
leaves_none space is client user (call.Delete path true) built = absurd (let bad = built in cc)
leaves_none space is client user (call.Delete path false) built = delete_leaves space is path
leaves_none space is client user (call.Rename source target) built = absurd (let bad = built in cc)
leaves_none space is client user (call.Chmod path mode) built =
    from_kept space (plain space client user (call.Chmod path mode))
    (kept_unless space _ (granted (with_some space path (option_map (with_mode mode) (entry_at space path)))) (λ at here. mode_kept space path (option_map (with_mode mode) (entry_at space path)) at here))
leaves_none space is client user (call.SetQuota path names bytes) built = absurd (let bad = built in cc)
leaves_none space is client user (call.Usage path) built = absurd (let bad = built in cc)

none_of : {X : Type 0} (test : X → Bool) → ((x : X) → test x ≡ false) → (xs : List X) → list_any test xs ≡ false
none_of test fails [] = refl
none_of test fails (x ∷ xs) = both (test x) (list_any test xs) (fails x) (none_of test fails xs)
  where
    both : (a b : Bool) → a ≡ false → b ≡ false → (a || b) ≡ false
    both true b e f = absurd (let bad = e in cc)
    both false b e f = f

-- so it takes no subtree
pub takes_none : (space : Namespace) → IsNamespace space → (client : ClientNo) (user : List ℕ) (c : Call) → is_built c ≡ true → takes_subtree space (plain space client user c).space ≡ false
takes_none space is client user c built =
    none_of (λ (top : Path × Entry). is_gone space new top.0 && list_any (λ (e : Path × Entry). is_below e.0 top.0 && is_gone space new e.0) space) (λ top. at_top top.0 (is_gone space new top.0) refl) space
  where
    new : Namespace
    new = (plain space client user c).space

    at_other : (top at : Path) → is_gone space new top ≡ true → (g : Bool) → is_gone space new at ≡ g → (is_below at top && g) ≡ false
    at_other top at gone true other = ap (λ b. b && true) (leaves_none space is client user c built top at gone other)
    at_other top at gone false other = never (is_below at top)
      where
        never : (b : Bool) → (b && false) ≡ false
        never true = refl
        never false = refl

    at_top : (top : Path) (g : Bool) → is_gone space new top ≡ g → (g && list_any (λ (e : Path × Entry). is_below e.0 top && is_gone space new e.0) space) ≡ false
    at_top top false gone = refl
    at_top top true gone = none_of (λ (e : Path × Entry). is_below e.0 top && is_gone space new e.0) (λ e. at_other top e.0 gone (is_gone space new e.0) refl) space
