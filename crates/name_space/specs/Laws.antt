-- Laws of the plain namespace and its calls.
use Rattle.std.specs.Prelude.{◌≡◌, ◌≢◌, ◌⊎◌, ℕ, ◌+◌, ◌≤◌, true, false, List, ◌++◌, Option, Some, None}
use Rattle.std.specs.List.{list_all, sum_by}
use Rattle.hops_base.specs.declared.ids.ClientNo.{ClientNo}
use Rattle.hops_base.specs.Name.{is_name}
use Rattle.name_space.specs.declared.call.Call.{Call}
use Rattle.name_space.specs.declared.entry.Entry.{Entry}
use Rattle.name_space.specs.declared.entry.Entry.TheVariants.{Dir}
use Rattle.name_space.specs.declared.reply.Exception.{Exception}
use Rattle.name_space.specs.declared.reply.Reply.TheVariants.{Truth, Refused}
use Rattle.name_space.specs.Call.{changes, paths_of}
use Rattle.name_space.specs.Namespace.{Namespace, Path, IsNamespace, opening, entry_at, is_within, children, bytes_of, used_names, used_bytes}
use Rattle.name_space.specs.Rename.{rename, target_of}
use Rattle.name_space.specs.Calls.{plain, space_after_calls}
use Rattle.name_space.specs.Cut.{MayCut, cut}

-- the namespace is the same after a refusal
abbrev pub RefusalsChangeNothing : Type 0
RefusalsChangeNothing =
    (space : Namespace) (client : ClientNo) (user : List ℕ) (call : Call) (exception : Exception)
    → (plain space client user call).reply ≡ Refused exception → (plain space client user call).space ≡ space

-- the namespace is the same after a call that only looks
abbrev pub LookingChangesNothing : Type 0
LookingChangesNothing =
    (space : Namespace) (client : ClientNo) (user : List ℕ) (call : Call) → changes call ≡ false → (plain space client user call).space ≡ space

-- before any call there is a namespace
abbrev pub OpeningIsANamespace : Type 0
OpeningIsANamespace = IsNamespace opening

-- what a cut leaves of a namespace is one
abbrev pub CutGivesANamespace : Type 0
CutGivesANamespace = (space : Namespace) (path : Path) (gone : List Path) → IsNamespace space → MayCut space path gone → IsNamespace (cut space gone)

-- after a call whose paths consist of names a namespace is one
abbrev pub PlainKeepsANamespace : Type 0
PlainKeepsANamespace =
    (space : Namespace) (client : ClientNo) (user : List ℕ) (call : Call)
    → IsNamespace space → list_all (list_all is_name) (paths_of call) ≡ true → IsNamespace (plain space client user call).space

-- what a path uses is what stands there itself and what each of its children uses
abbrev pub UsageIsASum : Type 0
UsageIsASum =
    (space : Namespace) (top : Path) (entry : Entry) → IsNamespace space → entry_at space top ≡ Some entry
    → (used_names space top ≡ 1 + sum_by (λ (child : Path × Entry). used_names space child.0) (children space top))
    × (used_bytes space top ≡ bytes_of entry + sum_by (λ (child : Path × Entry). used_bytes space child.0) (children space top))

-- after any calls of a client whose paths consist of names a namespace is one
abbrev pub CallsKeepANamespace : Type 0
CallsKeepANamespace =
    (space : Namespace) (client : ClientNo) (user : List ℕ) (calls : List Call)
    → IsNamespace space → list_all (λ (call : Call). list_all (list_all is_name) (paths_of call)) calls ≡ true → IsNamespace (space_after_calls space client user calls)

-- what a granted rename leaves: the source and the target that it goes to
pub record IsMoved (space after : Namespace) (source target : Path) : Type 0 where
  pub there : (rest : Path) → entry_at after (target ++ rest) ≡ entry_at space (source ++ rest)
  pub gone : (rest : Path) → entry_at after (source ++ rest) ≡ None
  pub others : (path : Path) → is_within source path ≡ false → is_within target path ≡ false → entry_at after path ≡ entry_at space path

-- a granted rename, neither onto itself nor into the directory where the source stands, moves all that stands within the
-- source to a target that was free, and leaves all else
abbrev pub RenameMovesAll : Type 0
RenameMovesAll =
    (space : Namespace) (source destination : Path) → IsNamespace space → (rename space source destination).reply ≡ Truth true
    → source ≢ destination → source ≢ target_of space source destination
    → (entry_at space (target_of space source destination) ≡ None) × IsMoved space (rename space source destination).space source (target_of space source destination)

-- where there is a limit, what is used after a call is within it, or no more than before
abbrev pub KeepsLimit : Option ℕ → ℕ → ℕ → Type 0
KeepsLimit limit before after = (most : ℕ) → limit ≡ Some most → (after ≤ most) ⊎ (after ≤ before)

-- no call takes a directory past a quota of its own, in names or in bytes: what stands there and below it is within the
-- quota after the call, or no more than before
abbrev pub AQuotaIsKept : Type 0
AQuotaIsKept =
    (space : Namespace) (client : ClientNo) (user : List ℕ) (call : Call) (top : Path) (mode : ℕ) (owner : List ℕ) (max_names max_bytes : Option ℕ)
    → IsNamespace space → entry_at space top ≡ Some (Dir mode owner max_names max_bytes)
    → KeepsLimit max_names (used_names space top) (used_names (plain space client user call).space top)
    × KeepsLimit max_bytes (used_bytes space top) (used_bytes (plain space client user call).space top)
