-- What always holds of the core beside what its tables, locks, book and sessions keep. This project's own.
use Rattle.std.specs.Prelude.{◌≡◌, ⊤, Bool, false, ◌||◌, Option, Some, None, is_some}
use Rattle.std.specs.List.{AllByRecursion}
use Rattle.hops_base.specs.declared.ids.SessionId.{SessionId}
use Rattle.hops_base.specs.declared.key.Key.{Key}
use Rattle.name_space.specs.declared.entry.Entry.{Entry}
use Rattle.name_space.specs.declared.entry.Entry.TheVariants.{Dir, File}
use Rattle.name_space.specs.Namespace.{Namespace, Path, entry_at}
use Rattle.commit_log.specs.Legal.{space}
use Rattle.inode_table.specs.declared.inode.Inode.{Inode}
use Rattle.db_state.specs.declared.session.Session.{Session}
use Rattle.db_state.specs.declared.session.Stage.{Stage}
use Rattle.db_state.specs.declared.session.Stage.TheVariants.{Resolve, Lock, Read, Reread, Commit, Answered}
use Rattle.db_state.specs.Stages.{rows_in}
use Rattle.db_state.specs.State.{State}
use Rattle.db_state.specs.Steps.{IsRunning}
use Rattle.path_resolver.specs.Resolving.{IsUnresolved}
use Rattle.chain_check.specs.Rereading.{HasLeft}
use Rattle.hops_core.specs.Built.{IsBuilt}

-- a session that resolves hasn't resolved its path yet, and one that reads rows again has some left
abbrev pub HasMore : Session → Stage → Type 0
HasMore doing (Resolve places found) = (path : Path) × IsUnresolved doing path found.items
HasMore doing (Lock places keys taken) = ⊤
HasMore doing (Read places keys) = ⊤
HasMore doing (Reread reads keys) = HasLeft doing reads keys
HasMore doing (Commit reads keys) = ⊤
HasMore doing Answered = ⊤

-- its call is one that is built, it has used no hints, no row that it has found has a quota, and it has more to do at its stage
pub record IsInStep (doing : Session) : Type 0 where
  pub built : IsBuilt doing.call
  pub unhinted : doing.used_hints ≡ false
  pub unlimited : AllByRecursion (λ (r : Key × Inode). r.1.has_quota ≡ false) (rows_in doing.stage)
  pub more : HasMore doing doing.stage

-- the entry has a quota
abbrev pub has_limit : Option Entry → Bool
has_limit None = false
has_limit (Some (Dir mode owner max_names max_bytes)) = is_some max_names || is_some max_bytes
has_limit (Some (File len writer mode owner)) = false

-- no directory has a quota: no call that sets one is built
abbrev pub IsLimitless : Namespace → Type 0
IsLimitless space = (path : Path) → has_limit (entry_at space path) ≡ false

-- so it is for every running session, and no directory has a quota
pub record IsSteady (state : State) : Type 0 where
  pub each : (s : SessionId) (doing : Session) → IsRunning state s doing → IsInStep doing
  pub limitless : IsLimitless (space state.stored.settings.users state.stored.notes)
