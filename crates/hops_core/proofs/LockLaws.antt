-- A session that takes its keys.
use Rattle.std.proofs.Common.{◌≡◌, Option, Some, option_and_then, sym, ap, subst, ◌∙◌}
use Rattle.chain_check.proofs.LeftLaws.{some_at}
use Rattle.hops_base.specs.declared.ids.Mode.{Mode}
use Rattle.hops_base.specs.declared.ids.SessionId.{SessionId}
use Rattle.hops_base.specs.declared.key.Key.{Key}
use Rattle.row_locks.specs.Locks.{IsFree, IsLeastInTheWay}
use Rattle.commit_log.specs.Locks.{held}
use Rattle.db_state.specs.declared.session.Phase.TheVariants as phase
use Rattle.db_state.specs.declared.session.Session.{Session}
use Rattle.db_state.specs.declared.session.Stage.{Stage}
use Rattle.db_state.specs.Callers.{asked_key}
use Rattle.db_state.specs.Core.{IsCore}
use Rattle.db_state.specs.SessionParts.{IsReading}
use Rattle.db_state.specs.Stages.{next_key, phase_of}
use Rattle.db_state.specs.State.{State}
use Rattle.db_state.specs.Steps.{taken_by, IsRunning}
use Rattle.hops_core.specs.declared.progress.Progress.{Progress}
use Rattle.hops_core.specs.declared.progress.Progress.TheVariants.{More, Met, Done, Fenced, NoMemory}
use Rattle.hops_core.specs.Events.{GoesOn, IsAdvance, Meets}
use Rattle.hops_core.specs.Steps.{IsMeeting}
use Rattle.hops_core.proofs.StageLaws.{at_lock}

module _ (old : State) (s : SessionId) (doing : Session) (runs : IsRunning old s doing) (here : phase_of doing.stage ≡ phase.Lock) where
  -- it has a key to ask for
  pub asks : IsCore old → (k : Key × Mode) × (next_key doing.stage ≡ Some k)
  asks core =
      let at = at_lock doing.stage here in
      let reading : IsReading old.stored.inodes old.stored.quotas (held old.stored.notes) s doing doing.stage = core.reads s doing runs.there in
      let some = some_at at.1 at.2 (subst (IsReading old.stored.inodes old.stored.quotas (held old.stored.notes) s doing) at.3 reading).1 in
      (some.0, ap next_key at.3 ∙ some.1)

  -- it goes on once it has taken it
  pub takes : (k : Key × Mode) (new : State) → next_key doing.stage ≡ Some k → IsFree old.locks s k.0 k.1 → new ≡ taken_by old s doing k → GoesOn old s doing doing.stage new
  takes k new next free is =
      let at = at_lock doing.stage here in
      subst (λ (st : Stage). GoesOn old s doing st new) (sym at.3) (record { next = k; can = record { there = runs.there; next = next; free = free }; taken = is })

  -- or it meets the holder
  pub meets : (k : Key × Mode) (holder : SessionId) (told : Progress) (new : State) → next_key doing.stage ≡ Some k → IsLeastInTheWay old.locks s k.0 k.1 holder → IsMeeting old s holder told new → IsAdvance old s doing told new
  meets k holder More new next busy is = absurd is
  meets k holder (Done i reply) new next busy is = absurd is
  meets k holder (Fenced i) new next busy is = absurd is
  meets k holder NoMemory new next busy is = is
  meets k holder (Met i) new next busy is =
      let at = at_lock doing.stage here in
      let asked : asked_key old s ≡ Some k = ap (λ (o : Option Session). option_and_then (λ (d : Session). next_key d.stage) o) runs.there ∙ next in
      subst (λ (st : Stage). Meets old s doing st i new) (sym at.3)
      (record { next = k; holder = holder; can = record { there = runs.there; next = next; busy = busy }; met = is.0 k asked; note = is.1 })
