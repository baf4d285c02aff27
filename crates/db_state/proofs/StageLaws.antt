-- What each session has read, beside the steps of others.
use Rattle.std.proofs.Common.{List}
use Rattle.hops_base.specs.declared.ids.SessionId.{SessionId}
use Rattle.commit_log.specs.Parts.{Taking}
use Rattle.db_state.specs.declared.session.Session.{Session}
use Rattle.db_state.specs.declared.session.Stage.{Stage}
use Rattle.db_state.specs.declared.session.Stage.TheVariants.{Resolve, Lock, Read, Reread, Commit, Answered}
use Rattle.db_state.specs.Stored.{Inodes, Quotas}
use Rattle.db_state.specs.Reads.{Asked, Reads}
use Rattle.db_state.specs.Holding.{SessionStands}
use Rattle.db_state.specs.SessionParts.{asked_in, IsReading}

-- a session whose reads stand on is as far as it was
pub reading_on : (inodes inodes' : Inodes) (quotas quotas' : Quotas) (locks locks' : List Taking) (s : SessionId) (session : Session)
    → ((asked : Asked) (reads : Reads) → SessionStands inodes quotas locks s asked reads → SessionStands inodes' quotas' locks' s asked reads)
    → (stage : Stage) → IsReading inodes quotas locks s session stage → IsReading inodes' quotas' locks' s session stage
reading_on inodes inodes' quotas quotas' locks locks' s session still (Resolve places found) reading = reading
reading_on inodes inodes' quotas quotas' locks locks' s session still (Lock places keys taken) reading = reading
reading_on inodes inodes' quotas quotas' locks locks' s session still (Read places keys) reading = reading
reading_on inodes inodes' quotas quotas' locks locks' s session still (Reread reads keys) reading = (reading.0, still (asked_in session) reads reading.1, reading.2)
reading_on inodes inodes' quotas quotas' locks locks' s session still (Commit reads keys) reading = (reading.0, still (asked_in session) reads reading.1, reading.2, reading.3)
reading_on inodes inodes' quotas quotas' locks locks' s session still Answered reading = tt
