-- What the phase of a session says of its stage.
use Rattle.std.proofs.Common.{◌≡◌, ℕ, List, Some, refl, sym, ◌∙◌}
use Rattle.hops_base.specs.Roomy.{Roomy}
use Rattle.hops_base.specs.declared.ids.Mode.{Mode}
use Rattle.hops_base.specs.declared.ids.SessionId.{SessionId}
use Rattle.hops_base.specs.declared.key.Key.{Key}
use Rattle.inode_table.specs.declared.inode.Inode.{Inode}
use Rattle.db_state.specs.declared.session.Phase.TheVariants as phase
use Rattle.db_state.specs.declared.session.Session.{Session}
use Rattle.db_state.specs.declared.session.Stage.{Stage}
use Rattle.db_state.specs.declared.session.Stage.TheVariants.{Resolve, Lock, Read, Reread, Commit, Answered}
use Rattle.db_state.specs.declared.view.Place.{Place}
use Rattle.db_state.specs.Reads.{Reads}
use Rattle.db_state.specs.Stages.{phase_of}
use Rattle.db_state.specs.State.{State}
use Rattle.db_state.specs.Steps.{IsRunning}

pub at_resolve : (st : Stage) → phase_of st ≡ phase.Resolve → (places : Roomy Place) × (found : Roomy (Key × Inode)) × (st ≡ Resolve places found)
at_resolve (Resolve places found) is = (places, found, refl)
at_resolve (Lock places keys taken) is = absurd (let bad = is in cc)
at_resolve (Read places keys) is = absurd (let bad = is in cc)
at_resolve (Reread reads keys) is = absurd (let bad = is in cc)
at_resolve (Commit reads keys) is = absurd (let bad = is in cc)
at_resolve Answered is = absurd (let bad = is in cc)

pub at_lock : (st : Stage) → phase_of st ≡ phase.Lock → (places : Roomy Place) × (keys : List (Key × Mode)) × (taken : ℕ) × (st ≡ Lock places keys taken)
at_lock (Resolve places found) is = absurd (let bad = is in cc)
at_lock (Lock places keys taken) is = (places, keys, taken, refl)
at_lock (Read places keys) is = absurd (let bad = is in cc)
at_lock (Reread reads keys) is = absurd (let bad = is in cc)
at_lock (Commit reads keys) is = absurd (let bad = is in cc)
at_lock Answered is = absurd (let bad = is in cc)

pub at_read : (st : Stage) → phase_of st ≡ phase.Read → (places : Roomy Place) × (keys : List (Key × Mode)) × (st ≡ Read places keys)
at_read (Resolve places found) is = absurd (let bad = is in cc)
at_read (Lock places keys taken) is = absurd (let bad = is in cc)
at_read (Read places keys) is = (places, keys, refl)
at_read (Reread reads keys) is = absurd (let bad = is in cc)
at_read (Commit reads keys) is = absurd (let bad = is in cc)
at_read Answered is = absurd (let bad = is in cc)

pub at_reread : (st : Stage) → phase_of st ≡ phase.Reread → (reads : Reads) × (keys : List (Key × Mode)) × (st ≡ Reread reads keys)
at_reread (Resolve places found) is = absurd (let bad = is in cc)
at_reread (Lock places keys taken) is = absurd (let bad = is in cc)
at_reread (Read places keys) is = absurd (let bad = is in cc)
at_reread (Reread reads keys) is = (reads, keys, refl)
at_reread (Commit reads keys) is = absurd (let bad = is in cc)
at_reread Answered is = absurd (let bad = is in cc)

pub at_commit : (st : Stage) → phase_of st ≡ phase.Commit → (reads : Reads) × (keys : List (Key × Mode)) × (st ≡ Commit reads keys)
at_commit (Resolve places found) is = absurd (let bad = is in cc)
at_commit (Lock places keys taken) is = absurd (let bad = is in cc)
at_commit (Read places keys) is = absurd (let bad = is in cc)
at_commit (Reread reads keys) is = absurd (let bad = is in cc)
at_commit (Commit reads keys) is = (reads, keys, refl)
at_commit Answered is = absurd (let bad = is in cc)

-- a session that is there is the one that is there
pub same_session : (state : State) (s : SessionId) (one other : Session) → IsRunning state s one → IsRunning state s other → one ≡ other
same_session state s one other is too =
    let there : Some one ≡ Some other = sym is.there ∙ too.there in
    cc
