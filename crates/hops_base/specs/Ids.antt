-- The numbers of sessions, operations, clients and namenodes as words of ids.
use Rattle.std.specs.Prelude.{ℕ}
use Rattle.hops_base.specs.declared.ids.SessionId.{SessionId}
use Rattle.hops_base.specs.declared.ids.OpId.{OpId}
use Rattle.hops_base.specs.declared.ids.ClientNo.{ClientNo}
use Rattle.hops_base.specs.declared.ids.NodeNo.{NodeNo}

-- the session of this number
abbrev pub session : ℕ → SessionId
session n = record { 0 = n }

-- the operation of this number
abbrev pub operation : ℕ → OpId
operation n = record { 0 = n }

-- the client of this number
abbrev pub client : ℕ → ClientNo
client n = record { 0 = n }

-- the namenode of this number
abbrev pub node : ℕ → NodeNo
node n = record { 0 = n }
