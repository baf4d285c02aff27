-- The terms of a run: which calls of which clients there are, and which namenodes. A script gives them, and so may anything
-- else that can tell as much. This project's own.
use Rattle.std.specs.Prelude.{◌≡◌, ℕ, ◌<◌, Some, IsSome}
use Rattle.hops_base.specs.declared.ids.ClientNo.{ClientNo}
use Rattle.hops_base.specs.declared.ids.NodeNo.{NodeNo}
use Rattle.name_space.specs.declared.call.Call.{Call}
use Rattle.name_space.specs.Script.{Script, call_of}

-- the tests of a run: the client has a call of this number; it may be this one; the namenode exists
pub record Terms : Type 1 where
  pub has_call : ClientNo → ℕ → Type 0
  pub asks : ClientNo → ℕ → Call → Type 0
  pub has_node : NodeNo → Type 0

-- a script's clients make its calls, at its namenodes
abbrev pub terms_of : Script → Terms
terms_of script = record {
  has_call = λ client number. IsSome (call_of script client number);
  asks = λ client number call. call_of script client number ≡ Some call;
  has_node = λ node. node.0 < script.namenodes;
}
