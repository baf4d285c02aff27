-- Scripts as contracts see them: who makes which calls, and when namenodes stop. All of it is this project's own.
use Rattle.std.specs.Prelude.{◌≡◌, ℕ, zero, suc, ◌≤◌, Bool, true, ◌&&◌, ◌==◌, nat_le, nat_lt, List, map, length, slice_get, Option, None, option_and_then}
use Rattle.std.specs.List.{list_all, IsDistinct}
use Rattle.hops_base.specs.declared.ids.ClientNo.{ClientNo}
use Rattle.hops_base.specs.declared.ids.NodeNo.{NodeNo}
use Rattle.hops_base.specs.User.{is_user}
use Rattle.name_space.specs.declared.call.Call.{Call}
use Rattle.name_space.specs.Call.{is_valid}

-- one client: the user that it acts for, and its calls in their order
pub record ClientCalls : Type 0 where
  pub user : List ℕ
  pub calls : List Call

-- a run: how many namenodes there are; the clients; which namenodes stop, and at which of their commits; the count of
-- conflicts at which a call that doesn't persist gives up; the beats that a member may be behind; whether calls persist
pub record Script : Type 0 where
  pub namenodes : ℕ
  pub clients : List ClientCalls
  pub stops : List (NodeNo × ℕ)
  pub tries : ℕ
  pub grace : ℕ
  pub persist : Bool

-- the client of a number, from 0
abbrev pub client_of : Script → ClientNo → Option ClientCalls
client_of script client = slice_get script.clients client.0

-- the users that the clients act for, by the clients' numbers
abbrev pub users_of : Script → List (List ℕ)
users_of script = map (λ (c : ClientCalls). c.user) script.clients

-- the call of a number, from 1
abbrev pub numbered : List Call → ℕ → Option Call
numbered calls zero = None
numbered calls (suc number) = slice_get calls number

-- a client's call of a number, from 1
abbrev pub call_of : Script → ClientNo → ℕ → Option Call
call_of script client number = option_and_then (λ (c : ClientCalls). numbered c.calls number) (client_of script client)

-- the most namenodes of a script
abbrev pub most_namenodes : ℕ
most_namenodes = 16

-- the most clients of a script
abbrev pub most_clients : ℕ
most_clients = 64

-- the most calls of a client in a script
abbrev pub most_calls : ℕ
most_calls = 65536

-- the conflicts at which a call gives up, where a script doesn't say
abbrev pub default_tries : ℕ
default_tries = 10000

-- the beats that a member may be behind, where a script doesn't say
abbrev pub default_grace : ℕ
default_grace = 64

-- the most that a count of tries, of beats or of commits may be
abbrev pub most_count : ℕ
most_count = 1000000

-- a count of tries, of beats or of commits: from 1 to the most
abbrev pub is_count : ℕ → Bool
is_count n = nat_le 1 n && nat_le n most_count

-- the client's user is one, and its calls are in number and in themselves within their ranges
abbrev pub is_client : ClientCalls → Bool
is_client client = is_user client.user && nat_le (length client.calls) most_calls && list_all is_valid client.calls

-- the namenode of a stop exists, and its commit is in its range
abbrev pub is_stop : ℕ → NodeNo × ℕ → Bool
is_stop namenodes stop = nat_lt stop.0.0 namenodes && is_count stop.1

-- no two stops are of one namenode
abbrev pub differ : List (NodeNo × ℕ) → Type 0
differ stops = IsDistinct (λ (a b : NodeNo × ℕ). a.0.0 == b.0.0) stops

-- everything in a script is within its range
pub record IsScript (script : Script) : Type 0 where
  pub namenodes : (1 ≤ script.namenodes) × (script.namenodes ≤ most_namenodes)
  pub clients : (length script.clients ≤ most_clients) × (list_all is_client script.clients ≡ true)
  pub stops : (list_all (is_stop script.namenodes) script.stops ≡ true) × differ script.stops
  pub tries : is_count script.tries ≡ true
  pub grace : is_count script.grace ≡ true
