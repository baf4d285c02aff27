-- Scripts that are generated: a seed gives each client its draws, and the draws give the calls. This project's own.
use Rattle.std.specs.Prelude.{ℕ, zero, suc, ◌+◌, ◌*◌, ◌%◌, ◌==◌, Bool, true, false, min, List, [], ◌∷◌, ◌++◌, map, get_or, Some, None, codes, decimal}
use Rattle.std.specs.List.{range_with_len}
use Rattle.name_space.specs.Script.{ClientCalls, Script, default_tries, default_grace}
use Rattle.name_space.specs.declared.call.Call.{Call}
use Rattle.name_space.specs.declared.call.Call.TheVariants as call

-- each draw multiplies the state by this number
abbrev pub multiplier : ℕ
multiplier = 48271

-- each draw takes the remainder by this number
abbrev pub modulus : ℕ
modulus = 2147483647

-- how many first states there are: every state but 0
abbrev pub first_states : ℕ
first_states = 2147483646

-- the most namenodes
abbrev pub most_generated_namenodes : ℕ
most_generated_namenodes = 4

-- the most calls of a client
abbrev pub most_generated_calls : ℕ
most_generated_calls = 5000

-- the state with which the draws of a client begin
abbrev pub first_state : ℕ → ℕ → ℕ
first_state seed client = 1 + (seed + client) % first_states

-- the state behind a draw
abbrev pub next_state : ℕ → ℕ
next_state state = (multiplier * state) % modulus

-- something that is drawn: from a state come it and the state behind its draws
abbrev pub Drawing : Type 0 → Type 0
Drawing T = ℕ → T × ℕ

-- a draw gives the next state
abbrev pub draw : Drawing ℕ
draw state = (next_state state, next_state state)

-- something is drawn by what was drawn before it
abbrev pub behind : {A B : Type 0} → Drawing A → (A → Drawing B) → Drawing B
behind first next state = next (first state).0 (first state).1

-- what is made of something that is drawn
abbrev pub made_of : {A B : Type 0} → (A → B) → Drawing A → Drawing B
made_of make first state = (make (first state).0, (first state).1)

-- what is made of two things that are drawn in turn
abbrev pub made_of_both : {A B C : Type 0} → (A → B → C) → Drawing A → Drawing B → Drawing C
made_of_both make first second = behind first (λ one. made_of (make one) second)

-- so many things, drawn in turn
abbrev pub times : {A : Type 0} → ℕ → Drawing A → Drawing (List A)
times zero each state = ([], state)
times (suc n) each state = ((each state).0 ∷ (times n each (each state).1).0, (times n each (each state).1).1)

-- a number below the given one
abbrev pub any_below : ℕ → Drawing ℕ
any_below n = made_of (λ drawn. drawn % n) draw

-- a number from 1 to the given one
abbrev pub any_to : ℕ → Drawing ℕ
any_to n = made_of (λ drawn. 1 + drawn) (any_below n)

-- whether a draw is odd
abbrev pub any_truth : Drawing Bool
any_truth = made_of (λ drawn. drawn % 2 == 1) draw

-- one of six names: an n and a digit
abbrev pub any_name : Drawing (List ℕ)
any_name = made_of (λ digit. codes "n" ++ decimal digit) (any_below 6)

-- a path of one to three names
abbrev pub any_path : Drawing (List (List ℕ))
any_path = behind (any_to 3) (λ n. times n any_name)

-- the sixteen kinds of calls
abbrev pub kinds : List (Drawing Call)
kinds =
    made_of call.Mkdirs any_path
    ∷ made_of call.Mkdirs any_path
    ∷ made_of call.Mkdirs any_path
    ∷ made_of_both call.Create any_path any_truth
    ∷ made_of_both call.Create any_path any_truth
    ∷ made_of call.Append any_path
    ∷ made_of_both call.Grow any_path (any_to 1000)
    ∷ made_of call.Close any_path
    ∷ made_of call.Stat any_path
    ∷ made_of call.Stat any_path
    ∷ made_of call.List any_path
    ∷ made_of (λ path. call.Delete path true) any_path
    ∷ made_of (λ path. call.Delete path false) any_path
    ∷ made_of_both call.Rename any_path any_path
    ∷ made_of_both call.Chmod any_path (any_below 512)
    ∷ made_of_both (λ path names. call.SetQuota path (Some names) None) any_path (any_to 50)
    ∷ []

-- a call of one of the kinds
abbrev pub any_call : Drawing Call
any_call = behind (any_below 16) (λ kind. get_or kinds kind (made_of call.Mkdirs any_path))

-- the user of a client: a u and the client's number
abbrev pub user_generated : ℕ → List ℕ
user_generated client = codes "u" ++ decimal client

-- a client with so many calls
abbrev pub client_generated : ℕ → ℕ → ℕ → ClientCalls
client_generated seed calls client = record { user = user_generated client; calls = (times calls any_call (first_state seed client)).0 }

-- the script of a seed, of so many clients with so many calls each
abbrev pub generated : ℕ → ℕ → ℕ → Script
generated seed clients calls =
    record {
      namenodes = min clients most_generated_namenodes;
      clients = map (client_generated seed calls) (range_with_len 0 clients);
      stops = [];
      tries = default_tries;
      grace = default_grace;
      persist = true;
    }
