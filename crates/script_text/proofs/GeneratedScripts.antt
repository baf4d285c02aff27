-- What is generated is within its ranges.
use Rattle.std.proofs.Common.{◌≡◌, ◌≤◌, ◌<◌, ℕ, suc, zero, ◌+◌, ◌*◌, ◌%◌, ◌==◌, Bool, true, false, ◌&&◌, List, [], ◌∷◌, ◌++◌, map, length, get_or, Some, None, codes, decimal, refl, ap, arith, le-leb, zero-le, inl, inr, length-append, mod-lt}
use Rattle.std.specs.Fmt.{digits}
use Rattle.std.specs.Str.{chars, is_utf8}
use Rattle.std.specs.List.{AllByRecursion, range_with_len, list_all, IsDistinct}
use Rattle.std.specs.Cmp.{first_so, second_so}
use Rattle.std.proofs.lemmas.Bool.{cases_eq, eqb-true, and_from}
use Rattle.std.proofs.lemmas.List.FromFn.{length-map-range_with_len}
use Rattle.hops_base.specs.Path.{most_path_names, most_path_bytes, is_short, joined, text_of}
use Rattle.hops_base.specs.User.{is_user}
use Rattle.hops_base.specs.Name.{is_name}
use Rattle.name_space.specs.Call.{Argument, a_path, a_truth, a_number, a_quota, most_grown, most_mode, most_quota, is_in_range, is_valid}
use Rattle.name_space.specs.Script.{IsScript, most_clients, most_calls, is_client}
use Rattle.name_space.specs.declared.call.Call.{Call}
use Rattle.name_space.specs.declared.call.Call.TheVariants as call
use Rattle.script_text.specs.Generator.{most_generated_calls, Drawing, next_state, times, made_of, any_below, any_to, any_truth, any_name, any_path, kinds, any_call, first_state, user_generated, client_generated, generated, made_of_both}

-- ---- finitely many numbers

-- the test passes for each number below this one
abbrev pub holds_below : (ℕ → Bool) → ℕ → Bool
holds_below test zero = true
holds_below test (suc n) = test n && holds_below test n

pub holds_at : (test : ℕ → Bool) (n k : ℕ) → holds_below test n ≡ true → k < n → test k ≡ true
holds_at test zero k all less = absurd (omega arith)
holds_at test (suc n) k all less = elim (cases_eq k n) [ inl same ↦ rw same (first_so (test n) (holds_below test n) all) | inr other ↦ holds_at test n k (second_so (test n) (holds_below test n) all) (omega arith) ]

-- ---- paths

-- a name that is drawn has two bytes
has_two_bytes : ℕ → Bool
has_two_bytes digit = length (codes "n" ++ decimal digit) == 2

names_have_two : holds_below has_two_bytes 6 ≡ true
unfolding digits has_two_bytes
names_have_two = refl

name_length : (state : ℕ) → length (any_name state).0 ≡ 2
unfolding has_two_bytes
name_length state = let less : next_state state % 6 < 6 = omega arith in eqb-true _ _ (holds_at has_two_bytes 6 (next_state state % 6) names_have_two less)

-- so many things are drawn
pub length-times : {A : Type 0} (each : Drawing A) (n state : ℕ) → length (times n each state).0 ≡ n
length-times each zero state = refl
length-times each (suc n) state = ap suc (length-times each n (each state).1)

-- each name has three bytes of the text
length-joined : (n state : ℕ) → length (joined (times n any_name state).0) ≡ 3 * n
length-joined zero state = refl
length-joined (suc n) state =
    let rest = length-joined n (any_name state).1 in
    let name = name_length state in
    let both = length-append (any_name state).0 (joined (times n any_name (any_name state).1).0) in
    omega arith

text_short : (path : List (List ℕ)) → length (joined path) ≤ 9 → length (text_of path) ≤ 9
text_short [] short = omega arith
text_short (name ∷ names) short = short

-- a path that is drawn is short
path_short : (state : ℕ) → is_short (any_path state).0 ≡ true
path_short state =
    let names = 1 + next_state state % 3 in
    let few : names ≤ 3 = omega arith in
    let path = (times names any_name (next_state state)).0 in
    let count = length-times any_name names (next_state state) in
    let bytes = length-joined names (next_state state) in
    let text = text_short path (omega arith) in
    rw (le-leb (length path) most_path_names (omega arith), le-leb (length (text_of path)) most_path_bytes (omega arith)) refl

name_good : holds_below (λ digit. is_name (codes "n" ++ decimal digit)) 6 ≡ true
unfolding digits is_utf8 chars lib.Utf8.encode
name_good = refl

names_good : (n state : ℕ) → list_all is_name (times n any_name state).0 ≡ true
names_good zero state = refl
names_good (suc n) state =
    let less : next_state state % 6 < 6 = omega arith in
    and_from _ _ (holds_at (λ digit. is_name (codes "n" ++ decimal digit)) 6 (next_state state % 6) name_good less) (names_good n (any_name state).1)

-- a path that is drawn consists of names too
path_good : (state : ℕ) → is_in_range (a_path (any_path state).0) ≡ true
path_good state = and_from _ _ (names_good (1 + next_state state % 3) (next_state state)) (path_short state)

-- ---- calls

-- a path that is drawn, and other arguments in their ranges
with_path : (state : ℕ) (rest : List Argument) → list_all is_in_range rest ≡ true → list_all is_in_range (a_path (any_path state).0 ∷ rest) ≡ true
with_path state rest good = and_from _ _ (path_good state) good

-- what is drawn so is a valid call
abbrev IsValidDrawing : Drawing Call → Type 0
IsValidDrawing each = (state : ℕ) → is_valid (each state).0 ≡ true

-- a number that is drawn is in its range
to_range : (n state : ℕ) → 0 < n → (1 ≤ (any_to n state).0) × ((any_to n state).0 ≤ n)
to_range n state some = let less = mod-lt (next_state state) some in (omega arith, omega arith)

kinds_valid : AllByRecursion IsValidDrawing kinds
kinds_valid = (alone, (alone, (alone, (truth, (truth, (alone, (grow, (alone, (alone, (alone, (alone, (all, (children, (rename, (chmod, (quota, tt))))))))))))))))
  where
    alone : (state : ℕ) → list_all is_in_range (a_path (any_path state).0 ∷ []) ≡ true
    alone state = with_path state [] refl

    truth : (state : ℕ) → list_all is_in_range (a_path (any_path state).0 ∷ a_truth (any_truth (any_path state).1).0 ∷ []) ≡ true
    truth state = with_path state (a_truth (any_truth (any_path state).1).0 ∷ []) refl

    all : (state : ℕ) → list_all is_in_range (a_path (any_path state).0 ∷ a_truth true ∷ []) ≡ true
    all state = with_path state (a_truth true ∷ []) refl

    children : (state : ℕ) → list_all is_in_range (a_path (any_path state).0 ∷ a_truth false ∷ []) ≡ true
    children state = with_path state (a_truth false ∷ []) refl

    grow : (state : ℕ) → is_valid ((made_of_both call.Grow any_path (any_to 1000)) state).0 ≡ true
    grow state =
        let range = to_range 1000 (any_path state).1 (omega arith) in
        with_path state (a_number 1 most_grown (any_to 1000 (any_path state).1).0 ∷ []) (rw (le-leb 1 _ range.0, le-leb (any_to 1000 (any_path state).1).0 most_grown (omega (arith, range.1))) refl)

    rename : (state : ℕ) → is_valid ((made_of_both call.Rename any_path any_path) state).0 ≡ true
    rename state = with_path state (a_path (any_path (any_path state).1).0 ∷ []) (alone (any_path state).1)

    chmod : (state : ℕ) → is_valid ((made_of_both call.Chmod any_path (any_below 512)) state).0 ≡ true
    chmod state =
        let mode = (any_below 512 (any_path state).1).0 in
        let less : next_state (any_path state).1 % 512 < 512 = omega arith in
        with_path state (a_number 0 most_mode mode ∷ []) (rw (le-leb 0 mode zero-le, le-leb mode most_mode (omega arith)) refl)

    quota : (state : ℕ) → is_valid ((made_of_both (λ path names. call.SetQuota path (Some names) None) any_path (any_to 50)) state).0 ≡ true
    quota state =
        let range = to_range 50 (any_path state).1 (omega arith) in
        with_path state (a_quota (Some (any_to 50 (any_path state).1).0) ∷ a_quota None ∷ []) (rw (le-leb 1 _ range.0, le-leb (any_to 50 (any_path state).1).0 most_quota (omega (arith, range.1))) refl)

-- what holds of each of these drawings and of another holds of the one at a place, or else of the other
one_holds : (P : Drawing Call → Type 0) (each : List (Drawing Call)) (i : ℕ) (other : Drawing Call) → AllByRecursion P each → P other → P (get_or each i other)
one_holds P [] i other all holds = holds
one_holds P (first ∷ rest) zero other all holds = all.0
one_holds P (first ∷ rest) (suc i) other all holds = one_holds P rest i other all.1 holds

call_valid : IsValidDrawing any_call
call_valid state = one_holds IsValidDrawing kinds (next_state state % 16) (made_of call.Mkdirs any_path) kinds_valid (λ s. with_path s [] refl) (next_state state)

calls_valid : (n state : ℕ) → list_all is_valid (times n any_call state).0 ≡ true
calls_valid zero state = refl
calls_valid (suc n) state = and_from _ _ (call_valid state) (calls_valid n (any_call state).1)

-- ---- clients

users_good : holds_below (λ client. is_user (user_generated client)) most_clients ≡ true
unfolding digits
users_good = refl

client_good : (seed calls client : ℕ) → client < most_clients → calls ≤ most_generated_calls → is_client (client_generated seed calls client) ≡ true
client_good seed calls client few short =
    let user = holds_at (λ n. is_user (user_generated n)) most_clients client users_good few in
    let state = first_state seed client in
    let count = length-times any_call calls state in
    and_from _ _ (and_from _ _ user (le-leb (length (times calls any_call state).0) most_calls (omega arith))) (calls_valid calls state)

clients_good : (seed calls first n : ℕ) → first + n ≤ most_clients → calls ≤ most_generated_calls → list_all is_client (map (client_generated seed calls) (range_with_len first n)) ≡ true
clients_good seed calls first zero few short = refl
clients_good seed calls first (suc n) few short = and_from _ _ (client_good seed calls first (omega arith) short) (clients_good seed calls (first + 1) n (omega arith) short)

-- the script is within its ranges
pub generated_good : (seed clients calls : ℕ) → 1 ≤ clients → clients ≤ most_clients → calls ≤ most_generated_calls → IsScript (generated seed clients calls)
unfolding IsDistinct
generated_good seed clients calls some few short =
    record {
      namenodes = (omega arith, omega arith);
      clients = (let count = length-map-range_with_len (client_generated seed calls) 0 clients in omega arith, clients_good seed calls 0 clients (omega arith) short);
      stops = (refl, tt);
      tries = refl;
      grace = refl;
    }
