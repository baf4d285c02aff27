-- What holds of scripts that need nothing but what is built.
use Rattle.std.proofs.Common.{◌≡◌, ℕ, ◌+◌, Bool, true, false, not, cond, ◌&&◌, ◌==◌, nat_le, List, [], ◌∷◌, map, length, Option, Some, None, option_map, refl, ap, ◌∙◌, arith}
use Rattle.std.proofs.lemmas.Bool.Decides.{nat_tests}
use Rattle.std.specs.List.{list_all, position_from, enumerate_from}
use Rattle.std.specs.Cmp.{first_so, second_so}
use Rattle.hops_base.specs.First.{first_some}
use Rattle.name_space.specs.declared.call.Call.{Call}
use Rattle.name_space.specs.Script.{ClientCalls, Script}
use Rattle.hops_core.specs.Built.{is_built}
use Rattle.hops_cli.specs.Built.{unbuilt_in, has_built_counts, unbuilt_call, unbuilt, is_built_client, IsBuilt}

-- where no call of a kind that isn't built is found, all are
all_built : (n : ℕ) (calls : List Call) → position_from (λ (c : Call). not (is_built c)) n calls ≡ None → list_all is_built calls ≡ true
all_built n [] none = refl
all_built n (one ∷ calls) none =
    elim (is_built one) as (λ b. cond (not b) (Some n) (position_from (λ (c : Call). not (is_built c)) (n + 1) calls) ≡ None → (b && list_all is_built calls) ≡ true) [
      | true ↦ λ e. all_built (n + 1) calls e
      | false ↦ λ e. absurd (let bad = e in cc)
    ] none

no_place : (o : Option ℕ) → option_map (λ (place : ℕ). place + 1) o ≡ None → o ≡ None
no_place None e = refl
no_place (Some place) e = absurd (let bad = e in cc)

-- where no client has such a call, all their calls are built
all_clients : (n : ℕ) (clients : List ClientCalls) → first_some {A = ℕ × ℕ} (map (λ (c : ℕ × ClientCalls). option_map (λ (number : ℕ). (c.0, number)) (unbuilt_in c.1.calls)) (enumerate_from n clients)) ≡ None → list_all is_built_client clients ≡ true
all_clients n [] none = refl
all_clients n (one ∷ clients) none =
    (elim (unbuilt_in one.calls) as (λ o. unbuilt_in one.calls ≡ o → first_some {A = ℕ × ℕ} (option_map (λ (number : ℕ). (n, number)) o ∷ map (λ (c : ℕ × ClientCalls). option_map (λ (number : ℕ). (c.0, number)) (unbuilt_in c.1.calls)) (enumerate_from (n + 1) clients)) ≡ None → (is_built_client one && list_all is_built_client clients) ≡ true) [
      | None ↦ λ is rest. ap (λ (b : Bool). b && list_all is_built_client clients) (all_built 0 one.calls (no_place (position_from (λ (c : Call). not (is_built c)) 0 one.calls) is)) ∙ all_clients (n + 1) clients rest
      | Some number ↦ λ is rest. absurd (let bad = rest in cc)
    ]) refl none

no_stops : {A : Type 0} (stops : List A) → length stops ≡ 0 → stops ≡ []
no_stops [] none = refl
no_stops (stop ∷ stops) none = absurd (omega arith)

counts_from : (script : Script) → has_built_counts script ≡ true → unbuilt_call script ≡ None → IsBuilt script
counts_from script counts none =
    let both : ((script.namenodes == 1) && nat_le (length script.clients) 1) ≡ true = first_so _ _ counts in
    let one : (script.namenodes == 1) ≡ true = first_so _ _ both in
    let few : nat_le (length script.clients) 1 ≡ true = second_so _ _ both in
    let still : (length script.stops == 0) ≡ true = second_so _ _ counts in
    record {
      namenodes = grind (arith, nat_tests);
      few = grind (arith, nat_tests);
      stays = no_stops script.stops (grind (arith, nat_tests));
      calls = all_clients 0 script.clients none;
    }

-- a script that needs nothing that isn't built
pub built_from : (script : Script) → unbuilt script ≡ None → IsBuilt script
built_from script none =
    (elim (has_built_counts script) as (λ b. has_built_counts script ≡ b → cond b (unbuilt_call script) (Some (0, 0)) ≡ None → IsBuilt script) [
      | true ↦ λ counts rest. counts_from script counts rest
      | false ↦ λ counts rest. absurd (let bad = rest in cc)
    ]) refl none
