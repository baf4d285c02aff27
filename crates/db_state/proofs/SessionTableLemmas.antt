-- How the sessions are seen, once one of them is put, changed or taken away.
use Rattle.std.proofs.Common.{◌≡◌, ℕ, Bool, true, false, cond, Some, None, option_map, refl, sym, ap, ◌∙◌, eqb-true}
use Rattle.std.specs.BTreeMap as tree
use Rattle.std.specs.BTreeMap.{BTreeMap}
use Rattle.std.specs.FinMap as map
use Rattle.std.specs.Cmp.{nat_cmp_total, eq_by_cmp_equiv, unsigned_tied}
use Rattle.std.specs.Ordering.{nat_cmp, eq_by_cmp}
use Rattle.db_state.specs.declared.session.Session.{Session}
use Rattle.db_state.specs.State.{Sessions}

-- the test of numbers is the same both ways
flip : (a b : ℕ) → eq_by_cmp nat_cmp a b ≡ eq_by_cmp nat_cmp b a
flip a b = (eq_by_cmp_equiv nat_cmp_total).symm a b

-- the sessions of a map, as they are seen
abbrev pub seen_in : BTreeMap ℕ Session → Sessions
seen_in m = map.from_entries m.entries

-- the session of a number
pub get_seen : (m : BTreeMap ℕ Session) (n : ℕ) → map.get (seen_in m) n ≡ tree.get nat_cmp m n
get_seen m n = map.get-from_entries nat_cmp_total m.entries n ∙ refl

-- a session is put
pub put_seen : (m n : BTreeMap ℕ Session) (s : ℕ) (new : Session) → ((q : ℕ) → tree.get nat_cmp n q ≡ cond (eq_by_cmp nat_cmp s q) (Some new) (tree.get nat_cmp m q)) → seen_in n ≡ map.insert (seen_in m) s new
put_seen m n s new e = map.same_map nat_cmp_total map.nat_cmp-IsAntisymmetric (seen_in n) (map.insert (seen_in m) s new) (λ q.
    get_seen n q ∙ e q ∙ ap (λ (b : Bool). cond b (Some new) (tree.get nat_cmp m q)) (flip s q) ∙ ap (cond (eq_by_cmp nat_cmp q s) (Some new)) (sym (get_seen m q))
    ∙ sym (map.get-insert nat_cmp_total (seen_in m) s new q))

-- a session is taken away
pub gone_seen : (m n : BTreeMap ℕ Session) (s : ℕ) → ((q : ℕ) → tree.get nat_cmp n q ≡ cond (eq_by_cmp nat_cmp s q) None (tree.get nat_cmp m q)) → seen_in n ≡ map.remove (seen_in m) s
gone_seen m n s e = map.same_map nat_cmp_total map.nat_cmp-IsAntisymmetric (seen_in n) (map.remove (seen_in m) s) (λ q.
    get_seen n q ∙ e q ∙ ap (λ (b : Bool). cond b None (tree.get nat_cmp m q)) (flip s q) ∙ ap (cond (eq_by_cmp nat_cmp q s) None) (sym (get_seen m q))
    ∙ sym (map.get-remove nat_cmp_total (seen_in m) s q))

-- a session is changed
pub changed_seen : (m n : BTreeMap ℕ Session) (s : ℕ) (doing : Session) (change : Session → Session) → map.get (seen_in m) s ≡ Some doing
    → ((q : ℕ) → tree.get nat_cmp n q ≡ cond (eq_by_cmp nat_cmp s q) (option_map change (tree.get nat_cmp m q)) (tree.get nat_cmp m q))
    → seen_in n ≡ map.insert (seen_in m) s (change doing)
changed_seen m n s doing change there e = put_seen m n s (change doing) (λ q. e q ∙ by_case q)
  where
    by_case : (q : ℕ) → cond (eq_by_cmp nat_cmp s q) (option_map change (tree.get nat_cmp m q)) (tree.get nat_cmp m q) ≡ cond (eq_by_cmp nat_cmp s q) (Some (change doing)) (tree.get nat_cmp m q)
    by_case q = elim (eq_by_cmp nat_cmp s q) as (λ b. eq_by_cmp nat_cmp s q ≡ b → cond b (option_map change (tree.get nat_cmp m q)) (tree.get nat_cmp m q) ≡ cond b (Some (change doing)) (tree.get nat_cmp m q)) [
      | true ↦ λ is. ap (option_map change) (ap (tree.get nat_cmp m) (sym (eqb-true s q (sym (unsigned_tied s q) ∙ is))) ∙ sym (get_seen m s) ∙ there)
      | false ↦ λ is. refl
    ] refl
