use Rattle.std.proofs.Common.{◌≡◌, ℕ, ◌+◌, ◌≤◌, zero, suc, List, [], ◌∷◌, ◌++◌, length, Some, None, refl, sym, ap, subst, ◌∙◌, arith}
use Rattle.std.specs.FinMap as map
use Rattle.std.specs.List.{AllByRecursion}
use Rattle.hops_base.specs.declared.key.Key.{Key}
use Rattle.hops_base.specs.declared.key.Key.TheVariants as key
use Rattle.inode_table.specs.declared.inode.Inode.{Inode}
use Rattle.commit_log.specs.Samples.{d_key}
use Rattle.db_state.specs.Stored.{root_key, root_row}
use Rattle.db_state.specs.PlaceOf.{IsFound}
use Rattle.db_state.specs.Moves.{IsOneOf}
use Rattle.db_state.specs.ReadSamples.{d_row, x_row, x_key, with_id, rows, gap}
use Rattle.db_state.specs.MoveSamples.{from_root, down_to, down_to_x}
use Rattle.db_state.proofs.ReadSampleLemmas.{d_is, x_is, x_gone}
use Rattle.db_state.proofs.move_examples.one_row_is_looked_for.Goals as goal

pub returns-clause-the_root : goal.returns-clause-the_root
returns-clause-the_root c = record { again = from_root; found = []; missed = []; places = ([], refl); rows = refl; gaps = refl; before = ((0, refl), tt); there = tt; gone = tt; one = omega arith }

pub returns-clause-a_row : goal.returns-clause-a_row
returns-clause-a_row c = record { again = from_root; found = (d_key, d_row) ∷ []; missed = []; places = ([], refl); rows = refl; gaps = refl; before = ((0, refl), tt); there = (d_is d_row x_row, tt); gone = tt; one = omega arith }

pub returns-clause-a_missing_one : goal.returns-clause-a_missing_one
returns-clause-a_missing_one c = record { again = []; found = []; missed = x_key ∷ []; places = (gap d_row ∷ [], refl); rows = refl; gaps = refl; before = tt; there = tt; gone = (x_gone d_row, tt); one = omega arith }

-- the id of the directory that an inode's key names
parent_in : Key → ℕ
parent_in (key.Inode parent name) = parent.0
parent_in other = 0

-- a row of /d is none of the root's rows
not_root : (d : Inode) (others : List (Key × Inode)) → AllByRecursion (λ (r : Key × Inode). parent_in r.0 ≡ 0) others → IsOneOf others (d_key, d) → ⊥
unfolding parent_in
not_root d [] all one = let bad = one.1 in cc
not_root d (r ∷ others) all (zero, e) = let same : r ≡ (d_key, d) = cc in let zero_is = all.0 in let bad : ◌≡◌ {A = ℕ} 1 0 = sym (ap (λ (x : Key × Inode). parent_in x.0) same) ∙ zero_is in omega arith
not_root d (r ∷ others) all (suc i, e) = not_root d others all.1 (i, e)

pub returns-clause-not_the_tables : goal.returns-clause-not_the_tables
unfolding parent_in
returns-clause-not_the_tables c looks = by_again looks.again looks.found looks.rows looks.before looks.there
  where
    by_again : (again found : List (Key × Inode)) → down_to (with_id 9 d_row) ≡ (from_root ++ again) ++ found → AllByRecursion (IsOneOf ((root_key, root_row) ∷ from_root)) again
        → AllByRecursion (IsFound (rows d_row x_row)) found → ⊥
    by_again [] [] e before there = let bad = e in cc
    by_again [] (r ∷ found) e before there =
        let same : r ≡ (d_key, with_id 9 d_row) = cc in
        let is : map.get (rows d_row x_row) d_key ≡ Some (with_id 9 d_row) = subst (IsFound (rows d_row x_row)) same there.0 in
        let one : Some d_row ≡ Some (with_id 9 d_row) = sym (d_is d_row x_row) ∙ is in
        let rows_same : d_row ≡ with_id 9 d_row = cc in
        let bad : ◌≡◌ {A = ℕ} 2 9 = ap (λ (row : Inode). row.id.0) rows_same in
        omega arith
    by_again (r ∷ again) found e before there =
        let same : r ≡ (d_key, with_id 9 d_row) = cc in
        not_root (with_id 9 d_row) ((root_key, root_row) ∷ from_root) (refl, (refl, tt)) (subst (IsOneOf ((root_key, root_row) ∷ from_root)) same before.0)

pub returns-clause-not_missing : goal.returns-clause-not_missing
returns-clause-not_missing c looks =
    let gone : AllByRecursion (λ (at : Key). map.get (rows d_row x_row) at ≡ None) (x_key ∷ []) = subst (AllByRecursion (λ (at : Key). map.get (rows d_row x_row) at ≡ None)) (sym looks.gaps) looks.gone in
    let bad : Some x_row ≡ None = sym (x_is d_row x_row) ∙ gone.0 in
    cc

pub returns-clause-two_rows : goal.returns-clause-two_rows
unfolding parent_in
returns-clause-two_rows c looks = by_again looks.again looks.found looks.rows looks.before looks.one
  where
    by_again : (again found : List (Key × Inode)) → down_to_x d_row x_row ≡ again ++ found → AllByRecursion (IsOneOf ((root_key, root_row) ∷ [])) again → length found + length looks.missed ≤ 1 → ⊥
    by_again [] found e before one = let long : length (down_to_x d_row x_row) ≡ length found = ap length e in omega arith
    by_again (a ∷ []) found e before one = let long : length (down_to_x d_row x_row) ≡ length (a ∷ found) = ap length e in omega arith
    by_again (a ∷ b ∷ again) found e before one =
        let same : b ≡ (d_key, d_row) = cc in
        not_root d_row ((root_key, root_row) ∷ []) (refl, tt) (subst (IsOneOf ((root_key, root_row) ∷ [])) same before.1.0)
