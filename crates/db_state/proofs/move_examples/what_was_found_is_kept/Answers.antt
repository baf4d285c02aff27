use Rattle.std.proofs.Common.{◌≡◌, ◌+◌, ◌≤◌, List, [], ◌∷◌, ◌++◌, length, Some, None, refl, sym, ap, subst, ◌∙◌, arith}
use Rattle.std.specs.FinMap as map
use Rattle.std.specs.List.{AllByRecursion}
use Rattle.hops_base.specs.declared.key.Key.{Key}
use Rattle.inode_table.specs.declared.inode.Inode.{Inode}
use Rattle.commit_log.specs.Samples.{d_key}
use Rattle.db_state.specs.Stored.{root_key, root_row}
use Rattle.db_state.specs.PlaceOf.{IsFound}
use Rattle.db_state.specs.Moves.{IsOneOf}
use Rattle.db_state.specs.ReadSamples.{d_row, x_row, with_id, rows_without_d}
use Rattle.db_state.specs.MoveSamples.{down_to, down_to_x}
use Rattle.db_state.proofs.SeatLaws.{all-at}
use Rattle.db_state.proofs.ReadSampleLemmas.{d_is, d_gone}
use Rattle.db_state.proofs.move_examples.what_was_found_is_kept.Goals as goal

pub returns-clause-goes_on : goal.returns-clause-goes_on
returns-clause-goes_on c = record { again = []; found = (d_key, d_row) ∷ []; missed = []; places = ([], refl); rows = refl; gaps = refl; before = tt; there = (d_is d_row x_row, tt); gone = tt; one = omega arith }

pub returns-clause-comes_again : goal.returns-clause-comes_again
returns-clause-comes_again c = record { again = down_to d_row; found = []; missed = []; places = ([], refl); rows = refl; gaps = refl; before = ((0, refl), ((2, refl), tt)); there = tt; gone = tt; one = omega arith }

-- the rows that were found have low ids
low : AllByRecursion (λ (r : Key × Inode). r.1.id.0 ≤ 3) ((root_key, root_row) ∷ down_to_x d_row x_row)
low = ((let one : 1 ≤ 3 = omega arith in one), ((let one : 1 ≤ 3 = omega arith in one), ((let two : 2 ≤ 3 = omega arith in two), ((let three : 3 ≤ 3 = omega arith in three), tt))))

pub returns-clause-comes_as_another : goal.returns-clause-comes_as_another
returns-clause-comes_as_another c looks = by_again looks.again looks.found looks.rows looks.before looks.there looks.one
  where
    by_again : (again found : List (Key × Inode)) → down_to_x d_row x_row ++ down_to (with_id 9 d_row) ≡ (down_to_x d_row x_row ++ again) ++ found
        → AllByRecursion (IsOneOf ((root_key, root_row) ∷ down_to_x d_row x_row)) again → AllByRecursion (IsFound (rows_without_d x_row)) found → length found + length looks.missed ≤ 1 → ⊥
    by_again [] found e before there one =
        let same : down_to (with_id 9 d_row) ≡ found = cc in
        let long : length (down_to (with_id 9 d_row)) ≡ length found = ap length same in
        omega arith
    by_again (a ∷ []) [] e before there one = let bad = e in cc
    by_again (a ∷ []) (r ∷ found) e before there one =
        let same : r ≡ (d_key, with_id 9 d_row) = cc in
        let is : map.get (rows_without_d x_row) d_key ≡ Some (with_id 9 d_row) = subst (IsFound (rows_without_d x_row)) same there.0 in
        let bad : None ≡ Some (with_id 9 d_row) = sym (d_gone x_row) ∙ is in
        cc
    by_again (a ∷ b ∷ again) found e before there one =
        let same : b ≡ (d_key, with_id 9 d_row) = cc in
        let is : IsOneOf ((root_key, root_row) ∷ down_to_x d_row x_row) (d_key, with_id 9 d_row) = subst (IsOneOf ((root_key, root_row) ∷ down_to_x d_row x_row)) same before.1.0 in
        let bad : 9 ≤ 3 = all-at (λ (r : Key × Inode). r.1.id.0 ≤ 3) ((root_key, root_row) ∷ down_to_x d_row x_row) is.0 (d_key, with_id 9 d_row) low is.1 in
        omega arith
