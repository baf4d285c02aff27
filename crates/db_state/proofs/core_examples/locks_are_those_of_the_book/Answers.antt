use Rattle.std.proofs.Common.{◌≡◌, true, false, List, [], ◌∷◌, sym, ap, ◌∙◌}
use Rattle.std.specs.FinMap as map
use Rattle.hops_base.specs.Ids.{session}
use Rattle.hops_base.specs.Key.{key_cmp}
use Rattle.hops_base.specs.declared.ids.Mode.TheVariants.{Shared, Exclusive}
use Rattle.commit_log.specs.Parts.{passes}
use Rattle.commit_log.specs.Samples.{d_key, opens, shares, gives}
use Rattle.commit_log.proofs.HeldLaws.{held-push}
use Rattle.commit_log.specs.declared.note.Note.{Note}
use Rattle.row_locks.specs.Locks.{Locks, mode_of}
use Rattle.db_state.specs.LockParts.{same_mode, AreOfBook}
use Rattle.db_state.specs.CoreSamples.{one_lock}
use Rattle.db_state.proofs.LockPartLaws.{book_gave}
use Rattle.db_state.proofs.OpeningCoreLaws.{no_lock}
use Rattle.db_state.proofs.CoreSampleLemmas.{lock_at, given, none_held, one_held, same_tables}
use Rattle.db_state.proofs.core_examples.locks_are_those_of_the_book.Goals as goal

pub returns-clause-taken : goal.returns-clause-taken
returns-clause-taken c = one_held

pub returns-clause-given_back : goal.returns-clause-given_back
returns-clause-given_back c = book_gave (one_lock 1 d_key Shared) map.empty (opens 1 0 1 0 ∷ shares 1 d_key ∷ []) (gives 1) (session 1)
    (held-push (opens 1 0 1 0 ∷ shares 1 d_key ∷ []) (gives 1)) (given d_key Shared) one_held

-- where the book tells that the first session shares /d, it tells of no table in which it doesn't
shares_it : (locks : Locks) (notes : List Note) → passes (same_mode Shared) (mode_of locks (session 1) d_key) ≡ false → AreOfBook (one_lock 1 d_key Shared) notes → AreOfBook locks notes → ⊥
unfolding key_cmp
shares_it locks notes apart told are =
    let bad : true ≡ false = sym (ap (passes (same_mode Shared)) (lock_at 1 d_key Shared (session 1) d_key)) ∙ same_tables (one_lock 1 d_key Shared) locks notes told are (session 1) d_key Shared ∙ apart in
    cc

pub returns-clause-another_mode : goal.returns-clause-another_mode
unfolding key_cmp
returns-clause-another_mode c are = shares_it (one_lock 1 d_key Exclusive) (opens 1 0 1 0 ∷ shares 1 d_key ∷ []) (ap (passes (same_mode Shared)) (lock_at 1 d_key Exclusive (session 1) d_key)) one_held are

pub returns-clause-another_holder : goal.returns-clause-another_holder
unfolding key_cmp
returns-clause-another_holder c are = shares_it (one_lock 2 d_key Shared) (opens 1 0 1 0 ∷ shares 1 d_key ∷ []) (ap (passes (same_mode Shared)) (lock_at 2 d_key Shared (session 1) d_key)) one_held are

pub returns-clause-not_in_the_table : goal.returns-clause-not_in_the_table
returns-clause-not_in_the_table c are = shares_it map.empty (opens 1 0 1 0 ∷ shares 1 d_key ∷ []) (ap (passes (same_mode Shared)) (no_lock (session 1) d_key)) one_held are

pub returns-clause-not_in_the_book : goal.returns-clause-not_in_the_book
returns-clause-not_in_the_book c are = shares_it map.empty (opens 1 0 1 0 ∷ []) (ap (passes (same_mode Shared)) (no_lock (session 1) d_key)) are none_held
