use Rattle.std.proofs.Common.{rules}
use Rattle.std.specs.Cmp.{IsTotalOrder, IsStrictWeakOrder, on_total, then_total, nat_cmp_total}
use Rattle.std.specs.Ordering.{is_lt}
use Rattle.std.proofs.lemmas.List.Sorted.{ranks_by, answers_always}
use Rattle.hops_base.specs.Key.{key_cmp_total}
use Rattle.commit_log.specs.Reads.{Lock, lock_cmp}
use Rattle.commit_log.proofs.held.locks_in_order.Goals as goal

lock_total : IsTotalOrder lock_cmp
lock_total = then_total (on_total (λ (l : Lock). l.1) key_cmp_total) (on_total (λ (l : Lock). l.0.0) nat_cmp_total)

weak : IsStrictWeakOrder (λ (x y : Lock). is_lt (lock_cmp x y))
weak = ranks_by lock_total (λ (l : Lock). l)

pub returns-clause-rise : goal.returns-clause-rise
returns-clause-rise c = c.in_ok-sort_by.ensures.sorted (λ (x y : Lock). is_lt (lock_cmp x y)) weak (answers_always _ _ _ (λ f a r q k. search rules))

pub returns-clause-stable : goal.returns-clause-stable
returns-clause-stable c = c.in_ok-sort_by.ensures.stable (λ (x y : Lock). is_lt (lock_cmp x y)) weak (answers_always _ _ _ (λ f a r q k. search rules))
