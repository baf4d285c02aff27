use Rattle.std.proofs.Common.{◌≡◌, ℕ, Option, IsSomeAnd, refl, sym, ap, subst, arith}
use Rattle.std.specs.FinMap as map
use Rattle.std.specs.Ordering.{nat_cmp}
use Rattle.hops_base.specs.Ids.{client}
use Rattle.hops_base.specs.declared.ids.ClientNo.{ClientNo}
use Rattle.db_state.specs.declared.session.Session.{Session}
use Rattle.db_state.specs.Steps.{start}
use Rattle.db_state.specs.CoreSamples.{first_at}
use Rattle.db_state.proofs.CoreSampleLemmas.{first_there}
use Rattle.db_state.proofs.core_examples.the_book_tells_of_a_seat.Goals as goal

pub returns-clause-told : goal.returns-clause-told
returns-clause-told c = record {
  opens = refl;
  answers = refl;
  last = refl;
  there = subst (λ (o : Option Session). IsSomeAnd o (λ doing. doing.client ≡ client 0)) (sym (first_there (first_at start))) refl;
}

pub returns-clause-nobody_there : goal.returns-clause-nobody_there
returns-clause-nobody_there c told = subst (λ (o : Option Session). IsSomeAnd o (λ doing. doing.client ≡ client 0)) (map.get-empty {X = Session} nat_cmp 1) told.there

pub returns-clause-another_clients : goal.returns-clause-another_clients
returns-clause-another_clients c told =
    let same : client 1 ≡ client 0 = subst (λ (o : Option Session). IsSomeAnd o (λ doing. doing.client ≡ client 0)) (first_there (record (first_at start) { client = client 1 })) told.there in
    let bad : ◌≡◌ {A = ℕ} 1 0 = ap (λ (x : ClientNo). x.0) same in
    omega arith
