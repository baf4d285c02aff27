use Rattle.std.proofs.Common.{◌≡◌, false, ◌||◌, ◌∷◌, [], ap, sym, ◌∙◌}
use Rattle.std.specs.FinMap as map
use Rattle.std.specs.FinSet as set
use Rattle.std.specs.Cmp.{eq_by_cmp_equiv}
use Rattle.hops_base.specs.declared.key.Key.TheVariants as key
use Rattle.hops_base.specs.Key.{key_cmp_total}
use Rattle.row_store.specs.Table.{ready_with}
use Rattle.row_store.proofs.ReadyLaws.{ready_with-rowless}
use Rattle.lease_table.proofs.PlaceLaws.{found_there}
use Rattle.lease_table.proofs.tests.grant.Goals as goal

pub lease_insert-requires : goal.lease_insert-requires
lease_insert-requires c =
    let lease = key.Lease c.args.client c.args.id in
    let ready : c.lease_reserve.new.self.leases.ready ≡ ready_with c.args.table.now.leases (lease ∷ []) = rw (← c.from_ref.ensures.value) c.in_ok-lease_reserve.ensures.ok in
    ap (λ s. set.contains s lease) ready
    ∙ ready_with-rowless c.args.table.now.leases (lease ∷ []) lease (sym c.holds.ensures ∙ c.if-holds.false) (ap (λ b. b || false) ((eq_by_cmp_equiv key_cmp_total).refl lease))

pub returns : goal.returns
returns c =
    let lease = key.Lease c.args.client c.args.id in
    ap (λ rows. map.contains_key rows lease) c.lease_insert.ensures.rows ∙ found_there c.lease_reserve.new.self.leases.rows lease _
