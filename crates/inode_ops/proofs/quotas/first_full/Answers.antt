use Rattle.std.proofs.Common.{◌+◌, Option, drop, map, zip, sym, ap, ◌∙◌, arith}
use Rattle.std.specs.Option.{option_or}
use Rattle.hops_base.specs.declared.key.Key.{Key}
use Rattle.inode_table.specs.declared.inode.Inode.{Inode}
use Rattle.name_space.specs.declared.reply.Exception.{Exception}
use Rattle.name_space.specs.Namespace.{Path, above}
use Rattle.name_space.specs.Quota.{first_some}
use Rattle.inode_ops.specs.QuotaSteps.{full_at, quota_in}
use Rattle.inode_ops.proofs.QuotaLemmas.{full_next, full_end}
use Rattle.inode_ops.proofs.quotas.first_full.Goals as goal

pub returns-in-Some : goal.returns-in-Some
returns-in-Some c =
    let low = c.loop-i-test.true in
    let len = c.len-i-end.ensures in
    let next = full_next c.args.place.now.path c.args.place.now.found.items c.args.quotas.now c.args.names c.loop-i.i _ c.in_ok-exception.field-0 (omega arith) c.requires c.loop-i.invariant c.in_ok-exception.ensures in
    ap (λ (o : Option Exception). option_or o (first_some (map (λ (d : Path × (Key × Inode)). full_at d.0 c.args.names (quota_in c.args.quotas.now d.1.1.id)) (drop (c.loop-i.i + 1) (zip (above c.args.place.now.path) c.args.place.now.found.items))))) (sym c.in-Some.is) ∙ next

pub loop-i-preserved : goal.loop-i-preserved
loop-i-preserved c =
    let low = c.loop-i-test.true in
    let len = c.len-i-end.ensures in
    let next = full_next c.args.place.now.path c.args.place.now.found.items c.args.quotas.now c.args.names c.loop-i.i _ c.in_ok-exception.field-0 (omega arith) c.requires c.loop-i.invariant c.in_ok-exception.ensures in
    ap (λ (o : Option Exception). option_or o (first_some (map (λ (d : Path × (Key × Inode)). full_at d.0 c.args.names (quota_in c.args.quotas.now d.1.1.id)) (drop (c.loop-i.i + 1) (zip (above c.args.place.now.path) c.args.place.now.found.items))))) (sym c.in_default.is) ∙ next

pub returns : goal.returns
returns c = full_end c.args.place.now.path c.args.place.now.found.items c.args.quotas.now c.args.names c.loop-i.i _ (let low = c.loop-i-test.false in let items = c.len-i-end.ensures in omega arith) c.loop-i.invariant
