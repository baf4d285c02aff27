use Rattle.hops_base.specs.Key.{key_cmp_total}
use Rattle.hops_base.proofs.Tells.{key_cmp_exact}
use Rattle.hops_base.proofs.laws.keys_have_one_order.Goals as goal

pub returns : goal.returns
returns c = record { total = key_cmp_total; exact = key_cmp_exact }
