use Rattle.hops_base.specs.Name.{is_name}
use Rattle.hops_base.proofs.PathLemmas.{list_all-take}
use Rattle.hops_base.proofs.path.Path.parent.Goals as goal

pub invariant_of-result : goal.invariant_of-result
invariant_of-result c = rw (c.in_ok-names.ensures, c.deref.ensures.value) (list_all-take is_name c.in-Some.before _ c.self.invariant)
