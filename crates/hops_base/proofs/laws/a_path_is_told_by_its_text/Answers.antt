use Rattle.hops_base.proofs.Spelling.{names_spelled, free_of_names, fault_of_names, utf8_of_names}
use Rattle.hops_base.proofs.laws.a_path_is_told_by_its_text.Goals as goal

pub returns : goal.returns
returns c = record { names = names_spelled; free = free_of_names; short = fault_of_names; text = utf8_of_names }
