use Rattle.hops_base.proofs.Spelling.{text_of_free, names_of_free, of_faultless}
use Rattle.hops_base.proofs.laws.a_text_without_fault_tells_a_path.Goals as goal

pub returns : goal.returns
returns c = record { names = names_of_free; text = text_of_free; short = λ text none. (of_faultless text none).1; free = λ text none. (of_faultless text none).0 }
