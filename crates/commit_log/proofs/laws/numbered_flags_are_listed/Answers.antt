use Rattle.commit_log.proofs.ReadLaws.{flags-listed}
use Rattle.commit_log.proofs.laws.numbered_flags_are_listed.Goals as goal

pub returns : goal.returns
returns c = flags-listed
