use Rattle.name_space.proofs.QuotaLaws.{a_quota_is_kept}
use Rattle.name_space.proofs.laws.a_quota_is_kept.Goals as goal

pub returns : goal.returns
returns c = a_quota_is_kept
