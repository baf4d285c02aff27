use Rattle.std.proofs.Common.{rules}
use Rattle.std.specs.Str.{is_utf8, chars}
use Rattle.commit_log.specs.Along.{Each}
use Rattle.commit_log.proofs.examples.order.terms_need_no_script.Goals as goal

pub returns-clause-any_call : goal.returns-clause-any_call
unfolding Each is_utf8 chars lib.Utf8.encode
returns-clause-any_call c = search rules
