use Rattle.std.proofs.Common.{ap, ◌∙◌}
use Rattle.serde_json.specs.Written.{has_float}
use Rattle.report_text.proofs.NoFloat.{no_float_in_head}
use Rattle.report_text.proofs.lines.add_head.Goals as goal

pub add_line-requires : goal.add_line-requires
add_line-requires c = ap has_float c.in_ok-value.ensures ∙ no_float_in_head c.args.script.now
