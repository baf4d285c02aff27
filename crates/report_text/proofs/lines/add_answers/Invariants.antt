use Rattle.std.proofs.Common.{◌≡◌, ◌++◌, map, flat_map, take}
use Rattle.report_text.specs.Answers.{answer_data}
use Rattle.report_text.specs.Report.{line_of}
use Rattle.report_text.proofs.lines.add_answers.Given as goal

abbrev pub invariant-loop-answer : goal.invariant-loop-answer
invariant-loop-answer l = l.text.items ≡ l.initial.text.items ++ flat_map line_of (map answer_data (take l.answer-index l.answers))
