use Rattle.std.proofs.Common.{◌++◌, length, ap, sym, ◌∙◌}
use Rattle.serde_json.specs.Written.{has_float}
use Rattle.report_text.specs.Report.{line_of}
use Rattle.core_replay.proofs.ReplayLaws.{no_float_told, told_one}
use Rattle.core_replay.proofs.replay.make_one.Goals as goal

pub add_line-requires : goal.add_line-requires
add_line-requires c = ap has_float c.in_ok-line.ensures ∙ no_float_told c.args.place c.make-answer.result

pub returns : goal.returns
returns c = told_one c.args.script.now c.args.core.now c.make-answer.new.core c.args.place c.args.event.now c.make-answer.result c.len-before.result _ c.args.text.now.items c.add_notes.new.text.items c.add_line.new.text.items
    c.make-answer.ensures c.kept.ensures (sym c.has_memory.ensures ∙ c.if-not-has_memory.false) (c.len-before.ensures ∙ ap length c.book.ensures) (c.notes-notes.ensures ∙ c.book-2.ensures)
    c.in_ok-add_notes.ensures
    (c.in_ok-add_line.ensures ∙ ap (λ value. c.add_notes.new.text.items ++ line_of value) c.in_ok-line.ensures)
