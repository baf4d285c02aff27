use Rattle.std.proofs.Common.{◌≡◌, ◌++◌, flat_map, take}
use Rattle.report_text.specs.Report.{line_of, notes_data}
use Rattle.report_text.proofs.lines.add_notes.Given as goal

abbrev pub invariant-loop-i : goal.invariant-loop-i
invariant-loop-i l = l.text.items ≡ l.initial.text.items ++ flat_map line_of (notes_data l.first (take l.i l.notes))
