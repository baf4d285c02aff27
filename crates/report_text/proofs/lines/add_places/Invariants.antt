use Rattle.std.proofs.Common.{◌≡◌, ◌++◌, map, flat_map, take}
use Rattle.report_text.specs.Entries.{place_data}
use Rattle.report_text.specs.Report.{line_of}
use Rattle.report_text.proofs.lines.add_places.Given as goal

abbrev pub invariant-loop-path : goal.invariant-loop-path
invariant-loop-path l = l.text.items ≡ l.initial.text.items ++ flat_map line_of (map place_data (take l.path-index l.tree))
