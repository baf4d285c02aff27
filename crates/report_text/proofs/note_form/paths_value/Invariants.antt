use Rattle.std.proofs.Common.{◌≡◌, map, take}
use Rattle.script_text.specs.Built.{data_in}
use Rattle.script_text.specs.Form.{path_data}
use Rattle.report_text.proofs.note_form.paths_value.Given as goal

abbrev pub invariant-loop-path : goal.invariant-loop-path
invariant-loop-path l = data_in l.row ≡ map path_data (take l.path-index l.paths)
