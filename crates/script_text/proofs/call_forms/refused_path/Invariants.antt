use Rattle.std.proofs.Common.{◌≡◌, drop, map, filter_map}
use Rattle.hops_base.specs.First.{first_some}
use Rattle.hops_base.specs.Path.{path_fault}
use Rattle.serde_json.specs.Find.{as_str}
use Rattle.serde_json.specs.View.{view}
use Rattle.script_text.proofs.call_forms.refused_path.Given as goal

abbrev pub invariant-loop-value : goal.invariant-loop-value
invariant-loop-value l = first_some (map path_fault (filter_map as_str (map view (drop l.value-index l.rest)))) ≡ first_some (map path_fault (filter_map as_str (map view l.rest)))
