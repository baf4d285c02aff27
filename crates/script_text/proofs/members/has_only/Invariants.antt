use Rattle.std.proofs.Common.{◌≡◌, map}
use Rattle.serde_json.specs.View.{members_view}
use Rattle.script_text.proofs.ViewLemmas.{are_among, are_known}
use Rattle.script_text.proofs.members.has_only.Given as goal

abbrev pub invariant-loop-key : goal.invariant-loop-key
invariant-loop-key l = are_among (map (λ k. k.now) l.known) l.key-iterator ≡ are_known (map (λ k. k.now) l.known) (members_view l.members.entries)
