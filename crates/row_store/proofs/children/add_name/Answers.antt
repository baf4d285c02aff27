use Rattle.row_store.proofs.ChildLemmas.{added}
use Rattle.row_store.proofs.children.add_name.Goals as goal
use Rattle.row_store.proofs.children.add_name.Goals.{in-Ok, in-Err}

pub returns : goal.returns
returns c = elim c.match-insert.branch [
  | in-Ok w ↦ rw w.result-is (record { ok = added _ _ c.in_ok-name.name c.args.name.now c.in_ok-name.ensures w.in-Ok.ensures.updates.0 })
  | in-Err w ↦ rw w.result-is (record { ok = tt })
]
