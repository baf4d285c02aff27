use Rattle.report_text.proofs.NoteLines.{notes-next, lines-next}
use Rattle.report_text.proofs.lines.add_notes.Goals as goal

pub loop-i-preserved : goal.loop-i-preserved
loop-i-preserved c =
    let next = notes-next c.args.first c.args.notes.now c.loop-i.i c.index-notes-i.result c.loop-i-test.true c.index-notes-i.is in
    lines-next _ _ _ _ _ _ c.loop-i.invariant c.in_ok-add_note.ensures next
