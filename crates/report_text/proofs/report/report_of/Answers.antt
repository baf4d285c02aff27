use Rattle.std.proofs.Common.{◌++◌, ℕ, List, length, flat_map, ap, sym, ◌∙◌}
use Rattle.commit_log.specs.declared.note.Note.{Note}
use Rattle.report_text.specs.Report.{line_of, notes_data, counts_data}
use Rattle.report_text.proofs.WholeText.{report-in_parts, of_parts}
use Rattle.report_text.proofs.report.report_of.Goals as goal

pub returns : goal.returns
returns c =
    let a = c.args in
    let noted = c.in_ok-add_notes.ensures ∙ ap (λ (notes : List Note). c.add_head.new.text.items ++ flat_map line_of (notes_data 0 notes)) c.notes.ensures in
    let counted = c.in_ok-add_counts.ensures ∙ ap (λ (n : ℕ). c.add_places.new.text.items ++ line_of (counts_data n (length a.answers.now) (length a.tree.now))) c.len.ensures in
    of_parts _ _ _ _ _ _ _ _ _ _ _ c.new-text.ensures.items c.in_ok-add_head.ensures noted c.in_ok-add_answers.ensures c.in_ok-add_places.ensures counted
    ∙ sym (report-in_parts a.script.now a.book.now.notes a.answers.now a.tree.now)
