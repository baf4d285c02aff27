use Rattle.commit_log.proofs.OneClientLaws.{turns_book-push, turns_lines-push, length-turns_book, legal-turns_push, space-turns_push}
use Rattle.commit_log.proofs.laws.turns_come_one_after_another.Goals as goal

pub returns-clause-notes : goal.returns-clause-notes
returns-clause-notes c = turns_book-push

pub returns-clause-lines : goal.returns-clause-lines
returns-clause-lines c = turns_lines-push

pub returns-clause-count : goal.returns-clause-count
returns-clause-count c = length-turns_book

pub returns-clause-legal : goal.returns-clause-legal
returns-clause-legal c = legal-turns_push

pub returns-clause-space : goal.returns-clause-space
returns-clause-space c = space-turns_push
