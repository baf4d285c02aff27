use Rattle.commit_log.proofs.OneClientLaws.{replies-from_legal, legal-from_replies, space-turns_book}
use Rattle.commit_log.proofs.laws.a_single_run_answers_as_plain_calls.Goals as goal

pub returns-clause-replies : goal.returns-clause-replies
returns-clause-replies c = replies-from_legal

pub returns-clause-legal : goal.returns-clause-legal
returns-clause-legal c = legal-from_replies

pub returns-clause-space : goal.returns-clause-space
returns-clause-space c = space-turns_book
