use Rattle.commit_log.proofs.ReadLaws.{journal-notes, journal-rises, journal-legal, legal-journal, journal-space}
use Rattle.commit_log.proofs.laws.the_journal_tells_the_history.Goals as goal

pub returns-clause-notes : goal.returns-clause-notes
returns-clause-notes c = journal-notes

pub returns-clause-rises : goal.returns-clause-rises
returns-clause-rises c = journal-rises

pub returns-clause-legal : goal.returns-clause-legal
returns-clause-legal c = journal-legal

pub returns-clause-enough : goal.returns-clause-enough
returns-clause-enough c = legal-journal

pub returns-clause-space : goal.returns-clause-space
returns-clause-space c = journal-space
