-- How calls ended, as reports have it. This project's own.
use Rattle.std.specs.Prelude.{List, [], ◌∷◌}
use Rattle.commit_log.specs.declared.answer.CallEnd.{CallEnd}
use Rattle.commit_log.specs.declared.answer.CallEnd.TheVariants.{Done, Again, NoNamenode}
use Rattle.commit_log.specs.declared.answer.AnswerLine.{AnswerLine}
use Rattle.serde_json.specs.Data.{Data}
use Rattle.script_text.specs.Json.{whole, word, row}
use Rattle.report_text.specs.Replies.{reply_data}

-- the values of the end of a call: its word, the number of the note on which it rests, and the reply where there is one
abbrev pub end_values : CallEnd → List Data
end_values (Done note reply) = word "done" ∷ whole note ∷ reply_data reply ∷ []
end_values (Again note) = word "again" ∷ whole note ∷ []
end_values (NoNamenode note) = word "nonamenode" ∷ whole note ∷ []

-- the value of the line of an answer: an array of the word `answer`, the client, the number of its call, and its end
abbrev pub answer_data : AnswerLine → Data
answer_data answer = row (word "answer" ∷ whole answer.client.0 ∷ whole answer.call ∷ end_values answer.end)
