-- What the report of a run tells. This project's own.
use Rattle.std.specs.Prelude.{◌≡◌, ℕ, Bool, true, false, List, [], ◌∷◌, map, Option, Some, None}
use Rattle.std.specs.List.{list_all}
use Rattle.name_space.specs.Namespace.{Namespace, IsNamespace, opening}
use Rattle.name_space.specs.Calls.{as_read, replies_of, space_after_calls}
use Rattle.name_space.specs.Script.{Script, ClientCalls}
use Rattle.name_space.specs.declared.reply.Reply.{Reply}
use Rattle.commit_log.specs.declared.note.Note.{Note}
use Rattle.commit_log.specs.declared.note.Note.TheVariants.{Open, Took, Gave, Wrote, Did, Cut, Met, Gone}
use Rattle.commit_log.specs.declared.answer.AnswerLine.{AnswerLine}
use Rattle.commit_log.specs.declared.answer.CallEnd.{CallEnd}
use Rattle.commit_log.specs.declared.answer.CallEnd.TheVariants.{Done, Again, NoNamenode}
use Rattle.commit_log.specs.Told.{Told}
use Rattle.commit_log.specs.Kept.{Kept}
use Rattle.hops_base.specs.Ids.{client}
use Rattle.report_text.specs.Report.{report_text}

-- the reply that a call was answered
abbrev pub reply_in : CallEnd → Option Reply
reply_in (Done note reply) = Some (as_read reply)
reply_in (Again note) = None
reply_in (NoNamenode note) = None

-- the replies of these lines are those of the plain calls of the one client, one after another, and the tree is the
-- namespace after them
abbrev pub IsPlainRun : List ClientCalls → List AnswerLine → Namespace → Type 0
IsPlainRun [] lines tree = (lines ≡ []) × (tree ≡ opening)
IsPlainRun (one ∷ []) lines tree =
    (map (λ (line : AnswerLine). reply_in line.end) lines ≡ map Some (replies_of opening (client 0) one.user one.calls)) × (tree ≡ space_after_calls opening (client 0) one.user one.calls)
IsPlainRun (one ∷ other ∷ more) lines tree = ⊥

-- the note opens a session, takes a lock or answers. It isn't a conflict, a step of an operation, a cut or the loss of a namenode;
-- and no lock is given back but by an answer
abbrev pub is_quiet : Note → Bool
is_quiet (Open s client number node) = true
is_quiet (Took s key mode) = true
is_quiet (Gave s) = false
is_quiet (Wrote s work) = false
is_quiet (Did s client number call reads reply) = true
is_quiet (Cut op path gone) = false
is_quiet (Met s cause) = false
is_quiet (Gone node ended) = false

-- the book, the answers and the tree of a script's run: they tell one legal history of it with sound locks, which leads to the tree;
-- they keep what runs keep: whoever answers holds its reply key and a key for each path of its call, and takes no subtree; the tree
-- is a namespace; nothing is met, cut, reclaimed or lost; and the replies and the tree are those of the plain calls, one after another
pub record IsRun (script : Script) (notes : List Note) (lines : List AnswerLine) (tree : Namespace) : Type 0 where
  pub told : Told script notes lines tree
  pub kept : Kept script notes lines
  pub names : IsNamespace tree
  pub quiet : list_all is_quiet notes ≡ true
  pub plain : IsPlainRun script.clients lines tree

-- the text is the report of a run of the script, and nothing else
pub record IsReportOf (script : Script) (text : List ℕ) : Type 0 where
  pub notes : List Note
  pub lines : List AnswerLine
  pub tree : Namespace
  pub written : text ≡ report_text script notes lines tree
  pub run : IsRun script notes lines tree
