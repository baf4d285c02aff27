-- Worked runs: whole runs with their books, answers and last trees, by which the definitions of a book are tried.
use Rattle.std.specs.Prelude.{ℕ, false, List, [], ◌∷◌, codes}
use Rattle.hops_base.specs.Ids.{node, operation}
use Rattle.hops_base.specs.declared.key.Key.{Key}
use Rattle.hops_base.specs.declared.key.Key.TheVariants as key
use Rattle.name_space.specs.declared.call.Call.{Call}
use Rattle.name_space.specs.declared.call.Call.TheVariants.{Mkdirs, Create, Stat}
use Rattle.name_space.specs.declared.call.OpKind.TheVariants as kind
use Rattle.name_space.specs.Namespace.{Namespace, Path, new_dir}
use Rattle.name_space.specs.Script.{Script}
use Rattle.commit_log.specs.declared.note.Note.{Note}
use Rattle.commit_log.specs.declared.answer.AnswerLine.{AnswerLine}
use Rattle.commit_log.specs.Kept.{Kept, KeptWithoutLocks}
use Rattle.commit_log.specs.Samples.{inode, root, reply_of, d, d_e, d_key, e_key, make, remove, yes, seen, ann, run, run_at, opens, shares, takes, gives, sets_flag, batches, reclaims, does, cuts, wants, meets_flag, stops, evicts, done}
use Rattle.commit_log.specs.Told.{Told}

-- a run as its report tells it
pub record WorkedRun : Type 0 where
  pub script : Script
  pub notes : List Note
  pub lines : List AnswerLine
  pub tree : Namespace

-- the run holds together
abbrev pub RunIsTold : WorkedRun → Type 0
RunIsTold r = Told r.script r.notes r.lines r.tree

-- it kept all that a run keeps
abbrev pub RunIsKept : WorkedRun → Type 0
RunIsKept r = Kept r.script r.notes r.lines

-- or all but what comes with locks
abbrev pub RunIsKeptWithoutLocks : WorkedRun → Type 0
RunIsKeptWithoutLocks r = KeptWithoutLocks r.script r.notes r.lines

-- a tree in which the root alone stands
abbrev pub root_alone : Namespace
root_alone = ([], new_dir (codes "hdfs")) ∷ []

-- ---- a directory is made with the one above it, and looked at

-- the path /a
abbrev pub a : Path
a = codes "a" ∷ []

-- the path /a/b
abbrev pub a_b : Path
a_b = codes "a" ∷ codes "b" ∷ []

-- the run at these notes, where the calls were done at these places
abbrev pub made_and_seen_by : List Note → ℕ → ℕ → WorkedRun
made_and_seen_by notes first second = record {
  script = run 1 (Mkdirs a_b ∷ Stat a_b ∷ []);
  notes = notes;
  lines = done 0 1 first yes ∷ done 0 2 second seen ∷ [];
  tree = ([], new_dir (codes "hdfs")) ∷ (a, new_dir ann) ∷ (a_b, new_dir ann) ∷ [];
}

-- without locks
abbrev pub made_without_locks : WorkedRun
made_without_locks = made_and_seen_by (opens 1 0 1 0 ∷ does 1 0 1 (Mkdirs a_b) yes ∷ opens 2 0 2 0 ∷ does 2 0 2 (Stat a_b) seen ∷ []) 1 3

-- with them
abbrev pub made_and_seen : WorkedRun
made_and_seen =
    made_and_seen_by (
    opens 1 0 1 0 ∷ takes 1 root ∷ takes 1 (inode 1 (codes "a")) ∷ takes 1 (reply_of 0) ∷ does 1 0 1 (Mkdirs a_b) yes
    ∷ opens 2 0 2 0 ∷ shares 2 (inode 2 (codes "b")) ∷ takes 2 (reply_of 0) ∷ does 2 0 2 (Stat a_b) seen
    ∷ []) 4 8

-- ---- one client makes a file, while the other deletes the directory above it and waits for the first one's lock

-- the path /d/e/x
abbrev pub d_e_x : Path
d_e_x = codes "d" ∷ codes "e" ∷ codes "x" ∷ []

-- the call that makes the file
abbrev pub fill : Call
fill = Create d_e_x false

-- the file's inode key
abbrev pub file_key : Key
file_key = inode 3 (codes "x")

-- the key of its lease
abbrev pub lease_key : Key
lease_key = key.Lease (record { 0 = 0 }) (record { 0 = 4 })

-- the whole run
abbrev pub deleted_beside : WorkedRun
deleted_beside = record {
  script = run_at 1 [] (make ∷ fill ∷ []) (remove ∷ []);
  notes =
      opens 1 0 1 0 ∷ takes 1 root ∷ takes 1 d_key ∷ takes 1 (reply_of 0) ∷ does 1 0 1 make yes
      ∷ opens 2 0 2 0 ∷ takes 2 e_key ∷ takes 2 file_key ∷ takes 2 (reply_of 0)
      ∷ opens 3 1 1 0 ∷ takes 3 root ∷ takes 3 d_key ∷ takes 3 (reply_of 1) ∷ takes 3 key.Gate ∷ sets_flag 3 1 kind.Delete d ∷ gives 3
      ∷ takes 3 d_key ∷ gives 3 ∷ wants 3 e_key 2
      ∷ does 2 0 2 fill yes
      ∷ takes 3 e_key ∷ gives 3 ∷ takes 3 file_key ∷ gives 3
      ∷ takes 3 e_key ∷ takes 3 file_key ∷ takes 3 lease_key ∷ batches 3 1 ∷ gives 3
      ∷ takes 3 root ∷ takes 3 d_key ∷ takes 3 (reply_of 1) ∷ does 3 1 1 remove yes
      ∷ [];
  lines = done 0 1 4 yes ∷ done 0 2 19 yes ∷ done 1 1 32 yes ∷ [];
  tree = root_alone;
}

-- ---- a namenode stops amid a delete: what it removed is cut from the history, and the call goes on at another one

-- the whole run
abbrev pub cut_off : WorkedRun
cut_off = record {
  script = run_at 2 ((node 0, 3) ∷ []) (make ∷ remove ∷ []) [];
  notes =
      opens 1 0 1 0 ∷ takes 1 root ∷ takes 1 d_key ∷ takes 1 (reply_of 0) ∷ does 1 0 1 make yes
      ∷ opens 2 0 2 0 ∷ takes 2 root ∷ takes 2 d_key ∷ takes 2 (reply_of 0) ∷ takes 2 key.Gate ∷ sets_flag 2 1 kind.Delete d ∷ gives 2
      ∷ takes 2 d_key ∷ gives 2 ∷ takes 2 e_key ∷ gives 2
      ∷ takes 2 e_key ∷ batches 2 1 ∷ gives 2 ∷ stops 0
      ∷ opens 3 0 2 1 ∷ meets_flag 3 1 ∷ meets_flag 3 1 ∷ evicts 0
      ∷ takes 3 d_key ∷ takes 3 (key.Ongoing (operation 1)) ∷ takes 3 key.Gate ∷ cuts 1 d (d_e ∷ []) ∷ reclaims 3 1 ∷ gives 3
      ∷ takes 3 root ∷ takes 3 d_key ∷ takes 3 (reply_of 0) ∷ does 3 0 2 remove yes
      ∷ [];
  lines = done 0 1 4 yes ∷ done 0 2 33 yes ∷ [];
  tree = root_alone;
}
