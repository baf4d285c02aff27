-- Worked examples of reports: their parts, and their texts line by line. This project's own.
use Rattle.std.specs.Prelude.{ℕ, true, List, [], ◌∷◌, ◌++◌, flat_map, None, codes}
use Prim.Native.String.{String}
use Rattle.hops_base.specs.declared.ids.Mode.TheVariants.{Shared, Exclusive}
use Rattle.hops_base.specs.declared.key.Key.TheVariants as key
use Rattle.name_space.specs.declared.call.Call.TheVariants.{Mkdirs, Stat}
use Rattle.name_space.specs.declared.entry.Entry.{Entry}
use Rattle.name_space.specs.declared.entry.Entry.TheVariants as entry
use Rattle.name_space.specs.declared.entry.FileStatus.TheVariants as status
use Rattle.name_space.specs.declared.reply.Reply.{Reply}
use Rattle.name_space.specs.declared.reply.Reply.TheVariants.{Truth, Status}
use Rattle.commit_log.specs.declared.answer.AnswerLine.{AnswerLine}
use Rattle.commit_log.specs.declared.answer.CallEnd.TheVariants.{Done}
use Rattle.commit_log.specs.declared.note.Note.{Note}
use Rattle.commit_log.specs.declared.note.Note.TheVariants.{Open, Took, Did}
use Rattle.script_text.specs.Examples.{first_script}
use Rattle.report_text.specs.IsReport.{Report}

-- the bytes of these lines, each ended by a newline
abbrev pub text_of_lines : List String → List ℕ
text_of_lines texts = flat_map (λ text. codes text ++ 10 ∷ []) texts

-- the path of the first script's calls
abbrev pub made_path : List (List ℕ)
made_path = codes "a" ∷ codes "b" ∷ []

-- what the second call of the first script is answered
abbrev pub made_status : Reply
made_status = Status (status.Dir 493 (codes "ann"))

-- the note that opens a call of the only client, in the session of its number and at the only namenode
abbrev pub open_note : ℕ → Note
open_note call = Open (record { 0 = call }) (record { 0 = 0 }) call (record { 0 = 0 })

-- the note of the answering commit of the first call
abbrev pub mkdirs_note : Note
mkdirs_note = Did (record { 0 = 1 }) (record { 0 = 0 }) 1 (Mkdirs made_path) 1 (Truth true)

-- the note of the answering commit of the second call
abbrev pub stat_note : Note
stat_note = Did (record { 0 = 2 }) (record { 0 = 0 }) 2 (Stat made_path) 2 made_status

-- the notes of the first script, without locks
abbrev pub plain_notes : List Note
plain_notes = open_note 1 ∷ mkdirs_note ∷ open_note 2 ∷ stat_note ∷ []

-- the notes of the first script, with the locks that its sessions took
abbrev pub locked_notes : List Note
locked_notes =
    open_note 1
    ∷ Took (record { 0 = 1 }) (key.Inode (record { 0 = 0 }) (codes "root")) Exclusive
    ∷ Took (record { 0 = 1 }) (key.Inode (record { 0 = 1 }) (codes "a")) Exclusive
    ∷ Took (record { 0 = 1 }) (key.Reply (record { 0 = 0 })) Exclusive
    ∷ mkdirs_note
    ∷ open_note 2
    ∷ Took (record { 0 = 2 }) (key.Inode (record { 0 = 2 }) (codes "b")) Shared
    ∷ Took (record { 0 = 2 }) (key.Reply (record { 0 = 0 })) Exclusive
    ∷ stat_note
    ∷ []

-- the answer to this call of the only client, which rests on this note
abbrev pub answered : ℕ → ℕ → Reply → AnswerLine
answered call note reply = record { client = record { 0 = 0 }; call = call; end = Done note reply }

-- the answers to the calls of the first script, which rest on these notes
abbrev pub made_answers : ℕ → ℕ → List AnswerLine
made_answers first second = answered 1 first (Truth true) ∷ answered 2 second made_status ∷ []

-- the entry of a new directory of this owner
abbrev pub directory : List ℕ → Entry
directory owner = entry.Dir 493 owner None None

-- the last namespace of the first script
abbrev pub made_tree : List (List (List ℕ) × Entry)
made_tree = ([], directory (codes "hdfs")) ∷ (codes "a" ∷ [], directory (codes "ann")) ∷ (made_path, directory (codes "ann")) ∷ []

-- the line of the first script
abbrev pub script_line : String
script_line = "{\"report\":1,\"script\":{\"clients\":[{\"calls\":[[\"mkdirs\",\"/a/b\"],[\"stat\",\"/a/b\"]],\"user\":\"ann\"}],\"grace\":64,\"namenodes\":1,\"persist\":true,\"stops\":[],\"tries\":10000,\"version\":1}}"

-- the lines of the last namespace of the first script
abbrev pub made_lines : List String
made_lines =
    "[\"path\",\"/\",{\"kind\":\"dir\",\"max_bytes\":null,\"max_names\":null,\"mode\":493,\"owner\":\"hdfs\"}]"
    ∷ "[\"path\",\"/a\",{\"kind\":\"dir\",\"max_bytes\":null,\"max_names\":null,\"mode\":493,\"owner\":\"ann\"}]"
    ∷ "[\"path\",\"/a/b\",{\"kind\":\"dir\",\"max_bytes\":null,\"max_names\":null,\"mode\":493,\"owner\":\"ann\"}]"
    ∷ []

-- the report of the first script without locks, line by line
abbrev pub plain_lines : List String
plain_lines =
    script_line
    ∷ "[0,\"open\",1,0,1,0]"
    ∷ "[1,\"did\",1,0,1,[\"mkdirs\",\"/a/b\"],1,true]"
    ∷ "[2,\"open\",2,0,2,0]"
    ∷ "[3,\"did\",2,0,2,[\"stat\",\"/a/b\"],2,{\"kind\":\"dir\",\"mode\":493,\"owner\":\"ann\"}]"
    ∷ "[\"answer\",0,1,\"done\",1,true]"
    ∷ "[\"answer\",0,2,\"done\",3,{\"kind\":\"dir\",\"mode\":493,\"owner\":\"ann\"}]"
    ∷ made_lines
    ++ "[\"end\",4,2,3]" ∷ []

-- the report of the first script with its locks, line by line
abbrev pub locked_lines : List String
locked_lines =
    script_line
    ∷ "[0,\"open\",1,0,1,0]"
    ∷ "[1,\"took\",1,[\"inode\",0,\"root\"],\"X\"]"
    ∷ "[2,\"took\",1,[\"inode\",1,\"a\"],\"X\"]"
    ∷ "[3,\"took\",1,[\"reply\",0],\"X\"]"
    ∷ "[4,\"did\",1,0,1,[\"mkdirs\",\"/a/b\"],1,true]"
    ∷ "[5,\"open\",2,0,2,0]"
    ∷ "[6,\"took\",2,[\"inode\",2,\"b\"],\"S\"]"
    ∷ "[7,\"took\",2,[\"reply\",0],\"X\"]"
    ∷ "[8,\"did\",2,0,2,[\"stat\",\"/a/b\"],2,{\"kind\":\"dir\",\"mode\":493,\"owner\":\"ann\"}]"
    ∷ "[\"answer\",0,1,\"done\",4,true]"
    ∷ "[\"answer\",0,2,\"done\",8,{\"kind\":\"dir\",\"mode\":493,\"owner\":\"ann\"}]"
    ∷ made_lines
    ++ "[\"end\",9,2,3]" ∷ []

-- the report of the first script with its locks
abbrev pub locked_report : Report
locked_report = record { script = first_script; notes = locked_notes; answers = made_answers 4 8; tree = made_tree }
