-- Worked examples of each form of keys, notes, replies, answers and entries, with its text. This project's own.
use Prim.Native.String.{String}
use Rattle.std.specs.Prelude.{ℕ, true, false, List, [], ◌∷◌, Some, None, codes}
use Rattle.hops_base.specs.Ids.{session, operation, client, node}
use Rattle.hops_base.specs.declared.ids.Mode.TheVariants.{Shared, Exclusive}
use Rattle.hops_base.specs.declared.key.Key.{Key}
use Rattle.hops_base.specs.declared.key.Key.TheVariants as key
use Rattle.name_space.specs.declared.call.Call.TheVariants as call
use Rattle.name_space.specs.declared.call.OpKind.TheVariants as kind
use Rattle.name_space.specs.declared.entry.Entry.{Entry}
use Rattle.name_space.specs.declared.entry.Entry.TheVariants as entry
use Rattle.name_space.specs.declared.entry.FileStatus.TheVariants as status
use Rattle.name_space.specs.declared.reply.Reply.{Reply}
use Rattle.name_space.specs.declared.reply.Reply.TheVariants.{Truth, Status, Entries, Used, Refused}
use Rattle.name_space.specs.declared.reply.Exception.TheVariants.{FileNotFound, FileAlreadyExists, ParentNotDirectory, PathIsNotEmptyDirectory, AlreadyBeingCreated, LeaseExpired, NSQuotaExceeded, DSQuotaExceeded, IO}
use Rattle.name_space.specs.declared.reply.Why.TheVariants.{Descendant, BadParent, RootFixed, NotDirectory, NoQuota}
use Rattle.commit_log.specs.declared.answer.AnswerLine.{AnswerLine}
use Rattle.commit_log.specs.declared.answer.CallEnd.{CallEnd}
use Rattle.commit_log.specs.declared.answer.CallEnd.TheVariants.{Done, Again, NoNamenode}
use Rattle.commit_log.specs.declared.note.Note.{Note}
use Rattle.commit_log.specs.declared.note.Note.TheVariants.{Open, Took, Gave, Wrote, Did, Cut, Met, Gone}
use Rattle.commit_log.specs.declared.note.Work.TheVariants.{Flag, Batch, Reclaim}
use Rattle.commit_log.specs.declared.note.Cause.TheVariants.{Locked, Flagged, Changed, Lost}
use Rattle.commit_log.specs.declared.note.Ended.TheVariants.{Stopped, Evicted}
use Rattle.commit_log.specs.Samples.{d}

-- a key of each table, with its text
abbrev pub keys : List (Key × String)
keys =
    (key.Inode (record { 0 = 3 }) (codes "\"q\"\\"), "[\"inode\",3,\"\\\"q\\\"\\\\\"]")
    ∷ (key.Quota (record { 0 = 9 }), "[\"quota\",9]")
    ∷ (key.Lease (client 1) (record { 0 = 18446744073709551615 }), "[\"lease\",1,18446744073709551615]")
    ∷ (key.Reply (client 63), "[\"reply\",63]")
    ∷ (key.Ongoing (operation 4), "[\"ongoing\",4]")
    ∷ (key.Gate, "[\"gate\"]")
    ∷ []

-- a note of each kind, each step and each cause, with its number and its line
abbrev pub notes : List ((ℕ × Note) × String)
notes =
    ((0, Open (session 7) (client 3) 65536 (node 2)), "[0,\"open\",7,3,65536,2]")
    ∷ ((3, Took (session 1) (key.Reply (client 0)) Shared), "[3,\"took\",1,[\"reply\",0],\"S\"]")
    ∷ ((9, Took (session 2) key.Gate Exclusive), "[9,\"took\",2,[\"gate\"],\"X\"]")
    ∷ ((16, Gave (session 2)), "[16,\"gave\",2]")
    ∷ ((10, Wrote (session 2) (Flag (operation 1) kind.Delete d)), "[10,\"wrote\",2,[\"flag\",1,\"delete\",\"/d\"]]")
    ∷ ((10, Wrote (session 2) (Flag (operation 1) kind.Rename d)), "[10,\"wrote\",2,[\"flag\",1,\"rename\",\"/d\"]]")
    ∷ ((10, Wrote (session 2) (Flag (operation 1) kind.Quota d)), "[10,\"wrote\",2,[\"flag\",1,\"quota\",\"/d\"]]")
    ∷ ((17, Wrote (session 2) (Batch (operation 3))), "[17,\"wrote\",2,[\"batch\",3]]")
    ∷ ((27, Wrote (session 0) (Reclaim (operation 2))), "[27,\"wrote\",0,[\"reclaim\",2]]")
    ∷ ((8, Did (session 2) (client 1) 4 (call.Stat (codes "a" ∷ [])) 3 (Truth false)), "[8,\"did\",2,1,4,[\"stat\",\"/a\"],3,false]")
    ∷ ((5, Cut (operation 2) d (record { items = (codes "d" ∷ codes "e" ∷ []) ∷ (codes "d" ∷ codes "e" ∷ codes "x" ∷ []) ∷ []; room = 2 })), "[5,\"cut\",2,\"/d\",[\"/d/e\",\"/d/e/x\"]]")
    ∷ ((18, Met (session 3) (Locked (key.Inode (record { 0 = 2 }) (codes "e")) Exclusive (session 2))), "[18,\"met\",3,[\"locked\",[\"inode\",2,\"e\"],\"X\",2]]")
    ∷ ((17, Met (session 2) (Flagged (operation 1))), "[17,\"met\",2,[\"flagged\",1]]")
    ∷ ((14, Met (session 2) (Changed 6)), "[14,\"met\",2,[\"changed\",6]]")
    ∷ ((20, Met (session 2) (Lost (operation 4))), "[20,\"met\",2,[\"lost\",4]]")
    ∷ ((5, Gone (node 0) Stopped), "[5,\"gone\",0,\"stopped\"]")
    ∷ ((2, Gone (node 15) Evicted), "[2,\"gone\",15,\"evicted\"]")
    ∷ []

-- a reply of each kind, with its text
abbrev pub replies : List (Reply × String)
replies =
    (Truth true, "true")
    ∷ (Truth false, "false")
    ∷ (Status (status.Dir 493 (codes "ann")), "{\"kind\":\"dir\",\"mode\":493,\"owner\":\"ann\"}")
    ∷ (Status (status.File 5 420 (codes "bob")), "{\"kind\":\"file\",\"len\":5,\"mode\":420,\"owner\":\"bob\"}")
    ∷ (Entries (record { items = []; room = 0 }), "{\"entries\":[]}")
    ∷ (Entries (record { items = record { name = codes "d"; status = status.Dir 493 (codes "ann") } ∷ record { name = codes "x"; status = status.File 7 420 (codes "bob") } ∷ []; room = 2 }), "{\"entries\":[{\"kind\":\"dir\",\"mode\":493,\"name\":\"d\",\"owner\":\"ann\"},{\"kind\":\"file\",\"len\":7,\"mode\":420,\"name\":\"x\",\"owner\":\"bob\"}]}")
    ∷ (Used 4 134217728 (Some 100) None, "{\"bytes\":134217728,\"max_bytes\":null,\"max_names\":100,\"names\":4}")
    ∷ (Used 2 0 None (Some 5), "{\"bytes\":0,\"max_bytes\":5,\"max_names\":null,\"names\":2}")
    ∷ []

-- each refusal, with its text
abbrev pub refusals : List (Reply × String)
refusals =
    (Refused FileNotFound, "{\"refused\":\"FileNotFound\"}")
    ∷ (Refused FileAlreadyExists, "{\"refused\":\"FileAlreadyExists\"}")
    ∷ (Refused ParentNotDirectory, "{\"refused\":\"ParentNotDirectory\"}")
    ∷ (Refused PathIsNotEmptyDirectory, "{\"refused\":\"PathIsNotEmptyDirectory\"}")
    ∷ (Refused LeaseExpired, "{\"refused\":\"LeaseExpired\"}")
    ∷ (Refused (AlreadyBeingCreated (client 3)), "{\"refused\":\"AlreadyBeingCreated\",\"writer\":3}")
    ∷ (Refused (NSQuotaExceeded (codes "q" ∷ []) 4 2), "{\"at\":\"/q\",\"limit\":2,\"refused\":\"NSQuotaExceeded\",\"used\":4}")
    ∷ (Refused (DSQuotaExceeded (codes "q" ∷ codes "d" ∷ []) 11 10), "{\"at\":\"/q/d\",\"limit\":10,\"refused\":\"DSQuotaExceeded\",\"used\":11}")
    ∷ (Refused (IO Descendant), "{\"refused\":\"IO\",\"why\":\"Descendant\"}")
    ∷ (Refused (IO BadParent), "{\"refused\":\"IO\",\"why\":\"BadParent\"}")
    ∷ (Refused (IO RootFixed), "{\"refused\":\"IO\",\"why\":\"RootFixed\"}")
    ∷ (Refused (IO NotDirectory), "{\"refused\":\"IO\",\"why\":\"NotDirectory\"}")
    ∷ (Refused (IO NoQuota), "{\"refused\":\"IO\",\"why\":\"NoQuota\"}")
    ∷ []

-- the answer to the fourth call of client 2 that ended so
abbrev pub answer_of : CallEnd → AnswerLine
answer_of end = record { client = client 2; call = 4; end = end }

-- an answer of each end, with its line
abbrev pub answers : List (AnswerLine × String)
answers =
    (answer_of (Done 8 (Truth true)), "[\"answer\",2,4,\"done\",8,true]")
    ∷ (answer_of (Again 10), "[\"answer\",2,4,\"again\",10]")
    ∷ (answer_of (NoNamenode 0), "[\"answer\",2,4,\"nonamenode\",0]")
    ∷ []

-- entries with and without quotas and writer, with their lines
abbrev pub places : List ((List (List ℕ) × Entry) × String)
places =
    (([], entry.Dir 493 (codes "hdfs") None None), "[\"path\",\"/\",{\"kind\":\"dir\",\"max_bytes\":null,\"max_names\":null,\"mode\":493,\"owner\":\"hdfs\"}]")
    ∷ ((codes "\\" ∷ codes "q" ∷ [], entry.Dir 448 (codes "ann") (Some 2) (Some 1000000000000000)), "[\"path\",\"/\\\\/q\",{\"kind\":\"dir\",\"max_bytes\":1000000000000000,\"max_names\":2,\"mode\":448,\"owner\":\"ann\"}]")
    ∷ ((codes "f" ∷ [], entry.File 5 (Some (client 0)) 420 (codes "ann")), "[\"path\",\"/f\",{\"kind\":\"file\",\"len\":5,\"mode\":420,\"owner\":\"ann\",\"writer\":0}]")
    ∷ ((codes "f" ∷ [], entry.File 0 None 420 (codes "ann")), "[\"path\",\"/f\",{\"kind\":\"file\",\"len\":0,\"mode\":420,\"owner\":\"ann\",\"writer\":null}]")
    ∷ []
