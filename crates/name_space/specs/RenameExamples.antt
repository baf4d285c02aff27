-- Worked examples of the rename rules.
use Rattle.std.specs.Prelude.{◌≡◌, true, false, [], ◌∷◌, codes, Some}
use Rattle.name_space.specs.declared.call.Call.TheVariants.{Mkdirs, Create, Grow, Stat, List as ListOf, Rename, Chmod, SetQuota, Usage}
use Rattle.name_space.specs.declared.entry.FileStatus.TheVariants as status
use Rattle.name_space.specs.declared.reply.Reply.TheVariants.{Truth, Status, Used, Refused}
use Rattle.name_space.specs.declared.reply.Exception.TheVariants.{FileNotFound, FileAlreadyExists, DSQuotaExceeded, IO}
use Rattle.name_space.specs.declared.reply.Why.TheVariants.{Descendant, BadParent}
use Rattle.name_space.specs.Plain.{listing}
use Rattle.name_space.specs.Examples.{at, ann, are_answered, after}

-- which rename is refused, and why
abbrev pub rename_rules : Type 0
rename_rules =
    are_answered (
    (Mkdirs (at "/a"), Truth true) ∷
    (Mkdirs (at "/d/a"), Truth true) ∷
    (Create (at "/f") false, Truth true) ∷
    (Rename (at "/f") (at "/f"), Truth true) ∷
    (Rename (at "/a") (at "/a"), Truth true) ∷
    (Rename (at "/a") (at "/a/b"), Refused (IO Descendant)) ∷
    (Rename (at "/") (at "/x"), Refused (IO Descendant)) ∷
    (Rename (at "/no") (at "/no/x"), Refused FileNotFound) ∷
    (Rename (at "/a") (at "/f"), Refused FileAlreadyExists) ∷
    (Rename (at "/a") (at "/no/x"), Refused (IO BadParent)) ∷
    (Rename (at "/a") (at "/f/x"), Refused (IO BadParent)) ∷
    (Rename (at "/a") (at "/d"), Refused FileAlreadyExists) ∷ [])

-- that the source is missing is told first, and then that it can't move below itself
abbrev pub rename_rules_in_order : Type 0
rename_rules_in_order =
    are_answered (
    (Create (at "/d/f") false, Truth true) ∷
    (Rename (at "/no") (at "/no"), Refused FileNotFound) ∷
    (Rename (at "/no") (at "/d/f"), Refused FileNotFound) ∷
    (Rename (at "/no") (at "/no/x/y"), Refused FileNotFound) ∷
    (Rename (at "/") (at "/"), Refused (IO Descendant)) ∷
    (Rename (at "/") (at "/d/f"), Refused (IO Descendant)) ∷
    (Rename (at "/d") (at "/d/f"), Refused (IO Descendant)) ∷
    (Rename (at "/d") (at "/d/no/x"), Refused (IO Descendant)) ∷
    (Rename (at "/d/f") (at "/d/f/x"), Refused (IO Descendant)) ∷ [])

-- a rename to the root goes into it
abbrev pub rename_into_the_root : Type 0
rename_into_the_root =
    are_answered (
    (Mkdirs (at "/d/a"), Truth true) ∷
    (Rename (at "/d/a") (at "/"), Truth true) ∷
    (Stat (at "/a"), Status (status.Dir 493 ann)) ∷
    (Stat (at "/d/a"), Refused FileNotFound) ∷
    (Rename (at "/a") (at "/"), Truth true) ∷
    (Stat (at "/a"), Status (status.Dir 493 ann)) ∷ [])

-- a rename into the directory where the source stands is granted, and nothing changes
abbrev pub rename_onto_itself : Type 0
rename_onto_itself =
    are_answered (
    (Mkdirs (at "/a"), Truth true) ∷
    (Mkdirs (at "/d/a"), Truth true) ∷
    (Create (at "/f") false, Truth true) ∷
    (Rename (at "/d/a") (at "/d"), Truth true) ∷ [])
    × (after (Mkdirs (at "/a") ∷ Mkdirs (at "/d/a") ∷ Create (at "/f") false ∷ Rename (at "/d/a") (at "/d") ∷ []) ≡ after (Mkdirs (at "/a") ∷ Mkdirs (at "/d/a") ∷ Create (at "/f") false ∷ []))

-- a rename carries along what stands below, with its length, writer, mode and quotas, and leaves what has a longer name
abbrev pub rename_carries_all_below : Type 0
rename_carries_all_below =
    are_answered (
    (Create (at "/s/d/f") false, Truth true) ∷
    (Grow (at "/s/d/f") 7, Truth true) ∷
    (Chmod (at "/s/d/f") 384, Truth true) ∷
    (SetQuota (at "/s/d") (Some 9) (Some 10), Truth true) ∷
    (Mkdirs (at "/ss"), Truth true) ∷
    (Mkdirs (at "/t"), Truth true) ∷
    (Rename (at "/s") (at "/t"), Truth true) ∷
    (Stat (at "/s"), Refused FileNotFound) ∷
    (Stat (at "/s/d/f"), Refused FileNotFound) ∷
    (Stat (at "/ss"), Status (status.Dir 493 ann)) ∷
    (Stat (at "/t/s/d/f"), Status (status.File 7 384 ann)) ∷
    (Usage (at "/t/s/d"), Used 2 7 (Some 9) (Some 10)) ∷
    (Grow (at "/t/s/d/f") 4, Refused (DSQuotaExceeded (at "/t/s/d") 7 10)) ∷
    (Grow (at "/t/s/d/f") 3, Truth true) ∷
    (Rename (at "/t/s/d") (at "/e"), Truth true) ∷
    (ListOf (at "/e"), listing (record { name = codes "f"; status = status.File 10 384 ann } ∷ [])) ∷
    (ListOf (at "/t/s"), listing []) ∷ [])
