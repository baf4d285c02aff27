-- Worked examples of the calls on files and directories.
use Rattle.std.specs.Prelude.{◌≡◌, true, false, [], ◌∷◌, map, codes, Some, None}
use Rattle.hops_base.specs.Ids.{client}
use Rattle.name_space.specs.declared.call.Call.TheVariants.{Mkdirs, Create, Append, Grow, Close, Stat, List as ListOf, Delete, Chmod, SetQuota, Usage}
use Rattle.name_space.specs.declared.entry.FileStatus.TheVariants as status
use Rattle.name_space.specs.declared.reply.Reply.TheVariants.{Truth, Status, Entries, Used, Refused}
use Rattle.name_space.specs.declared.reply.Exception.TheVariants.{FileNotFound, FileAlreadyExists, ParentNotDirectory, PathIsNotEmptyDirectory, AlreadyBeingCreated, LeaseExpired, IO}
use Rattle.name_space.specs.declared.reply.Why.TheVariants.{RootFixed, NotDirectory, NoQuota}
use Rattle.name_space.specs.Plain.{listing}
use Rattle.name_space.specs.Calls.{as_read}
use Rattle.name_space.specs.Examples.{at, ann, bob, are_answered, are_answered_on, after, after_bob, dir_named, file_named}

-- nothing stands below a file
abbrev pub file_in_the_way : Type 0
file_in_the_way =
    are_answered (
    (Create (at "/f") false, Truth true) ∷
    (Mkdirs (at "/f/x"), Refused ParentNotDirectory) ∷
    (Mkdirs (at "/f/x/y"), Refused ParentNotDirectory) ∷
    (Create (at "/f/x") true, Refused ParentNotDirectory) ∷
    (Create (at "/f/x/y") false, Refused ParentNotDirectory) ∷
    (Stat (at "/f/x"), Refused FileNotFound) ∷
    (Mkdirs (at "/f"), Refused FileAlreadyExists) ∷
    (ListOf (at "/f"), listing (file_named "f" ∷ [])) ∷ [])

-- what needs a file is refused at a directory
abbrev pub a_directory_is_no_file : Type 0
a_directory_is_no_file =
    are_answered (
    (Mkdirs (at "/d"), Truth true) ∷
    (Create (at "/d") false, Refused FileAlreadyExists) ∷
    (Create (at "/d") true, Refused FileAlreadyExists) ∷
    (Append (at "/d"), Refused FileAlreadyExists) ∷
    (Grow (at "/d") 1, Refused FileAlreadyExists) ∷
    (Close (at "/d"), Refused FileAlreadyExists) ∷ [])

-- what needs a directory is refused at a file
abbrev pub a_file_is_no_directory : Type 0
a_file_is_no_directory =
    are_answered (
    (Create (at "/d/f") false, Truth true) ∷
    (SetQuota (at "/d/f") (Some 1) None, Refused (IO NotDirectory)) ∷
    (Usage (at "/d/f"), Refused (IO NotDirectory)) ∷ [])

-- a call that needs something at its path is refused where nothing stands
abbrev pub nothing_stands_there : Type 0
nothing_stands_there =
    are_answered (
    (Append (at "/no"), Refused FileNotFound) ∷
    (Grow (at "/no") 1, Refused FileNotFound) ∷
    (Close (at "/no"), Refused FileNotFound) ∷
    (Stat (at "/no"), Refused FileNotFound) ∷
    (ListOf (at "/no"), Refused FileNotFound) ∷
    (Usage (at "/no"), Refused FileNotFound) ∷
    (Chmod (at "/no") 511, Refused FileNotFound) ∷
    (SetQuota (at "/no") (Some 1) None, Refused FileNotFound) ∷ [])

-- the root is a directory of mode 493 of hdfs without quotas, which it keeps
abbrev pub the_root_is_fixed : Type 0
the_root_is_fixed =
    are_answered (
    (Stat (at "/"), Status (status.Dir 493 (codes "hdfs"))) ∷
    (ListOf (at "/"), listing []) ∷
    (Chmod (at "/") 511, Refused (IO RootFixed)) ∷
    (SetQuota (at "/") (Some 9) None, Refused (IO RootFixed)) ∷
    (Usage (at "/"), Refused (IO NoQuota)) ∷
    (Mkdirs (at "/"), Truth true) ∷
    (Delete (at "/") true, Truth false) ∷
    (Delete (at "/") false, Truth false) ∷ [])

-- what a removal answers
abbrev pub delete_answers : Type 0
delete_answers =
    are_answered (
    (Mkdirs (at "/d/e"), Truth true) ∷
    (Create (at "/dd") false, Truth true) ∷
    (Delete (at "/") true, Truth false) ∷
    (Delete (at "/") false, Truth false) ∷
    (Delete (at "/missing") true, Truth false) ∷
    (Delete (at "/missing") false, Truth false) ∷
    (Delete (at "/d") false, Refused PathIsNotEmptyDirectory) ∷
    (Delete (at "/d") true, Truth true) ∷
    (Stat (at "/d"), Refused FileNotFound) ∷
    (Stat (at "/d/e"), Refused FileNotFound) ∷
    (Delete (at "/dd") false, Truth true) ∷
    (ListOf (at "/"), listing []) ∷ [])

-- what is told of a file that is written, and of directories
abbrev pub what_stat_tells : Type 0
what_stat_tells =
    are_answered (
    (Create (at "/d/f") false, Truth true) ∷
    (Grow (at "/d/f") 5, Truth true) ∷
    (Chmod (at "/d/f") 384, Truth true) ∷
    (Stat (at "/d/f"), Status (status.File 5 384 ann)) ∷
    (Close (at "/d/f"), Truth true) ∷
    (Close (at "/d/f"), Refused LeaseExpired) ∷
    (Grow (at "/d/f") 1, Refused LeaseExpired) ∷
    (Append (at "/d/f"), Truth true) ∷
    (Grow (at "/d/f") 1, Truth true) ∷
    (Stat (at "/d/f"), Status (status.File 6 384 ann)) ∷
    (Create (at "/d/f") false, Refused FileAlreadyExists) ∷
    (Create (at "/d/f") true, Truth true) ∷
    (Stat (at "/d/f"), Status (status.File 0 420 ann)) ∷
    (Stat (at "/d"), Status (status.Dir 493 ann)) ∷
    (Usage (at "/d"), Refused (IO NoQuota)) ∷ [])

-- a directory lists its children in the byte order of their names, and nothing below them
abbrev pub children_in_byte_order : Type 0
children_in_byte_order =
    are_answered (
    (Mkdirs (at "/d/b"), Truth true) ∷
    (Mkdirs (at "/d/ab"), Truth true) ∷
    (Mkdirs (at "/d/Z"), Truth true) ∷
    (Mkdirs (at "/d/a/c"), Truth true) ∷
    (Create (at "/d/f") false, Truth true) ∷
    (Mkdirs (at "/d"), Truth true) ∷
    (ListOf (at "/d/f"), listing (file_named "f" ∷ [])) ∷
    (ListOf (at "/d"), listing (dir_named "Z" ∷ dir_named "a" ∷ dir_named "ab" ∷ dir_named "b" ∷ file_named "f" ∷ [])) ∷ [])

-- a change of a mode or of quotas leaves all else as it is
abbrev pub one_thing_is_set : Type 0
one_thing_is_set =
    are_answered (
    (Mkdirs (at "/q"), Truth true) ∷
    (SetQuota (at "/q") (Some 3) (Some 4), Truth true) ∷
    (Stat (at "/q"), Status (status.Dir 493 ann)) ∷
    (Chmod (at "/q") 448, Truth true) ∷
    (Stat (at "/q"), Status (status.Dir 448 ann)) ∷
    (Usage (at "/q"), Used 1 0 (Some 3) (Some 4)) ∷
    (SetQuota (at "/q") None (Some 5), Truth true) ∷
    (Stat (at "/q"), Status (status.Dir 448 ann)) ∷
    (Usage (at "/q"), Used 1 0 None (Some 5)) ∷
    (SetQuota (at "/q") None None, Truth true) ∷
    (Usage (at "/q"), Refused (IO NoQuota)) ∷ [])

-- a file has one writer, and whoever removes the file ends the writing
pub record OneWriter : Type 0 where
  pub own : are_answered ((Create (at "/f") false, Truth true) ∷ (Append (at "/f"), Refused (AlreadyBeingCreated (client 0))) ∷ [])
  pub other :
      are_answered_on (after (Create (at "/f") false ∷ [])) 1 bob (
      (Append (at "/f"), Refused (AlreadyBeingCreated (client 0))) ∷
      (Grow (at "/f") 5, Refused LeaseExpired) ∷
      (Close (at "/f"), Refused LeaseExpired) ∷
      (Delete (at "/f") false, Truth true) ∷ [])
  pub removed : are_answered_on (after_bob (after (Create (at "/f") false ∷ [])) (Delete (at "/f") false ∷ [])) 0 ann ((Grow (at "/f") 5, Refused FileNotFound) ∷ [])

-- whoever makes a file anew is its owner and its writer
pub record AnotherWriter : Type 0 where
  pub anew : are_answered_on (after (Create (at "/f") false ∷ [])) 1 bob ((Create (at "/f") true, Truth true) ∷ (Stat (at "/f"), Status (status.File 0 420 bob)) ∷ (Grow (at "/f") 2, Truth true) ∷ [])
  pub lost : are_answered_on (after_bob (after (Create (at "/f") false ∷ [])) (Create (at "/f") true ∷ [])) 0 ann ((Grow (at "/f") 1, Refused LeaseExpired) ∷ (Append (at "/f"), Refused (AlreadyBeingCreated (client 1))) ∷ [])

-- whoever appends to a closed file is its writer, and the owner stays
abbrev pub an_owner_stays : Type 0
an_owner_stays =
    are_answered_on (after (Create (at "/f") false ∷ Grow (at "/f") 3 ∷ Close (at "/f") ∷ [])) 1 bob (
    (Append (at "/f"), Truth true) ∷
    (Grow (at "/f") 4, Truth true) ∷
    (Stat (at "/f"), Status (status.File 7 420 ann)) ∷
    (Chmod (at "/f") 384, Truth true) ∷
    (Close (at "/f"), Truth true) ∷
    (Stat (at "/f"), Status (status.File 7 384 ann)) ∷ [])

-- a listing reads the same however much room it has, and each other reply reads as it is
pub record RoomIsNotRead : Type 0 where
  pub listed : as_read (Entries (record { items = dir_named "a" ∷ file_named "f" ∷ []; room = 7 })) ≡ listing (dir_named "a" ∷ file_named "f" ∷ [])
  pub others :
      map as_read (Truth true ∷ Truth false ∷ Status (status.Dir 493 ann) ∷ Used 1 2 (Some 3) None ∷ Used 1 2 None (Some 4) ∷ Refused LeaseExpired ∷ [])
      ≡ Truth true ∷ Truth false ∷ Status (status.Dir 493 ann) ∷ Used 1 2 (Some 3) None ∷ Used 1 2 None (Some 4) ∷ Refused LeaseExpired ∷ []
