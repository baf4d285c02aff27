-- Worked examples of the quota rule.
use Rattle.std.specs.Prelude.{true, false, [], ◌∷◌, Some, None}
use Rattle.name_space.specs.declared.call.Call.TheVariants.{Mkdirs, Create, Grow, Close, Delete, Rename, SetQuota, Usage}
use Rattle.name_space.specs.declared.reply.Reply.TheVariants.{Truth, Used, Refused}
use Rattle.name_space.specs.declared.reply.Exception.TheVariants.{FileAlreadyExists, ParentNotDirectory, LeaseExpired, NSQuotaExceeded, DSQuotaExceeded}
use Rattle.name_space.specs.Examples.{at, are_answered}

-- a directory with a quota on names counts itself, and a quota below the usage refuses each further name
abbrev pub name_quota : Type 0
name_quota =
    are_answered (
    (Mkdirs (at "/q"), Truth true) ∷
    (SetQuota (at "/q") (Some 1) None, Truth true) ∷
    (Mkdirs (at "/q/x"), Refused (NSQuotaExceeded (at "/q") 1 1)) ∷
    (SetQuota (at "/q") (Some 5) None, Truth true) ∷
    (Mkdirs (at "/q/a"), Truth true) ∷
    (Mkdirs (at "/q/b"), Truth true) ∷
    (Mkdirs (at "/q/c"), Truth true) ∷
    (SetQuota (at "/q") (Some 2) None, Truth true) ∷
    (Mkdirs (at "/q/d"), Refused (NSQuotaExceeded (at "/q") 4 2)) ∷
    (Delete (at "/q/a") false, Truth true) ∷
    (Delete (at "/q/b") false, Truth true) ∷
    (Delete (at "/q/c") false, Truth true) ∷
    (Create (at "/q/f") false, Truth true) ∷
    (Usage (at "/q"), Used 2 0 (Some 2) None) ∷ [])

-- each missing name on the way counts
abbrev pub all_missing_names_count : Type 0
all_missing_names_count =
    are_answered (
    (Mkdirs (at "/q"), Truth true) ∷
    (SetQuota (at "/q") (Some 2) None, Truth true) ∷
    (Mkdirs (at "/q/x/y"), Refused (NSQuotaExceeded (at "/q") 1 2)) ∷
    (Create (at "/q/x/f") false, Refused (NSQuotaExceeded (at "/q") 1 2)) ∷
    (SetQuota (at "/q") (Some 3) None, Truth true) ∷
    (Mkdirs (at "/q/x/y"), Truth true) ∷
    (Create (at "/q/x/f") false, Refused (NSQuotaExceeded (at "/q") 3 3)) ∷
    (Delete (at "/q/x") true, Truth true) ∷
    (Create (at "/q/x/f") false, Truth true) ∷
    (Usage (at "/q"), Used 3 0 (Some 3) None) ∷ [])

-- the bytes of a file count in each directory above it, from the root on
abbrev pub byte_quota : Type 0
byte_quota =
    are_answered (
    (Mkdirs (at "/q/d"), Truth true) ∷
    (SetQuota (at "/q") None (Some 10), Truth true) ∷
    (SetQuota (at "/q/d") None (Some 20), Truth true) ∷
    (Create (at "/q/d/f") false, Truth true) ∷
    (Grow (at "/q/d/f") 8, Truth true) ∷
    (Grow (at "/q/d/f") 3, Refused (DSQuotaExceeded (at "/q") 8 10)) ∷
    (Grow (at "/q/d/f") 2, Truth true) ∷
    (Usage (at "/q/d"), Used 2 10 None (Some 20)) ∷
    (Create (at "/q/d/f") true, Truth true) ∷
    (Usage (at "/q"), Used 3 0 None (Some 10)) ∷ [])

-- of two directories that have no room, the one nearer to the root is told
abbrev pub from_the_root_down : Type 0
from_the_root_down =
    are_answered (
    (Create (at "/q/d/f") false, Truth true) ∷
    (SetQuota (at "/q") None (Some 2), Truth true) ∷
    (SetQuota (at "/q/d") None (Some 1), Truth true) ∷
    (Grow (at "/q/d/f") 3, Refused (DSQuotaExceeded (at "/q") 0 2)) ∷
    (Grow (at "/q/d/f") 2, Refused (DSQuotaExceeded (at "/q/d") 0 1)) ∷
    (Grow (at "/q/d/f") 1, Truth true) ∷ [])

-- a directory that has room for neither names nor bytes is told for its names
abbrev pub names_before_bytes : Type 0
names_before_bytes =
    are_answered (
    (Mkdirs (at "/q"), Truth true) ∷
    (SetQuota (at "/q") (Some 1) (Some 2), Truth true) ∷
    (Create (at "/f") false, Truth true) ∷
    (Grow (at "/f") 5, Truth true) ∷
    (Rename (at "/f") (at "/q"), Refused (NSQuotaExceeded (at "/q") 1 1)) ∷
    (SetQuota (at "/q") (Some 2) (Some 4), Truth true) ∷
    (Rename (at "/f") (at "/q"), Refused (DSQuotaExceeded (at "/q") 0 4)) ∷
    (SetQuota (at "/q") (Some 2) (Some 5), Truth true) ∷
    (Rename (at "/f") (at "/q"), Truth true) ∷ [])

-- past a quota only that is refused of which some more would come
abbrev pub past_a_quota : Type 0
past_a_quota =
    are_answered (
    (Create (at "/q/f") false, Truth true) ∷
    (Grow (at "/q/f") 9, Truth true) ∷
    (Mkdirs (at "/q/a"), Truth true) ∷
    (SetQuota (at "/q") (Some 1) None, Truth true) ∷
    (Grow (at "/q/f") 3, Truth true) ∷
    (Mkdirs (at "/q/a"), Truth true) ∷
    (Create (at "/q/f") true, Truth true) ∷
    (Grow (at "/q/f") 9, Truth true) ∷
    (SetQuota (at "/q") None (Some 5), Truth true) ∷
    (Mkdirs (at "/q/b"), Truth true) ∷
    (Create (at "/q/g") false, Truth true) ∷
    (Grow (at "/q/g") 1, Refused (DSQuotaExceeded (at "/q") 9 5)) ∷ [])

-- a rename within a full directory is granted, and one into it is refused
abbrev pub rename_into_full_directory : Type 0
rename_into_full_directory =
    are_answered (
    (Mkdirs (at "/q/a"), Truth true) ∷
    (SetQuota (at "/q") (Some 2) None, Truth true) ∷
    (Rename (at "/q/a") (at "/q/b"), Truth true) ∷
    (Mkdirs (at "/c"), Truth true) ∷
    (Rename (at "/c") (at "/q"), Refused (NSQuotaExceeded (at "/q") 2 2)) ∷ [])

-- all that a rename brings along counts
abbrev pub all_that_moves_counts : Type 0
all_that_moves_counts =
    are_answered (
    (Mkdirs (at "/q"), Truth true) ∷
    (SetQuota (at "/q") (Some 2) None, Truth true) ∷
    (Create (at "/a/f") false, Truth true) ∷
    (Grow (at "/a/f") 5, Truth true) ∷
    (Rename (at "/a") (at "/q"), Refused (NSQuotaExceeded (at "/q") 1 2)) ∷
    (SetQuota (at "/q") (Some 3) (Some 4), Truth true) ∷
    (Rename (at "/a") (at "/q"), Refused (DSQuotaExceeded (at "/q") 0 4)) ∷
    (SetQuota (at "/q") (Some 3) (Some 5), Truth true) ∷
    (Rename (at "/a") (at "/q"), Truth true) ∷
    (Usage (at "/q"), Used 3 5 (Some 3) (Some 5)) ∷ [])

-- each other refusal comes before that of a quota
abbrev pub quotas_come_last : Type 0
quotas_come_last =
    are_answered (
    (Create (at "/q/f") false, Truth true) ∷
    (Grow (at "/q/f") 4, Truth true) ∷
    (Close (at "/q/f"), Truth true) ∷
    (SetQuota (at "/q") (Some 2) (Some 5), Truth true) ∷
    (Grow (at "/q/f") 9, Refused LeaseExpired) ∷
    (Mkdirs (at "/q/f/x"), Refused ParentNotDirectory) ∷
    (Create (at "/q/f/x") false, Refused ParentNotDirectory) ∷
    (Create (at "/f") false, Truth true) ∷
    (Rename (at "/f") (at "/q"), Refused FileAlreadyExists) ∷ [])
