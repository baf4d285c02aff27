-- The calls by cases: each is told something and changes nothing, or is granted and leaves one of six namespaces.
use Rattle.std.proofs.Common.{◌≡◌, ◌≢◌, ℕ, ◌+◌, Bool, true, false, not, ◌&&◌, ◌||◌, nat_lt, cond, List, [], ◌∷◌, length, Option, Some, None, is_some, is_none, option_map, refl, sym, ap, ◌∙◌}
use Rattle.std.specs.List.{list_all}
use Rattle.std.specs.Option.{option_or}
use Rattle.std.proofs.lemmas.Bool.{true≢false, and_parts, or_parts, not-false}
use Rattle.hops_base.specs.declared.ids.ClientNo.{ClientNo}
use Rattle.hops_base.specs.Name.{is_name}
use Rattle.hops_base.specs.Path.{same_path, is_below, parent_of}
use Rattle.name_space.specs.declared.call.Call.{Call}
use Rattle.name_space.specs.declared.call.Call.TheVariants.{Mkdirs, Create, Append, Grow, Close, Stat, List as ListOf, Delete, Rename, Chmod, SetQuota, Usage}
use Rattle.name_space.specs.declared.entry.Entry.{Entry}
use Rattle.name_space.specs.declared.entry.Entry.TheVariants.{Dir, File}
use Rattle.name_space.specs.declared.reply.Reply.{Reply}
use Rattle.name_space.specs.declared.reply.Reply.TheVariants.{Truth, Used, Refused}
use Rattle.name_space.specs.declared.reply.Exception.{Exception}
use Rattle.name_space.specs.declared.reply.Exception.TheVariants.{FileNotFound, FileAlreadyExists, PathIsNotEmptyDirectory, ParentNotDirectory, LeaseExpired, IO}
use Rattle.name_space.specs.declared.reply.Why.TheVariants.{Descendant, BadParent, NotDirectory, NoQuota}
use Rattle.name_space.specs.Call.{changes, paths_of}
use Rattle.name_space.specs.Namespace.{Namespace, Path, entry_at, exists, is_dir, is_file, with_entry, without, children, bytes_of, used_names, used_bytes, above, missing, nearest}
use Rattle.name_space.specs.Quota.{first_some, over_quota, newly_above}
use Rattle.name_space.specs.Plain.{Answered, told, granted, when, unless, with_dirs, mkdirs, create, new_file, append_at, is_writer, grow_at, close_at, stat_at, list_at, usage_at, delete, is_root, with_mode, with_quotas, with_some, fixed_or_missing}
use Rattle.name_space.specs.Rename.{moved, rename, has_parent, target_of}
use Rattle.name_space.specs.Calls.{plain}

-- the call may change something, and where its paths consist of names this one does
abbrev pub Names : Call → Path → Type 0
Names call path = (changes call ≡ true) × (list_all (list_all is_name) (paths_of call) ≡ true → list_all is_name path ≡ true)

-- a rename that moves all of the source has passed each rule
pub record Moves (space : Namespace) (source destination : Path) : Type 0 where
  pub not_root : source ≢ []
  pub not_below : is_below destination source ≡ false
  pub differ : same_path source destination ≡ false
  pub parent : has_parent space (parent_of destination) ≡ true
  pub elsewhere : same_path (target_of space source destination) source ≡ false
  pub free : exists space (target_of space source destination) ≡ false
  pub room : over_quota space (used_names space source) (used_bytes space source) (newly_above source (target_of space source destination)) ≡ None

-- P is so of each answer that a call may have
pub record Cases (space : Namespace) (call : Call) (P : Answered → Type 0) : Type 0 where
  pub tells : (reply : Reply) → P (told reply space)
  pub dirs : (user : List ℕ) (path : Path) → Names call path → is_file (nearest space path) ≡ false → over_quota space (length (missing space path)) 0 (above path) ≡ None → P (granted (with_dirs space user (missing space path)))
  pub file : (client : ClientNo) (user : List ℕ) (path : Path) → Names call path → is_dir (entry_at space path) ≡ false → (not (exists space path) && is_file (nearest space path)) ≡ false
      → over_quota space (length (missing space path)) 0 (above path) ≡ None → P (granted (with_entry (with_dirs space user (missing space path)) path (new_file client user)))
  pub entry : changes call ≡ true → (path : Path) (new old : Entry) → entry_at space path ≡ Some old → is_dir (Some new) ≡ is_dir (Some old) → bytes_of new ≡ bytes_of old → P (granted (with_entry space path new))
  pub longer : changes call ≡ true → (path : Path) (len bytes : ℕ) (writer : Option ClientNo) (mode : ℕ) (owner : List ℕ) → entry_at space path ≡ Some (File len writer mode owner) → over_quota space 0 bytes (above path) ≡ None
      → P (granted (with_entry space path (File (len + bytes) writer mode owner)))
  pub gone : changes call ≡ true → (path : Path) → path ≢ [] → P (granted (without space path))
  pub moves : (source destination : Path) → Names call source → Names call destination → Moves space source destination → P (granted (moved space source (target_of space source destination)))

-- a test that refuses has failed where nothing is refused
passed : (cause : Bool) (exception : Exception) (rest : Option Exception) → option_or (when cause exception) rest ≡ None → (cause ≡ false) × (rest ≡ None)
passed true exception rest none = absurd (true≢false (ap is_some none))
passed false exception rest none = (refl, none)

-- where neither of two refusals is there, the first isn't
pub neither : (a b : Option Exception) → option_or a b ≡ None → (a ≡ None) × (b ≡ None)
neither None b none = (refl, none)
neither (Some exception) b none = absurd (true≢false (ap is_some none))

not_root_from : (path : Path) → is_root path ≡ false → path ≢ []
not_root_from path no_root same = true≢false (sym (ap is_root same) ∙ no_root)

one : (path : Path) → list_all (list_all is_name) (path ∷ []) ≡ true → list_all is_name path ≡ true
one path names = (and_parts (list_all is_name path) true names).0

-- a change of an entry that leaves its kind and its bytes
record IsAlike (change : Entry → Entry) : Type 0 where
  kind : (entry : Entry) → is_dir (Some (change entry)) ≡ is_dir (Some entry)
  bytes : (entry : Entry) → bytes_of (change entry) ≡ bytes_of entry

mode_alike : (mode : ℕ) → IsAlike (with_mode mode)
mode_alike mode = record { kind = kind; bytes = bytes }
  where
    kind : (entry : Entry) → is_dir (Some (with_mode mode entry)) ≡ is_dir (Some entry)
    kind (Dir old owner max_names max_bytes) = refl
    kind (File len writer old owner) = refl

    bytes : (entry : Entry) → bytes_of (with_mode mode entry) ≡ bytes_of entry
    bytes (Dir old owner max_names max_bytes) = refl
    bytes (File len writer old owner) = refl

quotas_alike : (names limit : Option ℕ) → IsAlike (with_quotas names limit)
quotas_alike names limit = record { kind = kind; bytes = bytes }
  where
    kind : (entry : Entry) → is_dir (Some (with_quotas names limit entry)) ≡ is_dir (Some entry)
    kind (Dir mode owner max_names max_bytes) = refl
    kind (File len writer mode owner) = refl

    bytes : (entry : Entry) → bytes_of (with_quotas names limit entry) ≡ bytes_of entry
    bytes (Dir mode owner max_names max_bytes) = refl
    bytes (File len writer mode owner) = refl

module _ (space : Namespace) (call : Call) (P : Answered → Type 0) (cases : Cases space call P) where
  by_unless : (refusal : Option Exception) (answer : Answered) → (refusal ≡ None → P answer) → P (unless refusal space answer)
  by_unless None answer next = next refl
  by_unless (Some exception) answer next = cases.tells (Refused exception)

  by_cond : (test : Bool) (reply : Reply) (second : Answered) → (test ≡ false → P second) → P (cond test (told reply space) second)
  by_cond true reply second next = cases.tells reply
  by_cond false reply second next = next refl

  by_mkdirs : (user : List ℕ) (path : Path) → Names call path → P (mkdirs space user path)
  by_mkdirs user path names =
      let quota = over_quota space (length (missing space path)) 0 (above path) in
      let third = first_some (quota ∷ []) in
      let second = option_or (when (is_file (nearest space path)) ParentNotDirectory) third in
      by_unless (option_or (when (is_file (entry_at space path)) FileAlreadyExists) second) (granted (with_dirs space user (missing space path))) (λ none.
      let first = passed (is_file (entry_at space path)) FileAlreadyExists second none in
      let next = passed (is_file (nearest space path)) ParentNotDirectory third first.1 in
      cases.dirs user path names next.0 (neither quota None next.1).0)

  by_create : (client : ClientNo) (user : List ℕ) (path : Path) (overwrite : Bool) → Names call path → P (create space client user path overwrite)
  by_create client user path overwrite names =
      let quota = over_quota space (length (missing space path)) 0 (above path) in
      let fourth = first_some (quota ∷ []) in
      let third = option_or (when (not (exists space path) && is_file (nearest space path)) ParentNotDirectory) fourth in
      let second = option_or (when (is_file (entry_at space path) && not overwrite) FileAlreadyExists) third in
      by_unless (option_or (when (is_dir (entry_at space path)) FileAlreadyExists) second) (granted (with_entry (with_dirs space user (missing space path)) path (new_file client user))) (λ none.
      let first = passed (is_dir (entry_at space path)) FileAlreadyExists second none in
      let next = passed (is_file (entry_at space path) && not overwrite) FileAlreadyExists third first.1 in
      let last = passed (not (exists space path) && is_file (nearest space path)) ParentNotDirectory fourth next.1 in
      cases.file client user path names first.0 last.0 (neither quota None last.1).0)

  by_rename : (source destination : Path) → Names call source → Names call destination → P (rename space source destination)
  by_rename source destination from to =
      by_cond (not (exists space source)) (Refused FileNotFound) _ (λ here. by_cond (is_root source || is_below destination source) (Refused (IO Descendant)) _ (λ apart.
      by_cond (same_path source destination) (Truth true) _ (λ differ. by_cond (is_file (entry_at space destination)) (Refused FileAlreadyExists) _ (λ no_file.
      by_cond (not (has_parent space (parent_of destination))) (Refused (IO BadParent)) _ (λ parent. by_cond (same_path target source) (Truth true) _ (λ elsewhere.
      by_cond (exists space target) (Refused FileAlreadyExists) _ (λ free.
      by_unless (over_quota space (used_names space source) (used_bytes space source) (newly_above source target)) (granted (moved space source target)) (λ room.
      let parts = or_parts (is_root source) (is_below destination source) apart in
      cases.moves source destination from to (record {
        not_root = not_root_from source parts.0;
        not_below = parts.1;
        differ = differ;
        parent = not-false (has_parent space (parent_of destination)) parent;
        elsewhere = elsewhere;
        free = free;
        room = room;
      })))))))))
    where
      target : Path
      target = target_of space source destination

  by_delete : changes call ≡ true → (path : Path) (recursive : Bool) → P (delete space path recursive)
  by_delete may path recursive =
      by_unless (when (is_dir (entry_at space path) && not (is_root path) && not recursive && nat_lt 0 (length (children space path))) PathIsNotEmptyDirectory) _ (λ none.
      by_cond (is_root path || not (exists space path)) (Truth false) (granted (without space path)) (λ there. cases.gone may path (not_root_from path (or_parts (is_root path) (not (exists space path)) there).0)))

  by_append : changes call ≡ true → (client : ClientNo) (path : Path) (at : Option Entry) → entry_at space path ≡ at → P (append_at space client path at)
  by_append may client path None was = cases.tells _
  by_append may client path (Some (Dir mode owner max_names max_bytes)) was = cases.tells _
  by_append may client path (Some (File len None mode owner)) was = cases.entry may path (File len (Some client) mode owner) (File len None mode owner) was refl refl
  by_append may client path (Some (File len (Some writer) mode owner)) was = cases.tells _

  by_grow : changes call ≡ true → (client : ClientNo) (path : Path) (bytes : ℕ) (at : Option Entry) → entry_at space path ≡ at → P (grow_at space client path bytes at)
  by_grow may client path bytes None was = cases.tells _
  by_grow may client path bytes (Some (Dir mode owner max_names max_bytes)) was = cases.tells _
  by_grow may client path bytes (Some (File len writer mode owner)) was =
      let quota = over_quota space 0 bytes (above path) in
      let second = first_some (quota ∷ []) in
      by_unless (option_or (when (not (is_writer client writer)) LeaseExpired) second) (granted (with_entry space path (File (len + bytes) writer mode owner))) (λ none.
      cases.longer may path len bytes writer mode owner was (neither quota None (passed (not (is_writer client writer)) LeaseExpired second none).1).0)

  by_close : changes call ≡ true → (client : ClientNo) (path : Path) (at : Option Entry) → entry_at space path ≡ at → P (close_at space client path at)
  by_close may client path None was = cases.tells _
  by_close may client path (Some (Dir mode owner max_names max_bytes)) was = cases.tells _
  by_close may client path (Some (File len writer mode owner)) was =
      by_unless (when (not (is_writer client writer)) LeaseExpired) (granted (with_entry space path (File len None mode owner))) (λ none. cases.entry may path (File len None mode owner) (File len writer mode owner) was refl refl)

  by_change : changes call ≡ true → (path : Path) (change : Entry → Entry) → IsAlike change → (at : Option Entry) → entry_at space path ≡ at → P (granted (with_some space path (option_map change at)))
  by_change may path change alike None was = cases.tells (Truth true)
  by_change may path change alike (Some old) was = cases.entry may path (change old) old was (alike.kind old) (alike.bytes old)

  by_stat : (at : Option Entry) → P (stat_at space at)
  by_stat None = cases.tells _
  by_stat (Some entry) = cases.tells _

  by_list : (path : Path) (at : Option Entry) → P (list_at space path at)
  by_list path None = cases.tells _
  by_list path (Some (Dir mode owner max_names max_bytes)) = cases.tells _
  by_list path (Some (File len writer mode owner)) = cases.tells _

  by_usage : (path : Path) (at : Option Entry) → P (usage_at space path at)
  by_usage path None = cases.tells _
  by_usage path (Some (Dir mode owner max_names max_bytes)) =
      by_unless (when (is_none max_names && is_none max_bytes) (IO NoQuota)) (told (Used (used_names space path) (used_bytes space path) max_names max_bytes) space) (λ none. cases.tells _)
  by_usage path (Some (File len writer mode owner)) = cases.tells _

-- what is so of each case is so of what a call is answered
pub by_cases : (space : Namespace) (client : ClientNo) (user : List ℕ) (call : Call) (P : Answered → Type 0) → Cases space call P → P (plain space client user call)
by_cases space client user (Mkdirs path) P cases = by_mkdirs space (Mkdirs path) P cases user path (refl, one path)
by_cases space client user (Create path overwrite) P cases = by_create space (Create path overwrite) P cases client user path overwrite (refl, one path)
by_cases space client user (Append path) P cases = by_append space (Append path) P cases refl client path (entry_at space path) refl
by_cases space client user (Grow path bytes) P cases = by_grow space (Grow path bytes) P cases refl client path bytes (entry_at space path) refl
by_cases space client user (Close path) P cases = by_close space (Close path) P cases refl client path (entry_at space path) refl
by_cases space client user (Stat path) P cases = by_stat space (Stat path) P cases (entry_at space path)
by_cases space client user (ListOf path) P cases = by_list space (ListOf path) P cases path (entry_at space path)
by_cases space client user (Delete path recursive) P cases = by_delete space (Delete path recursive) P cases refl path recursive
by_cases space client user (Rename source destination) P cases =
    by_rename space (Rename source destination) P cases source destination
    (refl, λ names. (and_parts (list_all is_name source) (list_all (list_all is_name) (destination ∷ [])) names).0)
    (refl, λ names. one destination (and_parts (list_all is_name source) (list_all (list_all is_name) (destination ∷ [])) names).1)
by_cases space client user (Chmod path mode) P cases =
    by_unless space (Chmod path mode) P cases (fixed_or_missing space path) _ (λ none. by_change space (Chmod path mode) P cases refl path (with_mode mode) (mode_alike mode) (entry_at space path) refl)
by_cases space client user (SetQuota path names bytes) P cases =
    by_unless space (SetQuota path names bytes) P cases (first_some (fixed_or_missing space path ∷ when (is_file (entry_at space path)) (IO NotDirectory) ∷ [])) _
    (λ none. by_change space (SetQuota path names bytes) P cases refl path (with_quotas names bytes) (quotas_alike names bytes) (entry_at space path) refl)
by_cases space client user (Usage path) P cases = by_usage space (Usage path) P cases path (entry_at space path)
