-- No call takes a directory past a quota of its own.
use Rattle.std.proofs.Common.{◌≡◌, ◌≢◌, ℕ, ◌+◌, ◌≤◌, Bool, true, false, not, ◌&&◌, ◌||◌, nat_lt, cond, List, [], ◌∷◌, length, Option, Some, None, is_some, IsSome, refl, sym, ap, ◌∙◌, subst, inl, inr, arith}
use Rattle.std.proofs.lemmas.Bool.{true≢false, and_cases, ltb-false, false_from_ne_true}
use Rattle.hops_base.specs.declared.ids.ClientNo.{ClientNo}
use Rattle.hops_base.specs.Path.{is_below}
use Rattle.name_space.specs.declared.entry.Entry.{Entry}
use Rattle.name_space.specs.declared.entry.Entry.TheVariants.{Dir, File}
use Rattle.name_space.specs.declared.reply.Exception.{Exception}
use Rattle.name_space.specs.declared.reply.Exception.TheVariants.{NSQuotaExceeded, DSQuotaExceeded}
use Rattle.name_space.specs.Namespace.{Namespace, Path, IsNamespace, entry_at, is_dir, new_dir, with_entry, is_within, without, bytes_of, used_names, used_bytes, above, missing}
use Rattle.name_space.specs.Cut.{is_among}
use Rattle.name_space.specs.Quota.{exceeds, refused_over, refused_by, over_quota, newly_above}
use Rattle.name_space.specs.Plain.{Answered, with_dirs, new_file}
use Rattle.name_space.specs.Rename.{moved, target_of}
use Rattle.name_space.proofs.PathLaws.{paths_tell, is_within-self}
use Rattle.name_space.proofs.NamespaceLaws.{Rises-with_dirs, missing_within}
use Rattle.name_space.proofs.PrefixLaws.{among-filter, among-above, entry_at-with_missing}
use Rattle.name_space.proofs.SumLaws.{same_either}
use Rattle.name_space.proofs.UsedLaws.{used_names-with_old, used_bytes-with_old, used_names-without_fewer, used_bytes-without_fewer, used_names-with_missing, used_names-with_missing_beside, used_bytes-with_missing, used_names-moved_above_both, used_bytes-moved_above_both, used_names-moved_above_target, used_bytes-moved_above_target, used_names-moved_fewer, used_bytes-moved_fewer}
use Rattle.name_space.specs.Laws.{KeepsLimit, AQuotaIsKept}
use Rattle.name_space.proofs.CallCases.{by_cases, neither}
use Rattle.name_space.proofs.DirLaws.{nothing_made}
use Rattle.name_space.proofs.RenameLaws.{target_free}

-- ---- limits

no_more : (limit : Option ℕ) (before after : ℕ) → after ≤ before → KeepsLimit limit before after
no_more limit before after less most is = inr less

-- what is no more than a use that keeps a limit keeps it too
no_more_than : (limit : Option ℕ) (before between after : ℕ) → KeepsLimit limit before between → after ≤ between → KeepsLimit limit before after
no_more_than limit before between after keeps less most is = elim (keeps most is) [
  | inl within ↦ inl (omega arith)
  | inr fewer ↦ inr (omega arith)
]

-- what no limit refuses keeps it
not_refused : (refusal : ℕ → ℕ → Exception) (limit : Option ℕ) (before more after : ℕ) → refused_over refusal before more limit ≡ None → after ≡ before + more → KeepsLimit limit before after
not_refused refusal None before more after none sum most is = cc
not_refused refusal (Some limit) before more after none sum most is =
    let same : limit ≡ most = cc in
    elim (and_cases (nat_lt 0 more) (nat_lt limit (before + more)) (passes (exceeds before more limit) (refusal before limit) none)) [
      | inl nothing ↦
          let none_more = ltb-false 0 more nothing in
          inr (omega arith)
      | inr room ↦
          let fits = ltb-false limit (before + more) room in
          inl (omega arith)
    ]
  where
    passes : (test : Bool) (exception : Exception) → cond test (Some exception) None ≡ None → test ≡ false
    passes true exception none = absurd (true≢false (ap is_some none))
    passes false exception none = refl

module _ (space : Namespace) (is : IsNamespace space) (top : Path) (mode : ℕ) (owner : List ℕ) (max_names max_bytes : Option ℕ) (found : entry_at space top ≡ Some (Dir mode owner max_names max_bytes)) where
  -- the quotas of the directory are kept
  abbrev Keeps : Namespace → Type 0
  Keeps after = KeepsLimit max_names (used_names space top) (used_names after top) × KeepsLimit max_bytes (used_bytes space top) (used_bytes after top)

  Keeps-fewer : (after : Namespace) → used_names after top ≤ used_names space top → used_bytes after top ≤ used_bytes space top → Keeps after
  Keeps-fewer after names bytes = (no_more max_names (used_names space top) (used_names after top) names, no_more max_bytes (used_bytes space top) (used_bytes after top) bytes)

  Keeps-than : (between after : Namespace) → Keeps between → used_names after top ≤ used_names between top → used_bytes after top ≤ used_bytes between top → Keeps after
  Keeps-than between after keeps names bytes = (
    no_more_than max_names (used_names space top) (used_names between top) (used_names after top) keeps.0 names,
    no_more_than max_bytes (used_bytes space top) (used_bytes between top) (used_bytes after top) keeps.1 bytes,
  )

  Keeps-same : (after : Namespace) → after ≡ space → Keeps after
  Keeps-same after same = subst Keeps (sym same) (Keeps-fewer space (omega arith) (omega arith))

  here : IsSome (entry_at space top)
  here = ap is_some found

  -- a directory among those that are asked has room
  has_room : (names bytes : ℕ) (dirs : List Path) → over_quota space names bytes dirs ≡ None → is_among dirs top ≡ true
      → (refused_over (NSQuotaExceeded top) (used_names space top) names max_names ≡ None) × (refused_over (DSQuotaExceeded top) (used_bytes space top) bytes max_bytes ≡ None)
  has_room names bytes [] none among = absurd (true≢false (sym among))
  has_room names bytes (dir ∷ dirs) none among =
      let parts = neither (refused_by space names bytes dir (entry_at space dir)) (over_quota space names bytes dirs) none in
      elim (paths_tell top dir) [
        | inl same ↦ neither (refused_over (NSQuotaExceeded top) (used_names space top) names max_names) (refused_over (DSQuotaExceeded top) (used_bytes space top) bytes max_bytes)
            (sym (ap (refused_by space names bytes top) found) ∙ ap (λ (p : Path). refused_by space names bytes p (entry_at space p)) same.1 ∙ parts.0)
        | inr differ ↦ has_room names bytes dirs parts.1 (sym (ap (λ (b : Bool). b || is_among dirs top) differ.0) ∙ among)
      ]

  -- ---- new directories and files

  dirs_keep : (user : List ℕ) (path : Path) → over_quota space (length (missing space path)) 0 (above path) ≡ None → Keeps (with_dirs space user (missing space path))
  dirs_keep user path none = by (is_within top path) refl
    where
      bytes : used_bytes (with_dirs space user (missing space path)) top ≤ used_bytes space top
      bytes = let same = used_bytes-with_missing space is.rises user path top in omega arith

      by : (within : Bool) → is_within top path ≡ within → Keeps (with_dirs space user (missing space path))
      by true within = elim (paths_tell top path) [
        | inl same ↦ Keeps-same (with_dirs space user (missing space path)) (nothing_made space is user path (ap (λ (p : Path). is_some (entry_at space p)) (sym same.1) ∙ here))
        | inr differ ↦
            let room = has_room (length (missing space path)) 0 (above path) none (among-above path top within differ.1) in (
              not_refused (NSQuotaExceeded top) max_names (used_names space top) (length (missing space path)) (used_names (with_dirs space user (missing space path)) top) room.0
                  (used_names-with_missing space is.rises user path top is within here),
              no_more max_bytes (used_bytes space top) (used_bytes (with_dirs space user (missing space path)) top) bytes,
            )
      ]
      by false beside =
          let names = used_names-with_missing_beside space is.rises user path top beside in
          Keeps-fewer (with_dirs space user (missing space path)) (omega arith) bytes

  stands : (user : List ℕ) (path : Path) (at : Option Entry) → entry_at space path ≡ at → (old : Entry) × (entry_at (with_dirs space user (missing space path)) path ≡ Some old)
  stands user path None e = (new_dir user, entry_at-with_missing space user path path ∙ (λ i. cond (not (is_some (e i)) && is_within-self path i) (Some (new_dir user)) (e i)))
  stands user path (Some old) e = (old, entry_at-with_missing space user path path ∙ (λ i. cond (not (is_some (e i)) && is_within path path) (Some (new_dir user)) (e i)))

  file_keeps : (client : ClientNo) (user : List ℕ) (path : Path) → over_quota space (length (missing space path)) 0 (above path) ≡ None → Keeps (with_entry (with_dirs space user (missing space path)) path (new_file client user))
  file_keeps client user path none =
      let dirs : Namespace = with_dirs space user (missing space path) in
      let rises = Rises-with_dirs space user (missing space path) is.rises in
      let old = stands user path (entry_at space path) refl in
      let names = used_names-with_old dirs rises path (new_file client user) top old.0 old.1 in
      let bytes = used_bytes-with_old dirs rises path (new_file client user) top old.0 old.1 in
      let nothing = same_either (is_within top path) 0 in
      Keeps-than dirs (with_entry dirs path (new_file client user)) (dirs_keep user path none) (omega arith) (omega arith)

  -- ---- one entry in place of another

  -- as many bytes as the old one
  alike_keeps : (path : Path) (entry old : Entry) → entry_at space path ≡ Some old → bytes_of entry ≡ bytes_of old → Keeps (with_entry space path entry)
  alike_keeps path entry old was alike =
      let names = used_names-with_old space is.rises path entry top old was in
      let bytes = used_bytes-with_old space is.rises path entry top old was in
      let same : cond (is_within top path) (bytes_of entry) 0 ≡ cond (is_within top path) (bytes_of old) 0 = ap (λ n. cond (is_within top path) n 0) alike in
      Keeps-fewer (with_entry space path entry) (omega arith) (omega arith)

  longer_keeps : (path : Path) (len bytes : ℕ) (writer : Option ClientNo) (rights : ℕ) (user : List ℕ) → entry_at space path ≡ Some (File len writer rights user) → over_quota space 0 bytes (above path) ≡ None
      → Keeps (with_entry space path (File (len + bytes) writer rights user))
  longer_keeps path len bytes writer rights user was none = by (is_within top path) refl
    where
      names : used_names (with_entry space path (File (len + bytes) writer rights user)) top ≡ used_names space top
      names = used_names-with_old space is.rises path (File (len + bytes) writer rights user) top (File len writer rights user) was

      sizes : used_bytes (with_entry space path (File (len + bytes) writer rights user)) top + cond (is_within top path) len 0 ≡ used_bytes space top + cond (is_within top path) (len + bytes) 0
      sizes = used_bytes-with_old space is.rises path (File (len + bytes) writer rights user) top (File len writer rights user) was

      by : (within : Bool) → is_within top path ≡ within → Keeps (with_entry space path (File (len + bytes) writer rights user))
      by true within =
          let differ : top ≢ path = λ same. true≢false (sym (ap is_dir found) ∙ ap (λ (p : Path). is_dir (entry_at space p)) same ∙ ap is_dir was) in
          let count = names in
          let all = sizes in
          let room = has_room 0 bytes (above path) none (among-above path top within differ) in
          let old : cond (is_within top path) len 0 ≡ len = ap (λ (b : Bool). cond b len 0) within in
          let new : cond (is_within top path) (len + bytes) 0 ≡ len + bytes = ap (λ (b : Bool). cond b (len + bytes) 0) within in (
            no_more max_names (used_names space top) (used_names (with_entry space path (File (len + bytes) writer rights user)) top) (omega arith),
            not_refused (DSQuotaExceeded top) max_bytes (used_bytes space top) bytes (used_bytes (with_entry space path (File (len + bytes) writer rights user)) top) room.1 (omega arith),
          )
      by false beside =
          let count = names in
          let all = sizes in
          let old : cond (is_within top path) len 0 ≡ 0 = ap (λ (b : Bool). cond b len 0) beside in
          let new : cond (is_within top path) (len + bytes) 0 ≡ 0 = ap (λ (b : Bool). cond b (len + bytes) 0) beside in
          Keeps-fewer (with_entry space path (File (len + bytes) writer rights user)) (omega arith) (omega arith)

  -- ---- what goes, and what moves

  move_keeps : (source target : Path) → entry_at space target ≡ None → is_within source target ≡ false → over_quota space (used_names space source) (used_bytes space source) (newly_above source target) ≡ None → Keeps (moved space source target)
  move_keeps source target free apart none = by (is_within top target) refl (is_within top source) refl
    where
      not_inside : is_within target top ≡ false
      not_inside = false_from_ne_true (is_within target top) (λ inside. true≢false (sym here ∙ ap is_some (missing_within space is target free top inside)))

      differ : top ≢ target
      differ same = true≢false (sym here ∙ ap (λ (p : Path). is_some (entry_at space p)) same ∙ ap is_some free)

      by : (t : Bool) → is_within top target ≡ t → (s : Bool) → is_within top source ≡ s → Keeps (moved space source target)
      by true t true s =
          let names = used_names-moved_above_both space is source target free top s t in
          let bytes = used_bytes-moved_above_both space is source target free top s t in
          Keeps-fewer (moved space source target) (omega arith) (omega arith)
      by true t false s =
          let asked : is_among (newly_above source target) top ≡ true =
          among-filter (λ up. not (is_below source up)) (above target) top ∙ (λ i. not (s i && nat_lt (length top) (length source)) && among-above target top t differ i) in
          let room = has_room (used_names space source) (used_bytes space source) (newly_above source target) none asked in (
            not_refused (NSQuotaExceeded top) max_names (used_names space top) (used_names space source) (used_names (moved space source target) top) room.0
                (used_names-moved_above_target space is source target free top apart s t),
            not_refused (DSQuotaExceeded top) max_bytes (used_bytes space top) (used_bytes space source) (used_bytes (moved space source target) top) room.1
                (used_bytes-moved_above_target space is source target free top apart s t),
          )
      by false t s e = Keeps-fewer (moved space source target) (used_names-moved_fewer space is source target free top t not_inside) (used_bytes-moved_fewer space is source target free top t not_inside)

pub a_quota_is_kept : AQuotaIsKept
a_quota_is_kept space client user call top mode owner max_names max_bytes is found =
    by_cases space client user call (λ (answer : Answered). Keeps space is top mode owner max_names max_bytes found answer.space) (record {
      tells = λ reply. Keeps-same space is top mode owner max_names max_bytes found space refl;
      dirs = λ user path named no_file room. dirs_keep space is top mode owner max_names max_bytes found user path room;
      file = λ client user path named no_dir no_file room. file_keeps space is top mode owner max_names max_bytes found client user path room;
      entry = λ may path new old was kind bytes. alike_keeps space is top mode owner max_names max_bytes found path new old was bytes;
      longer = λ may path len bytes writer rights user was room. longer_keeps space is top mode owner max_names max_bytes found path len bytes writer rights user was room;
      gone = λ may path not_root. Keeps-fewer space is top mode owner max_names max_bytes found (without space path) (used_names-without_fewer space path top) (used_bytes-without_fewer space path top);
      moves = λ source destination from to moves.
          let free = target_free space is source destination moves in
          move_keeps space is top mode owner max_names max_bytes found source (target_of space source destination) free.none free.apart moves.room;
    })
