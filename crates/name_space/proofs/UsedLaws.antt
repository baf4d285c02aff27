-- Laws of what a path uses: how much it is after a change.
use Rattle.std.specs.Prelude.{◌≡◌, ℕ, ◌+◌, ◌≤◌, Bool, true, false, cond, not, List, [], ◌∷◌, ◌++◌, map as list_map, length, drop, Option, Some, None, IsSome, is_some}
use Rattle.std.proofs.Common.{refl, sym, ap, ◌∙◌, subst, inl, inr, arith}
use Rattle.std.specs.FinMap.Entries as map
use Rattle.std.specs.List.{filter, list_all, AllByRecursion, IsDistinct}
use Rattle.std.specs.Ordering.{is_eq, is_lt}
use Rattle.std.proofs.lemmas.Bool.{true≢false, and_parts, or_left, or_right, not-true, not_from_false, false_from_ne_true}
use Rattle.std.proofs.lemmas.Map.Keys.{IsDistinct-cons}
use Rattle.hops_base.specs.Path.{path_cmp, same_path}
use Rattle.name_space.specs.declared.entry.Entry.{Entry}
use Rattle.name_space.specs.Namespace.{Namespace, Path, IsNamespace, entry_at, exists, new_dir, with_entry, is_within, below, without, missing, bytes_of, used_names, used_bytes}
use Rattle.name_space.specs.Cut.{is_among}
use Rattle.name_space.specs.Plain.{with_dirs}
use Rattle.name_space.specs.Rename.{moved_path, moved}
use Rattle.name_space.proofs.PathLaws.{paths_tell, same_path-self, same_path-is, is_less, is_within-append, is_within-rest, is_within-trans, is_within-under, within_either}
use Rattle.name_space.specs.Namespace.{Rises}
use Rattle.name_space.proofs.NamespaceLaws.{all_from, none_from, missing_within}
use Rattle.name_space.proofs.PrefixLaws.{distinct-none, among-missing, missing-distinct}
use Rattle.name_space.proofs.MoveLaws.{is_one, came_from, moved_there}
use Rattle.name_space.proofs.SumLaws.{same_either, total, total-is, total-ones, total-zero, total-add, total-ap, total-filter, total-map, total-le, total_same, value_at, total-with_entry, total-with_entries}

-- ---- what a path uses, as a sum over the namespace

-- what an entry counts for a top
abbrev pub share : (Entry → ℕ) → Path → Path × Entry → ℕ
share weigh top e = cond (is_within top e.0) (weigh e.1) 0

-- what all that stands within a top weighs
abbrev pub used : (Entry → ℕ) → Namespace → Path → ℕ
used weigh space top = total (share weigh top) space

-- each name counts once
abbrev pub once : Entry → ℕ
once entry = 1

-- a count of what stands within a path
abbrev pub Counting : Type 0
Counting = Namespace → Path → ℕ

-- the names that are used count once each
pub used_names-is : (space : Namespace) (top : Path) → used_names space top ≡ used once space top
used_names-is space top = total-ones (below space top) ∙ total-filter (λ (e : Path × Entry). is_within top e.0) (λ (e : Path × Entry). 1) space

-- the bytes that are used are those of each entry
pub used_bytes-is : (space : Namespace) (top : Path) → used_bytes space top ≡ used bytes_of space top
used_bytes-is space top = total-is (λ (e : Path × Entry). bytes_of e.1) (below space top) ∙ total-filter (λ (e : Path × Entry). is_within top e.0) (λ (e : Path × Entry). bytes_of e.1) space

-- what is so of the sum of ones is so of the names that are used
pub of_names : (P : Counting → Type 0) → P (used once) → P used_names
of_names P law = subst P (sym (λ i space top. used_names-is space top i)) law

-- what is so of the sum of bytes is so of the bytes that are used
pub of_bytes : (P : Counting → Type 0) → P (used bytes_of) → P used_bytes
of_bytes P law = subst P (sym (λ i space top. used_bytes-is space top i)) law

-- ---- one entry

module _ (space : Namespace) (rises : Rises space) (path : Path) (entry : Entry) (top : Path) where
  -- with an entry where nothing stood, its weight more above it
  abbrev pub WithNew : (Entry → ℕ) → Counting → Type 0
  WithNew weigh count = count (with_entry space path entry) top ≡ count space top + cond (is_within top path) (weigh entry) 0

  module _ (none : entry_at space path ≡ None) where
    used-with_new : (weigh : Entry → ℕ) → WithNew weigh (used weigh)
    used-with_new weigh =
        let all = total-with_entry (share weigh top) space path entry rises in
        let zero : value_at (share weigh top) path (entry_at space path) ≡ 0 = ap (value_at (share weigh top) path) none in
        omega arith

    pub used_names-with_new : WithNew once used_names
    used_names-with_new = of_names (WithNew once) (used-with_new once)

    pub used_bytes-with_new : WithNew bytes_of used_bytes
    used_bytes-with_new = of_bytes (WithNew bytes_of) (used-with_new bytes_of)

  -- with an entry in place of an old one, its weight in place of the old one's
  abbrev pub WithOld : Entry → (Entry → ℕ) → Counting → Type 0
  WithOld old weigh count = count (with_entry space path entry) top + cond (is_within top path) (weigh old) 0 ≡ count space top + cond (is_within top path) (weigh entry) 0

  module _ (old : Entry) (found : entry_at space path ≡ Some old) where
    used-with_old : (weigh : Entry → ℕ) → WithOld old weigh (used weigh)
    used-with_old weigh =
        let all = total-with_entry (share weigh top) space path entry rises in
        let value : value_at (share weigh top) path (entry_at space path) ≡ cond (is_within top path) (weigh old) 0 = ap (value_at (share weigh top) path) found in
        omega arith

    pub used_names-with_old : used_names (with_entry space path entry) top ≡ used_names space top
    used_names-with_old = let all = of_names (WithOld old once) (used-with_old once) in omega arith

    pub used_bytes-with_old : WithOld old bytes_of used_bytes
    used_bytes-with_old = of_bytes (WithOld old bytes_of) (used-with_old bytes_of)

-- ---- without what stands within a path

module _ (space : Namespace) (path top : Path) where
  used-without : (weigh : Entry → ℕ) → used weigh (without space path) top ≡ total (λ (e : Path × Entry). cond (not (is_within path e.0)) (share weigh top e) 0) space
  used-without weigh = total-filter (λ (e : Path × Entry). not (is_within path e.0)) (share weigh top) space

  -- nowhere is more used without it
  abbrev pub WithoutFewer : Counting → Type 0
  WithoutFewer count = count (without space path) top ≤ count space top

  without_fewer : (weigh : Entry → ℕ) → WithoutFewer (used weigh)
  without_fewer weigh =
      let all = used-without weigh in
      let each = total-le (λ (e : Path × Entry). cond (not (is_within path e.0)) (share weigh top e) 0) (share weigh top) space (λ e. part (not (is_within path e.0)) (share weigh top e)) in
      omega arith
    where
      part : (b : Bool) (n : ℕ) → cond b n 0 ≤ n
      part true n = omega arith
      part false n = omega arith

  pub used_names-without_fewer : WithoutFewer used_names
  used_names-without_fewer = of_names WithoutFewer (without_fewer once)

  pub used_bytes-without_fewer : WithoutFewer used_bytes
  used_bytes-without_fewer = of_bytes WithoutFewer (without_fewer bytes_of)

  -- above it, less what it used
  abbrev pub WithoutAbove : Counting → Type 0
  WithoutAbove count = count (without space path) top + count space path ≡ count space top

  module _ (above : is_within top path ≡ true) where
    without_above : (weigh : Entry → ℕ) → WithoutAbove (used weigh)
    without_above weigh =
        let left : Path × Entry → ℕ = λ e. cond (not (is_within path e.0)) (share weigh top e) 0 in
        ap (λ n. n + used weigh space path) (used-without weigh) ∙ sym (total-add left (share weigh path) space)
        ∙ total-ap (λ (e : Path × Entry). left e + share weigh path e) (share weigh top) space (λ e. each e (is_within path e.0) refl)
      where
        each : (e : Path × Entry) (within : Bool) → is_within path e.0 ≡ within → cond (not within) (share weigh top e) 0 + cond within (weigh e.1) 0 ≡ share weigh top e
        each e true w =
            let alone : 0 + weigh e.1 ≡ weigh e.1 = omega arith in
            alone ∙ sym (ap (λ (b : Bool). cond b (weigh e.1) 0) (is_within-trans top path e.0 above w))
        each e false w = omega arith

    pub used_names-without : WithoutAbove used_names
    used_names-without = of_names WithoutAbove (without_above once)

    pub used_bytes-without : WithoutAbove used_bytes
    used_bytes-without = of_bytes WithoutAbove (without_above bytes_of)

  -- apart from it, as before
  abbrev pub WithoutApart : Counting → Type 0
  WithoutApart count = count (without space path) top ≡ count space top

  module _ (not_above : is_within top path ≡ false) (not_within : is_within path top ≡ false) where
    without_apart : (weigh : Entry → ℕ) → WithoutApart (used weigh)
    without_apart weigh = used-without weigh ∙ total-ap (λ (e : Path × Entry). cond (not (is_within path e.0)) (share weigh top e) 0) (share weigh top) space (λ e. each e (is_within path e.0) refl (is_within top e.0) refl)
      where
        each : (e : Path × Entry) (within : Bool) → is_within path e.0 ≡ within → (counts : Bool) → is_within top e.0 ≡ counts → cond (not within) (cond counts (weigh e.1) 0) 0 ≡ cond counts (weigh e.1) 0
        each e true w true c = elim (within_either top path e.0 c w) [
          | inl in_top ↦ absurd (true≢false (sym in_top ∙ not_above))
          | inr in_path ↦ absurd (true≢false (sym in_path ∙ not_within))
        ]
        each e true w false c = refl
        each e false w counts c = refl

    pub used_names-without_apart : WithoutApart used_names
    used_names-without_apart = of_names WithoutApart (without_apart once)

    pub used_bytes-without_apart : WithoutApart used_bytes
    used_bytes-without_apart = of_bytes WithoutApart (without_apart bytes_of)

-- ---- new directories

module _ (space : Namespace) (rises : Rises space) (user : List ℕ) (paths : List Path) (distinct : IsDistinct same_path paths) (free : (at : Path) → is_among paths at ≡ true → entry_at space at ≡ None) (top : Path) where
  keys_are : (ps : List Path) → list_map (λ (e : Path × Entry). e.0) (list_map (λ (path : Path). (path, new_dir user)) ps) ≡ ps
  keys_are [] = refl
  keys_are (p ∷ ps) = ap (λ (qs : List Path). p ∷ qs) (keys_are ps)

  among_them : (ps : List Path) (at : Path) → IsSome (entry_at (list_map (λ (path : Path). (path, new_dir user)) ps) at) → is_among ps at ≡ true
  among_them [] at there = absurd (true≢false (sym there))
  among_them (p ∷ ps) at there = elim (paths_tell at p) [
    | inl same ↦ or_left (same_path at p) (is_among ps at) same.0
    | inr differ ↦ or_right (same_path at p) (is_among ps at) (among_them ps at (sym (ap (λ (b : Bool). is_some (cond b (Some (new_dir user)) (entry_at (list_map (λ (path : Path). (path, new_dir user)) ps) at))) differ.0) ∙ there))
  ]

  -- with new directories, the weight of one more for each path within the top
  abbrev pub WithDirs : (Entry → ℕ) → Counting → Type 0
  WithDirs weigh count = count (with_dirs space user paths) top ≡ count space top + total (λ (path : Path). cond (is_within top path) (weigh (new_dir user)) 0) paths

  used-with_dirs : (weigh : Entry → ℕ) → WithDirs weigh (used weigh)
  used-with_dirs weigh =
      total-with_entries (share weigh top) (list_map (λ (path : Path). (path, new_dir user)) paths) space rises (subst (IsDistinct same_path) (sym (keys_are paths)) distinct) (λ at there. free at (among_them paths at there))
      ∙ ap (λ n. used weigh space top + n) (total-map (share weigh top) (λ (path : Path). (path, new_dir user)) paths)

  -- a name more for each path within the top
  pub used_names-with_dirs : used_names (with_dirs space user paths) top ≡ used_names space top + length (filter (is_within top) paths)
  used_names-with_dirs = of_names (WithDirs once) (used-with_dirs once) ∙ ap (λ n. used_names space top + n) (sym (total-ones (filter (is_within top) paths) ∙ total-filter (is_within top) (λ (path : Path). 1) paths))

  -- and as many bytes
  pub used_bytes-with_dirs : used_bytes (with_dirs space user paths) top ≡ used_bytes space top
  used_bytes-with_dirs =
      let all = of_bytes (WithDirs bytes_of) (used-with_dirs bytes_of) in
      let none = total-ap (λ (path : Path). cond (is_within top path) 0 0) (λ (path : Path). 0) paths (λ path. same_either (is_within top path) 0) ∙ total-zero paths in
      omega arith

filter_all : (test : Path → Bool) (paths : List Path) → ((at : Path) → is_among paths at ≡ true → test at ≡ true) → filter test paths ≡ paths
filter_all test [] all = refl
filter_all test (path ∷ paths) all =
    ap (λ (b : Bool). cond b (path ∷ filter test paths) (filter test paths)) (all path (or_left (same_path path path) (is_among paths path) (same_path-self path)))
    ∙ ap (λ (ps : List Path). path ∷ ps) (filter_all test paths (λ at among. all at (or_right (same_path at path) (is_among paths at) among)))

filter_none : (test : Path → Bool) (paths : List Path) → ((at : Path) → is_among paths at ≡ true → test at ≡ false) → filter test paths ≡ []
filter_none test [] none = refl
filter_none test (path ∷ paths) none =
    ap (λ (b : Bool). cond b (path ∷ filter test paths) (filter test paths)) (none path (or_left (same_path path path) (is_among paths path) (same_path-self path)))
    ∙ filter_none test paths (λ at among. none at (or_right (same_path at path) (is_among paths at) among))

-- what is among the missing prefixes of a path is missing and a prefix
missing_parts : (space : Namespace) (path at : Path) → is_among (missing space path) at ≡ true → (entry_at space at ≡ None) × (is_within at path ≡ true)
missing_parts space path at among =
    let parts = and_parts (not (exists space at)) (is_within at path) (sym (among-missing space path at) ∙ among) in
    (none_from (entry_at space at) (not-true (exists space at) parts.0), parts.1)

module _ (space : Namespace) (rises : Rises space) (user : List ℕ) (path top : Path) where
  -- after a directory at each missing prefix of a path, as many bytes
  pub used_bytes-with_missing : used_bytes (with_dirs space user (missing space path)) top ≡ used_bytes space top
  used_bytes-with_missing = used_bytes-with_dirs space rises user (missing space path) (missing-distinct space path) (λ at among. (missing_parts space path at among).0) top

  counted : used_names (with_dirs space user (missing space path)) top ≡ used_names space top + length (filter (is_within top) (missing space path))
  counted = used_names-with_dirs space rises user (missing space path) (missing-distinct space path) (λ at among. (missing_parts space path at among).0) top

  -- a name more for each above a top that the path lies within, where something stands
  pub used_names-with_missing : IsNamespace space → is_within top path ≡ true → IsSome (entry_at space top) → used_names (with_dirs space user (missing space path)) top ≡ used_names space top + length (missing space path)
  used_names-with_missing is above here = counted ∙ ap (λ (ps : List Path). used_names space top + length ps) (filter_all (is_within top) (missing space path) lies)
    where
      lies : (at : Path) → is_among (missing space path) at ≡ true → is_within top at ≡ true
      lies at among =
          let parts = missing_parts space path at among in
          elim (within_either top at path above parts.1) [
            | inl within ↦ within
            | inr within ↦ absurd (true≢false (sym here ∙ ap is_some (missing_within space is at parts.0 top within)))
          ]

  -- and as many names where the path doesn't lie within the top
  pub used_names-with_missing_beside : is_within top path ≡ false → used_names (with_dirs space user (missing space path)) top ≡ used_names space top
  used_names-with_missing_beside beside =
      let all = counted in
      let none : length (filter (is_within top) (missing space path)) ≡ 0 = ap (λ (ps : List Path). length ps) (filter_none (is_within top) (missing space path)
      (λ at among. false_from_ne_true (is_within top at) (λ within. true≢false (sym (is_within-trans top at path within (missing_parts space path at among).1) ∙ beside)))) in
      omega arith

-- ---- a move

module _ (source target : Path) where
  one_path : (from : Option Path) (a b : Path) → is_one from a ≡ true → is_one from b ≡ true → a ≡ b
  one_path None a b p q = absurd (true≢false (sym p))
  one_path (Some from) a b p q = sym (same_path-is from a p) ∙ same_path-is from b q

  -- two paths that don't lie within the target don't go to one place
  moved_differ : (a b : Path) → is_within target a ≡ false → is_within target b ≡ false → same_path a b ≡ false → same_path (moved_path source target a) (moved_path source target b) ≡ false
  moved_differ a b clear_a clear_b differ = false_from_ne_true (same_path (moved_path source target a) (moved_path source target b)) (λ is.
      let to : Path = moved_path source target a in
      let from_a = sym (moved_there source target to a clear_a) ∙ same_path-self to in
      let from_b = sym (moved_there source target to b clear_b) ∙ is in
      true≢false (sym (same_path-self a) ∙ ap (same_path a) (one_path (came_from source target to) a b from_a from_b) ∙ differ))

  -- an entry where it goes
  abbrev pub moved_entry : Path × Entry → Path × Entry
  moved_entry e = (moved_path source target e.0, e.1)

  distinct_there : (es : Namespace) → Rises es → list_all (λ (e : Path × Entry). not (is_within target e.0)) es ≡ true → IsDistinct same_path (list_map (λ (e : Path × Entry). e.0) (list_map moved_entry es))
  distinct_there [] rises clear = distinct-none
  distinct_there (e ∷ es) rises clear =
      let parts = and_parts (map.below_all path_cmp e.0 es) (map.is_sorted path_cmp es) rises in
      let clears = and_parts (not (is_within target e.0)) (list_all (λ (e : Path × Entry). not (is_within target e.0)) es) clear in
      IsDistinct-cons same_path (moved_path source target e.0) (list_map (λ (e : Path × Entry). e.0) (list_map moved_entry es)) (apart (not-true (is_within target e.0) clears.0) es parts.0 clears.1) (distinct_there es parts.1 clears.1)
    where
      apart : is_within target e.0 ≡ false → (fs : Namespace) → map.below_all path_cmp e.0 fs ≡ true → list_all (λ (f : Path × Entry). not (is_within target f.0)) fs ≡ true
          → AllByRecursion (λ (q : Path). same_path (moved_path source target e.0) q ≡ false) (list_map (λ (f : Path × Entry). f.0) (list_map moved_entry fs))
      apart here [] below clear = tt
      apart here (f ∷ fs) below clear =
          let parts = and_parts (is_lt (path_cmp e.0 f.0)) (map.below_all path_cmp e.0 fs) below in
          let clears = and_parts (not (is_within target f.0)) (list_all (λ (f : Path × Entry). not (is_within target f.0)) fs) clear in
          (moved_differ e.0 f.0 here (not-true (is_within target f.0) clears.0) (ap is_eq (is_less (path_cmp e.0 f.0) parts.0)), apart here fs parts.1 clears.1)

module _ (space : Namespace) (is : IsNamespace space) (source target : Path) (none : entry_at space target ≡ None) where
  clear_at : (at : Path) → IsSome (entry_at space at) → is_within target at ≡ false
  clear_at at here = false_from_ne_true (is_within target at) (λ within. true≢false (sym here ∙ ap is_some (missing_within space is target none at within)))

  -- a sum after a move to a target that is free: of what each entry is where it goes
  pub total-moved : (f : Path × Entry → ℕ) → total f (moved space source target) ≡ total (λ (e : Path × Entry). f (moved_entry source target e)) space
  total-moved f =
      let clear = all_from (λ path. not (is_within target path)) space (λ at here. not_from_false (is_within target at) (clear_at at here)) in
      let all = total-with_entries f (list_map (moved_entry source target) space) [] refl (distinct_there source target space is.rises clear) (λ at there. refl) in
      let each = total-map f (moved_entry source target) space in
      omega arith

  module _ (top : Path) where
    -- as much as before
    abbrev pub MovedSame : Counting → Type 0
    MovedSame count = count (moved space source target) top ≡ count space top

    -- above the target alone, what the source used comes to it
    abbrev pub MovedAboveTarget : Counting → Type 0
    MovedAboveTarget count = count (moved space source target) top ≡ count space top + count space source

    -- above the source alone, what the source used goes
    abbrev pub MovedAboveSource : Counting → Type 0
    MovedAboveSource count = count (moved space source target) top + count space source ≡ count space top

    -- apart from the target, no more than before
    abbrev pub MovedFewer : Counting → Type 0
    MovedFewer count = count (moved space source target) top ≤ count space top

    used-moved : (weigh : Entry → ℕ) → used weigh (moved space source target) top ≡ total (λ (e : Path × Entry). share weigh top (moved_entry source target e)) space
    used-moved weigh = total-moved (share weigh top)

    -- where a top that isn't above what a path lies within doesn't lie there itself, the path doesn't lie within the top
    beside : (up path : Path) → is_within up path ≡ true → is_within top up ≡ false → is_within up top ≡ false → is_within top path ≡ false
    beside up path within not_above not_in = false_from_ne_true (is_within top path) (λ in_top. elim (within_either top up path in_top within) [
      | inl above ↦ true≢false (sym above ∙ not_above)
      | inr inside ↦ true≢false (sym inside ∙ not_in)
    ])

    -- what stood within the source counts where the target stands
    there : (e : Path × Entry) → is_within target (target ++ drop (length source) e.0) ≡ true
    there e = is_within-append target (drop (length source) e.0)

    -- where what moves along lies within the top as it did, as much as before
    moved_same : ((e : Path × Entry) → is_within source e.0 ≡ true → is_within top (target ++ drop (length source) e.0) ≡ is_within top e.0) → (weigh : Entry → ℕ) → MovedSame (used weigh)
    moved_same alike weigh = used-moved weigh ∙ total-ap (λ (e : Path × Entry). share weigh top (moved_entry source target e)) (share weigh top) space (λ e. each e (is_within source e.0) refl)
      where
        each : (e : Path × Entry) (s : Bool) → is_within source e.0 ≡ s → cond (is_within top (cond s (target ++ drop (length source) e.0) e.0)) (weigh e.1) 0 ≡ cond (is_within top e.0) (weigh e.1) 0
        each e true s = ap (λ (b : Bool). cond b (weigh e.1) 0) (alike e s)
        each e false s = refl

    module _ (above_source : is_within top source ≡ true) (above_target : is_within top target ≡ true) where
      moved_above_both : (weigh : Entry → ℕ) → MovedSame (used weigh)
      moved_above_both = moved_same (λ e s. is_within-trans top target (target ++ drop (length source) e.0) above_target (there e) ∙ sym (is_within-trans top source e.0 above_source s))

      pub used_names-moved_above_both : MovedSame used_names
      used_names-moved_above_both = of_names MovedSame (moved_above_both once)

      pub used_bytes-moved_above_both : MovedSame used_bytes
      used_bytes-moved_above_both = of_bytes MovedSame (moved_above_both bytes_of)

    module _ (apart : is_within source target ≡ false) (not_above_source : is_within top source ≡ false) (above_target : is_within top target ≡ true) where
      moved_above_target : (weigh : Entry → ℕ) → MovedAboveTarget (used weigh)
      moved_above_target weigh =
          used-moved weigh ∙ total-ap (λ (e : Path × Entry). share weigh top (moved_entry source target e)) (λ (e : Path × Entry). share weigh top e + share weigh source e) space (λ e. each e (is_within source e.0) refl)
          ∙ total-add (share weigh top) (share weigh source) space
        where
          not_inside : is_within source top ≡ false
          not_inside = false_from_ne_true (is_within source top) (λ inside. true≢false (sym (is_within-trans source top target inside above_target) ∙ apart))

          each : (e : Path × Entry) (s : Bool) → is_within source e.0 ≡ s → cond (is_within top (cond s (target ++ drop (length source) e.0) e.0)) (weigh e.1) 0 ≡ cond (is_within top e.0) (weigh e.1) 0 + cond s (weigh e.1) 0
          each e true s =
              let after : cond (is_within top (target ++ drop (length source) e.0)) (weigh e.1) 0 ≡ weigh e.1 = ap (λ (b : Bool). cond b (weigh e.1) 0) (is_within-trans top target (target ++ drop (length source) e.0) above_target (there e)) in
              let before : cond (is_within top e.0) (weigh e.1) 0 ≡ 0 = ap (λ (b : Bool). cond b (weigh e.1) 0) (beside source e.0 s not_above_source not_inside) in
              omega arith
          each e false s = omega arith

      pub used_names-moved_above_target : MovedAboveTarget used_names
      used_names-moved_above_target = of_names MovedAboveTarget (moved_above_target once)

      pub used_bytes-moved_above_target : MovedAboveTarget used_bytes
      used_bytes-moved_above_target = of_bytes MovedAboveTarget (moved_above_target bytes_of)

    module _ (above_source : is_within top source ≡ true) (not_above_target : is_within top target ≡ false) where
      moved_above_source : (weigh : Entry → ℕ) → MovedAboveSource (used weigh)
      moved_above_source weigh =
          ap (λ n. n + used weigh space source) (used-moved weigh) ∙ sym (total-add (λ (e : Path × Entry). share weigh top (moved_entry source target e)) (share weigh source) space)
          ∙ total_same (λ (e : Path × Entry). share weigh top (moved_entry source target e) + share weigh source e) (share weigh top) space (λ e here. each e here (is_within source e.0) refl)
        where
          each : (e : Path × Entry) → IsSome (entry_at space e.0) → (s : Bool) → is_within source e.0 ≡ s → cond (is_within top (cond s (target ++ drop (length source) e.0) e.0)) (weigh e.1) 0 + cond s (weigh e.1) 0 ≡ cond (is_within top e.0) (weigh e.1) 0
          each e here true s =
              let in_top = is_within-trans top source e.0 above_source s in
              let not_inside : is_within target top ≡ false = false_from_ne_true (is_within target top) (λ inside. true≢false (sym (is_within-trans target top e.0 inside in_top) ∙ clear_at e.0 here)) in
              let after : cond (is_within top (target ++ drop (length source) e.0)) (weigh e.1) 0 ≡ 0 =
              ap (λ (b : Bool). cond b (weigh e.1) 0) (beside target (target ++ drop (length source) e.0) (there e) not_above_target not_inside) in
              let before : cond (is_within top e.0) (weigh e.1) 0 ≡ weigh e.1 = ap (λ (b : Bool). cond b (weigh e.1) 0) in_top in
              omega arith
          each e here false s = omega arith

      pub used_names-moved_above_source : MovedAboveSource used_names
      used_names-moved_above_source = of_names MovedAboveSource (moved_above_source once)

      pub used_bytes-moved_above_source : MovedAboveSource used_bytes
      used_bytes-moved_above_source = of_bytes MovedAboveSource (moved_above_source bytes_of)

    module _ (not_above_target : is_within top target ≡ false) (not_within_target : is_within target top ≡ false) where
      moved_fewer : (weigh : Entry → ℕ) → MovedFewer (used weigh)
      moved_fewer weigh =
          let all = used-moved weigh in
          let less = total-le (λ (e : Path × Entry). share weigh top (moved_entry source target e)) (share weigh top) space (λ e. each e (is_within source e.0) refl) in
          omega arith
        where
          each : (e : Path × Entry) (s : Bool) → is_within source e.0 ≡ s → cond (is_within top (cond s (target ++ drop (length source) e.0) e.0)) (weigh e.1) 0 ≤ cond (is_within top e.0) (weigh e.1) 0
          each e true s =
              let after : cond (is_within top (target ++ drop (length source) e.0)) (weigh e.1) 0 ≡ 0 =
              ap (λ (b : Bool). cond b (weigh e.1) 0) (beside target (target ++ drop (length source) e.0) (there e) not_above_target not_within_target) in
              omega arith
          each e false s = omega arith

      pub used_names-moved_fewer : MovedFewer used_names
      used_names-moved_fewer = of_names MovedFewer (moved_fewer once)

      pub used_bytes-moved_fewer : MovedFewer used_bytes
      used_bytes-moved_fewer = of_bytes MovedFewer (moved_fewer bytes_of)

      module _ (not_above_source : is_within top source ≡ false) (not_within_source : is_within source top ≡ false) where
        moved_apart : (weigh : Entry → ℕ) → MovedSame (used weigh)
        moved_apart = moved_same (λ e s. beside target (target ++ drop (length source) e.0) (there e) not_above_target not_within_target ∙ sym (beside source e.0 s not_above_source not_within_source))

        pub used_names-moved_apart : MovedSame used_names
        used_names-moved_apart = of_names MovedSame (moved_apart once)

        pub used_bytes-moved_apart : MovedSame used_bytes
        used_bytes-moved_apart = of_bytes MovedSame (moved_apart bytes_of)

  module _ (rest : Path) where
    -- what moved along uses at its new place what it used at its old one
    abbrev pub MovedAlong : Counting → Type 0
    MovedAlong count = count (moved space source target) (target ++ rest) ≡ count space (source ++ rest)

    moved_along : (weigh : Entry → ℕ) → MovedAlong (used weigh)
    moved_along weigh =
        total-moved (share weigh (target ++ rest))
        ∙ total_same (λ (e : Path × Entry). share weigh (target ++ rest) (moved_entry source target e)) (share weigh (source ++ rest)) space (λ e here. ap (λ (b : Bool). cond b (weigh e.1) 0) (each e here (is_within source e.0) refl))
      where
        outside : (front path : Path) → is_within front path ≡ false → is_within (front ++ rest) path ≡ false
        outside front path out = false_from_ne_true (is_within (front ++ rest) path) (λ within. true≢false (sym (is_within-trans front (front ++ rest) path (is_within-append front rest) within) ∙ out))

        each : (e : Path × Entry) → IsSome (entry_at space e.0) → (s : Bool) → is_within source e.0 ≡ s → is_within (target ++ rest) (cond s (target ++ drop (length source) e.0) e.0) ≡ is_within (source ++ rest) e.0
        each e here true s =
            is_within-under target rest (drop (length source) e.0) ∙ sym (is_within-under source rest (drop (length source) e.0)) ∙ ap (is_within (source ++ rest)) (is_within-rest source e.0 s)
        each e here false s = outside target e.0 (clear_at e.0 here) ∙ sym (outside source e.0 s)

    pub used_names-moved_along : MovedAlong used_names
    used_names-moved_along = of_names MovedAlong (moved_along once)

    pub used_bytes-moved_along : MovedAlong used_bytes
    used_bytes-moved_along = of_bytes MovedAlong (moved_along bytes_of)
