-- What the namespace and the ids of a book are to each other.
use Rattle.std.specs.Prelude.{◌≡◌, ℕ, ◌+◌, Bool, true, false, not, ◌&&◌, ◌||◌, cond, List, [], ◌∷◌, ◌++◌, map, Option, Some, None, is_some, codes, if◌then◌else◌, refl}
use Rattle.std.specs.List.{filter, list_any, AllByRecursion}
use Rattle.std.specs.Ordering.{is_eq}
use Rattle.std.specs.declared.cmp.Ordering.TheVariants.{Less, Equal, Greater}
use Rattle.std.specs.declared.cmp.Ordering.{Ordering}
use Rattle.std.specs.Cmp.{tied_itself}
use Rattle.std.specs.FinMap.Entries as entries
use Rattle.std.proofs.Common.{sym, ap, ◌∙◌}
use Rattle.std.proofs.lemmas.Bool.{or_left, or_right}
use Rattle.std.proofs.lemmas.Map.Views.{any-filter_same}
use Rattle.hops_base.specs.Path.{path_cmp, path_cmp_total, same_path}
use Rattle.name_space.specs.declared.call.Call.{Call}
use Rattle.name_space.specs.declared.call.Call.TheVariants as call
use Rattle.name_space.specs.declared.entry.Entry.{Entry}
use Rattle.name_space.specs.Namespace.{Namespace, Path, exists, opening, new_dir}
use Rattle.name_space.specs.Rename.{target_of}
use Rattle.commit_log.specs.declared.note.Note.{Note}
use Rattle.commit_log.specs.declared.note.Note.TheVariants.{Open, Took, Gave, Wrote, Did, Cut, Met, Gone}
use Rattle.commit_log.specs.Parts.{did}
use Rattle.commit_log.specs.Legal.{space, space_after, space_from}
use Rattle.commit_log.proofs.SpaceLaws.{space-push}
use Rattle.commit_log.specs.Told.{cut_in}
use Rattle.commit_log.specs.Ids.{Numbering, first_numbering, id_at, with_new, move_of, move_in, moved_ids, unnumbered, numbering_after, numbering_from, ids}
use Rattle.commit_log.proofs.NumberingLaws.{ids-push}

-- ---- notes that leave the namespace

same_after : (users : List (List ℕ)) (old : Namespace) (note : Note) → did note ≡ None → cut_in note ≡ None → space_after users old note ≡ old
same_after users old (Open s client number node) d c = refl
same_after users old (Took s key mode) d c = refl
same_after users old (Gave s) d c = refl
same_after users old (Wrote s work) d c = refl
same_after users old (Did s client number call reads reply) d c = cc
same_after users old (Cut op path gone) d c = cc
same_after users old (Met s cause) d c = refl
same_after users old (Gone node ended) d c = refl

-- a note that is neither a Did nor a Cut leaves the namespace
pub space-same : (users : List (List ℕ)) (notes : List Note) (note : Note) → did note ≡ None → cut_in note ≡ None → space users (notes ++ note ∷ []) ≡ space users notes
space-same users notes note d c = space-push users notes note ∙ same_after users (space users notes) note d c

-- ---- each path that is there has an id, and no other

find_with_new : (q : Path) (paths : List Path) (numbering : Numbering) → is_some (id_at (with_new numbering paths) q) ≡ (is_some (id_at numbering q) || list_any (same_path q) paths)
find_with_new q [] numbering = or_false (is_some (id_at numbering q))
  where
    or_false : (b : Bool) → b ≡ (b || false)
    or_false true = refl
    or_false false = refl
find_with_new q (path ∷ paths) numbering =
    find_with_new q paths (record { ids = entries.put path_cmp path numbering.next numbering.ids; next = numbering.next + 1 })
    ∙ ap (λ (o : Option ℕ). is_some o || list_any (same_path q) paths) (entries.find-put path_cmp path_cmp_total q path numbering.next numbering.ids)
    ∙ turned (same_path q path) (id_at numbering q) (list_any (same_path q) paths)
  where
    turned : (b : Bool) (o : Option ℕ) (rest : Bool) → (is_some (cond b (Some numbering.next) o) || rest) ≡ (is_some o || (b || rest))
    turned true None rest = refl
    turned true (Some n) rest = refl
    turned false o rest = refl

is_tied : (o : Ordering) → is_eq o ≡ true → o ≡ Equal
is_tied Less e = cc
is_tied Equal e = refl
is_tied Greater e = cc

-- whatever the ids were before
numbered_after : (numbering : Numbering) (old new : Namespace) (note : Note) (q : Path) → is_some (id_at (numbering_after numbering old new note) q) ≡ exists new q
numbered_after numbering old new note q =
    find_with_new q (unnumbered given new) (record { ids = filter (λ (p : Path × ℕ). exists new p.0) given; next = numbering.next })
    ∙ ap (λ (o : Option ℕ). is_some o || list_any (same_path q) (unnumbered given new)) (entries.find-where_key path_cmp (exists new) q (λ x tied. ap is_some (entries.find_tied path_cmp path_cmp_total q x tied new)) given)
    ∙ ap (λ b. is_some (cond (exists new q) (entries.find path_cmp q given) None) || b)
    (any-filter_same (same_path q) (λ (path : Path). not (is_some (entries.find path_cmp path given))) (not (is_some (entries.find path_cmp q given)))
    (λ k tied. ap (λ (o : Option ℕ). not (is_some o)) (entries.find_tied path_cmp path_cmp_total q k (is_tied (path_cmp q k) tied) given)) (map (λ (e : Path × Entry). e.0) new))
    ∙ ap (λ b. is_some (cond (exists new q) (entries.find path_cmp q given) None) || (not (is_some (entries.find path_cmp q given)) && b)) (sym (entries.is_some-find path_cmp q new))
    ∙ both (exists new q) (entries.find path_cmp q given)
  where
    given : List (Path × ℕ)
    given = moved_ids (move_in old new note) numbering.ids

    both : (b : Bool) (o : Option ℕ) → (is_some (cond b o None) || (not (is_some o) && b)) ≡ b
    both true None = refl
    both true (Some n) = refl
    both false None = refl
    both false (Some n) = refl

numbered_from : (users : List (List ℕ)) (numbering : Numbering) (old : Namespace) → ((q : Path) → is_some (id_at numbering q) ≡ exists old q) → (notes : List Note) (q : Path)
    → is_some (id_at (numbering_from users numbering old notes) q) ≡ exists (space_from users old notes) q
numbered_from users numbering old numbered [] q = numbered q
numbered_from users numbering old numbered (n ∷ notes) q =
    numbered_from users (numbering_after numbering old (space_after users old n) n) (space_after users old n) (numbered_after numbering old (space_after users old n) n) notes q

-- the paths that have an id are those of the namespace
pub ids-exists : (users : List (List ℕ)) (notes : List Note) (path : Path) → is_some (id_at (ids users notes) path) ≡ exists (space users notes) path
unfolding ids space
ids-exists users notes path = numbered_from users first_numbering opening (λ q. root (same_path q [])) notes path
  where
    root : (b : Bool) → is_some {T = ℕ} (cond b (Some 1) None) ≡ is_some (cond b (Some (new_dir (codes "hdfs"))) None)
    root true = refl
    root false = refl

-- ---- notes that leave the ids

not_moved : (old : Namespace) (call : Call) → move_of old old call ≡ None
not_moved old (call.Mkdirs path) = refl
not_moved old (call.Create path overwrite) = refl
not_moved old (call.Append path) = refl
not_moved old (call.Grow path bytes) = refl
not_moved old (call.Close path) = refl
not_moved old (call.Stat path) = refl
not_moved old (call.List path) = refl
not_moved old (call.Delete path recursive) = refl
not_moved old (call.Rename source destination) = apart (exists old source) (Some (source, target_of old source destination))
  where
    apart : (b : Bool) (move : Option (Path × Path)) → (if b && not b then move else None) ≡ None
    apart true move = refl
    apart false move = refl
not_moved old (call.Chmod path mode) = refl
not_moved old (call.SetQuota path names bytes) = refl
not_moved old (call.Usage path) = refl

none_moved : (old : Namespace) (note : Note) → move_in old old note ≡ None
none_moved old (Open s client number node) = refl
none_moved old (Took s key mode) = refl
none_moved old (Gave s) = refl
none_moved old (Wrote s work) = refl
none_moved old (Did s client number call reads reply) = not_moved old call
none_moved old (Cut op path gone) = refl
none_moved old (Met s cause) = refl
none_moved old (Gone node ended) = refl

weaker : {A : Type 0} (e : Path × A) (es : List (Path × A)) (fs : List (Path × A)) → AllByRecursion (λ (f : Path × A). list_any (same_path f.0) (map (λ (g : Path × A). g.0) es) ≡ true) fs
    → AllByRecursion (λ (f : Path × A). list_any (same_path f.0) (map (λ (g : Path × A). g.0) (e ∷ es)) ≡ true) fs
weaker e es [] all = tt
weaker e es (f ∷ fs) all = (or_right (same_path f.0 e.0) _ all.0, weaker e es fs all.1)

among_itself : {A : Type 0} (es : List (Path × A)) → AllByRecursion (λ (f : Path × A). list_any (same_path f.0) (map (λ (g : Path × A). g.0) es) ≡ true) es
among_itself [] = tt
among_itself (e ∷ es) = (or_left (same_path e.0 e.0) _ (ap is_eq (tied_itself path_cmp_total e.0)), weaker e es es (among_itself es))

all_kept : (is : Path → Bool) (fs : List (Path × ℕ)) (P : Path × ℕ → Type 0) → ((f : Path × ℕ) → P f → is f.0 ≡ true) → AllByRecursion P fs → filter (λ (f : Path × ℕ). is f.0) fs ≡ fs
all_kept is [] P gives all = refl
all_kept is (f ∷ fs) P gives all = ap (λ b. cond b (f ∷ filter (λ (g : Path × ℕ). is g.0) fs) (filter (λ (g : Path × ℕ). is g.0) fs)) (gives f all.0) ∙ ap (λ (gs : List (Path × ℕ)). f ∷ gs) (all_kept is fs P gives all.1)

none_kept : (is : Path → Bool) (fs : Namespace) (P : Path × Entry → Type 0) → ((f : Path × Entry) → P f → is f.0 ≡ false) → AllByRecursion P fs → filter is (map (λ (f : Path × Entry). f.0) fs) ≡ []
none_kept is [] P gives all = refl
none_kept is (f ∷ fs) P gives all = ap (λ b. cond b (f.0 ∷ filter is (map (λ (g : Path × Entry). g.0) fs)) (filter is (map (λ (g : Path × Entry). g.0) fs))) (gives f all.0) ∙ none_kept is fs P gives all.1

still_numbered : (numbering : Numbering) (old : Namespace) (note : Note) → ((q : Path) → is_some (id_at numbering q) ≡ exists old q) → numbering_after numbering old old note ≡ numbering
still_numbered numbering old note numbered =
    ap (λ (move : Option (Path × Path)). with_new (record { ids = filter (λ (p : Path × ℕ). exists old p.0) (moved_ids move numbering.ids); next = numbering.next }) (unnumbered (moved_ids move numbering.ids) old)) (none_moved old note)
    ∙ ap (λ (paths : List Path). with_new (record { ids = filter (λ (p : Path × ℕ). exists old p.0) numbering.ids; next = numbering.next }) paths) none_new
    ∙ ap (λ (ids : List (Path × ℕ)). record { ids = ids; next = numbering.next }) all_there
  where
    none_new : unnumbered numbering.ids old ≡ []
    none_new =
        none_kept (λ (path : Path). not (is_some (entries.find path_cmp path numbering.ids))) old (λ (e : Path × Entry). list_any (same_path e.0) (map (λ (g : Path × Entry). g.0) old) ≡ true)
        (λ e there. ap not (numbered e.0 ∙ entries.is_some-find path_cmp e.0 old ∙ there)) (among_itself old)

    all_there : filter (λ (p : Path × ℕ). exists old p.0) numbering.ids ≡ numbering.ids
    all_there =
        all_kept (exists old) numbering.ids (λ (e : Path × ℕ). list_any (same_path e.0) (map (λ (g : Path × ℕ). g.0) numbering.ids) ≡ true)
        (λ e there. sym (numbered e.0) ∙ entries.is_some-find path_cmp e.0 numbering.ids ∙ there) (among_itself numbering.ids)

-- a note that leaves the namespace leaves the ids, a refused call too
pub ids-same : (users : List (List ℕ)) (notes : List Note) (note : Note) → space_after users (space users notes) note ≡ space users notes → ids users (notes ++ note ∷ []) ≡ ids users notes
ids-same users notes note same =
    ids-push users notes note
    ∙ ap (λ (new : Namespace). numbering_after (ids users notes) (space users notes) new note) same
    ∙ still_numbered (ids users notes) (space users notes) note (ids-exists users notes)

-- a note that is neither a Did nor a Cut leaves the ids
pub ids-quiet : (users : List (List ℕ)) (notes : List Note) (note : Note) → did note ≡ None → cut_in note ≡ None → ids users (notes ++ note ∷ []) ≡ ids users notes
ids-quiet users notes note d c = ids-same users notes note (same_after users (space users notes) note d c)
