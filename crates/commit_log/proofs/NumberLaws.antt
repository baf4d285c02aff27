-- Laws of the ids that a history gives to new paths: the missing prefixes of a path take the next ones in turn.
use Rattle.std.specs.Prelude.{◌≡◌, ℕ, Bool, true, false, cond, not, ◌&&◌, ◌||◌, List, [], ◌∷◌, map, Option, Some, None, is_some}
use Rattle.std.proofs.Common.{refl, sym, ap, ◌∙◌, inl, inr}
use Rattle.std.specs.List.{filter}
use Rattle.std.specs.FinMap.Entries as entries
use Rattle.hops_base.specs.Path.{path_cmp, same_path}
use Rattle.hops_base.proofs.Tells.{paths_tell}
use Rattle.name_space.specs.declared.entry.Entry.{Entry}
use Rattle.name_space.specs.Namespace.{Namespace, Path, exists, is_within, prefixes, missing}
use Rattle.name_space.specs.Cut.{is_among}
use Rattle.name_space.proofs.PrefixLaws.{among-filter, among-missing}
use Rattle.name_space.proofs.RisingLaws.{same_rising, is_rising-keys, is_rising-prefixes, is_rising-filter}
use Rattle.commit_log.specs.declared.note.Note.{Note}
use Rattle.commit_log.specs.Ids.{Numbering, id_at, with_new, move_in, moved_ids, unnumbered, numbering_after}

-- all pass the test that is passed wherever there is an id
kept_all : (test : Path → Bool) (ids : List (Path × ℕ)) → ((q : Path) → is_some (entries.find path_cmp q ids) ≡ true → test q ≡ true) → filter (λ (p : Path × ℕ). test p.0) ids ≡ ids
kept_all test [] pass = refl
kept_all test (e ∷ ids) pass =
    let here : test e.0 ≡ true = pass e.0 (elim (paths_tell e.0 e.0) [ inl h ↦ rw h.0 refl | inr h ↦ absurd (h.1 refl) ]) in
    let rest = kept_all test ids (λ q some. pass q (later (same_path q e.0) (entries.find path_cmp q ids) some)) in
    ap (λ (b : Bool). cond b (e ∷ filter (λ (p : Path × ℕ). test p.0) ids) (filter (λ (p : Path × ℕ). test p.0) ids)) here ∙ ap (λ (es : List (Path × ℕ)). e ∷ es) rest
  where
    later : (b : Bool) (o : Option ℕ) → is_some o ≡ true → is_some (cond b (Some e.1) o) ≡ true
    later true o some = refl
    later false o some = some

only_new : (a b : Bool) → (not a && (a || b)) ≡ (not a && b)
only_new true b = refl
only_new false b = refl

also_new : (a b : Bool) → a ≡ true → (a || b) ≡ true
also_new true b e = refl
also_new false b e = cc

-- where a note that moves nothing adds the missing prefixes of a path, they take the next ids from the top on
pub numbering-missing : (numbering : Numbering) (old new : Namespace) (note : Note) (path : Path)
    → move_in old new note ≡ None → ((q : Path) → is_some (id_at numbering q) ≡ exists old q)
    → entries.is_sorted path_cmp new ≡ true → ((q : Path) → exists new q ≡ (exists old q || is_within q path))
    → numbering_after numbering old new note ≡ with_new numbering (missing old path)
numbering-missing numbering old new note path still numbered rises added =
    let same : moved_ids (move_in old new note) numbering.ids ≡ numbering.ids = ap (λ (m : Option (Path × Path)). moved_ids m numbering.ids) still in
    let all : filter (λ (p : Path × ℕ). exists new p.0) numbering.ids ≡ numbering.ids = kept_all (exists new) numbering.ids (λ q some. added q ∙ also_new (exists old q) (is_within q path) (sym (numbered q) ∙ some)) in
    let fresh : unnumbered numbering.ids new ≡ missing old path = same_rising (unnumbered numbering.ids new) (missing old path)
    (is_rising-keys (λ (p : Path). not (is_some (entries.find path_cmp p numbering.ids))) new rises)
    (is_rising-filter (λ (up : Path). not (exists old up)) (prefixes path) (is_rising-prefixes path))
    (λ q. among-filter (λ (p : Path). not (is_some (entries.find path_cmp p numbering.ids))) (map (λ (e : Path × Entry). e.0) new) q
    ∙ ap (λ (b : Bool). not b && is_among (map (λ (e : Path × Entry). e.0) new) q) (numbered q)
    ∙ ap (λ (b : Bool). not (exists old q) && b) (sym (entries.is_some-find path_cmp q new) ∙ added q)
    ∙ only_new (exists old q) (is_within q path) ∙ sym (among-missing old path q)) in
    ap (λ (ids : List (Path × ℕ)). with_new (record { ids = filter (λ (p : Path × ℕ). exists new p.0) ids; next = numbering.next }) (unnumbered ids new)) same
    ∙ ap (λ (ids : List (Path × ℕ)). with_new (record { ids = ids; next = numbering.next }) (unnumbered numbering.ids new)) all
    ∙ ap (with_new numbering) fresh
