-- A session that holds what its call locks by the rows as they are holds what whoever answers must hold.
use Rattle.std.proofs.Common.{◌≡◌, ℕ, Bool, true, false, cond, ◌&&◌, List, [], ◌∷◌, ◌++◌, length, take, reverse, unwrap_or, Option, Some, None, is_some, option_map, refl, sym, ap, subst, ◌∙◌, append_assoc, inl, inr}
use Rattle.std.specs.FinMap as map
use Rattle.std.specs.Option.{option_or}
use Rattle.std.specs.List.{filter, last_or, list_all, AllByRecursion}
use Rattle.std.proofs.lemmas.Bool.{or_left, or_right}
use Rattle.std.proofs.lemmas.List.{reverse-append}
use Rattle.std.proofs.lemmas.List.Elements.{filter-append}
use Rattle.std.proofs.lemmas.List.Folds.{list_any-append}
use Rattle.hops_base.specs.Path.{parent_of}
use Rattle.hops_base.specs.declared.ids.ClientNo.{ClientNo}
use Rattle.hops_base.specs.declared.ids.Mode.{Mode}
use Rattle.hops_base.specs.declared.ids.Mode.TheVariants.{Exclusive}
use Rattle.hops_base.specs.declared.ids.SessionId.{SessionId}
use Rattle.hops_base.specs.declared.key.Key.{Key}
use Rattle.hops_base.specs.declared.key.Key.TheVariants as key
use Rattle.hops_base.specs.Key.{same_key}
use Rattle.hops_base.proofs.Tells.{keys_tell}
use Rattle.name_space.specs.declared.call.Call.{Call}
use Rattle.name_space.specs.declared.reply.Reply.{Reply}
use Rattle.name_space.specs.Call.{paths_of}
use Rattle.name_space.specs.Namespace.{Namespace, Path, above, exists, paths_below, prefixes}
use Rattle.name_space.proofs.ChainLaws.{prefixes-append}
use Rattle.commit_log.specs.declared.note.Note.TheVariants.{Did}
use Rattle.commit_log.specs.Ids.{ids, inode_key, inode_key_under, id_at, nearest_path, Numbering}
use Rattle.commit_log.specs.Kept.{holds, holds_path, AnswersHeldAt}
use Rattle.commit_log.specs.Legal.{space}
use Rattle.commit_log.specs.Locks.{held}
use Rattle.commit_log.specs.Parts.{passes}
use Rattle.inode_table.specs.declared.inode.Inode.{Inode}
use Rattle.inode_table.specs.declared.inode.Kind.{Kind}
use Rattle.inode_table.specs.declared.inode.Kind.TheVariants.{Dir, File}
use Rattle.db_state.specs.declared.view.Place.{Place}
use Rattle.db_state.specs.Consistent.{IsConsistent}
use Rattle.db_state.specs.Current.{is_locked, stops_at, IsMissing, Leads, Spells}
use Rattle.db_state.specs.Holding.{HoldsAll}
use Rattle.db_state.specs.Plan.{path_keys, plan}
use Rattle.db_state.specs.PlaceOf.{IsFound, IsPlaceOf}
use Rattle.db_state.specs.Reads.{EndsLocked}
use Rattle.db_state.specs.ReadSteps.{IsOfPath}
use Rattle.db_state.specs.Spelled.{child_of, row_of, spelled, AreGiven, IsTree}
use Rattle.db_state.specs.Stands.{entry_of, Stands}
use Rattle.db_state.specs.Stored.{Inodes, Quotas, Stored}
use Rattle.db_state.proofs.ReadLaws.{none_under_file}
use Rattle.db_state.proofs.ReadsEndLaws.{ends_locked, plan_of_path}
use Rattle.db_state.proofs.UnderLaws.{row_of_child}

-- ---- ends of lists

pub last_push : {A : Type 0} (o : Option A) (xs : List A) (x : A) → last_or o (xs ++ x ∷ []) ≡ Some x
last_push o [] x = refl
last_push o (y ∷ xs) x = last_push (Some y) xs x

take_push : {A : Type 0} (xs : List A) (x y : A) → take (length (xs ++ x ∷ [])) (y ∷ xs ++ x ∷ []) ≡ y ∷ xs
take_push [] x y = refl
take_push (z ∷ xs) x y = ap (λ l. y ∷ l) (take_push xs x z)

parent_push : (up : Path) (name : List ℕ) → parent_of (up ++ name ∷ []) ≡ Some up
parent_push [] name = refl
parent_push (n ∷ up) name = ap (λ l. Some l) (take_push up name n)

-- the last of these rows
abbrev pub last_from : Key × Inode → List (Key × Inode) → Key × Inode
last_from first [] = first
last_from first (found ∷ rows) = last_from found rows

last_locked : (locked : List (Key × Mode)) (first : Key × Inode) (rows : List (Key × Inode)) → EndsLocked locked (first ∷ rows) → is_locked locked (last_from first rows).0 ≡ true
last_locked locked first [] ends = ends
last_locked locked first (found ∷ rows) ends = last_locked locked found rows ends

-- ---- the longest prefix of a path that exists

module _ (inodes : Inodes) (next : ℕ) (tree : IsTree inodes next) (quotas : Quotas) (names_of : Namespace) (stands : Stands inodes quotas [] names_of) (numbering : Numbering) (given : AreGiven inodes numbering) where
  absent : (path : Path) → row_of inodes path ≡ None → exists names_of path ≡ false
  absent path none = ap is_some (stands.entries path ∙ ap (λ (o : Option Inode). option_or None (option_map (entry_of quotas) o)) none)

  present : (path : Path) (row : Inode) → row_of inodes path ≡ Some row → exists names_of path ≡ true
  present path row here = ap is_some (stands.entries path ∙ ap (λ (o : Option Inode). option_or None (option_map (entry_of quotas) o)) here)

  none_child : (up : Path) (name : List ℕ) → row_of inodes up ≡ None → row_of inodes (up ++ name ∷ []) ≡ None
  none_child up name none = ap (spelled inodes) (reverse-append up (name ∷ [])) ∙ ap (child_of inodes name) none

  -- below what isn't there nothing exists
  none_below : (names : List (List ℕ)) (up : Path) (name : List ℕ) → row_of inodes (up ++ name ∷ []) ≡ None → filter (exists names_of) (paths_below up (name ∷ names)) ≡ []
  none_below [] up name none = ap (λ (b : Bool). cond b ((up ++ name ∷ []) ∷ []) []) (absent (up ++ name ∷ []) none)
  none_below (n ∷ names) up name none =
      ap (λ (b : Bool). cond b ((up ++ name ∷ []) ∷ filter (exists names_of) (paths_below (up ++ name ∷ []) (n ∷ names))) (filter (exists names_of) (paths_below (up ++ name ∷ []) (n ∷ names)))) (absent (up ++ name ∷ []) none)
      ∙ none_below names (up ++ name ∷ []) n (none_child (up ++ name ∷ []) n none)

  -- where the names end at this row, this prefix of the path is the longest that exists, and has the row's key
  record IsNear (path : Path) (end : Key × Inode) : Type 0 where
    near : Path
    rest : List (List ℕ)
    split : path ≡ near ++ rest
    here : row_of inodes near ≡ Some end.1
    at : inode_key numbering near ≡ Some end.0
    none : filter (exists names_of) (paths_below near rest) ≡ []

  nearest : (path : Path) (end : Key × Inode) (is : IsNear path end) → nearest_path names_of path ≡ Some is.near
  nearest path end is =
      let alone : filter (exists names_of) (is.near ∷ paths_below is.near is.rest) ≡ is.near ∷ [] =
      ap (λ (b : Bool). cond b (is.near ∷ filter (exists names_of) (paths_below is.near is.rest)) (filter (exists names_of) (paths_below is.near is.rest))) (present is.near end.1 is.here)
      ∙ ap (λ (l : List Path). is.near ∷ l) is.none in
      ap (λ (p : Path). last_or None (filter (exists names_of) (prefixes p))) is.split
      ∙ ap (λ (l : List Path). last_or None (filter (exists names_of) l)) (prefixes-append is.near is.rest)
      ∙ ap (last_or None) (filter-append (exists names_of) (above is.near) (is.near ∷ paths_below is.near is.rest))
      ∙ ap (λ (l : List Path). last_or None (filter (exists names_of) (above is.near) ++ l)) alone
      ∙ last_push None (filter (exists names_of) (above is.near)) is.near

  -- the key of a path is that of its row
  key_below : (up : Path) (name : List ℕ) (row : Inode) → row_of inodes up ≡ Some row → inode_key numbering (up ++ name ∷ []) ≡ Some (key.Inode row.id name)
  key_below up name row here =
      ap (inode_key_under numbering (up ++ name ∷ [])) (parent_push up name)
      ∙ ap (λ (n : List ℕ). option_map (λ (id : ℕ). key.Inode (record { 0 = id }) n) (id_at numbering up)) (ap (λ (o : Option (List ℕ)). unwrap_or o []) (last_push None up name))
      ∙ ap (option_map (λ (id : ℕ). key.Inode (record { 0 = id }) name)) (given up row here)

  stopped : (up : Path) (name : List ℕ) (row : Inode) (kind : Kind) (missing : Option Key) → row_of inodes up ≡ Some row → row.kind ≡ kind → missing ≡ stops_at kind row.id name → IsMissing inodes missing → row_of inodes (up ++ name ∷ []) ≡ None
  stopped up name row Dir missing here is stops gone = row_of_child inodes up row name here ∙ subst (IsMissing inodes) stops gone
  stopped up name row File missing here is stops gone = row_of_child inodes up row name here ∙ none_under_file inodes next tree quotas names_of stands (reverse up) row name here is

  near_end : (names : List (List ℕ)) (up : Path) (first : Key × Inode) (rows : List (Key × Inode)) (missing : Option Key) → row_of inodes up ≡ Some first.1 → inode_key numbering up ≡ Some first.0
      → Leads first.1 names rows missing → AllByRecursion (IsFound inodes) rows → IsMissing inodes missing → IsNear (up ++ names) (last_from first rows)
  near_end [] up first [] missing here at leads there gone = record { near = up; rest = []; split = refl; here = here; at = at; none = refl }
  near_end [] up first (found ∷ rows) missing here at leads there gone = absurd (let bad : found ∷ rows ≡ [] = leads.0 in cc)
  near_end (name ∷ names) up first [] missing here at leads there gone =
      record { near = up; rest = name ∷ names; split = refl; here = here; at = at; none = none_below names up name (stopped up name first.1 first.1.kind missing here refl leads gone) }
  near_end (name ∷ names) up first (found ∷ rows) missing here at leads there gone =
      let below : row_of inodes (up ++ name ∷ []) ≡ Some found.1 = row_of_child inodes up first.1 name here ∙ ap (map.get inodes) (sym leads.1) ∙ there.0 in
      let key_there : inode_key numbering (up ++ name ∷ []) ≡ Some found.0 = key_below up name first.1 here ∙ ap (λ (k : Key). Some k) (sym leads.1) in
      subst (λ (p : Path). IsNear p (last_from found rows)) (append_assoc up (name ∷ []) names) (near_end names (up ++ name ∷ []) found rows missing below key_there leads.2 there.1 gone)

  -- so it is of the last row of a path's place, which is locked
  near_locked : (locked : List (Key × Mode)) (path : Path) (items : List (Key × Inode)) (missing : Option Key) → Spells path items missing → AllByRecursion (IsFound inodes) items → IsMissing inodes missing → EndsLocked locked items
      → (end : Key × Inode) × IsNear path end × (is_locked locked end.0 ≡ true)
  near_locked locked path [] missing spells there gone ends = absurd spells
  near_locked locked path (root ∷ rows) missing spells there gone ends = (
    last_from root rows,
    near_end path [] root rows missing (ap (map.get inodes) (sym spells.0) ∙ there.0) (ap (λ (k : Key). Some k) (sym spells.0)) spells.1 there.1 gone,
    last_locked locked root rows ends,
  )

-- ---- what a session holds

itself : (k : Key) → same_key k k ≡ true
itself k = elim (keys_tell k k) [ inl h ↦ h.0 | inr h ↦ absurd (h.1 refl) ]

-- a call's plan has its client's reply key
reply_locked : (client : ClientNo) (asked : Call) (place : Place) → IsOfPath asked → is_locked (plan client asked (place ∷ [])) (key.Reply client) ≡ true
reply_locked client asked place of =
    ap (λ (l : List (Key × Mode)). is_locked l (key.Reply client)) (plan_of_path client asked place of)
    ∙ list_any-append (λ (l : Key × Mode). same_key (key.Reply client) l.0) (path_keys client asked place ++ []) ((key.Reply client, Exclusive) ∷ [])
    ∙ or_right (is_locked (path_keys client asked place ++ []) (key.Reply client)) (is_locked ((key.Reply client, Exclusive) ∷ []) (key.Reply client))
    (or_left (same_key (key.Reply client) (key.Reply client)) false (itself (key.Reply client)))

-- who holds the plan over the places as they are holds what is asked of an answer
pub answer_held : (state : Stored) (s : SessionId) (client : ClientNo) (number reads : ℕ) (asked : Call) (reply : Reply) (path : Path) (place : Place)
    → IsConsistent state → IsOfPath asked → paths_of asked ≡ path ∷ [] → IsPlaceOf state.inodes path place → HoldsAll (held state.notes) s (plan client asked (place ∷ []))
    → AnswersHeldAt state.settings.users state.notes (Did s client number asked reads reply)
answer_held state s client number reads asked reply path place kept of one is all =
    let ends = ends_locked client asked place of is.spells in
    let near = near_locked state.inodes state.next kept.tree state.quotas (space state.settings.users state.notes) kept.stands (ids state.settings.users state.notes) kept.numbered.given
    (plan client asked (place ∷ [])) path place.found.items place.missing (subst (λ (p : Path). Spells p place.found.items place.missing) is.of is.spells) is.there is.gone ends in
    let by_path : holds_path state.settings.users state.notes s path ≡ true =
    ap (passes (λ (n : Path). passes (holds state.notes s) (inode_key (ids state.settings.users state.notes) n)))
    (nearest state.inodes state.next kept.tree state.quotas (space state.settings.users state.notes) kept.stands (ids state.settings.users state.notes) kept.numbered.given path near.0 near.1)
    ∙ ap (passes (holds state.notes s)) near.1.at
    ∙ all.any near.0.0 near.2 in (
      all.any (key.Reply client) (reply_locked client asked place of),
      ap (list_all (holds_path state.settings.users state.notes s)) one ∙ ap (λ (b : Bool). b && true) by_path,
    )
