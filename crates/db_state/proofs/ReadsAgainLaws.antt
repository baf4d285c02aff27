-- Laws of rows that are read again: all locked ones at once, and then those above them one by one.
use Rattle.std.proofs.Common.{◌≡◌, ℕ, ◌-◌, ◌<◌, zero, suc, Bool, true, false, List, [], ◌∷◌, length, drop, set, slice_get, Option, Some, arith, refl, sym, ap, subst, ◌∙◌}
use Rattle.std.specs.FinMap as map
use Rattle.std.specs.List.{AllByRecursion}
use Rattle.hops_base.specs.declared.ids.InodeId.{InodeId}
use Rattle.hops_base.specs.declared.ids.OpId.{OpId}
use Rattle.hops_base.specs.declared.ids.Mode.{Mode}
use Rattle.hops_base.specs.declared.key.Key.{Key}
use Rattle.hops_base.specs.declared.key.Key.TheVariants as key
use Rattle.inode_table.specs.declared.inode.Inode.{Inode}
use Rattle.inode_table.specs.declared.inode.Kind.{Kind}
use Rattle.db_state.specs.declared.view.Place.{Place}
use Rattle.db_state.specs.Stored.{root_key, root_row}
use Rattle.db_state.specs.Spelled.{Inodes, IsTree}
use Rattle.db_state.specs.Stands.{Quotas}
use Rattle.db_state.specs.Current.{Leads, Spells, stops_at, is_locked, IsThere, IsMissing, SeesQuotas}
use Rattle.db_state.specs.Reads.{Asked, Reads, locked_by, EndsLocked, IsChain, AreReads, IsHeldRow, ChainStands, AllStand, ReadsStand}
use Rattle.db_state.specs.ReadSteps.{SameRow, IsFoundAgain, IsReadAgain, AllPairs, IsPlaceRead, last_marks}
use Rattle.db_state.proofs.ReadsPlanLaws.{SameFound, SamePlace, plan-same, paths-same, places_of-same}

-- ---- one row more

-- what stands at a place of a list stands first behind those before it
drop_at : {A : Type 0} (xs : List A) (i : ℕ) (x : A) → slice_get xs i ≡ Some x → drop i xs ≡ x ∷ drop (suc i) xs
drop_at [] i x is = absurd (let bad = is in cc)
drop_at (y ∷ xs) zero x is = let same : y ≡ x = cc in ap (λ z. z ∷ xs) same
drop_at (y ∷ xs) (suc i) x is = drop_at xs i x is

all_at : (P : Key × Inode → Type 0) (rows : List (Key × Inode)) (i : ℕ) (r : Key × Inode) → AllByRecursion P rows → slice_get rows i ≡ Some r → P r
all_at P [] i r all is = absurd (let bad = is in cc)
all_at P (x ∷ rows) zero r all is = let same : x ≡ r = cc in subst P same all.0
all_at P (x ∷ rows) (suc i) r all is = all_at P rows i r all.1 is

module _ (inodes : Inodes) (locked : List (Key × Mode)) (mark : ℕ) (place : Place) (stands : ChainStands inodes locked (suc mark) place) (r : Key × Inode) (at : slice_get place.found.items mark ≡ Some r) where
  one_more : IsThere inodes locked r → ChainStands inodes locked mark place
  one_more there = record {
    some = (let low : suc mark < length place.found.items = stands.some in omega arith);
    part = subst (AllByRecursion (IsThere inodes locked)) (sym (drop_at place.found.items mark r at)) (there, stands.part);
    held = stands.held;
    missing = stands.missing;
  }

  -- a locked row is passed over
  pub passed_over : is_locked locked r.0 ≡ true → ChainStands inodes locked mark place
  passed_over lock = one_more (record { row = r.1; there = all_at (IsHeldRow inodes locked) place.found.items mark r stands.held at lock; id = refl; kind = refl; quota = λ has. has; whole = λ again. refl })

  -- any other is read again, and must be as it was found
  pub reread : is_locked locked r.0 ≡ false → IsFoundAgain inodes r → ChainStands inodes locked mark place
  reread free again = one_more (record {
    row = again.now;
    there = again.there;
    id = again.same.id;
    kind = again.same.kind;
    quota = λ has. sym again.same.has_quota ∙ has;
    whole = λ lock. absurd (let bad : true ≡ false = sym lock ∙ free in cc);
  })

-- one of the marks moves up
marks_set : (inodes : Inodes) (locked : List (Key × Mode)) (marks : List ℕ) (places : List Place) (i mark : ℕ) (place : Place) → slice_get marks i ≡ Some (suc mark) → slice_get places i ≡ Some place
    → (ChainStands inodes locked (suc mark) place → ChainStands inodes locked mark place) → AllStand inodes locked marks places → AllStand inodes locked (set marks i mark) places
marks_set inodes locked marks [] i mark place at is step stand = tt
marks_set inodes locked [] (p ∷ places) i mark place at is step stand = absurd stand
marks_set inodes locked (m ∷ marks) (p ∷ places) zero mark place at is step stand =
    let one : m ≡ suc mark = cc in
    let same : p ≡ place = cc in
    (subst (λ (q : Place). ChainStands inodes locked mark q) (sym same) (step (subst (λ (q : Place). ChainStands inodes locked (suc mark) q) same (subst (λ (n : ℕ). ChainStands inodes locked n p) one stand.0))), stand.1)
marks_set inodes locked (m ∷ marks) (p ∷ places) (suc i) mark place at is step stand = (stand.0, marks_set inodes locked marks places i mark place at is step stand.1)

-- the reads stand from one row further up
pub stand_further : (inodes : Inodes) (quotas : Quotas) (locked : List (Key × Mode)) (reads : Reads) → ReadsStand inodes quotas locked reads
    → (i mark : ℕ) (place : Place) (r : Key × Inode) → slice_get reads.marks i ≡ Some (suc mark) → slice_get reads.places i ≡ Some place → slice_get place.found.items mark ≡ Some r
    → (is_locked locked r.0 ≡ false → IsFoundAgain inodes r) → ReadsStand inodes quotas locked (record reads { marks = set reads.marks i mark })
stand_further inodes quotas locked reads stand i mark place r at is here again = record {
  chains = marks_set inodes locked reads.marks reads.places i mark place at is (λ chain. go chain (is_locked locked r.0) refl) stand.chains;
  quotas = stand.quotas;
}
  where
    go : ChainStands inodes locked (suc mark) place → (b : Bool) → is_locked locked r.0 ≡ b → ChainStands inodes locked mark place
    go chain true lock = passed_over inodes locked mark place chain r here lock
    go chain false free = reread inodes locked mark place chain r here free (again free)

-- ---- all locked rows

found_pairs : (inodes : Inodes) (locked : List (Key × Mode)) (olds news : List (Key × Inode)) → AllPairs (IsReadAgain inodes locked) olds news → AllPairs SameFound olds news
found_pairs inodes locked [] [] all = tt
found_pairs inodes locked [] (y ∷ ys) all = absurd all
found_pairs inodes locked (x ∷ xs) [] all = absurd all
found_pairs inodes locked (x ∷ xs) (y ∷ ys) all = (record { key = all.0.key; same = all.0.same }, found_pairs inodes locked xs ys all.1)

-- a place that is read again is the same to a plan
pub place_same : (inodes : Inodes) (locked : List (Key × Mode)) (own : Option OpId) (old new : Place) → IsPlaceRead inodes locked own old new → SamePlace old new
place_same inodes locked own old new is = record { path = is.path; same_missing = is.same_missing; rows = found_pairs inodes locked old.found.items new.found.items is.rows }

module _ (inodes : Inodes) (locked : List (Key × Mode)) where
  ends_again : (olds news : List (Key × Inode)) → AllPairs (IsReadAgain inodes locked) olds news → EndsLocked locked olds → EndsLocked locked news
  ends_again [] [] all ends = absurd ends
  ends_again [] (y ∷ ys) all ends = absurd all
  ends_again (x ∷ xs) [] all ends = absurd all
  ends_again (x ∷ []) (y ∷ []) all ends = ap (is_locked locked) all.0.key ∙ ends
  ends_again (x ∷ []) (y ∷ z ∷ ys) all ends = absurd all.1
  ends_again (x ∷ w ∷ xs) (y ∷ []) all ends = absurd all.1
  ends_again (x ∷ w ∷ xs) (y ∷ z ∷ ys) all ends = ends_again (w ∷ xs) (z ∷ ys) all.1 ends

  leads_again : (names : List (List ℕ)) (row row' : Inode) (olds news : List (Key × Inode)) (missing missing' : Option Key) → SameRow row row' → AllPairs (IsReadAgain inodes locked) olds news → missing' ≡ missing
      → Leads row names olds missing → Leads row' names news missing'
  leads_again [] row row' [] [] missing missing' same all gone leads = (refl, gone ∙ leads.1)
  leads_again [] row row' [] (y ∷ ys) missing missing' same all gone leads = absurd all
  leads_again [] row row' (x ∷ xs) news missing missing' same all gone leads = absurd (let bad : x ∷ xs ≡ [] = leads.0 in cc)
  leads_again (name ∷ names) row row' [] [] missing missing' same all gone leads =
      gone ∙ leads ∙ ap (λ (k : Kind). stops_at k row.id name) (sym same.kind) ∙ ap (λ (i : InodeId). stops_at row'.kind i name) (sym same.id)
  leads_again (name ∷ names) row row' [] (y ∷ ys) missing missing' same all gone leads = absurd all
  leads_again (name ∷ names) row row' (x ∷ xs) [] missing missing' same all gone leads = absurd all
  leads_again (name ∷ names) row row' (x ∷ xs) (y ∷ ys) missing missing' same all gone leads = (
    same.kind ∙ leads.0,
    all.0.key ∙ leads.1 ∙ ap (λ (i : InodeId). key.Inode i name) (sym same.id),
    leads_again names x.1 y.1 xs ys missing missing' all.0.same all.1 gone leads.2,
  )

  spells_again : (path : List (List ℕ)) (olds news : List (Key × Inode)) (missing missing' : Option Key) → AllPairs (IsReadAgain inodes locked) olds news → missing' ≡ missing → Spells path olds missing → Spells path news missing'
  spells_again path [] news missing missing' all gone spells = absurd spells
  spells_again path (x ∷ xs) [] missing missing' all gone spells = absurd all
  spells_again path (x ∷ xs) (y ∷ ys) missing missing' all gone spells = (all.0.key ∙ spells.0, leads_again path x.1 y.1 xs ys missing missing' all.0.same all.1 gone spells.1)

  -- the root's row is fixed, read again or not
  root_again : (olds news : List (Key × Inode)) → map.get inodes root_key ≡ Some root_row → AllPairs (IsReadAgain inodes locked) olds news → slice_get olds 0 ≡ Some (root_key, root_row) → slice_get news 0 ≡ Some (root_key, root_row)
  root_again [] news rooted all first = absurd (let bad = first in cc)
  root_again (x ∷ xs) [] rooted all first = absurd all
  root_again (x ∷ xs) (y ∷ ys) rooted all first = go (is_locked locked x.0) refl
    where
      x_is : x ≡ (root_key, root_row)
      x_is = cc

      go : (b : Bool) → is_locked locked x.0 ≡ b → Some y ≡ Some (root_key, root_row)
      go true lock =
          let there : map.get inodes root_key ≡ Some y.1 = ap (λ (r : Key × Inode). map.get inodes r.0) (sym x_is) ∙ all.0.held lock in
          let rows : Some y.1 ≡ Some root_row = sym there ∙ rooted in
          let row : y.1 ≡ root_row = cc in
          let at : y.0 ≡ root_key = all.0.key ∙ ap (λ (r : Key × Inode). r.0) x_is in
          λ i. Some (at i, row i)
      go false free =
          let row : y.1 ≡ root_row = all.0.other free ∙ ap (λ (r : Key × Inode). r.1) x_is in
          let at : y.0 ≡ root_key = all.0.key ∙ ap (λ (r : Key × Inode). r.0) x_is in
          λ i. Some (at i, row i)

  held_again : (olds news : List (Key × Inode)) → AllPairs (IsReadAgain inodes locked) olds news → AllByRecursion (IsHeldRow inodes locked) news
  held_again [] [] all = tt
  held_again [] (y ∷ ys) all = absurd all
  held_again (x ∷ xs) [] all = absurd all
  held_again (x ∷ xs) (y ∷ ys) all = (λ lock. ap (map.get inodes) all.0.key ∙ all.0.held (ap (is_locked locked) (sym all.0.key) ∙ lock), held_again xs ys all.1)

  -- the last row is there, as it is locked
  last_stands : (row : Key × Inode) (rows : List (Key × Inode)) → EndsLocked locked (row ∷ rows) → AllByRecursion (IsHeldRow inodes locked) (row ∷ rows) → AllByRecursion (IsThere inodes locked) (drop (length rows) (row ∷ rows))
  last_stands row [] ends held = (record { row = row.1; there = held.0 ends; id = refl; kind = refl; quota = λ has. has; whole = λ lock. refl }, tt)
  last_stands row (next ∷ rows) ends held = last_stands next rows ends held.1

  -- what was read for a path, and whose locked rows are read again, stands from its last row on
  pub place_stands : (own : Option OpId) (old new : Place) → map.get inodes root_key ≡ Some root_row → IsChain locked own old → IsPlaceRead inodes locked own old new
      → IsChain locked own new × ChainStands inodes locked (length new.found.items - 1) new
  place_stands own old new rooted chain is =
      let spells = spells_again old.path old.found.items new.found.items old.missing new.missing is.rows is.same_missing chain.spells in
      let ends = ends_again old.found.items new.found.items is.rows chain.ends in
      let held = held_again old.found.items new.found.items is.rows in (
        record {
          spells = subst (λ (p : List (List ℕ)). Spells p new.found.items new.missing) (sym is.path) spells;
          root = root_again old.found.items new.found.items rooted is.rows chain.root;
          ends = ends;
          unflagged = is.unflagged;
        },
        go new.found.items refl ends held,
      )
    where
      go : (items : List (Key × Inode)) → new.found.items ≡ items → EndsLocked locked items → AllByRecursion (IsHeldRow inodes locked) items → ChainStands inodes locked (length new.found.items - 1) new
      go [] e ends held = absurd ends
      go (row ∷ rows) e ends held =
          let long : length new.found.items ≡ suc (length rows) = ap length e in
          let mark : length new.found.items - 1 ≡ length rows = omega arith in
          record {
            some = omega arith;
            part = subst (λ (items : List (Key × Inode)). AllByRecursion (IsThere inodes locked) (drop (length new.found.items - 1) items)) (sym e)
                (subst (λ (n : ℕ). AllByRecursion (IsThere inodes locked) (drop n (row ∷ rows))) (sym mark) (last_stands row rows ends held));
            held = subst (AllByRecursion (IsHeldRow inodes locked)) (sym e) held;
            missing = subst (IsMissing inodes) (sym is.same_missing) is.missing;
          }

  pub places_stand : (own : Option OpId) (olds news : List Place) → map.get inodes root_key ≡ Some root_row → AllByRecursion (IsChain locked own) olds → AllPairs (IsPlaceRead inodes locked own) olds news
      → AllByRecursion (IsChain locked own) news × AllStand inodes locked (last_marks news) news
  places_stand own [] [] rooted chains all = (tt, tt)
  places_stand own [] (y ∷ ys) rooted chains all = absurd all
  places_stand own (x ∷ xs) [] rooted chains all = absurd all
  places_stand own (x ∷ xs) (y ∷ ys) rooted chains all =
      let here = place_stands own x y rooted chains.0 all.0 in
      let rest = places_stand own xs ys rooted chains.1 all.1 in
      ((here.0, rest.0), (here.1, rest.1))

places_same : (inodes : Inodes) (locked : List (Key × Mode)) (own : Option OpId) (olds news : List Place) → AllPairs (IsPlaceRead inodes locked own) olds news → AllPairs SamePlace olds news
places_same inodes locked own [] [] all = tt
places_same inodes locked own [] (y ∷ ys) all = absurd all
places_same inodes locked own (x ∷ xs) [] all = absurd all
places_same inodes locked own (x ∷ xs) (y ∷ ys) all = (place_same inodes locked own x y all.0, places_same inodes locked own xs ys all.1)

-- the plan stays the same
pub plan_read : (inodes : Inodes) (asked : Asked) (old new : Reads) → AllPairs (IsPlaceRead inodes (locked_by asked old) asked.own) old.places new.places → locked_by asked new ≡ locked_by asked old
plan_read inodes asked old new read = plan-same asked.client old.places new.places (places_same inodes (locked_by asked old) asked.own old.places new.places read) asked.call

-- the reads stand
pub read_stands : (inodes : Inodes) (next : ℕ) (quotas : Quotas) → IsTree inodes next → (asked : Asked) (old new : Reads) → AreReads asked old
    → AllPairs (IsPlaceRead inodes (locked_by asked old) asked.own) old.places new.places → new.marks ≡ last_marks new.places → SeesQuotas quotas (locked_by asked old) new.quotas
    → AreReads asked new × ReadsStand inodes quotas (locked_by asked new) new
read_stands inodes next quotas tree asked old new are read marks sees =
    let same = places_same inodes (locked_by asked old) asked.own old.places new.places read in
    let plans : locked_by asked new ≡ locked_by asked old = plan_read inodes asked old new read in
    let stand = places_stand inodes (locked_by asked old) asked.own old.places new.places tree.root are.chains read in (
      record {
        places = paths-same old.places new.places same ∙ are.places ∙ sym (places_of-same asked.call old.places new.places same);
        chains = subst (λ (l : List (Key × Mode)). AllByRecursion (IsChain l asked.own) new.places) (sym plans) stand.0;
      },
      subst (λ (l : List (Key × Mode)). ReadsStand inodes quotas l new) (sym plans) (record {
        chains = subst (λ (ms : List ℕ). AllStand inodes (locked_by asked old) ms new.places) (sym marks) stand.1;
        quotas = sees;
      }),
    )
