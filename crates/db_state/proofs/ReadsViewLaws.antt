-- The view that a commit makes of what a session has read is current, once every row but the root's is locked or was read
-- again.
use Rattle.std.proofs.Common.{◌≡◌, ℕ, ◌≤◌, ◌<◌, zero, suc, true, List, [], ◌∷◌, length, drop, slice_get, Option, Some, arith, refl, sym, subst, ◌∙◌}
use Rattle.std.specs.List.{list_all, AllByRecursion}
use Rattle.hops_base.specs.declared.ids.OpId.{OpId}
use Rattle.hops_base.specs.declared.ids.Mode.{Mode}
use Rattle.hops_base.specs.declared.key.Key.{Key}
use Rattle.inode_table.specs.declared.inode.Inode.{Inode}
use Rattle.db_state.specs.declared.view.Place.{Place}
use Rattle.db_state.specs.declared.view.View.{View}
use Rattle.db_state.specs.Stored.{root_key, root_row}
use Rattle.db_state.specs.Spelled.{Inodes, IsTree}
use Rattle.db_state.specs.Stands.{Quotas}
use Rattle.db_state.specs.Plan.{plan}
use Rattle.db_state.specs.Current.{Spells, is_unflagged, IsThere, IsMissing, KnowsChild, IsCurrentPlace, SeesQuotas, IsCurrent}
use Rattle.db_state.specs.Reads.{Asked, Reads, locked_by, AllRead, IsChain, AreReads, ChainStands, AllStand, ReadsStand}
use Rattle.db_state.specs.ReadSteps.{AllPairs, IsAsRead, IsViewOfReads}
use Rattle.db_state.proofs.ReadsPlanLaws.{SameFound, SamePlace, plan-same, paths-same, places_of-same}

-- ---- places as they were read are the same to a plan

found_same : (rows : List (Key × Inode)) → AllPairs SameFound rows rows
found_same [] = tt
found_same (row ∷ rows) = (record { key = refl; same = record { id = refl; kind = refl; writer = refl; has_quota = refl } }, found_same rows)

pub as_read_same : (olds news : List Place) → AllPairs IsAsRead olds news → AllPairs SamePlace olds news
as_read_same [] [] all = tt
as_read_same [] (y ∷ ys) all = absurd all
as_read_same (x ∷ xs) [] all = absurd all
as_read_same (x ∷ xs) (y ∷ ys) all = (
  record { path = all.0.path; same_missing = all.0.missing; rows = subst (λ (f : _). AllPairs SameFound x.found.items f.items) (sym all.0.found) (found_same x.found.items) },
  as_read_same xs ys all.1,
)

-- ---- a place

module _ (inodes : Inodes) (next : ℕ) (tree : IsTree inodes next) (locked : List (Key × Mode)) (own : Option OpId) where
  root_there : (row : Key × Inode) → row ≡ (root_key, root_row) → IsThere inodes locked row
  root_there row is = subst (IsThere inodes locked) (sym is) (record { row = root_row; there = tree.root; id = refl; kind = refl; quota = λ has. has; whole = λ lock. refl })

  -- all rows are there, where those below the root's are
  all_there : (items : List (Key × Inode)) (mark : ℕ) → mark ≤ 1 → mark < length items → slice_get items 0 ≡ Some (root_key, root_row) → AllByRecursion (IsThere inodes locked) (drop mark items) → AllByRecursion (IsThere inodes locked) items
  all_there [] mark low some first part = absurd (let bad = first in cc)
  all_there (row ∷ rows) zero low some first part = part
  all_there (row ∷ rows) (suc zero) low some first part = (root_there row cc, part)
  all_there (row ∷ rows) (suc (suc n)) low some first part = absurd (omega arith)

  current_place : (mark : ℕ) (old new : Place) → mark ≤ 1 → IsChain locked own old → ChainStands inodes locked mark old → IsAsRead old new → KnowsChild inodes new → IsCurrentPlace inodes locked own new
  current_place mark old new low chain stands same child = record {
    spells = subst (λ (p : List (List ℕ)). Spells p new.found.items new.missing) (sym same.path)
        (subst (λ (f : _). Spells old.path f.items new.missing) (sym same.found) (subst (λ (m : Option Key). Spells old.path old.found.items m) (sym same.missing) chain.spells));
    there = subst (λ (f : _). AllByRecursion (IsThere inodes locked) f.items) (sym same.found) (all_there old.found.items mark low stands.some chain.root stands.part);
    missing = subst (IsMissing inodes) (sym same.missing) stands.missing;
    child = child;
    unflagged = subst (λ (f : _). list_all (λ (r : Key × Inode). is_unflagged own r.1.flag) f.items ≡ true) (sym same.found) chain.unflagged;
  }

  current_places : (marks : List ℕ) (olds news : List Place) → AllRead marks → AllByRecursion (IsChain locked own) olds → AllStand inodes locked marks olds → AllPairs IsAsRead olds news → AllByRecursion (KnowsChild inodes) news
      → AllByRecursion (IsCurrentPlace inodes locked own) news
  current_places marks [] [] low chains stand same child = tt
  current_places marks [] (y ∷ ys) low chains stand same child = absurd same
  current_places marks (x ∷ xs) [] low chains stand same child = absurd same
  current_places [] (x ∷ xs) (y ∷ ys) low chains stand same child = absurd stand
  current_places (mark ∷ marks) (x ∷ xs) (y ∷ ys) low chains stand same child = (
    current_place mark x y low.0 chains.0 stand.0 same.0 child.0,
    current_places marks xs ys low.1 chains.1 stand.1 same.1 child.1,
  )

-- the plan by the view is that by the reads
pub plan_of_view : (inodes : Inodes) (next : ℕ) (asked : Asked) (reads : Reads) (view : View) → IsViewOfReads inodes next asked.call reads view → plan asked.client asked.call view.places.items ≡ locked_by asked reads
plan_of_view inodes next asked reads view is = plan-same asked.client reads.places view.places.items (as_read_same reads.places view.places.items is.places) asked.call

-- the view is current
pub view_current : (inodes : Inodes) (next : ℕ) (quotas : Quotas) → IsTree inodes next → (asked : Asked) (reads : Reads) (view : View) → AreReads asked reads
    → ReadsStand inodes quotas (locked_by asked reads) reads → AllRead reads.marks → IsViewOfReads inodes next asked.call reads view → IsCurrent inodes quotas asked.own asked.client asked.call view
view_current inodes next quotas tree asked reads view are stand done is =
    let pairs = as_read_same reads.places view.places.items is.places in
    let plans : plan asked.client asked.call view.places.items ≡ locked_by asked reads = plan_of_view inodes next asked reads view is in
    record {
      places = paths-same reads.places view.places.items pairs ∙ are.places ∙ sym (places_of-same asked.call reads.places view.places.items pairs);
      current = subst (λ (l : List (Key × Mode)). AllByRecursion (IsCurrentPlace inodes l asked.own) view.places.items) (sym plans)
          (current_places inodes next tree (locked_by asked reads) asked.own reads.marks reads.places view.places.items done are.chains stand.chains is.places is.child);
      quotas = subst (λ (l : List (Key × Mode)). SeesQuotas quotas l view.quotas.items) (sym plans) (subst (SeesQuotas quotas (locked_by asked reads)) (sym is.quotas) stand.quotas);
      children = is.children;
      next = λ at row e. let range = tree.range at row e in subst (λ (n : ℕ). row.id.0 < n) (sym is.next_id) range.1;
    }
