-- What one more read gives of rows that lead along a path from the root's.
use Rattle.std.proofs.Common.{◌≡◌, ◌≢◌, ℕ, ◌+◌, ◌-◌, ◌≤◌, false, List, [], ◌∷◌, ◌++◌, length, slice_get, Option, Some, None, option_to_list, option_and_then, arith, refl, sym, ap, subst, ◌∙◌, inl, inr, append-nil}
use Rattle.std.specs.FinMap as map
use Rattle.std.specs.List.{AllByRecursion}
use Rattle.hops_base.specs.declared.key.Key.{Key}
use Rattle.hops_base.specs.declared.key.Key.TheVariants as key
use Rattle.hops_base.specs.Key.{same_key}
use Rattle.inode_table.specs.declared.inode.Inode.{Inode}
use Rattle.inode_table.specs.declared.inode.Kind.{Kind}
use Rattle.inode_table.specs.declared.inode.Kind.TheVariants.{Dir, File}
use Rattle.name_space.specs.Namespace.{Path}
use Rattle.db_state.specs.Current.{Leads, Spells, stops_at}
use Rattle.db_state.specs.PlaceOf.{IsFound}
use Rattle.db_state.specs.ReadSteps.{LeadsTo}
use Rattle.db_state.specs.SessionParts.{LeadAlong}
use Rattle.db_state.specs.Stored.{Inodes, root_key, root_row}
use Rattle.db_state.proofs.ReadsFoundLaws.{leads_further, leads_whole, leads_stop}
use Rattle.path_resolver.specs.Resolving.{begun, next_read, read_at, with_read, IsResolved}

-- the rows lead from the root's along the path to a last one, below which these names are left
pub record Along (path : Path) (rows : List (Key × Inode)) : Type 0 where
  pub below : List (Key × Inode)
  pub end : Inode
  pub rest : List (List ℕ)
  pub are : rows ≡ (root_key, root_row) ∷ below
  pub leads : LeadsTo root_row path below end rest

-- so do the rows found so far
pub along_begun : (path : Path) (found : List (Key × Inode)) → LeadAlong path found → Along path (begun found)
along_begun path [] lead = record { below = []; end = root_row; rest = path; are = refl; leads = (refl, refl) }
along_begun path (row ∷ rows) lead = record {
  below = rows;
  end = lead.1;
  rest = lead.2;
  are = ap (λ (r : Key × Inode). r ∷ rows) lead.0;
  leads = subst (λ (r : Key × Inode). LeadsTo r.1 path rows lead.1 lead.2) lead.0 lead.3;
}

pub lead_along : (path : Path) (rows : List (Key × Inode)) → Along path rows → LeadAlong path rows
lead_along path rows a = subst (λ (rs : List (Key × Inode)). LeadAlong path rs) (sym a.are) (refl, a.end, a.rest, a.leads)

-- ---- the last row, and the next name

last_along : (row : Key × Inode) (names : List (List ℕ)) (below : List (Key × Inode)) (end : Inode) (rest : List (List ℕ)) → LeadsTo row.1 names below end rest → (at : Key) × (slice_get (row ∷ below) (length below) ≡ Some (at, end))
last_along row names [] end rest leads = (row.0, ap (λ (r : Inode). Some (row.0, r)) leads.0)
last_along row [] (next ∷ below) end rest leads = absurd leads
last_along row (name ∷ names) (next ∷ below) end rest leads = last_along next names below end rest leads.2

name_along : (row : Inode) (names : List (List ℕ)) (below : List (Key × Inode)) (end : Inode) (rest : List (List ℕ)) → LeadsTo row names below end rest → slice_get names (length below) ≡ slice_get rest 0
name_along row names [] end rest leads = ap (λ (ns : List (List ℕ)). slice_get ns 0) leads.1
name_along row [] (next ∷ below) end rest leads = absurd leads
name_along row (name ∷ names) (next ∷ below) end rest leads = name_along next.1 names below end rest leads.2

-- the key of the first name that is left
pub next_along : (path : Path) (rows : List (Key × Inode)) (a : Along path rows) → next_read path rows ≡ option_and_then (stops_at a.end.kind a.end.id) (slice_get a.rest 0)
next_along path rows a =
    let all : List (Key × Inode) = (root_key, root_row) ∷ a.below in
    let found = last_along (root_key, root_row) path a.below a.end a.rest a.leads in
    let long : length ((root_key, root_row) ∷ a.below) - 1 ≡ length a.below = omega arith in
    ap (next_read path) a.are
    ∙ ap (λ (n : ℕ). option_and_then (λ (r : Key × Inode). option_and_then (stops_at r.1.kind r.1.id) (slice_get path n)) (slice_get ((root_key, root_row) ∷ a.below) n)) long
    ∙ ap (option_and_then (λ (r : Key × Inode). option_and_then (stops_at r.1.kind r.1.id) (slice_get path (length a.below)))) found.1
    ∙ ap (option_and_then (stops_at a.end.kind a.end.id)) (name_along root_row path a.below a.end a.rest a.leads)

long_along : (row : Inode) (names : List (List ℕ)) (below : List (Key × Inode)) (end : Inode) (rest : List (List ℕ)) → LeadsTo row names below end rest → length names ≡ length below + length rest
long_along row names [] end rest leads = ap (λ (ns : List (List ℕ)). length ns) leads.1 ∙ none (length rest)
  where
    none : (n : ℕ) → n ≡ 0 + n
    none n = omega arith
long_along row [] (next ∷ below) end rest leads = absurd leads
long_along row (name ∷ names) (next ∷ below) end rest leads =
    let more : length names ≡ length below + length rest = long_along next.1 names below end rest leads.2 in
    omega arith

-- where a name is left, there are no more rows than names
pub room_along : (path : Path) (rows : List (Key × Inode)) (at : Key) → Along path rows → next_read path rows ≡ Some at → length rows ≤ length path
room_along path rows at a is = go a.rest a.leads (sym (next_along path rows a) ∙ is)
  where
    go : (rest : List (List ℕ)) → LeadsTo root_row path a.below a.end rest → option_and_then (stops_at a.end.kind a.end.id) (slice_get rest 0) ≡ Some at → length rows ≤ length path
    go [] leads here = absurd (let bad : None ≡ Some at = here in cc)
    go (name ∷ rest) leads here =
        let long : length path ≡ length a.below + length (name ∷ rest) = long_along root_row path a.below a.end (name ∷ rest) leads in
        let many : length rows ≡ length ((root_key, root_row) ∷ a.below) = ap (λ (rs : List (Key × Inode)). length rs) a.are in
        omega arith

-- the rows spell the path as far as that key, or to its end
pub spells_next : (path : Path) (rows : List (Key × Inode)) → Along path rows → Spells path rows (next_read path rows)
spells_next path rows a =
    subst (λ (missing : Option Key). Spells path rows missing) (sym (next_along path rows a))
    (subst (λ (rs : List (Key × Inode)). Spells path rs (option_and_then (stops_at a.end.kind a.end.id) (slice_get a.rest 0))) (sym a.are) (refl, go a.rest a.leads))
  where
    go : (rest : List (List ℕ)) → LeadsTo root_row path a.below a.end rest → Leads root_row path a.below (option_and_then (stops_at a.end.kind a.end.id) (slice_get rest 0))
    go [] leads = leads_whole root_row path a.below a.end leads
    go (name ∷ rest) leads = leads_stop root_row path a.below a.end name rest leads

-- with the row of that key they lead on
pub along_further : (path : Path) (rows : List (Key × Inode)) (at : Key) (new : Inode) → Along path rows → next_read path rows ≡ Some at → (a : Along path (rows ++ (at, new) ∷ [])) × (a.end ≡ new)
along_further path rows at new a is = go a.rest a.end.kind refl (sym (next_along path rows a) ∙ is) a.leads
  where
    go : (rest : List (List ℕ)) (kind : Kind) → a.end.kind ≡ kind → option_and_then (stops_at a.end.kind a.end.id) (slice_get rest 0) ≡ Some at → LeadsTo root_row path a.below a.end rest → (b : Along path (rows ++ (at, new) ∷ [])) × (b.end ≡ new)
    go [] kind so here leads = absurd (let bad : None ≡ Some at = here in cc)
    go (name ∷ rest) File so here leads = absurd (let bad : None ≡ Some at = sym (ap (λ (k : Kind). stops_at k a.end.id name) so) ∙ here in cc)
    go (name ∷ rest) Dir so here leads =
        let keys : Some (key.Inode a.end.id name) ≡ Some at = sym (ap (λ (k : Kind). stops_at k a.end.id name) so) ∙ here in
        let one : key.Inode a.end.id name ≡ at = cc in (
          record {
            below = a.below ++ (at, new) ∷ [];
            end = new;
            rest = rest;
            are = ap (λ (rs : List (Key × Inode)). rs ++ (at, new) ∷ []) a.are;
            leads = subst (λ (k : Key). LeadsTo root_row path (a.below ++ (k, new) ∷ []) new rest) one (leads_further root_row path a.below a.end name rest new so leads);
          },
          refl,
        )

-- ---- one read

-- what it gives: a row or a missing key where something is to be read, and the rows lead on along the path, to its end where it
-- is resolved, and else to a row whose number isn't 0
pub record Gets (inodes : Inodes) (path : Path) (rows : List (Key × Inode)) (next : Option Key) (got : List (Key × Inode) × Option Key) : Type 0 where
  pub row : List (Key × Inode)
  pub missed : List Key
  pub has : got.0 ≡ rows ++ row
  pub lacks : option_to_list got.1 ≡ missed
  pub along : Along path got.0
  pub spells : IsResolved path got → Spells path got.0 got.1
  pub low : (IsResolved path got → ⊥) → 1 ≤ along.end.id.0
  pub there : AllByRecursion (IsFound inodes) row
  pub gone : AllByRecursion (λ (at : Key). map.get inodes at ≡ None) missed
  pub apart : AllByRecursion (λ (r : Key × Inode). same_key r.0 root_key ≡ false) row
  pub one : length row + length missed ≤ 1
  pub some : next ≢ None → length row + length missed ≡ 1
  pub none : next ≡ None → length row + length missed ≡ 0

module _ (inodes : Inodes) (path : Path) (rows : List (Key × Inode)) (a : Along path rows) (range : (at : Key) (row : Inode) → map.get inodes at ≡ Some row → 1 ≤ row.id.0) where
  gets_none : next_read path rows ≡ None → Gets inodes path rows None (rows, None)
  gets_none is = record {
    row = [];
    missed = [];
    has = sym (append-nil rows);
    lacks = refl;
    along = a;
    spells = λ done. subst (λ (missing : Option Key). Spells path rows missing) is (spells_next path rows a);
    low = λ more. absurd (more (inr is));
    there = tt;
    gone = tt;
    apart = tt;
    one = omega arith;
    some = λ some. absurd (some refl);
    none = λ none. refl;
  }

  gets_gap : (at : Key) → next_read path rows ≡ Some at → map.get inodes at ≡ None → Gets inodes path rows (Some at) (rows, Some at)
  gets_gap at is gone = record {
    row = [];
    missed = at ∷ [];
    has = sym (append-nil rows);
    lacks = refl;
    along = a;
    spells = λ done. subst (λ (missing : Option Key). Spells path rows missing) is (spells_next path rows a);
    low = λ more. absurd (more (inl (λ e. absurd (let bad : Some at ≡ None = e in cc))));
    there = tt;
    gone = (gone, tt);
    apart = tt;
    one = omega arith;
    some = λ some. refl;
    none = λ none. absurd (let bad : Some at ≡ None = none in cc);
  }

  gets_row : (at : Key) (new : Inode) → next_read path rows ≡ Some at → map.get inodes at ≡ Some new → same_key at root_key ≡ false → Gets inodes path rows (Some at) (rows ++ (at, new) ∷ [], None)
  gets_row at new is there other =
      let further = along_further path rows at new a is in
      record {
        row = (at, new) ∷ [];
        missed = [];
        has = refl;
        lacks = refl;
        along = further.0;
        spells = λ done. subst (λ (missing : Option Key). Spells path (rows ++ (at, new) ∷ []) missing) (ends done) (spells_next path (rows ++ (at, new) ∷ []) further.0);
        low = λ more. subst (λ (row : Inode). 1 ≤ row.id.0) (sym further.1) (range at new there);
        there = (there, tt);
        gone = tt;
        apart = (other, tt);
        one = omega arith;
        some = λ some. refl;
        none = λ none. absurd (let bad : Some at ≡ None = none in cc);
      }
    where
      ends : IsResolved path (rows ++ (at, new) ∷ [], None) → next_read path (rows ++ (at, new) ∷ []) ≡ None
      ends (inl missing) = absurd (missing refl)
      ends (inr end) = end

  pub gets : ((at : Key) → next_read path rows ≡ Some at → same_key at root_key ≡ false) → Gets inodes path rows (next_read path rows) (read_at inodes rows (next_read path rows))
  gets other = go (next_read path rows) refl
    where
      looked : (at : Key) → next_read path rows ≡ Some at → (o : Option Inode) → map.get inodes at ≡ o → Gets inodes path rows (Some at) (with_read rows at o)
      looked at is None there = gets_gap at is there
      looked at is (Some new) there = gets_row at new is there (other at is)

      go : (next : Option Key) → next_read path rows ≡ next → Gets inodes path rows next (read_at inodes rows next)
      go None is = gets_none is
      go (Some at) is = looked at is (map.get inodes at) refl
