-- Laws of rows that are found one by one along a path, from the root's on.
use Rattle.std.proofs.Common.{◌≡◌, ℕ, List, [], ◌∷◌, ◌++◌, None, refl, sym, ap, ◌∙◌}
use Rattle.hops_base.specs.declared.key.Key.{Key}
use Rattle.hops_base.specs.declared.key.Key.TheVariants as key
use Rattle.inode_table.specs.declared.inode.Inode.{Inode}
use Rattle.inode_table.specs.declared.inode.Kind.TheVariants.{Dir}
use Rattle.db_state.specs.Current.{Leads, stops_at}
use Rattle.db_state.specs.ReadSteps.{LeadsTo}

-- with the row of the next name they lead on
pub leads_further : (row : Inode) (names : List (List ℕ)) (rows : List (Key × Inode)) (last : Inode) (name : List ℕ) (rest : List (List ℕ)) (new : Inode) → last.kind ≡ Dir → LeadsTo row names rows last (name ∷ rest)
    → LeadsTo row names (rows ++ (key.Inode last.id name, new) ∷ []) new rest
leads_further row [] [] last name rest new dir leads = absurd (let bad : [] ≡ name ∷ rest = leads.1 in cc)
leads_further row (n ∷ names) [] last name rest new dir leads =
    let names_are : n ∷ names ≡ name ∷ rest = leads.1 in
    let here : n ≡ name = cc in
    let below : names ≡ rest = cc in
    (ap (λ (r : Inode). r.kind) leads.0 ∙ dir, ap (λ (r : Inode). key.Inode r.id name) (sym leads.0) ∙ ap (λ (m : List ℕ). key.Inode row.id m) (sym here), (refl, below))
leads_further row [] (next ∷ rows) last name rest new dir leads = absurd leads
leads_further row (n ∷ names) (next ∷ rows) last name rest new dir leads = (leads.0, leads.1, leads_further next.1 names rows last name rest new dir leads.2)

-- with no name left they lead to the end of the path
pub leads_whole : (row : Inode) (names : List (List ℕ)) (rows : List (Key × Inode)) (last : Inode) → LeadsTo row names rows last [] → Leads row names rows None
leads_whole row [] [] last leads = (refl, refl)
leads_whole row (n ∷ names) [] last leads = absurd (let bad : n ∷ names ≡ [] = leads.1 in cc)
leads_whole row [] (next ∷ rows) last leads = absurd leads
leads_whole row (n ∷ names) (next ∷ rows) last leads = (leads.0, leads.1, leads_whole next.1 names rows last leads.2)

-- with no row for the next name they lead to a gap: in a directory that name is the first missing one, and below a file none is
pub leads_stop : (row : Inode) (names : List (List ℕ)) (rows : List (Key × Inode)) (last : Inode) (name : List ℕ) (rest : List (List ℕ)) → LeadsTo row names rows last (name ∷ rest) → Leads row names rows (stops_at last.kind last.id name)
leads_stop row [] [] last name rest leads = absurd (let bad : [] ≡ name ∷ rest = leads.1 in cc)
leads_stop row (n ∷ names) [] last name rest leads =
    let names_are : n ∷ names ≡ name ∷ rest = leads.1 in
    let here : n ≡ name = cc in
    ap (λ (r : Inode). stops_at r.kind r.id name) (sym leads.0) ∙ ap (stops_at row.kind row.id) (sym here)
leads_stop row [] (next ∷ rows) last name rest leads = absurd leads
leads_stop row (n ∷ names) (next ∷ rows) last name rest leads = (leads.0, leads.1, leads_stop next.1 names rows last name rest leads.2)
