-- What is consistent: the opening, and what is so with a note more that leaves the namespace.
use Rattle.std.specs.Prelude.{◌≡◌, ℕ, List, [], ◌∷◌, ◌++◌, reverse, Some, None, refl}
use Rattle.std.proofs.Common.{sym, ap, subst, ◌∙◌}
use Rattle.std.specs.FinMap as map
use Rattle.std.proofs.lemmas.List.{reverse-reverse}
use Rattle.hops_base.specs.Key.{key_cmp}
use Rattle.hops_base.specs.declared.key.Key.TheVariants as key
use Rattle.name_space.specs.Namespace.{Namespace, Path, IsNamespace}
use Rattle.name_space.proofs.NamespaceLaws.{opening_is_a_namespace}
use Rattle.inode_table.specs.declared.inode.Inode.{Inode}
use Rattle.quota_table.specs.declared.quota.QuotaRow.{QuotaRow}
use Rattle.commit_log.specs.declared.note.Note.{Note}
use Rattle.commit_log.specs.declared.note.Note.TheVariants.{Open, Took, Gave, Wrote, Did, Cut, Met, Gone}
use Rattle.commit_log.proofs.AlongLaws.{Each-none, Each-push}
use Rattle.commit_log.specs.Ids.{Numbering, first_numbering, id_at, ids}
use Rattle.commit_log.proofs.NumberingLaws.{ids-none}
use Rattle.commit_log.proofs.IdLaws.{space-same, ids-quiet}
use Rattle.commit_log.specs.Legal.{LegalIn, LegalAt, space}
use Rattle.commit_log.proofs.SpaceLaws.{space-none}
use Rattle.commit_log.specs.Parts.{did}
use Rattle.commit_log.specs.Told.{cut_in}
use Rattle.db_state.specs.Settings.{Settings}
use Rattle.db_state.specs.Stored.{Stored, opening_stored, opening_rows, root_row}
use Rattle.db_state.specs.Spelled.{AreGiven, spelled}
use Rattle.db_state.specs.Stands.{Stands}
use Rattle.db_state.specs.Counts.{Counts}
use Rattle.db_state.specs.Written.{committed}
use Rattle.db_state.specs.Consistent.{IsConsistent}
use Rattle.db_state.proofs.OpeningLaws.{opening_tree, opening_stands, only_root, root_there, no_other}

given_up : (up : List (List ℕ)) (path : Path) → reverse path ≡ up → (row : Inode) → spelled opening_rows up ≡ Some row → id_at first_numbering path ≡ Some row.id.0
given_up [] path is row e =
    let root : path ≡ [] = sym (reverse-reverse path) ∙ ap reverse is in
    let same : root_row ≡ row = (let there = root_there in cc) in
    ap (id_at first_numbering) root ∙ ap (λ (r : Inode). Some r.id.0) same
given_up (name ∷ up) path is row e = absurd (let none = no_other name up in cc)

-- before anything happened all of it is consistent
pub opening_consistent : (settings : Settings) → IsConsistent (opening_stored settings)
opening_consistent settings = record {
  tree = opening_tree;
  numbered = record {
    given = subst (AreGiven opening_rows) (sym (ids-none settings.users)) (λ path row e. given_up (reverse path) path refl row e);
    least = ap (λ (n : Numbering). n.next) (sym (ids-none settings.users));
  };
  legal = Each-none (LegalAt settings.users);
  names = subst IsNamespace (sym (space-none settings.users)) opening_is_a_namespace;
  stands = subst (Stands opening_rows map.empty []) (sym (space-none settings.users)) opening_stands;
  counts = λ path row quota there e. absurd (let none = map.get-empty {X = QuotaRow} key_cmp (key.Quota row.id) in cc);
  flags = λ at row e. ap (λ (r : Inode). r.flag) (only_root at row e).1;
}

legal_quiet : (users : List (List ℕ)) (old : Namespace) (note : Note) → did note ≡ None → cut_in note ≡ None → LegalIn users old note
legal_quiet users old (Open s client number node) d c = tt
legal_quiet users old (Took s at mode) d c = tt
legal_quiet users old (Gave s) d c = tt
legal_quiet users old (Wrote s work) d c = tt
legal_quiet users old (Did s client number call reads reply) d c = absurd (let bad = d in cc)
legal_quiet users old (Cut op path gone) d c = absurd (let bad = c in cc)
legal_quiet users old (Met s cause) d c = tt
legal_quiet users old (Gone node ended) d c = tt

-- what is consistent stays so with one note more that is neither a Did nor a Cut
pub noted_consistent : (state : Stored) (note : Note) → IsConsistent state → did note ≡ None → cut_in note ≡ None → IsConsistent (committed state [] (note ∷ []))
noted_consistent state note kept d c =
    let same : space state.settings.users (state.notes ++ note ∷ []) ≡ space state.settings.users state.notes = space-same state.settings.users state.notes note d c in
    let same_ids : ids state.settings.users (state.notes ++ note ∷ []) ≡ ids state.settings.users state.notes = ids-quiet state.settings.users state.notes note d c in
    record {
      tree = kept.tree;
      numbered = record {
        given = subst (AreGiven state.inodes) (sym same_ids) kept.numbered.given;
        least = kept.numbered.least ∙ ap (λ (n : Numbering). n.next) (sym same_ids);
      };
      legal = Each-push (LegalAt state.settings.users) state.notes note kept.legal (legal_quiet state.settings.users (space state.settings.users state.notes) note d c);
      names = subst IsNamespace (sym same) kept.names;
      stands = subst (Stands state.inodes state.quotas []) (sym same) kept.stands;
      counts = subst (Counts state.inodes state.quotas) (sym same) kept.counts;
      flags = kept.flags;
    }
