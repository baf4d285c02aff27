use Rattle.std.proofs.Common.{◌∙◌, ◌++◌, ◌∷◌, [], ap, sym}
use Rattle.hops_base.specs.Roomy.{Roomy}
use Rattle.name_space.specs.declared.entry.Entry.{Entry}
use Rattle.name_space.specs.Namespace.{Path}
use Rattle.commit_log.specs.Legal.{space}
use Rattle.db_state.specs.Stored.{root_key, root_row}
use Rattle.db_state.specs.Stands.{entry_of_kind}
use Rattle.db_state.proofs.WalkLemmas.{IsWalked, IsStep, walked_first, not_missing, step_walked, step_less}
use Rattle.db_state.proofs.tree.tree_of.Goals as goal

pub loop-path-init : goal.loop-path-init
loop-path-init c =
    let first : IsWalked c.args.db.now.stored.inodes (space c.args.db.now.stored.settings.users c.args.db.now.stored.notes) [] (([], root_key) ∷ []) =
    walked_first c.args.db.now.stored.inodes c.args.db.now.stored.quotas (space c.args.db.now.stored.settings.users c.args.db.now.stored.notes) c.core.ensures.stored.names c.core.ensures.stored.stands root_row root_key c.core.ensures.stored.tree.root c.core.ensures.stored.tree.root in
    rw (c.new-tree.ensures, c.in_ok-push.ensures.items, c.new-pending.ensures.items, c.root.ensures, c.in_ok-copy.ensures, c.root_key.ensures) first

pub unreachable-requires : goal.unreachable-requires
unreachable-requires c =
    not_missing c.args.db.now.stored.inodes (space c.args.db.now.stored.settings.users c.args.db.now.stored.notes) c.loop-path.tree.items c.loop-path.pending.items c.pop.new.self.items (c.in-Some.path, c.in-Some.key) c.loop-path.invariant c.in-Some.ensures.items (sym c.in_default-inode.ensures)

-- where the key that was taken is an inode's
step_inode : (c : goal.After-drop-key-in-Some) → IsStep c.args.db.now.stored.inodes c.args.db.now.stored.quotas c.loop-path.tree.items c.push-in-Some.new.self.items c.loop-path.pending.items c.add_children.new.pending.items
step_inode c = record {
  rest = c.pop.new.self.items;
  place = (c.in-Some.path, c.in-Some.key);
  row = c.in-Some-inode.row.now;
  popped = c.in-Some.ensures.items;
  there = sym c.in-Some-inode.ensures;
  pushed = c.in_ok-add_children.ensures;
  told = ap (λ (t : Roomy (Path × Entry)). t.items) c.push-in-Some.ensures
      ∙ ap (λ (t : Roomy (Path × Entry)). t.items ++ (c.in-Some.path, c.in_ok-entry.entry) ∷ []) c.in_ok-reserve.ensures.ok
      ∙ ap (λ (e : Entry). c.loop-path.tree.items ++ (c.in-Some.path, e) ∷ []) (c.in_ok-entry.ensures ∙ ap (entry_of_kind c.in-Some-inode.row.now.kind c.in-Some-inode.row.now) c.quota.ensures);
}

pub loop-path-smaller-in_ok-reserve : goal.loop-path-smaller-in_ok-reserve
loop-path-smaller-in_ok-reserve c = step_less c.args.db.now.stored.inodes c.args.db.now.stored.quotas (space c.args.db.now.stored.settings.users c.args.db.now.stored.notes) c.core.ensures.stored.names c.core.ensures.stored.stands _ _ _ _ (step_inode c) c.loop-path.invariant

pub loop-path-preserved-in_ok-reserve : goal.loop-path-preserved-in_ok-reserve
loop-path-preserved-in_ok-reserve c = step_walked c.args.db.now.stored.inodes c.args.db.now.stored.quotas (space c.args.db.now.stored.settings.users c.args.db.now.stored.notes) c.core.ensures.stored.names c.core.ensures.stored.stands _ _ _ _ (step_inode c) c.loop-path.invariant

-- where it is another
step_other : (c : goal.In-Quota-4) → IsStep c.args.db.now.stored.inodes c.args.db.now.stored.quotas c.loop-path.tree.items c.push-in-Some.new.self.items c.loop-path.pending.items c.add_children.new.pending.items
step_other c = record {
  rest = c.pop.new.self.items;
  place = (c.in-Some.path, c.in-Some.key);
  row = c.in-Some-inode.row.now;
  popped = c.in-Some.ensures.items;
  there = sym c.in-Some-inode.ensures;
  pushed = c.in_ok-add_children.ensures;
  told = ap (λ (t : Roomy (Path × Entry)). t.items) c.push-in-Some.ensures
      ∙ ap (λ (t : Roomy (Path × Entry)). t.items ++ (c.in-Some.path, c.in_ok-entry.entry) ∷ []) c.in_ok-reserve.ensures.ok
      ∙ ap (λ (e : Entry). c.loop-path.tree.items ++ (c.in-Some.path, e) ∷ []) (c.in_ok-entry.ensures ∙ ap (entry_of_kind c.in-Some-inode.row.now.kind c.in-Some-inode.row.now) c.quota.ensures);
}

pub loop-path-smaller : goal.loop-path-smaller
loop-path-smaller c = step_less c.args.db.now.stored.inodes c.args.db.now.stored.quotas (space c.args.db.now.stored.settings.users c.args.db.now.stored.notes) c.core.ensures.stored.names c.core.ensures.stored.stands _ _ _ _ (step_other c) c.loop-path.invariant

pub loop-path-preserved : goal.loop-path-preserved
loop-path-preserved c = step_walked c.args.db.now.stored.inodes c.args.db.now.stored.quotas (space c.args.db.now.stored.settings.users c.args.db.now.stored.notes) c.core.ensures.stored.names c.core.ensures.stored.stands _ _ _ _ (step_other c) c.loop-path.invariant
