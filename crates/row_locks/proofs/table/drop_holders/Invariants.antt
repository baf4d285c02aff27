use Rattle.std.proofs.Common.{◌≡◌, if◌then◌else◌, take}
use Rattle.std.specs.List.{list_any}
use Rattle.hops_base.specs.declared.key.Key.{Key}
use Rattle.hops_base.specs.Key.{key_cmp, same_key}
use Rattle.row_locks.specs.Holders.{without}
use Rattle.row_locks.specs.Lists.{items_at, IsLists}
use Rattle.row_locks.proofs.table.drop_holders.Given as goal

-- the session is out of the holders of the keys so far
abbrev pub invariant-loop-key : goal.invariant-loop-key
invariant-loop-key l = record {
  lists : IsLists key_cmp l.holders;
  items : (q : Key) → items_at key_cmp l.holders q ≡ (if list_any (same_key q) (take l.key-index l.keys) then without (items_at key_cmp l.fn.holders q) l.s else items_at key_cmp l.fn.holders q);
}
