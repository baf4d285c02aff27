-- A step is made of what its parts give.
use Rattle.std.proofs.Common.{◌≡◌, ℕ, List, Option, subst}
use Rattle.std.specs.Prelude.{option_copied}
use Rattle.hops_base.specs.declared.key.Key.{Key}
use Rattle.inode_table.specs.declared.inode.Inode.{Inode}
use Rattle.name_space.specs.Namespace.{Path}
use Rattle.db_state.specs.declared.session.Session.{Session}
use Rattle.db_state.specs.Stored.{Stored}
use Rattle.path_resolver.specs.declared.step.End.{End}
use Rattle.path_resolver.specs.declared.step.Lists.{Lists}
use Rattle.path_resolver.specs.declared.step.Look.{Look}
use Rattle.path_resolver.specs.declared.way.Way.{Way}
use Rattle.path_resolver.specs.Resolving.{begun, counted_for, next_read}
use Rattle.path_resolver.specs.Stepping.{rows_after, since_by, IsBegun, IsEnd, IsLook, IsStepOf}
use Rattle.path_resolver.specs.Ways.{rows_of, IsWay}

end_along : (doing : Session) (path : Path) (rows : List (Key × Inode)) (missing : Option Key) (way : Way) (end : Option End) → IsWay path rows missing way
    → IsEnd doing way.path.now (rows_of way) (option_copied way.missing) end → IsEnd doing path rows missing end
end_along doing path rows missing way end is ends =
    subst (λ (p : Path). IsEnd doing p rows missing end) is.of
    (subst (λ (rs : List (Key × Inode)). IsEnd doing way.path.now rs missing end) is.has
    (subst (λ (m : Option Key). IsEnd doing way.path.now (rows_of way) m end) is.lacks ends))

pub step_made : (stored : Stored) (doing : Session) (path : Path) (found rows : List (Key × Inode)) (lists : Option Lists) (look : Look) (way : Way) (end : Option End) (since reads : ℕ)
    → since ≡ since_by stored doing found → reads ≡ counted_for path doing.reads → IsBegun path found lists → rows ≡ begun found
    → IsLook stored.inodes (next_read path rows) look → IsWay path (rows_after rows look.row) look.missing way → IsEnd doing way.path.now (rows_of way) (option_copied way.missing) end
    → IsStepOf stored doing path found (record { since = since; reads = reads; begun = lists; look = look; end = end })
step_made stored doing path found rows lists look way end since reads long counted listed are looked is ends = record {
  since = long;
  reads = counted;
  lists = listed;
  look = subst (λ (rs : List (Key × Inode)). IsLook stored.inodes (next_read path rs) look) are looked;
  end = subst (λ (rs : List (Key × Inode)). IsEnd doing path (rows_after rs look.row) look.missing end) are (end_along doing path (rows_after rows look.row) look.missing way end is ends);
}
