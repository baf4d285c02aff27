-- Samples: stages of a session that goes on. Nothing but the worked examples rests on them.
use Rattle.std.specs.Prelude.{ℕ, true, List, [], ◌∷◌}
use Rattle.hops_base.specs.declared.hint.Hint.{Hint}
use Rattle.hops_base.specs.declared.key.Key.{Key}
use Rattle.hops_base.specs.Roomy.{Roomy}
use Rattle.inode_table.specs.declared.inode.Inode.{Inode}
use Rattle.commit_log.specs.Samples.{d_key}
use Rattle.db_state.specs.declared.session.Stage.{Stage}
use Rattle.db_state.specs.declared.session.Stage.TheVariants.{Resolve, Lock, Read, Reread, Commit}
use Rattle.db_state.specs.declared.view.Place.{Place}
use Rattle.db_state.specs.Stored.{Inodes, Stored, root_key, root_row, opening_stored}
use Rattle.db_state.specs.Reads.{Reads}
use Rattle.db_state.specs.Steps.{no_items}
use Rattle.db_state.specs.CoreSamples.{one_client}
use Rattle.db_state.specs.ReadSamples.{x_key, reads, alone}

-- a list with no more room than it has items
abbrev pub list_of : {A : Type 0} → ℕ → List A → Roomy A
list_of n items = record { items = items; room = n }

-- no place is whole, and these rows were found
abbrev pub finds : List (Key × Inode) → Stage
finds rows = Resolve no_items (list_of 9 rows)

-- the root's row
abbrev pub from_root : List (Key × Inode)
from_root = (root_key, root_row) ∷ []

-- the root's row and this one of /d
abbrev pub down_to : Inode → List (Key × Inode)
down_to d = (root_key, root_row) ∷ (d_key, d) ∷ []

-- the root's row, this one of /d, and this one of /d/x
abbrev pub down_to_x : Inode → Inode → List (Key × Inode)
down_to_x d x = (root_key, root_row) ∷ (d_key, d) ∷ (x_key, x) ∷ []

-- this place is whole, and nothing was found for another
abbrev pub has_whole : Place → Stage
has_whole place = Resolve (list_of 1 (place ∷ [])) no_items

-- it is whole, and these rows were found for another
abbrev pub finds_after : Place → List (Key × Inode) → Stage
finds_after place rows = Resolve (list_of 1 (place ∷ [])) (list_of 9 rows)

-- the stages at which this place is whole and the key of /d/x is to be locked: none was taken yet, or this many; it is locked; what
-- was read from this mark on is read again; and all is
abbrev pub plans : Place → ℕ → Stage
plans place taken = Lock (list_of 1 (place ∷ [])) (alone x_key) taken

abbrev pub has_locked : Place → Stage
has_locked place = Read (list_of 1 (place ∷ [])) (alone x_key)

abbrev pub rereads : Place → ℕ → Stage
rereads place mark = Reread (reads place mark) (alone x_key)

abbrev pub ready : Place → ℕ → Stage
ready place mark = Commit (reads place mark) (alone x_key)

-- this place was read twice, its rows from those of these numbers on
abbrev pub read_twice : Place → ℕ → ℕ → Reads
read_twice place mark mark' = record { places = place ∷ place ∷ []; marks = mark ∷ mark' ∷ []; quotas = [] }

-- the hint that this name under this parent has this id
abbrev pub hint : ℕ → List ℕ → ℕ → Hint
hint parent name id = record { parent = record { 0 = parent }; name = name; id = record { 0 = id } }

-- the place where its last row is said to have a child
abbrev pub with_child : Place → Place
with_child place = record place { has_child = true }

-- these are the inode rows, and there is no quota row
abbrev pub stored_with : Inodes → Stored
stored_with inodes = record (opening_stored one_client) { inodes = inodes }
