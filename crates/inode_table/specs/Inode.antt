-- What an inode is, and what it counts.
use Rattle.std.specs.Prelude.{ℕ, Bool, true, false}
use Rattle.inode_table.specs.declared.inode.Inode.{Inode}
use Rattle.inode_table.specs.declared.inode.Kind.{Kind}
use Rattle.inode_table.specs.declared.inode.Kind.TheVariants.{Dir, File}

-- the inode is a directory
abbrev pub is_dir_kind : Kind → Bool
is_dir_kind Dir = true
is_dir_kind File = false

-- the bytes that an inode counts towards what is used: a file its length, a directory none
abbrev pub counted_bytes : Kind → Inode → ℕ
counted_bytes Dir inode = 0
counted_bytes File inode = inode.len
