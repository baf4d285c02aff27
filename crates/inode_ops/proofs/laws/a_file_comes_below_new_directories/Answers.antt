use Rattle.inode_ops.proofs.FileLaws.{tree_filed, given_filed, stands_filed, quotas_filed, flags_filed}
use Rattle.inode_ops.proofs.FileCountLaws.{counts_filed}
use Rattle.inode_ops.proofs.laws.a_file_comes_below_new_directories.Goals as goal

pub returns : goal.returns
returns c = record {
  tree = tree_filed;
  given = given_filed;
  stands = stands_filed;
  quotas = quotas_filed;
  flags = λ names tables next tree dir parent owner last client at is_dir none k some. flags_filed names tables next tree dir parent owner last client at is_dir none k;
  counts = counts_filed;
}
