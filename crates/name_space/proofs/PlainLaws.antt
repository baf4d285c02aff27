-- Each call leaves a namespace.
use Rattle.std.proofs.Common.{◌+◌, is_some, refl, sym, ap, ◌∙◌}
use Rattle.name_space.specs.declared.entry.Entry.TheVariants.{File}
use Rattle.name_space.specs.Namespace.{IsNamespace, is_dir}
use Rattle.name_space.specs.Plain.{Answered, new_file}
use Rattle.name_space.specs.Rename.{target_of}
use Rattle.name_space.specs.Laws.{PlainKeepsANamespace}
use Rattle.name_space.proofs.CallCases.{by_cases}
use Rattle.name_space.proofs.KeepLaws.{kind_kept, without_kept}
use Rattle.name_space.proofs.DirLaws.{dirs_kept, file_kept}
use Rattle.name_space.proofs.RenameLaws.{move_kept, target_free, target_names}

pub plain_keeps_a_namespace : PlainKeepsANamespace
plain_keeps_a_namespace space client user call is names =
    by_cases space client user call (λ (answer : Answered). IsNamespace answer.space) (record {
      tells = λ reply. is;
      dirs = λ user path named no_file room. dirs_kept space is user path (named.1 names) no_file;
      file = λ client user path named no_dir no_file room. file_kept space is user path (new_file client user) refl (named.1 names) no_dir no_file;
      entry = λ may path new old was kind bytes. kind_kept space is path new (ap is_some was) (kind ∙ sym (ap is_dir was));
      longer = λ may path len bytes writer mode owner was room. kind_kept space is path (File (len + bytes) writer mode owner) (ap is_some was) (sym (ap is_dir was));
      gone = λ may path not_root. without_kept space is path not_root;
      moves = λ source destination from to moves.
          move_kept space is source (target_of space source destination) moves.not_root (target_names space source destination moves.not_root (from.1 names) (to.1 names)) (target_free space is source destination moves);
    })
