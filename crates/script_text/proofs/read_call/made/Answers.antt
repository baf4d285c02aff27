use Rattle.std.proofs.Common.{[], ◌∷◌, ap}
use Rattle.name_space.specs.Call.{a_path, a_truth, a_number, a_quota, most_grown, most_mode}
use Rattle.script_text.proofs.read_call.made.Goals.{in-mkdirs+in_ok-path_at-in-mkdirs, in-create+in_ok-path_at-in-create, in-append+in_ok-path_at-in-append, in-grow+in_ok-path_at-in-grow, in-close+in_ok-path_at-in-close, in-stat+in_ok-path_at-in-stat, in-list+in_ok-path_at-in-list, in-delete+in_ok-path_at-in-delete, in-rename+in_ok-path_at-in-rename+in_ok-path_at-in-rename-2, in-chmod+else-mode-from+in_ok-path_at-in-chmod, in-set_quota+in_ok-path_at-in-set_quota, in-usage+in_ok-path_at-in-usage}
use Rattle.script_text.proofs.read_call.made.Goals as goal

pub returns : goal.returns
returns c = elim c.match-name.branch [
  | in-mkdirs+in_ok-path_at-in-mkdirs w ↦ rw w.result-is (w.in-mkdirs.is, ap (λ p. a_path p ∷ []) w.in_ok-path_at-in-mkdirs.ensures)
  | in-create+in_ok-path_at-in-create w ↦ rw w.result-is (w.in-create.is, λ i. a_path (w.in_ok-path_at-in-create.ensures i) ∷ a_truth (w.truth_at.ensures i) ∷ [])
  | in-append+in_ok-path_at-in-append w ↦ rw w.result-is (w.in-append.is, ap (λ p. a_path p ∷ []) w.in_ok-path_at-in-append.ensures)
  | in-grow+in_ok-path_at-in-grow w ↦ rw w.result-is (w.in-grow.is, λ i. a_path (w.in_ok-path_at-in-grow.ensures i) ∷ a_number 1 most_grown (w.number_at.ensures i) ∷ [])
  | in-close+in_ok-path_at-in-close w ↦ rw w.result-is (w.in-close.is, ap (λ p. a_path p ∷ []) w.in_ok-path_at-in-close.ensures)
  | in-stat+in_ok-path_at-in-stat w ↦ rw w.result-is (w.in-stat.is, ap (λ p. a_path p ∷ []) w.in_ok-path_at-in-stat.ensures)
  | in-list+in_ok-path_at-in-list w ↦ rw w.result-is (w.in-list.is, ap (λ p. a_path p ∷ []) w.in_ok-path_at-in-list.ensures)
  | in-delete+in_ok-path_at-in-delete w ↦ rw w.result-is (w.in-delete.is, λ i. a_path (w.in_ok-path_at-in-delete.ensures i) ∷ a_truth (w.truth_at-in-delete.ensures i) ∷ [])
  | in-rename+in_ok-path_at-in-rename+in_ok-path_at-in-rename-2 w ↦ rw w.result-is (w.in-rename.is, λ i. a_path (w.in_ok-path_at-in-rename.ensures i) ∷ a_path (w.in_ok-path_at-in-rename-2.ensures i) ∷ [])
  | in-chmod+else-mode-from+in_ok-path_at-in-chmod w ↦ rw w.result-is (w.in-chmod.is, λ i. a_path (w.in_ok-path_at-in-chmod.ensures i) ∷ a_number 0 most_mode (w.number_at-mode.ensures i) ∷ [])
  | in-set_quota+in_ok-path_at-in-set_quota w ↦
      rw w.result-is (w.in-set_quota.is, λ i. a_path (w.in_ok-path_at-in-set_quota.ensures i) ∷ a_quota (w.quota_at.ensures i) ∷ a_quota (w.quota_at-in-set_quota.ensures i) ∷ [])
  | in-usage+in_ok-path_at-in-usage w ↦ rw w.result-is (w.in-usage.is, ap (λ p. a_path p ∷ []) w.in_ok-path_at-in-usage.ensures)
]
