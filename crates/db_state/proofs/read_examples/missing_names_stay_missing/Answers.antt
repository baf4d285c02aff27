use Rattle.std.proofs.Common.{◌≡◌, Some, None, refl, sym, ◌∙◌, arith}
use Rattle.hops_base.specs.Key.{key_cmp}
use Rattle.db_state.specs.Reads.{locked_by}
use Rattle.db_state.specs.ReadSamples.{d_key, d_row, x_row, gap, reads, makes_x}
use Rattle.db_state.proofs.ReadSampleLemmas.{x_is, d_stays, x_gone, is_there, no_quotas}
use Rattle.db_state.proofs.read_examples.missing_names_stay_missing.Goals as goal

pub returns-clause-missing : goal.returns-clause-missing
unfolding key_cmp
returns-clause-missing c = record {
  chains = (
    record {
      some = omega arith;
      part = (is_there _ _ d_key d_row (d_stays d_row), tt);
      held = (λ lock. absurd (let bad = lock in cc), (λ lock. d_stays d_row, tt));
      missing = x_gone d_row;
    },
    tt,
  );
  quotas = no_quotas (locked_by makes_x (reads (gap d_row) 1)) (λ id. refl);
}

pub returns-clause-there : goal.returns-clause-there
returns-clause-there c stand = let bad : Some x_row ≡ None = sym (x_is d_row x_row) ∙ stand.chains.0.missing in cc
