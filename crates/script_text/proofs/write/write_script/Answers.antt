use Rattle.std.proofs.Common.{ℕ, List, ap, sym, subst, ◌∙◌}
use Rattle.serde_json.specs.Written.{has_float, compact_text}
use Rattle.script_text.specs.Grammar.{IsScriptText}
use Rattle.script_text.proofs.NoFloat.{no_float_in_script}
use Rattle.script_text.proofs.WrittenText.{canonical_read}
use Rattle.script_text.proofs.write.write_script.Goals as goal

pub returns-clause-text : goal.returns-clause-text
returns-clause-text c =
    let built = c.in_ok-script_value.ensures in
    c.in_ok-to_vec.ensures.text (ap has_float built ∙ no_float_in_script c.args.script.now) ∙ ap compact_text built

pub returns-clause-read_back : goal.returns-clause-read_back
returns-clause-read_back c =
    let script = c.args.script.now in
    let in_range = c.namenodes-in_range.ensures.script in
    subst (λ (bytes : List ℕ). IsScriptText bytes script) (sym (returns-clause-text c)) (canonical_read script in_range)
