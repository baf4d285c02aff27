use Rattle.std.proofs.Common.{◌≡◌, List, ℕ, [], Some, Result, Ok, Err, length, refl, ap, sym, subst, ◌∙◌}
use Rattle.std.proofs.Math.Seq.{take-length}
use Rattle.name_space.specs.Script.{Script}
use Rattle.script_text.specs.Grammar.{IsScriptText, IsScriptRead}
use Rattle.script_text.specs.Faults.{script_fault}
use Rattle.script_text.specs.declared.fault.ScriptFault.{ScriptFault}
use Rattle.script_text.specs.declared.fault.ScriptError.{ScriptError}
use Rattle.script_text.specs.declared.fault.ScriptError.TheVariants.{Bad, NoMemory}
use Rattle.program_io.specs.Transfer.{HasGiven}
use Rattle.hops_cli.proofs.BuiltLemmas.{built_from}
use Rattle.program_io.proofs.Transfers.{HasGiven-none}
use Rattle.hops_cli.proofs.run_script.Goals as goal

-- the fault that is told is the first
bad_told : (bytes : List ℕ) (read : Result Script ScriptError) (fault : ScriptFault) → IsScriptRead bytes read → read ≡ Err (Bad fault) → script_fault bytes ≡ Some fault
bad_told bytes (Ok script) fault as_read is = absurd (let bad = is in cc)
bad_told bytes (Err (Bad told)) fault as_read is = let same : told ≡ fault = cc in as_read ∙ ap (λ (f : ScriptFault). Some f) same
bad_told bytes (Err NoMemory) fault as_read is = absurd (let bad = is in cc)

pub returns-in-Err-Bad : goal.returns-in-Err-Bad
returns-in-Err-Bad g c = record {
  taken = c.in-All.bytes.items;
  text = [];
  written = 0;
  takes = c.in-All.ensures.0;
  gives = HasGiven-none _;
  by_size = c.in-All.ensures.1;
  cause = (
    c.in-All.ensures.2,
    bad_told c.in-All.bytes.items c.read_script.result c.in-Err-Bad.fault
        (subst (λ (bytes : List ℕ). IsScriptRead bytes c.read_script.result) c.deref.ensures.value c.read_script.ensures) (c.in-Err-Bad.is ∙ ap Err c.in-Err-Bad.field-0-is)
        ∙ ap (λ (fault : ScriptFault). Some fault) (sym c.in-Err-Bad.fault-is),
    refl,
  );
}

pub returns-in-Some : goal.returns-in-Some
returns-in-Some g c = record {
  taken = c.in-All.bytes.items;
  text = [];
  written = 0;
  takes = c.in-All.ensures.0;
  gives = HasGiven-none _;
  by_size = c.in-All.ensures.1;
  cause = (c.in-All.ensures.2, (c.in-Ok.script, subst (λ (bytes : List ℕ). IsScriptText bytes c.in-Ok.script) c.deref.ensures.value c.in-Ok.ensures, sym c.unbuilt.ensures ∙ c.in-Some.is), refl);
}

pub run_report-requires : goal.run_report-requires
run_report-requires g c = built_from c.in-Ok.script (sym c.unbuilt.ensures ∙ c.in_default.is)

pub returns-in-All-give_all : goal.returns-in-All-give_all
returns-in-All-give_all g c = record {
  taken = c.in-All.bytes.items;
  text = c.in-Ok-run_report.text.items;
  written = length c.in-Ok-run_report.text.items;
  takes = c.in-All.ensures.0;
  gives = subst (λ (given : List ℕ). HasGiven given (g.W.Sink.store c.args.sink.now) (g.W.Sink.store c.give_all.new.sink))
      (c.deref-2.ensures.value ∙ sym (take-length c.in-Ok-run_report.text.items)) c.in-All-give_all.ensures;
  by_size = c.in-All.ensures.1;
  cause = (c.in-All.ensures.2, (c.in-Ok.script, subst (λ (bytes : List ℕ). IsScriptText bytes c.in-Ok.script) c.deref.ensures.value c.in-Ok.ensures, sym c.unbuilt.ensures ∙ c.in_default.is, c.in-Ok-run_report.ensures), refl);
}
