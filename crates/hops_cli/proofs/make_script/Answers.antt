use Rattle.std.proofs.Common.{List, ℕ, [], length, take, refl, sym, subst, ◌∙◌, arith}
use Rattle.std.proofs.Math.Seq.{take-length}
use Rattle.hops_cli.specs.Ends.{generated_line}
use Rattle.program_io.specs.Transfer.{HasGiven}
use Rattle.program_io.proofs.Transfers.{HasTaken-none, HasGiven-none}
use Rattle.hops_cli.proofs.make_script.Goals as goal

pub returns-in_default : goal.returns-in_default
returns-in_default g c stock = record {
  taken = [];
  text = generated_line c.args.seed c.args.clients c.args.calls;
  written = 0;
  takes = HasTaken-none stock;
  gives = HasGiven-none _;
  by_size = omega arith;
  cause = (refl, refl, tt);
}

pub returns-in-All : goal.returns-in-All
returns-in-All g c stock = record {
  taken = [];
  text = c.in-Ok.text.items;
  written = length c.in-Ok.text.items;
  takes = HasTaken-none stock;
  gives = subst (λ (given : List ℕ). HasGiven given (g.W.Sink.store c.args.sink.now) (g.W.Sink.store c.give_all.new.sink))
      (c.deref.ensures.value ∙ sym (take-length c.in-Ok.text.items)) c.in-All.ensures;
  by_size = omega arith;
  cause = (refl, c.in-Ok.ensures, refl);
}

pub returns-in-Failed : goal.returns-in-Failed
returns-in-Failed g c stock = record {
  taken = [];
  text = c.in-Ok.text.items;
  written = c.in-Failed.ensures.0;
  takes = HasTaken-none stock;
  gives = subst (λ (text : List ℕ). HasGiven (take c.in-Failed.ensures.0 text) (g.W.Sink.store c.args.sink.now) (g.W.Sink.store c.give_all.new.sink)) c.deref.ensures.value c.in-Failed.ensures.1;
  by_size = omega arith;
  cause = (refl, c.in-Ok.ensures, c.in-Failed.ensures.2);
}

pub returns : goal.returns
returns g c stock = record {
  taken = [];
  text = c.in-Ok.text.items;
  written = c.in-NoMemory.ensures.0;
  takes = HasTaken-none stock;
  gives = subst (λ (text : List ℕ). HasGiven (take c.in-NoMemory.ensures.0 text) (g.W.Sink.store c.args.sink.now) (g.W.Sink.store c.give_all.new.sink)) c.deref.ensures.value c.in-NoMemory.ensures.1;
  by_size = omega arith;
  cause = (refl, c.in-Ok.ensures, tt);
}
