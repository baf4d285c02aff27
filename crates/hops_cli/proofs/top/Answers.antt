use Rattle.std.proofs.Common.{ℕ, [], Result, refl, sym, subst, ◌∙◌, arith}
use Rattle.hops_cli.specs.declared.status.Status.TheVariants.{Usage}
use Rattle.hops_cli.specs.declared.words.Command.{Command}
use Rattle.hops_cli.specs.Ends.{Ends}
use Rattle.program_io.proofs.Transfers.{HasTaken-none, HasGiven-none}
use Rattle.hops_cli.proofs.top.Goals as goal

pub returns-in-Err : goal.returns-in-Err
returns-in-Err g c = subst (λ (asked : Result Command ℕ). Ends asked (Usage c.in-Err.place) (g.S.Source.stock c.args.source.now) (g.S.Source.stock c.args.source.now) (g.W.Sink.store c.args.sink.now) (g.W.Sink.store c.args.sink.now))
    (sym (sym c.asked_by.ensures ∙ c.in-Err.is)) (record {
      taken = [];
      text = [];
      written = 0;
      takes = HasTaken-none _;
      gives = HasGiven-none _;
      by_size = omega arith;
      cause = (refl, refl, refl);
    })
