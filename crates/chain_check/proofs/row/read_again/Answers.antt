use Rattle.std.proofs.Common.{rules, sym}
use Rattle.chain_check.proofs.row.read_again.Goals as goal

pub returns-in-Some-flag : goal.returns-in-Some-flag
returns-in-Some-flag c = record {
  again = record { now = c.in-Some.now.now; there = sym c.in-Some.ensures; same = search rules };
  flag = c.in-Some-flag.is;
}

pub returns-in-None : goal.returns-in-None
returns-in-None c = record {
  again = record { now = c.in-Some.now.now; there = sym c.in-Some.ensures; same = search rules };
  none = c.in-None.is;
}
