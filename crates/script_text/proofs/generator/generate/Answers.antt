use Rattle.script_text.proofs.GeneratedScripts.{generated_good}
use Rattle.script_text.proofs.generator.generate.Goals as goal

pub new-requires : goal.new-requires
new-requires c = rw (c.min-namenodes.ensures, c.in_ok-clients.ensures, c.new-stops.ensures) (generated_good c.args.seed c.args.clients c.args.calls c.requires.some c.requires.few c.requires.short)
