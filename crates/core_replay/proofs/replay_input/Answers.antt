use Rattle.std.proofs.Common.{List, ℕ, length, refl, sym, subst, inl, ◌∙◌}
use Rattle.std.proofs.Math.Seq.{take-length}
use Rattle.program_io.specs.Transfer.{HasGiven}
use Rattle.core_replay.specs.declared.status.Status.TheVariants.{NoMemory, NotBuilt}
use Rattle.core_replay.proofs.EndLaws.{needs, nothing_written, replays}
use Rattle.core_replay.proofs.replay_input.Goals as goal

pub returns-in-Some : goal.returns-in-Some
returns-in-Some g c = nothing_written (NotBuilt c.in-Some.what) c.in-All.bytes.items _ _ _ c.in-All.ensures.0 c.in-All.ensures.1 (
  c.in-All.ensures.2,
  needs c.in-All.bytes.items c.deref.result.now c.in-Ok.input c.as_slice-events.result.now c.first_unbuilt.result c.in-Ok.ensures c.deref.ensures.value c.as_slice-events.ensures.items c.first_unbuilt.ensures
      c.in-Some.what c.in-Some.is,
  refl,
)

pub returns-in_default-replay : goal.returns-in_default-replay
returns-in_default-replay g c = nothing_written NoMemory c.in-All.bytes.items _ _ _ c.in-All.ensures.0 c.in-All.ensures.1 (inl refl)

pub returns-in-All-give_all : goal.returns-in-All-give_all
returns-in-All-give_all g c = record {
  taken = c.in-All.bytes.items;
  text = c.in-Ok-replay.text.items;
  written = length c.in-Ok-replay.text.items;
  takes = c.in-All.ensures.0;
  gives = subst (λ (given : List ℕ). HasGiven given (g.W.Sink.store c.args.sink.now) (g.W.Sink.store c.give_all.new.sink))
      (c.deref-2.ensures.value ∙ sym (take-length c.in-Ok-replay.text.items)) c.in-All-give_all.ensures;
  by_size = c.in-All.ensures.1;
  cause = (
    c.in-All.ensures.2,
    replays c.in-All.bytes.items c.deref.result.now c.in-Ok.input c.as_slice-events.result.now c.first_unbuilt.result c.in-Ok.ensures c.deref.ensures.value c.as_slice-events.ensures.items c.first_unbuilt.ensures
        c.in-Ok-replay.text.items c.in_default.is c.in-Ok-replay.ensures,
    refl,
  );
}
