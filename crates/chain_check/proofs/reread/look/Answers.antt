use Rattle.std.proofs.Common.{◌≡◌, List, ℕ, sym, ap, subst, ◌∙◌}
use Rattle.db_state.specs.Reads.{Reads}
use Rattle.chain_check.specs.Passing.{HasSome}
use Rattle.chain_check.specs.Search.{AreMarked}
use Rattle.chain_check.proofs.StepLaws.{marked, has_some}
use Rattle.chain_check.proofs.reread.look.Goals as goal

pub look_at-requires-clause-marked : goal.look_at-requires-clause-marked
look_at-requires-clause-marked c =
    let is = c.requires.rereads in
    let same : c.reads_of-reads.result.now ≡ is.1 = c.reads_of-reads.ensures is.0 is.1 is.2 is.3 is.4.stage in
    let places : c.as_slice.result.now ≡ is.1.places = c.as_slice.ensures.items ∙ ap (λ (r : Reads). r.places) (c.reads.view_is ∙ same) in
    let marks : c.as_slice-2.result.now ≡ is.1.marks = c.as_slice-2.ensures.value ∙ ap (λ (r : Reads). r.marks) (c.reads.view_is ∙ same) in
    subst (λ (ms : List ℕ). AreMarked ms c.as_slice.result.now) (sym marks)
    (subst (AreMarked is.1.marks) (sym places) (marked c.args.db.now c.args.s is.0 is.1 is.2 c.requires.core is.3 is.4.stage))

pub look_at-requires-clause-some : goal.look_at-requires-clause-some
look_at-requires-clause-some c =
    let is = c.requires.rereads in
    let same : c.reads_of-reads.result.now ≡ is.1 = c.reads_of-reads.ensures is.0 is.1 is.2 is.3 is.4.stage in
    let places : c.as_slice.result.now ≡ is.1.places = c.as_slice.ensures.items ∙ ap (λ (r : Reads). r.places) (c.reads.view_is ∙ same) in
    let marks : c.as_slice-2.result.now ≡ is.1.marks = c.as_slice-2.ensures.value ∙ ap (λ (r : Reads). r.marks) (c.reads.view_is ∙ same) in
    subst (λ (ms : List ℕ). HasSome c.args.db.now.locks c.args.s ms c.as_slice.result.now) (sym marks)
    (subst (HasSome c.args.db.now.locks c.args.s is.1.marks) (sym places) (has_some c.args.db.now c.args.s is.0 is.1 is.2 c.requires.core is.3 is.4.stage is.4.some))
