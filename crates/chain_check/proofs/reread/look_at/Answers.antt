use Rattle.std.proofs.Common.{◌≡◌, Some, Err, rules, sym, subst, ◌∙◌}
use Rattle.hops_base.specs.declared.key.Key.{Key}
use Rattle.inode_table.specs.declared.inode.Inode.{Inode}
use Rattle.chain_check.specs.Passing.{IsLook, IsHalt}
use Rattle.chain_check.specs.Rows.{IsPlain, IsReadAgain}
use Rattle.chain_check.proofs.reread.look_at.Goals as goal

pub returns-in_err-read_again : goal.returns-in_err-read_again
returns-in_err-read_again c =
    let at = c.in-Some.ensures in
    let told : c.from_residual.result ≡ Err c.in_err-read_again.field-0.0 = search rules in
    let rows : Some at.next.row ≡ Some c.row_at.result.now = sym at.next.there ∙ c.row_at.ensures at.place at.placed in
    let row : at.next.row ≡ c.row_at.result.now = cc in
    let so = subst (λ (r : Key × Inode). IsReadAgain c.args.db.now.stored.inodes r (Err c.in_err-read_again.field-0.0)) (sym row) c.in_err-read_again.ensures in
    let halt : IsHalt c.args.db.now c.args.s c.args.marks.now c.args.places.now c.in_err-read_again.field-0.0 = record { spot = c.in-Some.spot; at = at; so = so } in
    subst (IsLook c.args.db.now c.args.s c.args.marks.now c.args.places.now) (sym told) halt

pub returns : goal.returns
returns c =
    let at = c.in-Some.ensures in
    let rows : Some at.next.row ≡ Some c.row_at.result.now = sym at.next.there ∙ c.row_at.ensures at.place at.placed in
    let row : at.next.row ≡ c.row_at.result.now = cc in
    record { at = at; plain = subst (IsPlain c.args.db.now.stored.inodes) (sym row) c.in_ok-read_again.ensures; after = c.leaves_any-more.ensures }
