use Rattle.std.proofs.Common.{◌≡◌, ◌<◌, ◌∷◌, [], ℕ, List, length, get_or, set, refl, sym, ap, ◌∙◌, arith, rules, vec_len, append_assoc, length-append}
use Rattle.hops_base.specs.declared.key.Key.{Key}
use Rattle.inode_table.specs.declared.inode.Inode.{Inode}
use Rattle.hops_core.specs.ReadLocked.{put, refreshed}
use Rattle.hops_core.proofs.ReadRowLaws.{refreshed_none, refreshed_more, refreshed_long, refreshed_fits, next_of}
use Rattle.hops_core.proofs.read.put_rows.Goals as goal

pub loop-row-init : goal.loop-row-init
loop-row-init c = record { rest = search rules; at = refl; found = sym (refreshed_none _) }

pub index_mut-requires : goal.index_mut-requires
index_mut-requires c =
    let is = c.loop-row.invariant in
    let all = next_of c.loop-row.yielded c.loop-row.row-iterator.rest.items c.next.new.self.rest.items c.args.rows.items c.in-Some.row c.in-Some.ensures.steps.0 is.rest in
    let fits : length c.loop-row.yielded < length c.args.found.now.items = refreshed_fits c.args.found.now.items c.args.rows.items c.loop-row.yielded c.next.new.self.rest.items c.in-Some.row c.requires all in
    let long : length c.loop-row.found.items ≡ length c.args.found.now.items = ap length is.found ∙ refreshed_long c.args.found.now.items c.loop-row.yielded in
    let at : c.loop-row.at ≡ length c.loop-row.yielded = is.at in
    let count : vec_len c.loop-row.found ≡ length c.loop-row.found.items = c.loop-row.found.ok.0 in
    omega arith

pub loop-row-preserved : goal.loop-row-preserved
loop-row-preserved c =
    let is = c.loop-row.invariant in
    let at : c.loop-row.at ≡ length c.loop-row.yielded = is.at in
    let all = next_of c.loop-row.yielded c.loop-row.row-iterator.rest.items c.next.new.self.rest.items c.args.rows.items c.in-Some.row c.in-Some.ensures.steps.0 is.rest in
    let fits = refreshed_fits c.args.found.now.items c.args.rows.items c.loop-row.yielded c.next.new.self.rest.items c.in-Some.row c.requires all in
    let new : c.put_row.new.found ≡ put (get_or (refreshed c.args.found.now.items c.loop-row.yielded) (length c.loop-row.yielded) c.index_mut.result.now) c.in-Some.row =
    c.put_row.ensures ∙ ap (λ (r : Key × Inode). put r c.in-Some.row)
    (c.index_mut.ensures.value ∙ ap (λ (l : List (Key × Inode)). get_or l c.loop-row.at c.index_mut.result.now) is.found
    ∙ ap (λ (n : ℕ). get_or (refreshed c.args.found.now.items c.loop-row.yielded) n c.index_mut.result.now) at) in
    record {
      rest = append_assoc c.loop-row.yielded (c.in-Some.row ∷ []) c.next.new.self.rest.items ∙ all;
      at = (let long = length-append c.loop-row.yielded (c.in-Some.row ∷ []) in omega arith);
      found = ap (λ (l : List (Key × Inode)). set l c.loop-row.at c.put_row.new.found) is.found
          ∙ ap (λ (n : ℕ). set (refreshed c.args.found.now.items c.loop-row.yielded) n c.put_row.new.found) at
          ∙ ap (set (refreshed c.args.found.now.items c.loop-row.yielded) (length c.loop-row.yielded)) new
          ∙ refreshed_more c.args.found.now.items c.loop-row.yielded c.in-Some.row c.index_mut.result.now fits;
    }
