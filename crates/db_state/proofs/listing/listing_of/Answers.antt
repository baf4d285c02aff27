use Rattle.std.proofs.Common.{◌∙◌, ◌∷◌, [], ◌++◌, ap, sym, length, arith}
use Rattle.std.specs.List.{filter_map}
use Rattle.std.specs.Vec.Iter.{into_iter_items}
use Rattle.db_state.proofs.ListingLemmas.{told_at, all_told, told_more, told_none, told_all}
use Rattle.db_state.proofs.listing.listing_of.Goals as goal

pub loop-name-init : goal.loop-name-init
loop-name-init c = record {
  told = ap (λ l. l.items ++ filter_map (told_at c.args.inodes.now.rows c.args.parent) (into_iter_items c.into_iter-name-iterator.result)) c.new-listing.ensures
      ∙ ap (filter_map (told_at c.args.inodes.now.rows c.args.parent)) c.into_iter-name-iterator.ensures.into_iter_gives.0
      ∙ all_told c.args.inodes.now.rows c.args.parent c.in_ok-names.names.items c.in_ok-names.ensures;
  left = c.into_iter-name-iterator.ensures.into_iter_gives.1 ∙ c.in_ok-names.names.ok.0 ∙ sym (ap (λ names. length names) c.into_iter-name-iterator.ensures.into_iter_gives.0);
}

pub loop-name-preserved-in-Some-2 : goal.loop-name-preserved-in-Some-2
loop-name-preserved-in-Some-2 c = record {
  told = ap (λ told. told ++ filter_map (told_at c.args.inodes.now.rows c.args.parent) (into_iter_items c.next.new.self)) (ap (λ l. l.items) c.push.ensures ∙ ap (λ l. l.items ++ c.in-Some-2.listed ∷ []) c.in_ok-reserve.ensures.ok)
      ∙ told_more (told_at c.args.inodes.now.rows c.args.parent) c.loop-name.listing.items c.in-Some.name (into_iter_items c.next.new.self) (into_iter_items c.loop-name.name-iterator) c.in-Some-2.listed c.in-Some.ensures.steps.0 (sym c.in_ok-listed.ensures ∙ c.in-Some-2.is)
      ∙ c.loop-name.invariant.told;
  left = let was = c.loop-name.invariant.left in let items = ap (λ names. length names) c.in-Some.ensures.steps.0 in let len = c.in-Some.ensures.steps.1 in omega arith;
}

pub loop-name-preserved : goal.loop-name-preserved
loop-name-preserved c = record {
  told = told_none (told_at c.args.inodes.now.rows c.args.parent) c.loop-name.listing.items c.in-Some.name (into_iter_items c.next.new.self) (into_iter_items c.loop-name.name-iterator) c.in-Some.ensures.steps.0 (sym c.in_ok-listed.ensures ∙ c.in_default.is)
      ∙ c.loop-name.invariant.told;
  left = let was = c.loop-name.invariant.left in let items = ap (λ names. length names) c.in-Some.ensures.steps.0 in let len = c.in-Some.ensures.steps.1 in omega arith;
}

pub returns : goal.returns
returns c = told_all (told_at c.args.inodes.now.rows c.args.parent) c.loop-name.listing.items (into_iter_items c.loop-name.name-iterator) (sym c.loop-name.invariant.left ∙ c.in-None.ensures.steps.0) ∙ c.loop-name.invariant.told
