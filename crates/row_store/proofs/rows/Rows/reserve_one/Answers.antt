use Rattle.std.proofs.Common.{◌≡◌, Bool, false, true, Option, None, Some, Result, Ok, Err, OnOk, OnErr, List, [], ◌∷◌, ◌++◌, is_some, refl, sym, ap, subst, ◌∙◌}
use Rattle.std.specs.List.{IsDistinct}
use Rattle.std.specs.Map.{lookup, keys_of}
use Rattle.std.proofs.lemmas.Result.{on_ok_weaker}
use Rattle.hops_base.specs.declared.key.Key.{Key}
use Rattle.hops_base.specs.declared.memory.NoMemory.{NoMemory}
use Rattle.hops_base.specs.Key.{same_key}
use Rattle.row_store.specs.Table.{Table, ready_with}
use Rattle.row_store.proofs.EditLemmas.{pushed}
use Rattle.row_store.proofs.ReadyLemmas.{ready_there}
use Rattle.row_store.proofs.TableLemmas.{rows_of, ready_of, table_of}
use Rattle.row_store.proofs.rows.Rows.reserve_one.Goals as goal

none_found : {X : Type 0} (x : Option X) (had : Bool) → had ≡ is_some x → had ≡ false → x ≡ None
none_found None had e none = refl
none_found (Some y) had e none = absurd (let bad = sym e ∙ none in cc)

-- what it leaves to try to give the key a slot, where it has none
tried : {R : Type 0} (old new : List (Key × Option R)) (k : Key) (r : Result (Unit {0}) NoMemory) (had : Bool) → IsDistinct same_key (keys_of old) → had ≡ is_some (lookup (same_key k) old) → had ≡ false
    → OnOk r (new ≡ old ++ (k, None) ∷ []) → OnErr r (new ≡ old)
    → IsDistinct same_key (keys_of new) × (rows_of new ≡ rows_of old) × OnOk r (ready_of new ≡ ready_with (table_of old) (k ∷ []))
tried old new k (Ok u) had apart e none ok err = let done = pushed old new k apart (none_found (lookup (same_key k) old) had e none) ok in (done.apart, done.rows_are, done.ready_are)
tried old new k (Err x) had apart e none ok err = (rw err apart, ap rows_of err, tt)

pub returns-then-has_slot-clause-ok : goal.returns-then-has_slot-clause-ok
returns-then-has_slot-clause-ok g c =
    let there : is_some (lookup (same_key c.args.key.now) c.self.inside.slots.items) ≡ true = rw (← c.deref.ensures.value, ← c.has_slot.ensures) c.if-has_slot.true in
    subst (λ (t : Table g.row.R.Denot). t.ready ≡ ready_with t (c.args.key.now ∷ [])) c.self.view_is (ready_there c.self.inside.slots.items c.args.key.now c.self.invariant there)

pub invariant_of-self : goal.invariant_of-self
invariant_of-self g c = (tried c.self.inside.slots.items c.add.new.slots.items c.args.key.now c.add.result c.has_slot.result c.self.invariant (rw (← c.deref.ensures.value) c.has_slot.ensures) c.if-has_slot.false c.add.ensures.ok c.add.ensures.err).0

pub returns-clause-rows : goal.returns-clause-rows
returns-clause-rows g c = (tried c.self.inside.slots.items c.add.new.slots.items c.args.key.now c.add.result c.has_slot.result c.self.invariant (rw (← c.deref.ensures.value) c.has_slot.ensures) c.if-has_slot.false c.add.ensures.ok c.add.ensures.err).1 ∙ ap (λ t. t.rows) c.self.view_is

pub returns-clause-ok : goal.returns-clause-ok
returns-clause-ok g c =
    let done = (tried c.self.inside.slots.items c.add.new.slots.items c.args.key.now c.add.result c.has_slot.result c.self.invariant (rw (← c.deref.ensures.value) c.has_slot.ensures) c.if-has_slot.false c.add.ensures.ok c.add.ensures.err).2 in
    on_ok_weaker c.add.result (λ e. e ∙ ap (λ t. ready_with t (c.args.key.now ∷ [])) c.self.view_is) done
