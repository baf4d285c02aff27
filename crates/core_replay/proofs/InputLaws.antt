-- What readers of parts of an input answer.
use Rattle.std.proofs.Common.{◌≡◌, nat_le, true, length, List, Option, Some, None, option_map, Result, Ok, Err, refl, sym, ap, subst, ◌∙◌}
use Rattle.std.specs.Option.{option_or}
use Rattle.std.specs.Result.{IsErr, IsErrAnd}
use Rattle.serde_json.specs.Data.{Data, Members}
use Rattle.script_text.specs.Json.{row, at_key}
use Rattle.script_text.proofs.ValueFacts.{values_of-items_of}
use Rattle.core_replay.specs.declared.fault.InputError.{InputError}
use Rattle.core_replay.specs.declared.fault.InputError.TheVariants.{Bad, NoMemory}
use Rattle.core_replay.specs.declared.fault.InputFault.{InputFault}
use Rattle.core_replay.specs.declared.fault.InputFault.TheVariants.{Event}
use Rattle.core_replay.specs.Input.{most_events, bad_event, events_fault_in, IsReadAs}

-- the answer is this error
error_is : {T : Type 0} (r : Result T InputError) (told : InputError) → IsErr r × IsErrAnd r (λ e. e ≡ told) → r ≡ Err told
error_is (Ok x) told h = absurd h.1
error_is (Err e) told h = ap Err h.1

-- the fault of a part is passed on where it is the fault of the whole
pub passed_on : {T U : Type 0} (part whole : Option InputFault) (Is : T → Type 0) (Also : U → Type 0) (r : Result T InputError) (q : Result U InputError) (told : InputError) → IsReadAs part Is r → r ≡ Err told → IsErr q × IsErrAnd q (λ e. e ≡ told)
    → ((f : InputFault) → part ≡ Some f → whole ≡ Some f) → IsReadAs whole Also q
passed_on {T} {U} part whole Is Also r q told h is same more = subst (IsReadAs whole Also) (sym (error_is q told same)) (by told (subst (IsReadAs part Is) is h))
  where
    by : (told : InputError) → IsReadAs part Is (Err told) → IsReadAs whole Also (Err told)
    by (Bad f) bad = more f bad
    by NoMemory bad = tt

-- what is read of a part is read of the whole, where both have one fault
pub read_so : {T : Type 0} (part whole : Option InputFault) (Is Also : T → Type 0) (r : Result T InputError) → part ≡ whole → ((x : T) → Is x → Also x) → IsReadAs part Is r → IsReadAs whole Also r
read_so part whole Is Also (Ok x) same more h = (sym same ∙ h.0, more x h.1)
read_so part whole Is Also (Err (Bad f)) same more h = sym same ∙ h
read_so part whole Is Also (Err NoMemory) same more h = tt

-- with nothing behind it, it is the first
first_alone : (o : Option InputFault) → option_or o None ≡ o
first_alone None = refl
first_alone (Some f) = refl

-- the fault of the events at their key
pub events_fault_is : (ms : Members) (values : List Data) → at_key "events" ms ≡ Some (row values) → nat_le (length values) most_events ≡ true → option_map Event (bad_event values) ≡ events_fault_in ms
events_fault_is ms values there few = sym (rw (there, values_of-items_of values, few) (first_alone (option_map Event (bad_event values))))
