-- One transfer after another.
use Rattle.std.proofs.Common.{◌≡◌, ℕ, ◌+◌, ◌<◌, ◌≤◌, List, [], ◌++◌, length, take, drop, Option, Some, None, refl, ap, sym, ◌∙◌, append_assoc, append-nil, arith, inl, inr, ◌-◌, length-drop}
use Rattle.std.proofs.Math.Seq.{take-add}
use Rattle.std.proofs.lemmas.List.{take_all}
use Rattle.std.specs.Option.{option_map}
use Rattle.hops_base.specs.Devices.{Stock, Store, Rose}
use Rattle.program_io.specs.Transfer.{HasTaken, HasGiven}

-- nothing taken changes nothing
pub HasTaken-none : (s : Stock) → HasTaken [] s s
HasTaken-none s = record { left = none s.left; faults = omega arith }
  where
    none : (o : Option (List ℕ)) → o ≡ option_map (λ rest. [] ++ rest) o
    none None = refl
    none (Some rest) = refl

-- a further piece
pub HasTaken-more : (taken piece : List ℕ) (first old new : Stock) → HasTaken taken first old → old.left ≡ option_map (λ rest. piece ++ rest) new.left → old.faults ≤ new.faults → HasTaken (taken ++ piece) first new
HasTaken-more taken piece first old new h left faults = record { left = h.left ∙ ap (option_map (λ rest. taken ++ rest)) left ∙ joined new.left; faults = omega (arith, h.faults) }
  where
    joined : (o : Option (List ℕ)) → option_map (λ rest. taken ++ rest) (option_map (λ rest. piece ++ rest) o) ≡ option_map (λ rest. (taken ++ piece) ++ rest) o
    joined None = refl
    joined (Some rest) = ap Some (sym (append_assoc taken piece rest))

-- a call that takes nothing
pub HasTaken-still : (taken : List ℕ) (first old new : Stock) → HasTaken taken first old → new.left ≡ old.left → old.faults ≤ new.faults → HasTaken taken first new
HasTaken-still taken first old new h left faults = record { left = h.left ∙ ap (option_map (λ rest. taken ++ rest)) (sym left); faults = omega (arith, h.faults) }

-- nothing given changes nothing
pub HasGiven-none : (s : Store) → HasGiven [] s s
HasGiven-none s = record { held = none s.held; faults = omega arith }
  where
    none : (o : Option (List ℕ)) → o ≡ option_map (λ held. held ++ []) o
    none None = refl
    none (Some held) = ap Some (sym (append-nil held))

-- a further piece
pub HasGiven-more : (written piece : List ℕ) (first old new : Store) → HasGiven written first old → new.held ≡ option_map (λ held. held ++ piece) old.held → old.faults ≤ new.faults → HasGiven (written ++ piece) first new
HasGiven-more written piece first old new h held faults = record { held = held ∙ ap (option_map (λ held. held ++ piece)) h.held ∙ joined first.held; faults = omega (arith, h.faults) }
  where
    joined : (o : Option (List ℕ)) → option_map (λ held. held ++ piece) (option_map (λ held. held ++ written) o) ≡ option_map (λ held. held ++ (written ++ piece)) o
    joined None = refl
    joined (Some held) = ap Some (append_assoc held written piece)

-- a further piece of a text, of the part that was left of it
pub HasGiven-next : (text : List ℕ) (i n : ℕ) (first old new : Store) → HasGiven (take i text) first old → i < length text → n ≤ length (take (length text - i) (drop i text)) → new.held ≡ option_map (λ held. held ++ take n (take (length text - i) (drop i text))) old.held → old.faults ≤ new.faults → HasGiven (take (i + n) text) first new × (i + n ≤ length text)
HasGiven-next text i n first old new h inside few held faults =
    let whole : take (length text - i) (drop i text) ≡ drop i text = take_all _ _ (omega (arith, length-drop i text)) in
    (rw (take-add i n text) (HasGiven-more (take i text) (take n (drop i text)) first old new h (rw whole at held) faults), omega (arith, rw whole at few, length-drop i text))

-- a call that gives nothing
pub HasGiven-still : (written : List ℕ) (first old new : Store) → HasGiven written first old → new.held ≡ old.held → old.faults ≤ new.faults → HasGiven written first new
HasGiven-still written first old new h held faults = record { held = held ∙ h.held; faults = omega (arith, h.faults) }

-- a count that rose in the last call rose in all of them
pub Rose-since : (first old new : ℕ) → first ≤ old → Rose old new → Rose first new
Rose-since first old new h (inl above) = inl (omega arith)
Rose-since first old new h (inr last) = inr last
