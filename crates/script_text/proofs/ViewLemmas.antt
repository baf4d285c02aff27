-- Values as lists of data.
use Rattle.std.proofs.Common.{◌≡◌, ℕ, suc, ◌+◌, ◌<◌, Bool, List, [], ◌∷◌, ◌++◌, map, length, take, get_or, zero, refl, ap, sym, subst, ◌∙◌, arith, bytes_eq, string_bytes}
use Rattle.std.specs.Prelude.{String}
use Rattle.std.specs.List.{AllZip, list_all, list_any}
use Rattle.std.specs.declared.alloc.Global.{Global}
use Rattle.std.proofs.lemmas.List.{take_more, map-append}
use Rattle.serde_json.specs.Data.{Data, Members}
use Rattle.serde_json.specs.declared.value.Value.{Value}
use Rattle.serde_json.specs.View.{items_view, members_view, view}
use Rattle.script_text.specs.Json.{values_of, keys_of}
use Rattle.script_text.proofs.ValueFacts.{values_of-items_of}

-- an object has as many keys as entries
pub key_count : (entries : List (String Global × Value)) → length (keys_of (members_view entries)) ≡ length entries
key_count [] = refl
key_count (entry ∷ entries) = ap suc (key_count entries)

-- an array has the values that it was made of
pub values_of-items_view : (values : List Value) → values_of (items_view values) ≡ map view values
values_of-items_view values = values_of-items_of (map view values)

-- each of these keys is among the others
abbrev pub are_among : List (List ℕ) → List (String Global) → Bool
are_among known keys = list_all (λ key. list_any (bytes_eq (string_bytes key)) known) keys

-- so is each key of an object
abbrev pub are_known : List (List ℕ) → Members → Bool
are_known known ms = list_all (λ key. list_any (bytes_eq key) known) (keys_of ms)

-- the keys of an object are those of its entries
pub are_known-entries : (known : List (List ℕ)) (entries : List (String Global × Value)) → are_among known (map (λ e. e.0) entries) ≡ are_known known (members_view entries)
are_known-entries known [] = refl
are_known-entries known (entry ∷ entries) = rw (are_known-entries known entries) refl

-- ---- lists side by side

-- two lists grow by a pair
zip_push : {A B : Type 0} (R : A → B → Type 0) (xs : List A) (ys : List B) (x : A) (y : B) → AllZip R xs ys → R x y → AllZip R (xs ++ x ∷ []) (ys ++ y ∷ [])
zip_push R [] [] x y h r = (r, tt)
zip_push R [] (b ∷ ys) x y h r = absurd h
zip_push R (a ∷ xs) [] x y h r = absurd h
zip_push R (a ∷ xs) (b ∷ ys) x y h r = (h.0, zip_push R xs ys x y h.1 r)

-- of more values there is one thing more
pub zip_more : {B : Type 0} (R : Data → B → Type 0) (values : List Value) (ys : List B) (i : ℕ) (v : Value) (y : B) → i < length values → v ≡ get_or values i v → AllZip R (map view (take i values)) ys → R (view v) y → AllZip R (map view (take (i + 1) values)) (ys ++ y ∷ [])
zip_more R values ys i v y lt is h r =
    let next : take (i + 1) values ≡ take i values ++ v ∷ [] = take_more values i v lt ∙ ap (λ w. take i values ++ w ∷ []) (sym is) in
    let seen : map view (take (i + 1) values) ≡ map view (take i values) ++ view v ∷ [] = ap (map view) next ∙ map-append view (take i values) (v ∷ []) in
    subst (λ l. AllZip R l (ys ++ y ∷ [])) (sym seen) (zip_push R (map view (take i values)) ys (view v) y h r)

-- what stands beside a value
pub zip_at : {B : Type 0} (R : Data → B → Type 0) (values : List Value) (ys : List B) (i : ℕ) (v : Value) → i < length values → v ≡ get_or values i v → AllZip R (map view values) ys → (y : B) × R (view v) y
zip_at R [] ys i v lt is h = absurd (omega arith)
zip_at R (x ∷ values) [] i v lt is h = absurd h
zip_at R (x ∷ values) (y ∷ ys) zero v lt is h = (y, subst (λ w. R (view w) y) (sym is) h.0)
zip_at R (x ∷ values) (y ∷ ys) (suc i) v lt is h = zip_at R values ys i v (omega arith) is h.1
