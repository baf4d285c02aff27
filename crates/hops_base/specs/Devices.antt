-- What devices answer, by what a source has left, what a sink holds, and the count of their faults. This project's own.
use Rattle.std.specs.Prelude.{◌≡◌, ℕ, ◌+◌, ◌-◌, ◌^◌, ◌<◌, ◌≤◌, ◌⊎◌, Bool, ◌==◌, min, List, [], ◌++◌, length, take, drop, Option, MatchOption, MatchBool, ⊤, refl}
use Rattle.std.specs.List.{list_any}
use Rattle.std.specs.Option.{option_map}
use Rattle.std.specs.Coded.{Coded, code_by, coded×, coded_ℕ, coded_list}
use Rattle.hops_base.specs.declared.devices.Taken.{Taken}
use Rattle.hops_base.specs.declared.devices.Taken.TheVariants as taken
use Rattle.hops_base.specs.declared.devices.Given.{Given}
use Rattle.hops_base.specs.declared.devices.Given.TheVariants as given

-- the count of faults rose: it is higher, or stands at the last value of an adapter's counter
abbrev pub Rose : ℕ → ℕ → Type 0
Rose old new = (old < new) ⊎ (new ≡ 2 ^ 64 - 1)

-- what is known of a source: what it has left, where it tells, and its count of faults
pub record Stock : Type 0 where
  pub left : Option (List ℕ)
  pub faults : ℕ

-- what is known of a sink: what it holds, where it tells, and its count of faults
pub record Store : Type 0 where
  pub held : Option (List ℕ)
  pub faults : ℕ

-- by this answer to a call for at most max bytes the source goes from one stock to the other, and the buffer with it
abbrev pub Hands : ℕ → Taken → Stock → Stock → List ℕ → List ℕ → Type 0
Hands max (taken.Got n) old new into into' = (piece : List ℕ) × (length piece ≡ n) × (1 ≤ n) × (n ≤ max) × (into' ≡ into ++ piece) × (old.left ≡ option_map (λ rest. piece ++ rest) new.left)
Hands max taken.End old new into into' = (into' ≡ into) × (new.left ≡ old.left) × MatchOption old.left ⊤ (λ left. left ≡ [])
Hands max taken.Failed old new into into' = (into' ≡ into) × (new.left ≡ old.left) × Rose old.faults new.faults
Hands max taken.NoMemory old new into into' = (into' ≡ into) × (new.left ≡ old.left)

-- by this answer to these bytes the sink goes from one store to the other
abbrev pub Keeps : List ℕ → Given → Store → Store → Type 0
Keeps bytes (given.Took n) old new = (1 ≤ n) × (n ≤ length bytes) × (new.held ≡ option_map (λ held. held ++ take n bytes) old.held)
Keeps bytes given.Failed old new = (new.held ≡ old.held) × Rose old.faults new.faults
Keeps bytes given.NoMemory old new = new.held ≡ old.held

-- the next value of a counter that stays at its last
abbrev pub counted_on : ℕ → ℕ
counted_on n = min (n + 1) (2 ^ 64 - 1)

-- a source or a sink in memory: its bytes, how many go at one call, the numbers of the calls that fail, from 1, how
-- many calls were made, and how many of them failed
pub record Scripted : Type 0 where
  pub bytes : List ℕ
  pub piece : ℕ
  pub fails : List ℕ
  pub calls : ℕ
  pub faults : ℕ

-- it is stored as the tuple of its fields
abbrev pub coded_scripted : Coded Scripted
coded_scripted =
    code_by (List ℕ × (ℕ × (List ℕ × (ℕ × ℕ)))) (coded× (coded_list coded_ℕ) (coded× coded_ℕ (coded× (coded_list coded_ℕ) (coded× coded_ℕ coded_ℕ)))) (λ s. (s.bytes, (s.piece, (s.fails, (s.calls, s.faults))))) (λ p. record { bytes = p.0; piece = p.1.0; fails = p.1.1.0; calls = p.1.1.1.0; faults = p.1.1.1.1 }) (λ _. refl)

-- the next call fails
abbrev pub fails_next : Scripted → Bool
fails_next s = list_any (λ n. n == counted_on s.calls) s.fails

-- a call was made, and failed
abbrev pub failed : Scripted → Scripted
failed s = record s { calls = counted_on s.calls; faults = counted_on s.faults }

-- what a source in memory that doesn't fail answers to a call for at most this many bytes: as many as there are of
-- those that are left
abbrev pub HandsOver : ℕ → Taken → List ℕ → List ℕ → Type 0
HandsOver most (taken.Got n) left left' = (n ≡ min most (length left)) × (1 ≤ n) × (left' ≡ drop n left)
HandsOver most taken.End left left' = (left ≡ []) × (left' ≡ left)
HandsOver most taken.Failed left left' = ⊥
HandsOver most taken.NoMemory left left' = left' ≡ left

-- what a sink in memory that doesn't fail answers to these bytes: it takes so many of them
abbrev pub TakesIn : ℕ → List ℕ → Given → List ℕ → List ℕ → Type 0
TakesIn most bytes (given.Took n) held held' = (n ≡ min most (length bytes)) × (held' ≡ held ++ take n bytes)
TakesIn most bytes given.Failed held held' = ⊥
TakesIn most bytes given.NoMemory held held' = held' ≡ held

-- what a source in memory answers to a call for at most max bytes
abbrev pub Plays : ℕ → Taken → Scripted → Scripted → Type 0
Plays max answer old new = MatchBool (fails_next old)
    ((answer ≡ taken.Failed) × (new ≡ failed old))
    (HandsOver (min old.piece max) answer old.bytes new.bytes × (new ≡ record old { bytes = new.bytes; calls = counted_on old.calls }))

-- what a sink in memory answers to these bytes
abbrev pub Records : List ℕ → Given → Scripted → Scripted → Type 0
Records bytes answer old new = MatchBool (fails_next old)
    ((answer ≡ given.Failed) × (new ≡ failed old))
    (TakesIn old.piece bytes answer old.bytes new.bytes × (new ≡ record old { bytes = new.bytes; calls = counted_on old.calls }))

-- what the buffer holds after an answer of a source that has these bytes left
abbrev pub IsAppended : Taken → List ℕ → List ℕ → List ℕ → Type 0
IsAppended (taken.Got n) left into into' = into' ≡ into ++ take n left
IsAppended taken.End left into into' = into' ≡ into
IsAppended taken.Failed left into into' = into' ≡ into
IsAppended taken.NoMemory left into into' = into' ≡ into
