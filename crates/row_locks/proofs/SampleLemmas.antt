-- What the table of some listed locks has, so that examples compute.
use Rattle.std.proofs.Common.{◌≡◌, ℕ, Bool, true, false, not, ◌&&◌, ◌||◌, ◌==◌, nat_le, cond, List, [], ◌∷◌, Option, Some, None, is_some, refl, sym, ap, ◌∙◌, inl, inr}
use Rattle.std.specs.List.{filter, list_any, list_all}
use Rattle.std.specs.Option.{option_map_or}
use Rattle.std.proofs.lemmas.Bool.{or_right, and_parts, leb-true, eq-eqb, ne_eqb}
use Rattle.hops_base.specs.declared.ids.SessionId.{SessionId}
use Rattle.hops_base.specs.declared.ids.Mode.{Mode}
use Rattle.hops_base.specs.declared.key.Key.{Key}
use Rattle.hops_base.specs.Key.{same_key}
use Rattle.hops_base.specs.Mode.{conflict}
use Rattle.row_locks.specs.Locks.{mode_of, keeps_away, IsFree, IsLeastInTheWay, IsGivenBack}
use Rattle.row_locks.specs.Samples.{session, table_of}
use Rattle.row_locks.proofs.LockLaws.{numbers_tell, mode_of-empty, mode_of-insert}

-- a lock as it is listed
abbrev pub Lock : Type 0
Lock = ℕ × Key × Mode

-- the mode in which the session holds the key
abbrev pub mode_there : List Lock → SessionId → Key → Option Mode
mode_there [] t key = None
mode_there (lock ∷ locks) t key = cond ((lock.0 == t.0) && same_key key lock.1) (Some lock.2) (mode_there locks t key)

pub mode_is : (locks : List Lock) (t : SessionId) (key : Key) → mode_of (table_of locks) t key ≡ mode_there locks t key
mode_is [] t key = mode_of-empty t key
mode_is (lock ∷ locks) t key = mode_of-insert (table_of locks) (session lock.0) lock.1 lock.2 t key ∙ ap (cond ((lock.0 == t.0) && same_key key lock.1) (Some lock.2)) (mode_is locks t key)

-- t keeps s away
abbrev pub away : List Lock → SessionId → Key → Mode → SessionId → Bool
away locks s key mode t = not (t.0 == s.0) && option_map_or (conflict mode) (mode_there locks t key) false

pub away_is : (locks : List Lock) (s : SessionId) (key : Key) (mode : Mode) (t : SessionId) → keeps_away (table_of locks) s key mode t ≡ away locks s key mode t
away_is locks s key mode t = ap (λ other. not (t.0 == s.0) && option_map_or (conflict mode) other false) (mode_is locks t key)

-- ---- what holds of each listed session holds of each that keeps another away
-- t is among the sessions of the locks
abbrev stands : SessionId → List Lock → Bool
stands t locks = list_any (λ (lock : Lock). lock.0 == t.0) locks

who_holds : (locks : List Lock) (t : SessionId) (key : Key) → is_some (mode_there locks t key) ≡ true → stands t locks ≡ true
who_holds [] t key e = absurd (let bad = e in cc)
who_holds (lock ∷ locks) t key e = elim (numbers_tell lock.0 t.0) [
  | inl k ↦ rw k.0 refl
  | inr k ↦ or_right (lock.0 == t.0) (stands t locks) (who_holds locks t key (rw k.0 at e))
]

of_each : (p : SessionId → Bool) (locks : List Lock) (t : SessionId) → list_all (λ (lock : Lock). p (session lock.0)) locks ≡ true → stands t locks ≡ true → p t ≡ true
of_each p [] t all one = absurd (let bad = one in cc)
of_each p (lock ∷ locks) t all one =
    let both = and_parts (p (session lock.0)) (list_all (λ (lock : Lock). p (session lock.0)) locks) all in
    elim (numbers_tell lock.0 t.0) [
      | inl k ↦ let same : session lock.0 ≡ t = (λ i. record { 0 = k.1 i }) in ap p (sym same) ∙ both.0
      | inr k ↦ of_each p locks t both.1 (rw k.0 at one)
    ]

held_by : (b : Bool) (mode : Mode) (other : Option Mode) → (b && option_map_or (conflict mode) other false) ≡ true → is_some other ≡ true
held_by b mode (Some m) e = refl
held_by true mode None e = absurd (let bad = e in cc)
held_by false mode None e = absurd (let bad = e in cc)

-- who keeps s away is among the sessions
is_there : (locks : List Lock) (s : SessionId) (key : Key) (mode : Mode) (t : SessionId) → away locks s key mode t ≡ true → stands t locks ≡ true
is_there locks s key mode t e = who_holds locks t key (held_by (not (t.0 == s.0)) mode (mode_there locks t key) e)

-- nobody keeps s away, since no listed session does
pub free_of : (locks : List Lock) (s : SessionId) (key : Key) (mode : Mode) → list_all (λ (lock : Lock). not (away locks s key mode (session lock.0))) locks ≡ true → IsFree (table_of locks) s key mode
free_of locks s key mode all t = away_is locks s key mode t ∙ choose (away locks s key mode t) refl
  where
    choose : (b : Bool) → away locks s key mode t ≡ b → b ≡ false
    choose false e = refl
    choose true e = absurd (let bad = ap not (sym e) ∙ of_each (λ u. not (away locks s key mode u)) locks t all (is_there locks s key mode t e) in cc)

-- h is the least that does, since it is no greater than each listed session that does
pub least_of : (locks : List Lock) (s : SessionId) (key : Key) (mode : Mode) (h : SessionId) → away locks s key mode h ≡ true → list_all (λ (lock : Lock). not (away locks s key mode (session lock.0)) || nat_le h.0 lock.0) locks ≡ true → IsLeastInTheWay (table_of locks) s key mode h
least_of locks s key mode h keeps all = record {
  keeps = away_is locks s key mode h ∙ keeps;
  least = λ t e.
      let found : away locks s key mode t ≡ true = sym (away_is locks s key mode t) ∙ e in
      let low = of_each (λ u. not (away locks s key mode u) || nat_le h.0 u.0) locks t all (is_there locks s key mode t found) in
      leb-true h.0 t.0 (rw found at low);
}

-- ---- without the locks of s
given : (locks : List Lock) (s t : SessionId) (key : Key) → mode_there (filter (λ (lock : Lock). not (lock.0 == s.0)) locks) t key ≡ cond (t.0 == s.0) None (mode_there locks t key)
given [] s t key = elim (t.0 == s.0) as (λ b. None ≡ cond {A = Option Mode} b None None) [ true ↦ refl | false ↦ refl ]
given (lock ∷ locks) s t key =
    let rest = given locks s t key in
    elim (numbers_tell lock.0 s.0) [
      | inl e ↦ elim (numbers_tell lock.0 t.0) [
        | inl k ↦ let same : (t.0 == s.0) ≡ true = eq-eqb t.0 s.0 (sym k.1 ∙ e.1) in rw (e.0, same) (rest ∙ rw same refl)
        | inr k ↦ rw (e.0, k.0) rest
      ]
      | inr e ↦ elim (numbers_tell lock.0 t.0) [
        | inl k ↦ let other : (t.0 == s.0) ≡ false = ne_eqb t.0 s.0 (λ same. e.1 (k.1 ∙ same)) in rw (e.0, k.0, other) (ap (cond (same_key key lock.1) (Some lock.2)) (rest ∙ rw other refl))
        | inr k ↦ rw (e.0, k.0) rest
      ]
    ]

pub given_of : (locks left : List Lock) (s : SessionId) → filter (λ (lock : Lock). not (lock.0 == s.0)) locks ≡ left → IsGivenBack s (table_of locks) (table_of left)
given_of locks left s e t key = mode_is left t key ∙ ap (λ ls. mode_there ls t key) (sym e) ∙ given locks s t key ∙ ap (cond (t.0 == s.0) None) (sym (mode_is locks t key))

-- ---- what tables that are one, or that stand before and after locks were given back, say of a session and a key
pub same_modes : (locks left : List Lock) (t : SessionId) (key : Key) → table_of locks ≡ table_of left → mode_there locks t key ≡ mode_there left t key
same_modes locks left t key e = sym (mode_is locks t key) ∙ ap (λ table. mode_of table t key) e ∙ mode_is left t key

pub given_modes : (locks left : List Lock) (s t : SessionId) (key : Key) → IsGivenBack s (table_of locks) (table_of left) → mode_there left t key ≡ cond (t.0 == s.0) None (mode_there locks t key)
given_modes locks left s t key h = sym (mode_is left t key) ∙ h t key ∙ ap (cond (t.0 == s.0) None) (mode_is locks t key)
