-- What a list of holders says of each session, and what edits do to it.
use Rattle.std.proofs.Common.{◌≡◌, ℕ, true, false, not, ◌||◌, ◌==◌, nat_eq, cond, List, [], ◌∷◌, ◌++◌, map, Option, Some, None, is_some, refl, sym, ap, ◌∙◌, inl, inr}
use Rattle.std.specs.List.{list_any, AllByRecursion, IsDistinct}
use Rattle.std.specs.Cmp.{nat_eq_equiv}
use Rattle.std.proofs.lemmas.Bool.{eq-eqb, ne_eqb}
use Rattle.std.proofs.lemmas.List.{map-append}
use Rattle.std.proofs.lemmas.Map.Keys.{IsDistinct-head, IsDistinct-tail, IsDistinct-cons, IsDistinct-push}
use Rattle.hops_base.specs.declared.ids.SessionId.{SessionId}
use Rattle.hops_base.specs.declared.ids.Mode.{Mode}
use Rattle.row_locks.specs.declared.holders.Holder.{Holder}
use Rattle.row_locks.specs.Holders.{session_number, is_holder, mode_in, without}
use Rattle.row_locks.proofs.LockLaws.{numbers_tell, same_flips}

-- ---- each session's mode
-- a session that holds the key is among the numbers
pub holds_there : (holders : List Holder) (s : SessionId) → is_some (mode_in holders s) ≡ list_any (nat_eq s.0) (map session_number holders)
holds_there [] s = refl
holds_there (h ∷ holders) s = rw (← same_flips s.0 h.session.0) (elim (s.0 == h.session.0) as (λ b. is_some (cond b (Some h.mode) (mode_in holders s)) ≡ (b || list_any (nat_eq s.0) (map session_number holders))) [
  | true ↦ refl
  | false ↦ holds_there holders s
])

-- one more holder, which held nothing
pub mode_in-push : (holders : List Holder) (h : Holder) (t : SessionId) → mode_in holders h.session ≡ None → mode_in (holders ++ h ∷ []) t ≡ cond (h.session.0 == t.0) (Some h.mode) (mode_in holders t)
mode_in-push [] h t none = refl
mode_in-push (x ∷ holders) h t none = elim (numbers_tell x.session.0 h.session.0) [
  | inl e ↦ absurd (let bad = rw e.0 at none in cc)
  | inr e ↦ let rest : mode_in (holders ++ h ∷ []) t ≡ cond (h.session.0 == t.0) (Some h.mode) (mode_in holders t) = mode_in-push holders h t (rw e.0 at none) in
      elim (numbers_tell x.session.0 t.0) [
        | inl k ↦ elim (numbers_tell h.session.0 t.0) [ inl l ↦ absurd (e.1 (k.1 ∙ sym l.1)) | inr l ↦ rw (k.0, l.0) refl ]
        | inr k ↦ rw k.0 rest
      ]
]

-- the session taken out
pub mode_in-without : (holders : List Holder) (s t : SessionId) → mode_in (without holders s) t ≡ cond (t.0 == s.0) None (mode_in holders t)
mode_in-without [] s t = elim (t.0 == s.0) as (λ b. None ≡ cond {A = Option Mode} b None None) [ true ↦ refl | false ↦ refl ]
mode_in-without (h ∷ holders) s t =
    let rest = mode_in-without holders s t in
    elim (numbers_tell h.session.0 s.0) [
      | inl e ↦ elim (numbers_tell h.session.0 t.0) [
        | inl k ↦ let same : (t.0 == s.0) ≡ true = eq-eqb t.0 s.0 (sym k.1 ∙ e.1) in rw (e.0, same) (rest ∙ rw same refl)
        | inr k ↦ rw (e.0, k.0) rest
      ]
      | inr e ↦ elim (numbers_tell h.session.0 t.0) [
        | inl k ↦ let other : (t.0 == s.0) ≡ false = ne_eqb t.0 s.0 (λ same. e.1 (k.1 ∙ same)) in rw (e.0, k.0, other) refl
        | inr k ↦ rw (e.0, k.0) rest
      ]
    ]

-- a session that doesn't hold the key is in no list of others
pub without_absent : (holders : List Holder) (s : SessionId) → mode_in holders s ≡ None → without holders s ≡ holders
without_absent [] s none = refl
without_absent (h ∷ holders) s none = elim (numbers_tell h.session.0 s.0) [
  | inl e ↦ absurd (let bad = rw e.0 at none in cc)
  | inr e ↦ rw e.0 (ap (λ hs. h ∷ hs) (without_absent holders s (rw e.0 at none)))
]

-- ---- no session stands twice
pub once-push : (holders : List Holder) (h : Holder) → IsDistinct nat_eq (map session_number holders) → mode_in holders h.session ≡ None → IsDistinct nat_eq (map session_number (holders ++ h ∷ []))
once-push holders h once none = rw map-append (IsDistinct-push nat_eq_equiv (map session_number holders) h.session.0 once (sym (holds_there holders h.session) ∙ ap is_some none))

all-without : (P : ℕ → Type 0) (holders : List Holder) (s : SessionId) → AllByRecursion P (map session_number holders) → AllByRecursion P (map session_number (without holders s))
all-without P [] s all = all
all-without P (h ∷ holders) s all = elim (is_holder s h) as (λ b. AllByRecursion P (map session_number (cond (not b) (h ∷ without holders s) (without holders s)))) [
  | true ↦ all-without P holders s all.1
  | false ↦ (all.0, all-without P holders s all.1)
]

pub once-without : (holders : List Holder) (s : SessionId) → IsDistinct nat_eq (map session_number holders) → IsDistinct nat_eq (map session_number (without holders s))
once-without [] s once = once
once-without (h ∷ holders) s once = elim (is_holder s h) as (λ b. IsDistinct nat_eq (map session_number (cond (not b) (h ∷ without holders s) (without holders s)))) [
  | true ↦ once-without holders s (IsDistinct-tail _ _ _ once)
  | false ↦ IsDistinct-cons _ _ _ (all-without _ holders s (IsDistinct-head _ _ _ once)) (once-without holders s (IsDistinct-tail _ _ _ once))
]
