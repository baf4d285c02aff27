-- The flags of a book with one note more.
use Rattle.std.specs.Prelude.{◌≡◌, ℕ, ◌+◌, suc, Bool, true, false, not, ◌&&◌, ◌||◌, ◌==◌, cond, List, [], ◌∷◌, ◌++◌, drop, Option, Some, None, refl}
use Rattle.std.specs.List.{filter, filter_map, list_any, cons_option, after_first, prefix_len, position_or_len, AllByRecursion}
use Rattle.std.proofs.Common.{sym, ap, ◌∙◌, arith, append-nil}
use Rattle.std.proofs.lemmas.Bool.{eq-eqb, or_left, or_right}
use Rattle.std.proofs.lemmas.List.Elements.{filter-append, filter_map-append}
use Rattle.std.proofs.lemmas.List.Folds.{list_any-append}
use Rattle.hops_base.specs.declared.ids.SessionId.{SessionId}
use Rattle.hops_base.specs.declared.ids.OpId.{OpId}
use Rattle.hops_base.specs.declared.ids.ClientNo.{ClientNo}
use Rattle.name_space.specs.declared.call.Call.{Call}
use Rattle.name_space.specs.declared.call.OpKind.{OpKind}
use Rattle.name_space.specs.declared.reply.Reply.{Reply}
use Rattle.name_space.specs.Namespace.{Path}
use Rattle.commit_log.specs.declared.note.Note.{Note}
use Rattle.commit_log.specs.declared.note.Note.TheVariants.{Wrote, Did}
use Rattle.commit_log.specs.declared.note.Work.TheVariants.{Flag, Reclaim}
use Rattle.commit_log.specs.Parts.{passes, Flagging, flagged, flags_op}
use Rattle.commit_log.specs.Flags.{since_flag, ends_flag, is_running, flags}

-- ---- the notes after a flag

-- what stands after the first of one thing more
pub after_first-cons : {X : Type 0} (p : X → Bool) (x : X) (xs : List X) → after_first p (x ∷ xs) ≡ cond (p x) xs (after_first p xs)
after_first-cons p x xs = elim (p x) as (λ b. drop (cond (not b) (1 + prefix_len (λ y. not (p y)) xs) 0 + 1) (x ∷ xs) ≡ cond b xs (after_first p xs)) [
  | true ↦ refl
  | false ↦ ap (λ (n : ℕ). drop n (x ∷ xs)) (one_more (position_or_len p xs))
]
  where
    one_more : (n : ℕ) → 1 + n + 1 ≡ suc (n + 1)
    one_more n = omega arith

-- what stands after the first, where more stands behind it
pub after_first-found : {X : Type 0} (p : X → Bool) (xs ys : List X) → list_any p xs ≡ true → after_first p (xs ++ ys) ≡ after_first p xs ++ ys
after_first-found p [] ys h = cc
after_first-found p (x ∷ xs) ys h =
    after_first-cons p x (xs ++ ys)
    ∙ (elim (p x) as (λ b. (b || list_any p xs) ≡ true → cond b (xs ++ ys) (after_first p (xs ++ ys)) ≡ cond b xs (after_first p xs) ++ ys) [
      | true ↦ λ _. refl
      | false ↦ after_first-found p xs ys
    ] h)
    ∙ ap (λ zs. zs ++ ys) (sym (after_first-cons p x xs))

-- nothing stands after a new first
pub after_first-new : {X : Type 0} (p : X → Bool) (xs : List X) (y : X) → list_any p xs ≡ false → after_first p (xs ++ y ∷ []) ≡ []
after_first-new p [] y h = after_first-cons p y [] ∙ (elim (p y) as (λ b. cond b [] (after_first p []) ≡ []) [ true ↦ refl | false ↦ refl ])
after_first-new p (x ∷ xs) y h =
    after_first-cons p x (xs ++ y ∷ [])
    ∙ (elim (p x) as (λ b. (b || list_any p xs) ≡ false → cond b (xs ++ y ∷ []) (after_first p (xs ++ y ∷ [])) ≡ []) [
      | true ↦ λ e. cc
      | false ↦ after_first-new p xs y
    ] h)

-- of an operation that has its flag
pub since_flag-push : (notes : List Note) (note : Note) (op : OpId) → list_any (flags_op op) notes ≡ true → since_flag (notes ++ note ∷ []) op ≡ since_flag notes op ++ note ∷ []
since_flag-push notes note op h = after_first-found (flags_op op) notes (note ∷ []) h

-- of one that had none
pub since_flag-new : (notes : List Note) (note : Note) (op : OpId) → list_any (flags_op op) notes ≡ false → since_flag (notes ++ note ∷ []) op ≡ []
since_flag-new notes note op h = after_first-new (flags_op op) notes note h

-- ---- running operations

one_of : (a b : Bool) → not (a || (b || false)) ≡ (not a && not b)
one_of true b = refl
one_of false true = refl
one_of false false = refl

-- a flag runs on where it ran and the note doesn't end it
pub is_running-push : (notes : List Note) (note : Note) (flag : Flagging) → list_any (flags_op flag.op) notes ≡ true → is_running (notes ++ note ∷ []) flag ≡ (is_running notes flag && not (ends_flag flag note))
is_running-push notes note flag h =
    ap (λ (ns : List Note). not (list_any (ends_flag flag) ns)) (since_flag-push notes note flag.op h)
    ∙ ap not (list_any-append (ends_flag flag) (since_flag notes flag.op) (note ∷ []))
    ∙ one_of (list_any (ends_flag flag) (since_flag notes flag.op)) (ends_flag flag note)

more : (n : Note) (notes : List Note) (fs : List Flagging) → AllByRecursion (λ (f : Flagging). list_any (flags_op f.op) notes ≡ true) fs → AllByRecursion (λ (f : Flagging). list_any (flags_op f.op) (n ∷ notes) ≡ true) fs
more n notes [] all = tt
more n notes (f ∷ fs) all = (or_right (flags_op f.op n) _ all.0, more n notes fs all.1)

-- each flag that is told was set
set : (notes : List Note) → AllByRecursion (λ (f : Flagging). list_any (flags_op f.op) notes ≡ true) (filter_map flagged notes)
set [] = tt
set (n ∷ notes) =
    elim (flagged n) as (λ (t : Option Flagging). flagged n ≡ t → AllByRecursion (λ (f : Flagging). list_any (flags_op f.op) (n ∷ notes) ≡ true) (cons_option t (filter_map flagged notes))) [
      | None ↦ λ e. more n notes _ (set notes)
      | Some f ↦ λ e. (or_left (flags_op f.op n) _ (ap (passes (λ (g : Flagging). g.op.0 == f.op.0)) e ∙ eq-eqb f.op.0 f.op.0 refl), more n notes _ (set notes))
    ] refl

filter-and : (old new : Flagging → Bool) (stays : Flagging → Bool) (P : Flagging → Type 0) → ((f : Flagging) → P f → new f ≡ (old f && stays f)) → (fs : List Flagging) → AllByRecursion P fs → filter new fs ≡ filter stays (filter old fs)
filter-and old new stays P is [] all = refl
filter-and old new stays P is (f ∷ fs) all =
    ap (λ (b : Bool). cond b (f ∷ filter new fs) (filter new fs)) (is f all.0)
    ∙ (elim (old f) as (λ b. cond (b && stays f) (f ∷ filter new fs) (filter new fs) ≡ filter stays (cond b (f ∷ filter old fs) (filter old fs))) [
      | true ↦ ap (λ (gs : List Flagging). cond (stays f) (f ∷ gs) gs) (filter-and old new stays P is fs all.1)
      | false ↦ filter-and old new stays P is fs all.1
    ])

told : (notes : List Note) (note : Note) → filter (is_running (notes ++ note ∷ [])) (filter_map flagged notes) ≡ filter (λ (f : Flagging). not (ends_flag f note)) (flags notes)
told notes note =
    filter-and (is_running notes) (is_running (notes ++ note ∷ [])) (λ (f : Flagging). not (ends_flag f note)) (λ (f : Flagging). list_any (flags_op f.op) notes ≡ true)
    (λ f h. is_running-push notes note f h) (filter_map flagged notes) (set notes)

flags-append : (notes : List Note) (note : Note) → flags (notes ++ note ∷ []) ≡ filter (λ (f : Flagging). not (ends_flag f note)) (flags notes) ++ filter (is_running (notes ++ note ∷ [])) (cons_option (flagged note) [])
flags-append notes note =
    ap (filter (is_running (notes ++ note ∷ []))) (filter_map-append flagged notes (note ∷ []))
    ∙ filter-append (is_running (notes ++ note ∷ [])) (filter_map flagged notes) (filter_map flagged (note ∷ []))
    ∙ ap (λ (fs : List Flagging). fs ++ filter (is_running (notes ++ note ∷ [])) (filter_map flagged (note ∷ []))) (told notes note)

-- a note that sets no flag takes away those that it ends
pub flags-push : (notes : List Note) (note : Note) → flagged note ≡ None → flags (notes ++ note ∷ []) ≡ filter (λ (f : Flagging). not (ends_flag f note)) (flags notes)
flags-push notes note e =
    flags-append notes note
    ∙ ap (λ (t : Option Flagging). filter (λ (f : Flagging). not (ends_flag f note)) (flags notes) ++ filter (is_running (notes ++ note ∷ [])) (cons_option t [])) e
    ∙ append-nil (filter (λ (f : Flagging). not (ends_flag f note)) (flags notes))

filter-all : (stays : Flagging → Bool) (fs : List Flagging) → ((f : Flagging) → stays f ≡ true) → filter stays fs ≡ fs
filter-all stays [] is = refl
filter-all stays (f ∷ fs) is = ap (λ (b : Bool). cond b (f ∷ filter stays fs) (filter stays fs)) (is f) ∙ ap (λ (gs : List Flagging). f ∷ gs) (filter-all stays fs is)

-- a note that neither sets nor ends a flag leaves them
pub flags-same : (notes : List Note) (note : Note) → flagged note ≡ None → ((f : Flagging) → ends_flag f note ≡ false) → flags (notes ++ note ∷ []) ≡ flags notes
flags-same notes note e is = flags-push notes note e ∙ filter-all (λ (f : Flagging). not (ends_flag f note)) (flags notes) (λ f. ap not (is f))

-- an answer takes away the flags of its session
pub flags-did : (notes : List Note) (s : SessionId) (client : ClientNo) (number : ℕ) (call : Call) (reads : ℕ) (reply : Reply)
    → flags (notes ++ Did s client number call reads reply ∷ []) ≡ filter (λ (f : Flagging). not (s.0 == f.session.0)) (flags notes)
flags-did notes s client number call reads reply = flags-push notes (Did s client number call reads reply) refl

-- a reclaim takes away the flag of its operation
pub flags-reclaim : (notes : List Note) (s : SessionId) (op : OpId) → flags (notes ++ Wrote s (Reclaim op) ∷ []) ≡ filter (λ (f : Flagging). not (op.0 == f.op.0)) (flags notes)
flags-reclaim notes s op = flags-push notes (Wrote s (Reclaim op)) refl ∙ same (flags notes)
  where
    or_false : (b : Bool) → (b || false) ≡ b
    or_false true = refl
    or_false false = refl

    same : (fs : List Flagging) → filter (λ (f : Flagging). not ((op.0 == f.op.0) || false)) fs ≡ filter (λ (f : Flagging). not (op.0 == f.op.0)) fs
    same fs = ap (λ (p : Flagging → Bool). filter p fs) (λ i f. not (or_false (op.0 == f.op.0) i))

-- a new operation's flag stands last
pub flags-flag : (notes : List Note) (s : SessionId) (op : OpId) (kind : OpKind) (path : Path) → list_any (flags_op op) notes ≡ false
    → flags (notes ++ Wrote s (Flag op kind path) ∷ []) ≡ flags notes ++ record { op = op; session = s; kind = kind; path = path } ∷ []
flags-flag notes s op kind path e =
    flags-append notes (Wrote s (Flag op kind path))
    ∙ ap (λ (fs : List Flagging). fs ++ last (is_running (notes ++ Wrote s (Flag op kind path) ∷ []) flag)) (filter-all (λ (f : Flagging). true) (flags notes) (λ f. refl))
    ∙ ap (λ (b : Bool). flags notes ++ last b) (ap (λ (ns : List Note). not (list_any (ends_flag flag) ns)) (since_flag-new notes (Wrote s (Flag op kind path)) op e))
  where
    flag : Flagging
    flag = record { op = op; session = s; kind = kind; path = path }

    last : Bool → List Flagging
    last b = cond b (flag ∷ []) []
