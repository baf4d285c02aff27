-- Where notes stand in a book: how many there are up to the first or the last of a kind. This project's own.
use Rattle.std.specs.Prelude.{ℕ, suc, Bool, true, ◌==◌, cond, nat_lt, List, [], ◌∷◌, Option, Some, None, option_map, option_and_then}
use Rattle.std.specs.Option.{option_or}
use Rattle.hops_base.specs.declared.ids.SessionId.{SessionId}
use Rattle.hops_base.specs.declared.ids.OpId.{OpId}
use Rattle.hops_base.specs.declared.ids.NodeNo.{NodeNo}
use Rattle.commit_log.specs.declared.note.Note.{Note}
use Rattle.commit_log.specs.declared.note.Note.TheVariants.{Gave, Did}
use Rattle.commit_log.specs.Parts.{passes, Opening, opened, reclaims_by}

-- how many notes there are up to the first that passes the test
abbrev pub first_end : (Note → Bool) → List Note → Option ℕ
first_end test [] = None
first_end test (note ∷ notes) = cond (test note) (Some 1) (option_map (λ n. suc n) (first_end test notes))

-- how many there are up to the last
abbrev pub last_end : (Note → Bool) → List Note → Option ℕ
last_end test [] = None
last_end test (note ∷ notes) = option_or (option_map (λ n. suc n) (last_end test notes)) (cond (test note) (Some 1) None)

-- the namenode at which the note opens the session
abbrev pub opening_node : SessionId → Note → Option NodeNo
opening_node s note = option_and_then (λ (o : Opening). cond (o.session.0 == s.0) (Some o.node) None) (opened note)

-- how many notes there are up to the opening of the session, and its namenode
abbrev pub opening_end : SessionId → List Note → Option (ℕ × NodeNo)
opening_end s [] = None
opening_end s (note ∷ notes) =
    option_or (option_map (λ (node : NodeNo). (1, node)) (opening_node s note))
    (option_map (λ (e : ℕ × NodeNo). (suc e.0, e.1)) (opening_end s notes))

-- the session that gives all its locks back
abbrev pub giver : Note → Option SessionId
giver (Gave s) = Some s
giver (Did s client number call reads reply) = Some s
giver note = None

-- the session gives all its locks back
abbrev pub gives_all : SessionId → Note → Bool
gives_all s note = passes (λ (g : SessionId). g.0 == s.0) (giver note)

-- the note ends the operation from outside
abbrev pub reclaims_op : OpId → Note → Bool
reclaims_op op note = reclaims_by (λ s. true) op note

-- both are there, and the last stands after the first
abbrev pub is_past : Option ℕ → Option ℕ → Bool
is_past first last = passes (λ (k : ℕ). passes (λ (n : ℕ). nat_lt k n) last) first
