-- Laws of the flags that rows bear.
use Rattle.std.proofs.Common.{◌≡◌, Bool, cond, Option, Some, None, is_some, option_and_then, inl, inr, refl, sym, ap, ◌∙◌}
use Rattle.std.specs.FinMap as map
use Rattle.hops_base.specs.declared.key.Key.{Key}
use Rattle.hops_base.specs.Key.{key_cmp_total}
use Rattle.hops_base.proofs.Tells.{keys_tell}
use Rattle.inode_table.specs.declared.inode.Inode.{Inode}
use Rattle.db_state.specs.Stored.{Inodes}
use Rattle.db_state.specs.Consistent.{IsUnflagged, flag_at, FlagsStay}

-- a row that bears the flag of its key's row leaves all flags
pub flags_with : (inodes : Inodes) (at : Key) (new : Inode) → new.flag ≡ flag_at inodes at → (k : Key) → flag_at (map.insert inodes at new) k ≡ flag_at inodes k
flags_with inodes at new same k =
    ap (option_and_then (λ (r : Inode). r.flag)) (map.get-insert key_cmp_total inodes at new k)
    ∙ (elim (keys_tell k at) [
      | inl h ↦ ap (λ (b : Bool). option_and_then (λ (r : Inode). r.flag) (cond b (Some new) (map.get inodes k))) h.0 ∙ same ∙ sym (ap (flag_at inodes) h.1)
      | inr h ↦ ap (λ (b : Bool). option_and_then (λ (r : Inode). r.flag) (cond b (Some new) (map.get inodes k))) h.0
    ])

-- where no row bears a flag and flags stay, none does then
pub unflagged_stays : (old new : Inodes) → IsUnflagged old → FlagsStay old new → IsUnflagged new
unflagged_stays old new unflagged stay k x e =
    sym (ap (option_and_then (λ (r : Inode). r.flag)) e) ∙ stay k (ap is_some e) ∙ none (map.get old k) refl
  where
    none : (o : Option Inode) → map.get old k ≡ o → flag_at old k ≡ None
    none None is = ap (option_and_then (λ (r : Inode). r.flag)) is
    none (Some r) is = ap (option_and_then (λ (r : Inode). r.flag)) is ∙ unflagged k r is
