-- The order of the keys, which is the lock order: by table, then by the fields in their order. This project's own.
use Rattle.std.specs.Prelude.{◌≡◌, ℕ, Bool, List, [], refl}
use Rattle.std.proofs.Common.{zero, suc}
use Rattle.std.specs.Coded.{Coded, code_by, coded×, coded_ℕ, coded_list}
use Rattle.std.specs.declared.cmp.Ordering.{Ordering}
use Rattle.std.specs.Ordering.{nat_cmp, on, then_cmp, eq_by_cmp}
use Rattle.std.specs.Cmp.{IsTotalOrder, on_total, then_total, nat_cmp_total}
use Rattle.std.specs.Cmp.Lexicographic.{slice_cmp, nat_list_cmp_total}
use Rattle.hops_base.specs.declared.key.Key.{Key}
use Rattle.hops_base.specs.declared.key.Key.TheVariants.{Inode, Quota, Lease, Reply, Ongoing, Gate}

-- the place of a key's table in the order
abbrev pub table_of : Key → ℕ
table_of (Inode parent name) = 0
table_of (Quota id) = 1
table_of (Lease client id) = 2
table_of (Reply client) = 3
table_of (Ongoing op) = 4
table_of Gate = 5

-- the first number in a key
abbrev pub number_of : Key → ℕ
number_of (Inode parent name) = parent.0
number_of (Quota id) = id.0
number_of (Lease client id) = client.0
number_of (Reply client) = client.0
number_of (Ongoing op) = op.0
number_of Gate = 0

-- the inode that stands second in a key
abbrev pub inode_of : Key → ℕ
inode_of (Inode parent name) = 0
inode_of (Quota id) = 0
inode_of (Lease client id) = id.0
inode_of (Reply client) = 0
inode_of (Ongoing op) = 0
inode_of Gate = 0

-- the name in a key
abbrev pub name_of : Key → List ℕ
name_of (Inode parent name) = name
name_of (Quota id) = []
name_of (Lease client id) = []
name_of (Reply client) = []
name_of (Ongoing op) = []
name_of Gate = []

-- the order of keys
unfoldable pub key_cmp : Key → Key → Ordering
key_cmp = then_cmp (on table_of nat_cmp) (then_cmp (on number_of nat_cmp) (then_cmp (on inode_of nat_cmp) (on name_of (slice_cmp nat_cmp))))

-- the order is total
pub key_cmp_total : IsTotalOrder key_cmp
unfolding key_cmp
key_cmp_total = then_total (on_total table_of nat_cmp_total) (then_total (on_total number_of nat_cmp_total) (then_total (on_total inode_of nat_cmp_total) (on_total name_of nat_list_cmp_total)))

-- the two keys are one
abbrev pub same_key : Key → Key → Bool
same_key = eq_by_cmp key_cmp

-- the parts of a key
abbrev pub parts_of : Key → ℕ × (ℕ × (ℕ × List ℕ))
parts_of key = (table_of key, (number_of key, (inode_of key, name_of key)))

-- the key that has these parts
abbrev pub key_of : ℕ × (ℕ × (ℕ × List ℕ)) → Key
key_of (zero, (number, (inode, name))) = Inode (record { 0 = number }) name
key_of (suc zero, (number, (inode, name))) = Quota (record { 0 = number })
key_of (suc (suc zero), (number, (inode, name))) = Lease (record { 0 = number }) (record { 0 = inode })
key_of (suc (suc (suc zero)), (number, (inode, name))) = Reply (record { 0 = number })
key_of (suc (suc (suc (suc zero))), (number, (inode, name))) = Ongoing (record { 0 = number })
key_of (suc (suc (suc (suc (suc table)))), (number, (inode, name))) = Gate

pub key_of-parts : (key : Key) → key_of (parts_of key) ≡ key
key_of-parts (Inode parent name) = refl
key_of-parts (Quota id) = refl
key_of-parts (Lease client id) = refl
key_of-parts (Reply client) = refl
key_of-parts (Ongoing op) = refl
key_of-parts Gate = refl

-- a key is stored as its parts
abbrev pub coded_key : Coded Key
coded_key = code_by (ℕ × (ℕ × (ℕ × List ℕ))) (coded× coded_ℕ (coded× coded_ℕ (coded× coded_ℕ (coded_list coded_ℕ)))) parts_of key_of key_of-parts
