-- What a name is. This project's own limits on the path elements of HDFS.
use Rattle.std.specs.Prelude.{ℕ, Bool, not, ◌&&◌, ◌==◌, nat_le, nat_lt, List, [], ◌∷◌, length, bytes_eq}
use Rattle.std.specs.List.{list_all}
use Rattle.std.specs.Str.{is_utf8}

-- the most bytes of a name
abbrev pub most_name_bytes : ℕ
most_name_bytes = 255

-- the byte is neither '/' nor NUL
abbrev pub is_name_byte : ℕ → Bool
is_name_byte b = not (b == 47) && not (b == 0)

-- the bytes are a name: 1 to 255 bytes of UTF-8 without '/' and NUL, and neither "." nor ".."
abbrev pub is_name : List ℕ → Bool
is_name bytes = nat_lt 0 (length bytes) && nat_le (length bytes) most_name_bytes && not (bytes_eq bytes (46 ∷ [])) && not (bytes_eq bytes (46 ∷ 46 ∷ [])) && list_all is_name_byte bytes && is_utf8 bytes
