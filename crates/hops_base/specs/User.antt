-- What a user is. This project's own.
use Rattle.std.specs.Prelude.{ℕ, Bool, ◌&&◌, ◌||◌, ◌==◌, nat_le, nat_lt, List, length}
use Rattle.std.specs.Char.{is_ascii_lowercase, is_ascii_digit}
use Rattle.std.specs.List.{list_all}

-- the most bytes of a user
abbrev pub most_user_bytes : ℕ
most_user_bytes = 32

-- the byte is a lower-case letter, a digit, '_' or '-'
abbrev pub is_user_byte : ℕ → Bool
is_user_byte b = is_ascii_lowercase b || is_ascii_digit b || b == 95 || b == 45

-- the bytes are a user: 1 to 32 such bytes
abbrev pub is_user : List ℕ → Bool
is_user bytes = nat_lt 0 (length bytes) && nat_le (length bytes) most_user_bytes && list_all is_user_byte bytes
