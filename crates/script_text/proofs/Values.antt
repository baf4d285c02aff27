-- The value that bytes are, as the reader of JSON tells of it.
use Rattle.std.proofs.Common.{◌≡◌, ℕ, true, false, if◌then◌else◌, List, Some, None, refl}
use Rattle.std.specs.Str.{is_utf8}
use Rattle.std.specs.Prelude.{IsUtf8}
use Rattle.std.proofs.lemmas.Str.{is_utf8-from_IsUtf8, IsUtf8-from_is_utf8}
use Rattle.serde_json.specs.Data.{Data}
use Rattle.serde_json.specs.Read.{read}
use Rattle.script_text.specs.Faults.{value_of}

-- the value that is read of bytes in UTF-8
pub value_there : (bytes : List ℕ) (value : Data) → IsUtf8 bytes → read bytes ≡ Some value → value_of bytes ≡ Some value
value_there bytes value good is = rw (is_utf8-from_IsUtf8 bytes good) is

-- bytes of which none is read
pub no_value : (bytes : List ℕ) → (IsUtf8 bytes → read bytes ≡ None) → value_of bytes ≡ None
no_value bytes none = (elim (is_utf8 bytes) as (λ b. is_utf8 bytes ≡ b → (if b then read bytes else None) ≡ None) [ true ↦ λ e. none (IsUtf8-from_is_utf8 bytes e) | false ↦ λ e. refl ]) refl
