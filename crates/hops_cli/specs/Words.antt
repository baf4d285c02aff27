-- Which words are a command. This project's own.
use Rattle.std.specs.Prelude.{ℕ, Bool, ◌&&◌, nat_le, nat_lt, if◌then◌else◌, List, length, slice_get, Option, Some, None, Result, Ok, Err, codes}
use Rattle.std.specs.List.{list_all}
use Rattle.std.specs.Str.Parse.{digits_value}
use Rattle.std.specs.Prelude.{bytes_eq}
use Rattle.name_space.specs.Script.{most_clients}
use Rattle.script_text.specs.Generator.{most_generated_calls}
use Rattle.hops_cli.specs.declared.words.Command.{Command}
use Rattle.hops_cli.specs.declared.words.Command.TheVariants.{Run, Gen}

-- the byte is a decimal digit
abbrev pub is_digit : ℕ → Bool
is_digit byte = nat_le 48 byte && nat_le byte 57

-- the word is 1 to 10 digits
abbrev pub is_number : List ℕ → Bool
is_number word = nat_le 1 (length word) && nat_le (length word) 10 && list_all is_digit word

-- it is one that is in its range
abbrev pub is_number_in : ℕ → ℕ → List ℕ → Bool
is_number_in lowest highest word = is_number word && nat_le lowest (digits_value 10 word) && nat_le (digits_value 10 word) highest

-- the number that such a word is; else its place is bad
abbrev pub number_or : ℕ → ℕ → ℕ → List ℕ → Result ℕ ℕ
number_or place lowest highest word = if is_number_in lowest highest word then Ok (digits_value 10 word) else Err place

-- the number that a word is, where there is one; a word that is missing is told by its place
abbrev pub number_of_word : ℕ → ℕ → ℕ → Option (List ℕ) → Result ℕ ℕ
number_of_word place lowest highest None = Err place
number_of_word place lowest highest (Some word) = number_or place lowest highest word

-- the number at a place of these words, in its range
abbrev pub number_at : List (List ℕ) → ℕ → ℕ → ℕ → Result ℕ ℕ
number_at words place lowest highest = number_of_word place lowest highest (slice_get words place)

-- the command, where there are no more words than it has
abbrev pub ended : List (List ℕ) → ℕ → Command → Result Command ℕ
ended words count command = if nat_lt count (length words) then Err count else Ok command

-- what comes of a number, where it is one
abbrev pub with_number : {A : Type 0} → Result ℕ ℕ → (ℕ → Result A ℕ) → Result A ℕ
with_number (Ok number) next = next number
with_number (Err place) next = Err place

-- the highest seed
abbrev pub highest_seed : ℕ
highest_seed = 4294967295

-- `gen` with a seed, how many clients, and how many calls each has
abbrev pub gen_asked : List (List ℕ) → Result Command ℕ
gen_asked words =
    with_number (number_at words 1 0 highest_seed) (λ seed.
    with_number (number_at words 2 1 most_clients) (λ clients.
    with_number (number_at words 3 0 most_generated_calls) (λ calls.
    ended words 4 (Gen seed clients calls))))

-- the command that begins with this word
abbrev pub asked_first : List (List ℕ) → Option (List ℕ) → Result Command ℕ
asked_first words None = Err 0
asked_first words (Some first) = if bytes_eq first (codes "run") then ended words 1 Run else if bytes_eq first (codes "gen") then gen_asked words else Err 0

-- what the words ask for, or the place of the first bad word, or of the missing one
abbrev pub asked_by : List (List ℕ) → Result Command ℕ
asked_by words = asked_first words (slice_get words 0)
