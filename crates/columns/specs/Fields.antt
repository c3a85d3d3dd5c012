-- A number in its columns: what a field reads as, what writing a number gives, and what holds between the two.
use Rattle.std.specs.Prelude.{◌≡◌, ℕ, ◌-◌, ◌^◌, Bool, true, cond, ◌&&◌, List, [], ◌∷◌, ◌++◌, length, replicate, ℤ, Ok, Err, Result, ◌==◌, nat_le, nat_lt}
use Rattle.std.specs.Int.Signed.{mag}
use Rattle.std.specs.Str.Parse.{signed_digits_value}
use Rattle.std.specs.Str.{bytes_eq}
use Rattle.columns.specs.Texts.{Spells, text_of, width_of}
use Rattle.columns.specs.declared.refusal.Refusal.{Refusal}
use Rattle.columns.specs.declared.refusal.Refusal.TheVariants.{NotANumber, TooWide}

-- a field holds a number: some spaces, then the number's text, and nothing after it
abbrev pub Holds : List ℕ → ℤ → Type 0
Holds field n = (spaces : ℕ) × (field ≡ replicate spaces 32 ++ text_of n)

-- −2^127 ≤ n < 2^127: mag is n from zero on, and −n − 1 below
abbrev pub in_range : ℤ → Bool
in_range n = nat_lt (mag n) (2 ^ 127)

-- what follows the spaces that a field begins with
unfoldable pub after_spaces : List ℕ → List ℕ
after_spaces [] = []
after_spaces (b ∷ bs) = cond (b == 32) (after_spaces bs) (b ∷ bs)

-- the text is just that of the number which its sign and digits spell, and the number is in range
abbrev pub well_formed : List ℕ → Bool
well_formed text = bytes_eq text (text_of (signed_digits_value 10 text)) && in_range (signed_digits_value 10 text)

-- the number whose text this is
abbrev pub number_in : List ℕ → Result ℤ Refusal
number_in text = cond (well_formed text) (Ok (signed_digits_value 10 text)) (Err NotANumber)

-- what reading a field answers
unfoldable pub reading : List ℕ → Result ℤ Refusal
reading field = number_in (after_spaces field)

-- a number in the last of some columns, after spaces
unfoldable pub right_justified : ℕ → ℤ → List ℕ
right_justified columns n = replicate (columns - width_of n) 32 ++ text_of n

-- what writing answers, and what the columns hold after it
pub record Writing : Type 0 where
  pub answer : Result (Unit {0}) Refusal
  pub after : List ℕ

-- the call gave this writing
abbrev pub Gives : Writing → Result (Unit {0}) Refusal → List ℕ → Type 0
Gives w r columns = (r ≡ w.answer) × (columns ≡ w.after)

-- an accepted writing leaves these columns
abbrev pub accepted : List ℕ → Writing
accepted columns = record { answer = Ok tt; after = columns }

-- a refusal leaves the columns as found
abbrev pub refused : List ℕ → Writing
refused columns = record { answer = Err TooWide; after = columns }

-- a text written into columns: at their end where it fits them, and else refused
abbrev pub text_written : List ℕ → List ℕ → Writing
text_written columns text = cond (nat_le (length text) (length columns)) (accepted (replicate (length columns - length text) 32 ++ text)) (refused columns)

-- a number written into columns: right-justified where it fits them, and else refused
unfoldable pub written : List ℕ → ℤ → Writing
written columns n = cond (nat_le (width_of n) (length columns)) (accepted (right_justified (length columns) n)) (refused columns)

-- r is the number that the field holds, the only one, and a refusal where it holds none in range
pub record ReadsWhatIsHeld (field : List ℕ) (r : Result ℤ Refusal) : Type 0 where
  pub field_holds_one_number : (m n : ℤ) → Holds field m → Holds field n → m ≡ n
  pub number_held_is_spelled : (n : ℤ) → Holds field n → Spells (after_spaces field) n
  pub number_spelled_is_held : (n : ℤ) → Spells (after_spaces field) n → Holds field n
  pub number_held_is_read : (n : ℤ) → in_range n ≡ true → Holds field n → r ≡ Ok n
  pub number_read_is_held : (n : ℤ) → r ≡ Ok n → Holds field n × (in_range n ≡ true)

-- a number written reads back as itself, and a field that reads as a number is just what writing that number gives
pub record UndoesWriting (field : List ℕ) (r : Result ℤ Refusal) : Type 0 where
  pub number_written_is_read_back : (columns : List ℕ) (n : ℤ) → in_range n ≡ true → written columns n ≡ accepted field → r ≡ Ok n
  pub number_read_is_written_back : (columns : List ℕ) (n : ℤ) → length columns ≡ length field → r ≡ Ok n → written columns n ≡ accepted field
