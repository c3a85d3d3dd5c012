-- The lines of a daybook's input, in bytes.
use Rattle.std.specs.Prelude.{◌≡◌, IsUtf8, ℕ, ◌-◌, Bool, ◌&&◌, ◌==◌, if◌then◌else◌, IsTrue, IsFalse, List, [], ◌∷◌, drop, length, nat_eq, nat_lt, slice_index, take}
use Rattle.std.specs.List.{starts_with}
use Rattle.std.specs.Str.Lines.{strip_carriage_return}
use Rattle.entries.specs.Lines.{line_in, passed_over}
use Rattle.entries.specs.declared.line.Line.{Line}
use Rattle.entries.specs.declared.line.Line.TheVariants.{Passed, Unread}
use Rattle.desk.specs.declared.lines.RawLine.{RawLine}

-- the most bytes of a line without its newline
abbrev pub longest : ℕ
longest = 65536

abbrev pub newline : ℕ
newline = 10

abbrev pub byte_order_mark : List ℕ
byte_order_mark = 239 ∷ 187 ∷ 191 ∷ []

-- bytes without this one at their end, if it stands there
abbrev pub without_last : ℕ → List ℕ → List ℕ
without_last last bytes = if slice_index bytes (length bytes - 1) == last then take (length bytes - 1) bytes else bytes

-- a line as it was read is cut before its newline, and behind its first 65,536 bytes if more stand there
abbrev pub kept_of : List ℕ → List ℕ
kept_of read = take longest (without_last newline read)

abbrev pub beyond_longest : List ℕ → Bool
beyond_longest read = nat_lt longest (length (without_last newline read))

-- a line without the three bytes of the mark, where it is the first and begins with them
abbrev pub without_mark : Bool → List ℕ → List ℕ
without_mark is_first bytes = if is_first && starts_with nat_eq bytes byte_order_mark then drop 3 bytes else bytes

-- what is shown of a line: not a carriage return at its end; of a line that is too long all that was kept
abbrev pub shown : RawLine → List ℕ
shown line = if line.is_too_long then line.bytes.now else strip_carriage_return line.bytes.now

-- a remark, and else a line that nothing can be read of
abbrev pub passed_or_unread : List ℕ → Line
passed_or_unread bytes = if passed_over bytes then Passed else Unread

-- what a line is
pub record ReadAs (line : RawLine) (r : Line) : Type 0 where
  pub remark_is_passed_over_whatever_it_holds : IsTrue (passed_over line.bytes.now) → r ≡ Passed
  pub text_within_the_longest_is_read_by_the_rule_of_entries : IsFalse line.is_too_long → IsUtf8 line.bytes.now → r ≡ line_in line.bytes.now
  pub line_that_is_too_long_is_passed_over_or_unread : IsTrue line.is_too_long → r ≡ passed_or_unread line.bytes.now
  pub line_that_is_no_text_is_passed_over_or_unread : ¬ IsUtf8 line.bytes.now → r ≡ passed_or_unread line.bytes.now
