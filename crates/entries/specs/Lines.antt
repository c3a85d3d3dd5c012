-- What a line of a daybook is.
use Rattle.std.specs.Prelude.{◌≡◌, ℕ, Bool, true, false, cond, ◌&&◌, ◌||◌, ◌↔◌, List, [], ◌∷◌, reverse, Some, None, Option, ◌==◌}
use Rattle.std.specs.Str.Lines.{strip_carriage_return}
use Rattle.entries.specs.Readings.{entry_in}
use Rattle.entries.specs.Texts.{Fits, entry_text}
use Rattle.entries.specs.declared.entry.Entry as entry
use Rattle.entries.specs.declared.line.Line.{Line}
use Rattle.entries.specs.declared.line.Line.TheVariants.{Passed, Entry, Unread}

abbrev pub begins_with_hash : List ℕ → Bool
begins_with_hash [] = false
begins_with_hash (b ∷ bs) = b == 35

-- empty, or begins with # or with "#
abbrev pub passed_over : List ℕ → Bool
passed_over [] = true
passed_over (b ∷ bs) = b == 35 || b == 34 && begins_with_hash bs

-- a line that is no entry is unread
abbrev pub entry_or_unread : Option entry.Entry → Line
entry_or_unread None = Unread
entry_or_unread (Some e) = Entry e

-- what is left of a line: passed over, an entry or unread
abbrev pub text_in : List ℕ → Line
text_in text = cond (passed_over text) Passed (entry_or_unread (entry_in text))

abbrev pub past_commas : List ℕ → List ℕ
past_commas [] = []
past_commas (b ∷ bs) = cond (b == 44) (past_commas bs) (b ∷ bs)

-- a line without the commas at its end
abbrev pub without_commas : List ℕ → List ℕ
without_commas line = reverse (past_commas (reverse line))

-- what of a line is read: not a carriage return at its end, nor the commas before that
abbrev pub content_of : List ℕ → List ℕ
content_of line = without_commas (strip_carriage_return line)

unfoldable pub line_in : List ℕ → Line
line_in line = text_in (content_of line)

-- what is read of the line is the text of this entry
abbrev pub IsTextOf : entry.Entry → List ℕ → Type 0
IsTextOf e line = Fits e × (content_of line ≡ entry_text e)

-- a line is an entry just where it is that entry's text, and of one entry only
pub record ReadsEntryTexts (line : List ℕ) (r : Line) : Type 0 where
  pub text_of_an_entry_is_read : (e : entry.Entry) → IsTextOf e line → r ≡ Entry e
  pub entry_read_has_that_text : (e : entry.Entry) → r ≡ Entry e → IsTextOf e line
  pub line_is_the_text_of_one_entry : (d e : entry.Entry) → IsTextOf d line → IsTextOf e line → d ≡ e
  pub empty_line_and_remark_are_passed_over : (r ≡ Passed) ↔ (passed_over (content_of line) ≡ true)
