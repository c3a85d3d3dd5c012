-- Words separated by commas.
use Rattle.std.specs.Prelude.{ℕ, Bool, List, ◌==◌}
use Rattle.std.specs.List.{after_first, before_first, join_with_byte}

abbrev pub comma : ℕ
comma = 44

abbrev pub is_comma : ℕ → Bool
is_comma b = b == comma

-- the text of words: a comma between each two
abbrev pub joined : List (List ℕ) → List ℕ
joined words = join_with_byte comma words

-- the word before the first comma, or the whole text
abbrev pub first_word : List ℕ → List ℕ
first_word text = before_first is_comma text

-- what follows the first comma, or nothing
abbrev pub words_after : List ℕ → List ℕ
words_after text = after_first is_comma text
