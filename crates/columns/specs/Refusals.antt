-- The number of each refusal, as both answer the question whether the fields are well formed, and its sentence.
use Rattle.std.specs.Prelude.{ℕ, List, codes}
use Rattle.columns.specs.declared.refusal.Refusal.{Refusal}
use Rattle.columns.specs.declared.refusal.Refusal.TheVariants.{NotANumber, TooWide}

abbrev pub number_of : Refusal → ℕ
number_of NotANumber = 31
number_of TooWide = 31

abbrev pub sentence_of : Refusal → List ℕ
sentence_of NotANumber = codes "the columns hold no number of 128 bits"
sentence_of TooWide = codes "the number is too wide for its columns"
