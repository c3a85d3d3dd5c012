-- The refusals of a journal: the number of each, and what it says.
use Rattle.std.specs.Prelude.{ℕ, List, codes}
use Rattle.journals.specs.declared.refusal.Refusal.{Refusal}
use Rattle.journals.specs.declared.refusal.Refusal.TheVariants.{NoPlace}

abbrev pub number_of : Refusal → ℕ
number_of NoPlace = 12

abbrev pub sentence_of : Refusal → List ℕ
sentence_of NoPlace = codes "the journal has no place for this participant and month, or the kilowatt-hours are above 10,000,000,000"
