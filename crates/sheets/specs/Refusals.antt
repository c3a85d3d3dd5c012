-- The number of each refusal, and its sentence.
use Rattle.std.specs.Prelude.{ℕ, List, codes}
use Rattle.sheets.specs.declared.refusal.Refusal.{Refusal}
use Rattle.sheets.specs.declared.refusal.Refusal.TheVariants.{UnknownLine, AmountOutOfRange, LineMissing, BaseNotAboveZero, AdjustedOmOutOfRange, FactorOutOfRange, ProjectOutOfRange, RequirementOutOfRange}

abbrev pub number_of : Refusal → ℕ
number_of UnknownLine = 21
number_of AmountOutOfRange = 22
number_of LineMissing = 23
number_of BaseNotAboveZero = 24
number_of AdjustedOmOutOfRange = 25
number_of FactorOutOfRange = 26
number_of ProjectOutOfRange = 27
number_of RequirementOutOfRange = 28

abbrev pub sentence_of : Refusal → List ℕ
sentence_of UnknownLine = codes "the template has no line with this label"
sentence_of AmountOutOfRange = codes "an amount is 0 to 10,000,000,000, on line 10 also down to -10,000,000,000"
sentence_of LineMissing = codes "a line of the template has no amount yet"
sentence_of BaseNotAboveZero = codes "a base that is divided by is not above 0"
sentence_of AdjustedOmOutOfRange = codes "line 3d is not from 0 to line 3"
sentence_of FactorOutOfRange = codes "a factor is beyond 1,000 percent"
sentence_of ProjectOutOfRange = codes "the project's plant or depreciation is out of range"
sentence_of RequirementOutOfRange = codes "the annual revenue requirement is not 0 to 100,000,000"
