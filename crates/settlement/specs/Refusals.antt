-- The number of each refusal, and what it says.
use Rattle.std.specs.Prelude.{ℕ, List, codes}
use Rattle.settlement.specs.declared.refusal.Refusal.{Refusal}
use Rattle.settlement.specs.declared.refusal.Refusal.TheVariants.{ProjectNumberOutOfRange, NotDraft, NoRoomForARow, RequirementOutOfRange, NotFiled, ForecastOutOfRange, UsageRateOutOfRange, ReadingOutOfRange, NotPosted, AlreadyHeld, MoneyOutOfRange, NoPlace, NotHeld, NoRow, ActualOutOfRange, NotStated, NotPaid, LastYear, RateMissing, TrueUpOutOfRange}

abbrev pub number_of : Refusal → ℕ
number_of ProjectNumberOutOfRange = 1
number_of NotDraft = 2
number_of NoRoomForARow = 3
number_of RequirementOutOfRange = 4
number_of NotFiled = 5
number_of ForecastOutOfRange = 6
number_of UsageRateOutOfRange = 7
number_of ReadingOutOfRange = 8
number_of NotPosted = 9
number_of AlreadyHeld = 10
number_of MoneyOutOfRange = 11
number_of NoPlace = 12
number_of NotHeld = 13
number_of NoRow = 14
number_of ActualOutOfRange = 15
number_of NotStated = 16
number_of NotPaid = 17
number_of LastYear = 18
number_of RateMissing = 19
number_of TrueUpOutOfRange = 20

-- what each says, for a person
abbrev pub sentence_of : Refusal → List ℕ
sentence_of ProjectNumberOutOfRange = codes "the project number is not 1 to 99,999,999"
sentence_of NotDraft = codes "the year is not a draft"
sentence_of NoRoomForARow = codes "the project has no row, and there are 64 rows already"
sentence_of RequirementOutOfRange = codes "the requirement or column 16 is not 0 to 100,000,000 dollars"
sentence_of NotFiled = codes "there is no row, or a row has no requirement for this year"
sentence_of ForecastOutOfRange = codes "the forecast is not 1 to 1,000,000,000 megawatt-hours"
sentence_of UsageRateOutOfRange = codes "the usage rate is not 1 to 1,000,000 ten-thousandths of a dollar"
sentence_of ReadingOutOfRange = codes "the participant, the month or the kilowatt-hours are outside their ranges"
sentence_of NotPosted = codes "the year is not posted"
sentence_of AlreadyHeld = codes "kilowatt-hours are held for this participant and month already"
sentence_of MoneyOutOfRange = codes "the money afterwards is not 0 to 90,000,000,000 cents"
sentence_of NoPlace = codes "the journal has no place for this participant and month"
sentence_of NotHeld = codes "nothing is held for this participant and month"
sentence_of NoRow = codes "the project has no row"
sentence_of ActualOutOfRange = codes "the actual is not 0 to 100,000,000 dollars"
sentence_of NotStated = codes "a row has no actual for this year"
sentence_of NotPaid = codes "a row has not been paid its share"
sentence_of LastYear = codes "the year is 65,535, the last one"
sentence_of RateMissing = codes "one of the 24 months from January of the year on has no rate"
sentence_of TrueUpOutOfRange = codes "a true-up is not within 100,000,000 dollars either way"
