-- What a worked sheet holds.
use Rattle.sheets.specs.declared.factors.Factors.{Factors}
use Rattle.sheets.specs.declared.figures.Figures.{Figures}

-- the figures as entered, and the factors that they make
pub record Worked : Type 0 where
  pub figures : Figures
  pub factors : Factors
