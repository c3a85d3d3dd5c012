-- Priced projects as plain rows.
use Rattle.std.specs.Prelude.{List, map, ℤ}
use Rattle.rows.specs.Rows.{rows_in}
use Rattle.sheets.specs.declared.pricing.Columns.{Columns}
use Rattle.sheets.specs.declared.pricing.Project.{Project}
use Rattle.filing.specs.declared.priced_projects.PricedProject.{PricedProject}
use Rattle.filing.specs.declared.priced_projects.PricedProjects.{PricedProjects}

-- a project number, the project and its columns
pub record Row : Type 0 where
  pub number : ℤ
  pub project : Project
  pub columns : Columns

abbrev pub row_of : PricedProject → Row
row_of p = record { number = p.number; project = p.project; columns = p.columns }

-- the projects of a filing, in their order
abbrev pub rows_of : PricedProjects → List Row
rows_of p = map row_of (rows_in p.rows)
