use Rattle.std.proofs.Common.{◌≡◌, map, take}
use Rattle.filing.specs.Rows.{row_of as priced_row}
use Rattle.filed_pages.specs.Texts.{page_line}
use Rattle.filed_pages.proofs.page_rows.Given as goal

-- the projects so far have their lines
abbrev pub invariant-loop-project : goal.invariant-loop-project
invariant-loop-project l = l.rows ≡ map page_line (map priced_row (take l.project-index l.projects))
