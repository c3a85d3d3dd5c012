-- What a template says: its lines, the cost elements that they make, and what its line 4 multiplies.
use Rattle.std.specs.Prelude.{ℕ, Bool, List, ℤ, Option}
use Rattle.std.specs.List.{find}
use Rattle.std.specs.Str.{bytes_eq}
use Rattle.sheets.specs.declared.elements.Elements.{Elements}
use Rattle.sheets.specs.declared.figures.Figure.{Figure}
use Rattle.sheets.specs.declared.figures.Figures.{Figures}
use Rattle.sheets.specs.declared.pricing.Project.{Project}

pub record Rules (L : Type 0) : Type 0 where
  -- the lines in their order, the bytes printed as the number of each, and the figure that each holds
  pub lines : List L
  pub label_of : L → List ℕ
  pub figure_of : L → Figure
  -- the cost elements that the figures make
  pub elements_of : Figures → Elements
  -- whether line 3d, where there is one, is from 0 to line 3
  pub adjusted_om_fits : Figures → Bool
  -- what line 4 multiplies, of a project
  pub om_base : Project → ℤ

-- the first of these lines that is printed with this label, byte for byte
abbrev pub line_labelled : {L : Type 0} → (L → List ℕ) → List L → List ℕ → Option L
line_labelled label_of lines label = find (λ line. bytes_eq (label_of line) label) lines
