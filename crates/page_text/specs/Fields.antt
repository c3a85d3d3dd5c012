-- The fields of a line: a number right-justified in its columns.
use Rattle.std.specs.Prelude.{ℕ, List, [], ◌∷◌, ℤ, sum_by}
use Rattle.std.specs.List.{flat_map}
use Rattle.columns.specs.Fields.{right_justified}

-- a number and how many columns it has
pub record PageField : Type 0 where
  pub columns : ℕ
  pub number : ℤ

-- the number right-justified in its columns
abbrev pub field_text : PageField → List ℕ
field_text f = right_justified f.columns f.number

-- one field after another
abbrev pub fields_text : List PageField → List ℕ
fields_text fields = flat_map field_text fields

-- the columns of all the fields
abbrev pub fields_width : List PageField → ℕ
fields_width fields = sum_by (λ f. f.columns) fields

abbrev pub newline : List ℕ
newline = 10 ∷ []
