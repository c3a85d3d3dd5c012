-- The number of each refusal, and its sentence.
use Rattle.std.specs.Prelude.{ℕ, List, codes}
use Rattle.page_text.specs.declared.refusal.Refusal.{Refusal}
use Rattle.page_text.specs.declared.refusal.Refusal.TheVariants.{TooManyProjects}

abbrev pub number_of : Refusal → ℕ
number_of TooManyProjects = 32

abbrev pub sentence_of : Refusal → List ℕ
sentence_of TooManyProjects = codes "the pages have at most 64 projects"
