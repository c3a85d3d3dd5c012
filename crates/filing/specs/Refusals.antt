-- The number of each refusal, and its sentence.
use Rattle.std.specs.Prelude.{ℕ, List, codes}
use Rattle.sheets.specs.Refusals.{number_of as sheet_number, sentence_of as sheet_sentence}
use Rattle.filing.specs.declared.refusal.Refusal.{Refusal}
use Rattle.filing.specs.declared.refusal.Refusal.TheVariants.{ProjectNumberOutOfRange, FileTooLong, NotALine, LetterOutOfPlace, UnknownTemplate, MalformedField, TooManyProjects, NoProject, Sheet}

abbrev pub number_of : Refusal → ℕ
number_of ProjectNumberOutOfRange = 1
number_of FileTooLong = 29
number_of NotALine = 29
number_of LetterOutOfPlace = 30
number_of UnknownTemplate = 30
number_of MalformedField = 31
number_of TooManyProjects = 32
number_of NoProject = 32
number_of (Sheet why) = sheet_number why

abbrev pub sentence_of : Refusal → List ℕ
sentence_of ProjectNumberOutOfRange = codes "a project number is 1 to 99,999,999"
sentence_of FileTooLong = codes "a filing has at most 65,536 bytes"
sentence_of NotALine = codes "a line has 56 bytes and then a newline"
sentence_of LetterOutOfPlace = codes "a T line comes first, then F lines, then P lines"
sentence_of UnknownTemplate = codes "columns 2-4 of the T line hold MM or CC"
sentence_of MalformedField = codes "a field is empty, is no number or ends before its last column, or something stands beside the fields"
sentence_of TooManyProjects = codes "a filing has at most 64 projects"
sentence_of NoProject = codes "a filing has at least one project"
sentence_of (Sheet why) = sheet_sentence why
