-- The lines of a filing.
use Rattle.std.specs.Prelude.{◌≡◌, ℕ, zero, suc, ◌+◌, ◌*◌, ◌/◌, Bool, true, false, not, ◌&&◌, List, [], ◌∷◌, length, take, drop, Some, None, Ok, Err, Option, Result, ◌==◌, nat_le, slice_index}
use Rattle.std.specs.List.{list_any}
use Rattle.filing.specs.declared.reader.FilingReader.{FilingReader}
use Rattle.filing.specs.declared.reader.Record.{Record}
use Rattle.filing.specs.declared.refusal.LineRefusal.{LineRefusal}
use Rattle.filing.specs.declared.refusal.Refusal.{Refusal}
use Rattle.filing.specs.declared.refusal.Refusal.TheVariants.{FileTooLong, NotALine}

-- no byte is b
abbrev pub without : ℕ → List ℕ → Bool
without b bytes = not (list_any (λ x. x == b) bytes)

-- a line is 56 bytes that are no newline, and a newline behind them
abbrev pub whole : List ℕ → Bool
whole line = slice_index line 56 == 10 && without 10 (take 56 line)

-- so many runs of 57 bytes, one after the other
abbrev pub cut : ℕ → List ℕ → List (List ℕ)
cut zero bytes = []
cut (suc n) bytes = take 57 bytes ∷ cut n (drop 57 bytes)

-- how many lines the bytes make, a last one that is cut short among them
abbrev pub line_count : List ℕ → ℕ
line_count bytes = (length bytes + 56) / 57

-- the bytes line by line
unfoldable pub lines_of : List ℕ → List (List ℕ)
lines_of bytes = cut (line_count bytes) bytes

-- a filing has at most 65,536 bytes
abbrev pub short_enough : List ℕ → Bool
short_enough file = nat_le (length file) 65536

-- this refusal, of the line with this number
abbrev pub at_line : ℕ → Refusal → LineRefusal
at_line n why = record { line = n; refusal = why }

-- what a reader has not read yet, as bytes and as lines, and the line that comes next
abbrev pub rest_of : FilingReader → List ℕ
rest_of reader = drop (57 * reader.lines) reader.file.now

abbrev pub unread : FilingReader → List (List ℕ)
unread reader = lines_of (rest_of reader)

abbrev pub next_line : FilingReader → List ℕ
next_line reader = take 57 (rest_of reader)

-- a reader before the first line of a file
pub record StandsBeforeTheFirstLine (file : List ℕ) (reader : FilingReader) : Type 0 where
  pub reads_the_file : reader.file.now ≡ file
  pub no_line_is_read : reader.lines ≡ 0

-- a file that is short enough is read from its first line on
abbrev pub OpensTheFile : List ℕ → Result FilingReader LineRefusal → Type 0
OpensTheFile file (Ok reader) = (short_enough file ≡ true) × StandsBeforeTheFirstLine file reader
OpensTheFile file (Err e) = (short_enough file ≡ false) × (e ≡ at_line 1 FileTooLong)

-- a record lends its bytes from the file and says where they stand
pub record PartOf (reader : FilingReader) (r : Record) : Type 0 where
  pub bytes_are_the_files_56_from_the_offset_on : r.bytes.now ≡ take 56 (drop r.offset reader.file.now)
  pub offset_counts_57_bytes_for_each_line_before : r.offset ≡ 57 * reader.lines
  pub bytes_are_the_next_line : r.bytes.now ≡ take 56 (next_line reader)
  pub letter_is_its_first_byte : r.letter ≡ slice_index r.bytes.now 0
  pub has_the_next_number : r.line ≡ reader.lines + 1

-- the reader stands one line further in the same file
pub record OneLineOn (before after : FilingReader) : Type 0 where
  pub same_file : after.file.now ≡ before.file.now
  pub one_line_more : after.lines ≡ before.lines + 1
  pub one_line_less : unread before ≡ next_line before ∷ unread after

-- what comes next, and where the reader stands after it
abbrev pub AnswersTheNextLine : FilingReader → Result (Option Record) LineRefusal → FilingReader → Type 0
AnswersTheNextLine before (Ok (Some r)) after = (whole (next_line before) ≡ true) × PartOf before r × OneLineOn before after
AnswersTheNextLine before (Ok None) after = (unread before ≡ []) × (after ≡ before)
AnswersTheNextLine before (Err e) after = (whole (next_line before) ≡ false) × (unread before ≡ next_line before ∷ lines_of (drop 57 (rest_of before))) × (e ≡ at_line (before.lines + 1) NotALine) × (after ≡ before)
