-- The lines of a filing, as a reader takes them from the bytes.
use Rattle.std.proofs.Common.{◌≡◌, ℕ, suc, ◌*◌, ◌<◌, ◌≤◌, Bool, true, false, not, eqb, List, [], ◌∷◌, length, get_or, take, drop, sym, ap, ◌∙◌, ⊎_elim, arith, false-eqb}
use Rattle.std.specs.List.{IsAnyAnswer}
use Rattle.std.proofs.lemmas.List.Folds.{list_any_at, list_any_none}
use Rattle.std.proofs.lemmas.List.{get_or-take, get_or_past, length-drop, length-take, take-take}
use Rattle.std.proofs.lemmas.Bool.{and_left, and_parts, cases_lt, eqb-true, ne_eqb}
use Rattle.filing.specs.declared.reader.FilingReader.{FilingReader}
use Rattle.filing.specs.declared.reader.Record.{Record}
use Rattle.filing.specs.Lines.{PartOf, StandsBeforeTheFirstLine, cut, line_count, lines_of, next_line, rest_of, unread, whole, without}

-- what `contains` answers
pub without_from : (b : ℕ) (bs : List ℕ) (r : Bool) → IsAnyAnswer (λ y t. eqb y b ≡ t) bs r → not r ≡ without b bs
without_from b bs true h = ap not (sym (list_any_at (λ x. eqb x b) bs h.0 0 h.1 (h.2 0)))
without_from b bs false h = ap not (sym (list_any_none (λ x. eqb x b) bs (λ k d l. h k d (omega arith) l)))

-- fewer bytes are no whole line
pub too_short : (line : List ℕ) → length line < 57 → whole line ≡ false
too_short line l = and_left (eqb (get_or line 56 0) 10) _ (ne_eqb _ _ (λ h. omega (arith, get_or_past line 56 0)))

-- a whole line has all its bytes
pub whole_is_long : (line : List ℕ) → whole line ≡ true → 57 ≤ length line
whole_is_long line h =
    let n : get_or line 56 0 ≡ 10 = eqb-true _ _ (and_parts (eqb (get_or line 56 0) 10) (without 10 (take 56 line)) h).0 in
    ⊎_elim (λ (l : 56 < length line). omega arith) (λ (l : length line ≤ 56). absurd (omega (arith, get_or_past line 56 0 l))) (cases_lt 56 (length line))

pub first_line_is_long : (rest : List ℕ) → whole (take 57 rest) ≡ true → 57 ≤ length rest
first_line_is_long rest h = omega (arith, whole_is_long (take 57 rest) h, length-take 57 rest)

-- no bytes, no line
pub no_line : (rest : List ℕ) → true ≡ eqb (length rest) 0 → lines_of rest ≡ []
unfolding lines_of
no_line rest none = let n : line_count rest ≡ 0 = omega (arith, eqb-true _ 0 (sym none)) in ap (λ k. cut k rest) n

-- the first line, and those after it
pub first_line : (rest : List ℕ) → false ≡ eqb (length rest) 0 → lines_of rest ≡ take 57 rest ∷ lines_of (drop 57 rest)
unfolding lines_of
first_line rest some =
    let n : line_count rest ≡ suc (line_count (drop 57 rest)) = omega (arith, length-drop 57 rest, false-eqb _ 0 some) in
    ap (λ k. cut k rest) n

-- the lines of a file are those that a reader before the first line has not read
pub unread_at_first : (file : List ℕ) (reader : FilingReader) → StandsBeforeTheFirstLine file reader → unread reader ≡ lines_of file
unread_at_first file reader s = λ i. lines_of (drop (57 * s.no_line_is_read i) (s.reads_the_file i))

-- the columns of the line that comes next
pub columns_of_next : (reader : FilingReader) → take 56 (next_line reader) ≡ take 56 (drop (57 * reader.lines) reader.file.now)
columns_of_next reader = take-take 56 57 (rest_of reader) (omega arith)

-- the letter of a record is the first byte of the line that comes next
pub letter_of_next : (reader : FilingReader) (r : Record) → PartOf reader r → get_or (next_line reader) 0 0 ≡ r.letter
letter_of_next reader r p =
    sym (get_or-take 56 (next_line reader) 0 0 (omega arith))
    ∙ ap (λ bytes. get_or bytes 0 0) (sym p.bytes_are_the_next_line)
    ∙ sym p.letter_is_its_first_byte
