-- The records of an accepted filing, written back, are its bytes.
use Rattle.std.proofs.Common.{◌≡◌, ℕ, zero, suc, ◌+◌, ◌-◌, ◌*◌, ◌<◌, ◌≤◌, Bool, true, false, cond, eqb, List, [], ◌∷◌, ◌++◌, map, length, get_or, take, drop, replicate, ℤ, IfOk, Ok, Err, codes, Result, sym, refl, ap, ◌∙◌, arith}
use Rattle.std.proofs.lemmas.Slice.Eq.{bytes_eq-Decides}
use Rattle.std.proofs.lemmas.List.{drop-drop, drop_more, get_or-take, length-append, length-drop, length-replicate, length-take-le, nil_from_length, take_all, take-append-drop, take_more, take-take}
use Rattle.std.proofs.lemmas.Bool.{and_parts, eqb-true}
use Rattle.std.specs.Str.{bytes_eq}
use Rattle.columns.proofs.Laws.{undoes_writing}
use Rattle.columns.specs.Fields.{after_spaces, reading}
use Rattle.columns.specs.declared.refusal.Refusal.{Refusal as NumberRefusal}
use Rattle.questions.specs.Questions.{ask, asked}
use Rattle.sheets.specs.Attachments.{cc_rules, mm_rules}
use Rattle.sheets.specs.Figures.{blank as no_figures}
use Rattle.sheets.specs.Rules.{Rules}
use Rattle.filing.specs.declared.fields.FiledProject.{FiledProject}
use Rattle.filing.specs.declared.refusal.LineRefusal.{LineRefusal}
use Rattle.filing.specs.declared.refusal.Refusal.{Refusal}
use Rattle.filing.specs.declared.refusal.Refusal.TheVariants.{FileTooLong, LetterOutOfPlace, MalformedField, NotALine, UnknownTemplate}
use Rattle.filing.specs.Fields.{as_field, blank, columns_from, figure_on, label_in, named, number_in, project_on, project_with}
use Rattle.filing.specs.Filed.{Filed, Stage, at, by_letter, entering, figure_taken, from, line_taken, pricing, project_taken, seen}
use Rattle.filing.specs.Filing.{Attachment, cc as cc_filing, filed, filed_lines, filed_under, filing_of, mm, sheet_filed}
use Rattle.filing.specs.Lines.{at_line, cut, line_count, lines_of, short_enough, whole, without}
use Rattle.filing.specs.Outcomes.{then}
use Rattle.filing.specs.Records.{FilingRecord, RecordsAndBytesDetermineEachOther, all_written, f_record, fields_of, letter_of, line_of, number_field, p_record, record_by, record_on, t_record, template_on, text_field}
use Rattle.filing.proofs.Lines.{whole_is_long}
use Rattle.columns.proofs.Laws.{spaces_before}

-- an answer after questions: each was answered
then_ok : {E X Y : Type 0} (r : Result X E) (next : X → Result Y E) (y : Y) → then r next ≡ Ok y → (x : X) × (r ≡ Ok x) × (next x ≡ Ok y)
then_ok (Ok x) next y e = (x, refl, e)
then_ok (Err why) next y e = absurd cc

question_ok : {E X : Type 0} (b : Bool) (why : E) (r : Result X E) (x : X) → asked Err (ask b why ∷ []) r ≡ Ok x → (b ≡ true) × (r ≡ Ok x)
question_ok true why r x e = (refl, e)
question_ok false why r x e = absurd cc

-- one of two answers
either_ok : {E X P : Type 0} (b : Bool) (r s : Result X E) (x : X) → cond b r s ≡ Ok x → (b ≡ true → r ≡ Ok x → P) → (s ≡ Ok x → P) → P
either_ok true r s x e first second = first refl e
either_ok false r s x e first second = second e

at_ok : {X : Type 0} (n : ℕ) (r : Result X Refusal) (x : X) → at n r ≡ Ok x → r ≡ Ok x
at_ok n (Ok y) x e = cc
at_ok n (Err why) x e = absurd cc

as_read : (r : Result ℤ NumberRefusal) (n : ℤ) → as_field r ≡ Ok n → r ≡ Ok n
as_read (Ok m) n e = cc
as_read (Err why) n e = absurd cc

filing_ok : (a : Attachment) (r : Result Filed LineRefusal) (v : Attachment × Filed) → filing_of a r ≡ Ok v → (f : Filed) × (r ≡ Ok f)
filing_ok a (Ok f) v e = (f, refl)
filing_ok a (Err why) v e = absurd cc

-- fields written back
text_back : (k : ℕ) (field text : List ℕ) → length field ≡ k → after_spaces field ≡ text → field ≡ text_field k text
text_back k field text wide e =
    let s = spaces_before field in
    let is : field ≡ replicate s.0 32 ++ text = s.1 ∙ ap (λ x. replicate s.0 32 ++ x) e in
    let spaces : s.0 ≡ k - length text = omega (arith, simp (length-append, length-replicate) at (ap length is)) in
    is ∙ ap (λ n. replicate n 32 ++ text) spaces

first_byte_and_rest : (line : List ℕ) → 0 < length line → line ≡ get_or line 0 0 ∷ drop 1 line
first_byte_and_rest line h = drop_more line 0 0 h

-- 56 bytes that read as a record are its letter and its fields
abbrev Held : List ℕ → Type 0
Held line = (r : FilingRecord) × (record_on line ≡ Ok r) × (line ≡ letter_of r ∷ fields_of r)

module _ (line : List ℕ) (long : length line ≡ 56) where
  wide : (first k : ℕ) → first + k ≤ 56 → length (take k (drop first line)) ≡ k
  wide first k h = length-take-le k (drop first line) (omega (arith, length-drop first line))

  -- a field written back, and the columns after it
  and_rest : (first k : ℕ) (written : List ℕ) → take k (drop first line) ≡ written → drop first line ≡ written ++ drop (first + k) line
  and_rest first k written e = sym (take-append-drop k (drop first line)) ∙ (λ i. e i ++ drop-drop k first line i)

  label_at : (first k : ℕ) (label : List ℕ) → first + k ≤ 56 → label_in (take k (drop first line)) ≡ Ok label → drop first line ≡ text_field k label ++ drop (first + k) line
  label_at first k label h e =
      let text = after_spaces (take k (drop first line)) in
      let told = (question_ok (named text) MalformedField (Ok text) label e).1 in
      and_rest first k _ (text_back k _ label (wide first k h) (let same : text ≡ label = cc in same))

  number_at : (first k : ℕ) (n : ℤ) → first + k ≤ 56 → number_in (take k (drop first line)) ≡ Ok n → drop first line ≡ number_field k n ++ drop (first + k) line
  number_at first k n h e =
      let field = take k (drop first line) in
      let back = (undoes_writing field).number_read_is_written_back (replicate k 32) n (length-replicate k 32 ∙ sym (wide first k h)) (as_read (reading field) n e) in
      and_rest first k _ (sym (ap (λ w. w.after) back))

  -- the last columns are blank
  blank_from : (first k : ℕ) → first + k ≡ 56 → blank (take k (drop first line)) ≡ true → drop first line ≡ text_field k []
  blank_from first k h e =
      sym (take_all k (drop first line) (omega (arith, length-drop first line)))
      ∙ text_back k _ [] (wide first k (omega arith)) (nil_from_length _ (eqb-true _ 0 e))

  held : (r : FilingRecord) → get_or line 0 0 ≡ letter_of r → record_by (letter_of r) line ≡ Ok r → drop 1 line ≡ fields_of r → Held line
  held r is e fields = (r, ap (λ l. record_by l line) is ∙ e, first_byte_and_rest line (omega arith) ∙ (λ i. is i ∷ fields i))

  template_held : (name : List ℕ) → get_or line 0 0 ≡ 84 → label_in (columns_from 2 4 line) ≡ Ok name → blank (columns_from 5 56 line) ≡ true → Held line
  template_held name is n b =
      let read : template_on line ≡ Ok (t_record name) = ap (λ x. then x (λ m. asked Err (ask (blank (columns_from 5 56 line)) MalformedField ∷ []) (Ok (t_record m)))) n ∙ ap (λ x. asked Err (ask x MalformedField ∷ []) (Ok (t_record name))) b in
      held (t_record name) is read (label_at 1 3 name (omega arith) n ∙ ap (λ x. text_field 3 name ++ x) (blank_from 4 52 refl b))

  figure_held : (x : List ℕ × ℤ) → get_or line 0 0 ≡ 70 → figure_on line ≡ Ok x → Held line
  figure_held x is e =
      let l = then_ok (label_in (columns_from 2 4 line)) _ x e in
      let n = then_ok (number_in (columns_from 5 16 line)) _ x l.2 in
      let b = question_ok (blank (columns_from 17 56 line)) MalformedField (Ok (l.0, n.0)) x n.2 in
      held (f_record l.0 n.0) is (ap (λ r. then r (λ y. Ok (f_record y.0 y.1))) (e ∙ sym b.1))
      (label_at 1 3 l.0 (omega arith) l.1
      ∙ ap (λ x. text_field 3 l.0 ++ x) (number_at 4 12 n.0 (omega arith) n.1
      ∙ ap (λ x. number_field 12 n.0 ++ x) (blank_from 16 40 refl b.0)))

  project_held : (j : FiledProject) → get_or line 0 0 ≡ 80 → project_on line ≡ Ok j → Held line
  project_held j is e =
      let n = then_ok (number_in (columns_from 2 12 line)) _ j e in
      let g = then_ok (number_in (columns_from 13 24 line)) _ j n.2 in
      let a = then_ok (number_in (columns_from 25 36 line)) _ j g.2 in
      let d = then_ok (number_in (columns_from 37 48 line)) _ j a.2 in
      let b = question_ok (blank (columns_from 49 56 line)) MalformedField (Ok (project_with n.0 g.0 a.0 d.0)) j d.2 in
      held (p_record (project_with n.0 g.0 a.0 d.0)) is (ap (λ r. then r (λ k. Ok (p_record k))) (e ∙ sym b.1))
      (number_at 1 11 n.0 (omega arith) n.1
      ∙ ap (λ x. number_field 11 n.0 ++ x) (number_at 12 12 g.0 (omega arith) g.1
      ∙ ap (λ x. number_field 12 g.0 ++ x) (number_at 24 12 a.0 (omega arith) a.1
      ∙ ap (λ x. number_field 12 a.0 ++ x) (number_at 36 12 d.0 (omega arith) d.1
      ∙ ap (λ x. number_field 12 d.0 ++ x) (blank_from 48 8 refl b.0)))))

-- a line that is taken reads as a record
module _ {L : Type 0} (t : Rules L) (line : List ℕ) (long : length line ≡ 56) where
  project_or_refused : (stage next : Stage) (letter : ℕ) → get_or line 0 0 ≡ letter → cond (eqb letter 80) (project_taken t stage line) (Err LetterOutOfPlace) ≡ Ok next → Held line
  project_or_refused stage next letter is e =
      let o = question_ok (eqb letter 80) LetterOutOfPlace (project_taken t stage line) next e in
      let p = then_ok (project_on line) _ next o.1 in
      project_held line long p.0 (is ∙ eqb-true letter 80 o.0) p.1

  letter_held : (stage next : Stage) (letter : ℕ) → get_or line 0 0 ≡ letter → by_letter t stage letter line ≡ Ok next → Held line
  letter_held (entering f) next letter is e =
      either_ok (eqb letter 70) (then (figure_taken t f line) (λ g. Ok (entering g))) _ next e
      (λ b h.
      let g = then_ok (figure_taken t f line) _ next h in
      let x = then_ok (figure_on line) _ g.0 g.1 in
      figure_held line long x.0 (is ∙ eqb-true letter 70 b) x.1)
      (λ h. project_or_refused (entering f) next letter is h)
  letter_held (pricing p) next letter is e = project_or_refused (pricing p) next letter is e

-- the lines of a file, one after the other
abbrev rejoined : List (List ℕ) → List ℕ
rejoined [] = []
rejoined (line ∷ lines) = take 57 line ++ rejoined lines

-- lines that are records written, one line and all of them
abbrev HeldLine : List ℕ → Type 0
HeldLine line = (r : FilingRecord) × (record_on (take 56 line) ≡ Ok r) × (line_of r ≡ take 57 line)

abbrev HeldLines : List (List ℕ) → Type 0
HeldLines lines = (rs : List FilingRecord) × (map (λ line. record_on (take 56 line)) lines ≡ map Ok rs) × (all_written rs ≡ rejoined lines)

one_more : (line : List ℕ) (lines : List (List ℕ)) → HeldLine line → HeldLines lines → HeldLines (line ∷ lines)
one_more line lines h rest = (h.0 ∷ rest.0, (λ i. h.1 i ∷ rest.1 i), λ i. h.2 i ++ rest.2 i)

module _ (line : List ℕ) (is_whole : whole line ≡ true) where
  fifty_six : length (take 56 line) ≡ 56
  fifty_six = length-take-le 56 line (omega (arith, whole_is_long line is_whole))

  held_line : Held (take 56 line) → HeldLine line
  held_line h =
      let newline : get_or line 56 0 ≡ 10 = eqb-true _ _ (and_parts (eqb (get_or line 56 0) 10) (without 10 (take 56 line)) is_whole).0 in
      (h.0, h.1, (λ i. sym h.2 i ++ (sym newline i ∷ [])) ∙ sym (take_more line 56 0 (omega (arith, whole_is_long line is_whole))))

from_held : {L : Type 0} (t : Rules L) (n : ℕ) (stage : Stage) (lines : List (List ℕ)) (v : Filed) → from t n stage lines ≡ Ok v → HeldLines lines
from_held t n stage [] v e = ([], refl, refl)
from_held t n stage (line ∷ lines) v e =
    let taken = then_ok (at n (line_taken t stage line)) _ v e in
    let told = question_ok (whole line) NotALine (by_letter t stage (get_or line 0 0) (take 56 line)) taken.0 (at_ok n _ taken.0 taken.1) in
    one_more line lines
    (held_line line told.0 (letter_held t (take 56 line) (fifty_six line told.0) stage taken.0 (get_or line 0 0) (get_or-take 56 line 0 0 (omega arith)) told.1))
    (from_held t (n + 1) taken.0 lines v taken.2)

-- the T line, by the name of its template
module _ (line : List ℕ) (long : length line ≡ 56) (is : get_or line 0 0 ≡ 84) (lines : List (List ℕ)) (v : Attachment × Filed) where
  sheet_held : {L : Type 0} (t : Rules L) (a : Attachment) (name label : List ℕ) → columns_from 2 4 line ≡ name → label_in name ≡ Ok label → filing_of a (sheet_filed t line lines) ≡ Ok v → Held line × HeldLines lines
  sheet_held t a name label named_so labelled e =
      let f = filing_ok a (sheet_filed t line lines) v e in
      let b = question_ok (blank (columns_from 5 56 line)) (at_line 1 MalformedField) (from t 2 (entering no_figures) lines) f.0 f.1 in
      (template_held line long label is (ap label_in named_so ∙ labelled) b.0, from_held t 2 (entering no_figures) lines f.0 b.1)

  named_held : filed_under line lines ≡ Ok v → Held line × HeldLines lines
  unfolding after_spaces
  named_held e =
      let name = columns_from 2 4 line in
      either_ok (bytes_eq name (codes " MM")) _ _ v e
      (λ b h. sheet_held mm_rules mm _ (codes "MM") ((bytes_eq-Decides name (codes " MM")).0 b) refl h)
      (λ h.
      let o = question_ok (bytes_eq name (codes " CC")) (at_line 1 UnknownTemplate) (filing_of cc_filing (sheet_filed cc_rules line lines)) v h in
      sheet_held cc_rules cc_filing _ (codes "CC") ((bytes_eq-Decides name (codes " CC")).0 o.0) refl o.1)

lines_held : (lines : List (List ℕ)) (v : Attachment × Filed) → filed_lines lines ≡ Ok v → HeldLines lines
lines_held [] v e = absurd cc
lines_held (line ∷ lines) v e =
    let w = question_ok (whole line) (at_line 1 NotALine) (asked Err (ask (eqb (get_or line 0 0) 84) (at_line 1 LetterOutOfPlace) ∷ []) (filed_under (take 56 line) lines)) v e in
    let l = question_ok (eqb (get_or line 0 0) 84) (at_line 1 LetterOutOfPlace) (filed_under (take 56 line) lines) v w.1 in
    let h = named_held (take 56 line) (fifty_six line w.0) (get_or-take 56 line 0 0 (omega arith) ∙ eqb-true _ 84 l.0) lines v l.1 in
    one_more line lines (held_line line w.0 h.0) h.1

cut_rejoined : (n : ℕ) (bytes : List ℕ) → length bytes ≤ 57 * n → rejoined (cut n bytes) ≡ bytes
cut_rejoined zero bytes h = sym (nil_from_length bytes (omega arith))
cut_rejoined (suc n) bytes h =
    (λ i. take-take 57 57 bytes (omega arith) i ++ cut_rejoined n (drop 57 bytes) (omega (arith, length-drop 57 bytes)) i)
    ∙ take-append-drop 57 bytes

lines_rejoined : (file : List ℕ) → rejoined (lines_of file) ≡ file
unfolding lines_of
lines_rejoined file = cut_rejoined (line_count file) file (omega arith)

-- what a call answers for an accepted filing
pub records_and_bytes : {P : Type 0} (view : P → Attachment × Filed) (file : List ℕ) (r : Result P LineRefusal) → seen view r ≡ filed file → IfOk r (λ p. RecordsAndBytesDetermineEachOther file)
records_and_bytes view file (Ok p) e =
    let told = question_ok (short_enough file) (at_line 1 FileTooLong) (filed_lines (lines_of file)) (view p) (sym e) in
    let rs = lines_held (lines_of file) (view p) told.1 in
    record { records = rs.0; lines_read_as_the_records = rs.1; records_are_written_as_the_file = rs.2 ∙ lines_rejoined file }
records_and_bytes view file (Err why) e = tt
