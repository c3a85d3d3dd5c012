-- A printed text reads back.
use Rattle.std.proofs.Common.{◌≡◌, ℕ, ◌+◌, ◌-◌, ◌*◌, ◌^◌, ◌<◌, ◌≤◌, true, List, [], ◌∷◌, ◌++◌, map, length, get_or, take, drop, ℤ, pos, negsuc, ◌+ℤ◌, nat_abs, Ok, sym, refl, ap, ◌∙◌, subst, append_assoc, arith}
use Rattle.std.proofs.ByRecursion.{All-get_or, All-take, All-weaker}
use Rattle.std.proofs.lemmas.List.{drop_at, drop-drop, drop_more, ext_get_or, get_or_append_left, get_or_at, get_or_default, get_or-map, length-append, length-map, length_push, length-take-le, take-append-drop, take_at}
use Rattle.std.proofs.lemmas.Grind.{flat_map-append}
use Rattle.std.proofs.lemmas.List.Folds.{fold-map}
use Rattle.std.proofs.lemmas.List.Sums.{sum_by-cons}
use Rattle.std.proofs.lemmas.Bool.{lt-ltb}
use Rattle.std.specs.List.{flat_map, AllByRecursion}
use Rattle.columns.specs.Fields.{in_range, reading, right_justified}
use Rattle.columns.specs.Texts.{width_of}
use Rattle.columns.proofs.Laws.{held_is_read}
use Rattle.columns.proofs.Widths.{right_justified_fills}
use Rattle.page_text.specs.Fields.{PageField, field_text, fields_text, fields_width, newline}
use Rattle.page_text.specs.Lines.{in_columns, line_fields, line_text, page_lines, page_text, refusal_fields, refusal_text, sums_of}
use Rattle.page_text.specs.ReadBack.{Amount, LineReadsAs, PageReadsBack, RefusalReadsBack, WideEnough, amount_in, columns_before, total}
use Rattle.page_text.specs.ReadBack.Amount.{expense_charge, return_charge, depreciation, requirement}
use Rattle.page_text.specs.Rows.{PageLine}
use Rattle.page_text.proofs.Bounds.{Within, amount_sum, fields_wide_enough, lines_within}
use Rattle.page_text.proofs.Columns.{wide_enough}

-- a number that is right-justified in columns enough for it reads as itself
in_range_small : (n : ℤ) → nat_abs n ≤ 7680000000000 → in_range n ≡ true
in_range_small (pos m) h = lt-ltb _ _ (omega arith)
in_range_small (negsuc m) h = lt-ltb _ _ (omega arith)

reads_itself : (columns : ℕ) (n : ℤ) → nat_abs n ≤ 7680000000000 → reading (right_justified columns n) ≡ Ok n
unfolding right_justified
reads_itself columns n h = held_is_read _ n (in_range_small n h) (columns - width_of n, refl)

-- the texts of a list from member k on
from_member : {X : Type 0} (text : X → List ℕ) (xs : List X) (k : ℕ) (x : X) (rest : List ℕ) (n : ℕ) → k < length xs → x ≡ get_or xs k x → length (flat_map text (take k xs)) ≡ n →
    drop n (flat_map text xs ++ rest) ≡ text x ++ (flat_map text (drop (k + 1) xs) ++ rest)
from_member text xs k x rest n short e long =
    let split : flat_map text xs ≡ flat_map text (take k xs) ++ flat_map text (drop k xs) = ap (flat_map text) (sym (take-append-drop k xs)) ∙ flat_map-append text (take k xs) (drop k xs) in
    ap (λ t. drop n (t ++ rest)) split
    ∙ ap (drop n) (append_assoc (flat_map text (take k xs)) (flat_map text (drop k xs)) rest)
    ∙ drop_at (flat_map text (take k xs)) (flat_map text (drop k xs) ++ rest) n long
    ∙ ap (λ ys. flat_map text ys ++ rest) (drop_more xs k x short)
    ∙ ap (λ y. (text y ++ flat_map text (drop (k + 1) xs)) ++ rest) (sym e)
    ∙ append_assoc (text x) (flat_map text (drop (k + 1) xs)) rest

fields_length : (fs : List PageField) → AllByRecursion WideEnough fs → length (fields_text fs) ≡ fields_width fs
fields_length [] h = refl
fields_length (f ∷ fs) h = length-append (field_text f) (fields_text fs) ∙ omega (arith, right_justified_fills f.columns f.number h.0, fields_length fs h.1, sum_by-cons (λ f. f.columns) f fs)

-- field k, read from its columns
field_reads : (fs : List PageField) (k : ℕ) (f : PageField) (rest : List ℕ) → AllByRecursion WideEnough fs → k < length fs → f ≡ get_or fs k f → nat_abs f.number ≤ 7680000000000 →
    reading (take f.columns (drop (fields_width (take k fs)) (fields_text fs ++ rest))) ≡ Ok f.number
field_reads fs k f rest wide short e small =
    let here : WideEnough f = subst WideEnough (sym e) (All-get_or WideEnough fs k f short wide) in
    ap (λ t. reading (take f.columns t)) (from_member field_text fs k f rest _ short e (fields_length (take k fs) (All-take WideEnough k fs wide)))
    ∙ ap reading (take_at (field_text f) (fields_text (drop (k + 1) fs) ++ rest) f.columns (right_justified_fills f.columns f.number here))
    ∙ reads_itself f.columns f.number small

amount_reads : (a : Amount) (l : PageLine) (rest : List ℕ) → Within 7680000000000 l → reading (take 14 (drop (columns_before a) (fields_text (line_fields l) ++ rest))) ≡ Ok (amount_in a l)
amount_reads expense_charge l rest w = field_reads (line_fields l) 1 (in_columns 14 l.annual_expense_charge) rest (fields_wide_enough l w) (omega arith) refl (w.amounts expense_charge)
amount_reads return_charge l rest w = field_reads (line_fields l) 2 (in_columns 14 l.annual_return_charge) rest (fields_wide_enough l w) (omega arith) refl (w.amounts return_charge)
amount_reads depreciation l rest w = field_reads (line_fields l) 3 (in_columns 14 l.depreciation_expense) rest (fields_wide_enough l w) (omega arith) refl (w.amounts depreciation)
amount_reads requirement l rest w = field_reads (line_fields l) 4 (in_columns 14 l.annual_revenue_requirement) rest (fields_wide_enough l w) (omega arith) refl (w.amounts requirement)

lines_length : (ls : List PageLine) → AllByRecursion (Within 7680000000000) ls → length (flat_map line_text ls) ≡ 69 * length ls
unfolding line_text
lines_length [] h = refl
lines_length (l ∷ ls) h =
    length-append (line_text l) (flat_map line_text ls)
    ∙ omega (arith, length-append (fields_text (line_fields l)) newline, fields_length (line_fields l) (fields_wide_enough l h.0), lines_length ls h.1)

line_reads : (ls : List PageLine) (rest : List ℕ) (k : ℕ) (l : PageLine) → AllByRecursion (Within 7680000000000) ls → k < length ls → l ≡ get_or ls k l → LineReadsAs (flat_map line_text ls ++ rest) k l
unfolding line_text
line_reads ls rest k l h short e =
    let w : Within 7680000000000 l = subst (Within 7680000000000) (sym e) (All-get_or (Within 7680000000000) ls k l short h) in
    let more = flat_map line_text (drop (k + 1) ls) ++ rest in
    let long : length (flat_map line_text (take k ls)) ≡ 69 * k = lines_length (take k ls) (All-take (Within 7680000000000) k ls h) ∙ ap (λ n. 69 * n) (length-take-le k ls (omega arith)) in
    let start : drop (69 * k) (flat_map line_text ls ++ rest) ≡ fields_text (line_fields l) ++ (newline ++ more) =
    from_member line_text ls k l rest (69 * k) short e long ∙ append_assoc (fields_text (line_fields l)) newline more in
    record {
      project_is_read = ap (λ t. reading (take 12 t)) start ∙ field_reads (line_fields l) 0 (in_columns 12 l.project_number) (newline ++ more) (fields_wide_enough l w) (omega arith) refl (omega (arith, w.project));
      amounts_are_read = λ a. ap (λ t. reading (take 14 t)) (sym (drop-drop (columns_before a) (69 * k) (flat_map line_text ls ++ rest)) ∙ ap (drop (columns_before a)) start) ∙ amount_reads a l (newline ++ more) w;
    }

pub page_reads_back : (rows : List PageLine) (rest : List ℕ) → length rows ≤ 64 → AllByRecursion (Within 120000000000) rows → PageReadsBack rows (page_text rows ++ rest)
unfolding page_text
page_reads_back rows rest few h =
    let text = page_text rows ++ rest in
    let all = lines_within rows few h in
    let each : (k : ℕ) (row : PageLine) → k < length rows → row ≡ get_or rows k row → LineReadsAs text k row =
    λ k row short e. line_reads (page_lines rows) rest k row all (omega (arith, length_push rows (sums_of rows))) (e ∙ sym (get_or_append_left rows (sums_of rows ∷ []) row k short)) in
    let last = line_reads (page_lines rows) rest (length rows) (sums_of rows) all (omega (arith, length_push rows (sums_of rows))) (sym (get_or_at rows (sums_of rows) [] (sums_of rows) (length rows) refl)) in
    record {
      each_line_reads_as_its_row = each;
      last_line_has_project_0 = last.project_is_read;
      last_line_totals_the_lines_before = λ a amounts long reads.
          let same : amounts ≡ map (amount_in a) rows =
          ext_get_or (pos 0) amounts (map (amount_in a) rows) (long ∙ sym (length-map rows (amount_in a)))
          (λ k short.
          let row = get_or rows k (sums_of rows) in
          let read = reads k (omega arith) in
          let is = (each k row (omega arith) (get_or_default rows k (sums_of rows) row (omega arith))).amounts_are_read a in
          let one : get_or amounts k (pos 0) ≡ amount_in a row = cc in
          one ∙ sym (get_or-map (amount_in a) rows k (sums_of rows) (pos 0) (omega arith))) in
          last.amounts_are_read a ∙ ap Ok (amount_sum a rows ∙ sym (fold-map ◌+ℤ◌ (amount_in a) (pos 0) rows) ∙ ap total (sym same));
      no_number_is_too_wide = All-weaker (Within 7680000000000) (λ l. AllByRecursion WideEnough (line_fields l)) fields_wide_enough (page_lines rows) all;
    }

pub refusal_reads_back : (line number : ℕ) (rest : List ℕ) → line < 2 ^ 16 → number < 2 ^ 16 → RefusalReadsBack line number (refusal_text line number ++ rest)
unfolding refusal_text
refusal_reads_back line number rest short small =
    let fields = refusal_fields line number in
    let wide : AllByRecursion WideEnough fields = (wide_enough 11 (pos line) (omega arith) (omega arith), (wide_enough 12 (pos number) (omega arith) (omega arith), tt)) in
    let start : (fields_text fields ++ newline) ++ rest ≡ fields_text fields ++ (newline ++ rest) = append_assoc (fields_text fields) newline rest in
    record {
      begins_with_R = refl;
      line_is_read = ap (λ t. reading (take 11 t)) start ∙ field_reads fields 0 (in_columns 11 (pos line)) (newline ++ rest) wide (omega arith) refl (omega arith);
      number_is_read = ap (λ t. reading (take 12 (drop 11 t))) start ∙ field_reads fields 1 (in_columns 12 (pos number)) (newline ++ rest) wide (omega arith) refl (omega arith);
      no_number_is_too_wide = wide;
    }
