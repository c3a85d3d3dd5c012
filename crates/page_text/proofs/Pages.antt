-- What stands in the run after the pages are written, and that it reads back.
use Rattle.std.proofs.Common.{◌≡◌, ℕ, ◌+◌, ◌*◌, ◌≤◌, List, [], ◌∷◌, ◌++◌, length, map, take, drop, sum_by, sym, refl, ap, ◌∙◌, subst, arith}
use borrow.Rule.Slice.PartMut.{put_mid}
use Rattle.std.proofs.lemmas.List.{flat_map_more, length-append, length-map}
use Rattle.std.proofs.lemmas.List.Folds.{flat_map-map}
use Rattle.std.proofs.lemmas.List.Sums.{sum_by-cons}
use Rattle.std.specs.List.{flat_map}
use Rattle.page_text.specs.Lines.{line_text, page_text, sums_of}
use Rattle.page_text.specs.Outcomes.{printed}
use Rattle.page_text.specs.ReadBack.{PageReadsBack}
use Rattle.page_text.specs.Rows.{PageLine, row_of}
use Rattle.page_text.specs.declared.row.PageRow.{PageRow}
use Rattle.page_text.proofs.Bounds.{rows_within}
use Rattle.page_text.proofs.Placing.{printed_next}
use Rattle.page_text.proofs.Reading.{page_reads_back}

pub text_of_page : (rows : List PageLine) → page_text rows ≡ flat_map line_text rows ++ line_text (sums_of rows)
unfolding page_text
text_of_page rows = sym (flat_map_more line_text [] rows (sums_of rows))

pub rows_width : (rs : List PageRow) → sum_by (λ row. 69) rs ≡ 69 * length (map row_of rs)
rows_width [] = refl
rows_width (r ∷ rs) = omega (arith, sum_by-cons (λ row. 69) r rs, rows_width rs)

module _ (rs : List PageRow) (before : List ℕ) (n : ℕ) where
  abbrev rows : List PageLine
  rows = map row_of rs

  abbrev lines : List ℕ
  lines = flat_map (λ row. line_text (row_of row)) rs

  -- after the lines of the rows
  abbrev was : List ℕ
  was = (printed lines before).after

  -- after the line of the sums
  abbrev run : List ℕ
  run = put_mid (length lines) n was (printed (line_text (sums_of rows)) (take n (drop (length lines) was))).after

  pub page_written : length rs ≤ 64 → length was ≡ length lines + n → (run ≡ (printed (page_text rows) before).after) × PageReadsBack rows run
  page_written few long =
      let next = printed_next before was _ lines (line_text (sums_of rows)) (length lines) _ n (omega (arith, long)) (refl, refl) (refl, refl) in
      let text : run ≡ (printed (page_text rows) before).after = subst (λ text. run ≡ (printed text before).after) (ap (λ ls. ls ++ line_text (sums_of rows)) (sym (flat_map-map line_text row_of rs)) ∙ sym (text_of_page rows)) next.1 in
      (text, subst (PageReadsBack rows) (sym text) (page_reads_back rows _ (omega (arith, length-map rs row_of)) (rows_within rs)))

pub ruleset page_steps = (length-append, length-map, flat_map-map, rows_width, text_of_page, page_written)
