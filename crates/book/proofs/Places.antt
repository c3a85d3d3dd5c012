-- Where a project's row stands, by the first place at which its number is met.
use Rattle.std.proofs.Common.{◌≡◌, ℕ, suc, ◌+◌, ◌<◌, ◌≤◌, Bool, true, false, eqb, ltb, List, [], ◌∷◌, ◌++◌, length, take, set, get_or, Some, None, sym, refl, ap, ◌∙◌, subst, ⊎_elim, arith}
use Rattle.std.proofs.lemmas.Bool.{cases_Bool, cond-true, eq-eqb}
use Rattle.std.proofs.lemmas.Option.{cond_some, none-some}
use Rattle.std.proofs.lemmas.Bool.Decides.{nat_tests}
use Rattle.std.proofs.lemmas.List.{length-take, set_split}
use Rattle.std.proofs.Math.Seq.{take-set-lt}
use Rattle.std.specs.List.{position, position_or_len}
use Rattle.settlement.specs.Books.{RowView, has_row, new_row, on_row, row_on}
use Rattle.settlement.specs.Drafting.{has_room}
use Rattle.book.specs.Tables.{StandsAt, written}

one_more : (n : ℕ) → 1 + n ≡ suc n
one_more n = omega arith

next_one : (n : ℕ) → suc n + 1 ≡ suc (n + 1)
next_one n = omega arith

-- a row written over one of the places in use
pub written_over : (rows : List RowView) (count place : ℕ) (row : RowView) → place < count → count ≤ length rows → take count (set rows place row) ≡ written place row (take count rows)
written_over rows count place row h in_use =
    take-set-lt count rows place row h ∙ (set_split (take count rows) place row (omega (arith, length-take count rows)) ∙ simp last refl)
  where
    last : (n : ℕ) → suc n ≡ n + 1
    last n = omega arith

module _ (project : ℕ) where
  abbrev is_its_row : RowView → Bool
  is_its_row r = eqb r.project project

  -- the first place at which the project's number is met, or the length
  abbrev place : List RowView → ℕ
  place rows = position_or_len is_its_row rows

  row_is_there : (rows : List RowView) → place rows < length rows → (blank : RowView) → get_or rows (place rows) blank ≡ row_on project rows
  row_is_there [] h blank = absurd (omega arith)
  row_is_there (r ∷ rs) h blank =
      ⊎_elim
      (λ (e : is_its_row r ≡ true). simp e refl)
      (λ (e : is_its_row r ≡ false). let h' = simp e at h in simp (e, one_more) (row_is_there rs (omega arith) blank))
      (cases_Bool (is_its_row r))

  has_it : (rows : List RowView) → has_row project rows ≡ ltb (place rows) (length rows)
  has_it [] = refl
  has_it (r ∷ rs) =
      ⊎_elim
      (λ (e : is_its_row r ≡ true). simp e (grind (arith, nat_tests)))
      (λ (e : is_its_row r ≡ false). simp e (has_it rs ∙ grind (arith, nat_tests)))
      (cases_Bool (is_its_row r))

  change_there : (change : RowView → RowView) (rows : List RowView) → has_row project rows ≡ true → on_row project change rows ≡ written (place rows) (change (row_on project rows)) rows
  change_there change [] h = let n : ◌≡◌ {A = ℕ} 0 1 = cc in absurd (omega arith)
  change_there change (r ∷ rs) h =
      ⊎_elim
      (λ (e : is_its_row r ≡ true). simp e refl)
      (λ (e : is_its_row r ≡ false). let h' = simp e at h in simp (e, one_more, next_one) (ap (λ xs. r ∷ xs) (change_there change rs h')))
      (cases_Bool (is_its_row r))

  new_there : (change : RowView → RowView) (rows : List RowView) → has_row project rows ≡ false → on_row project change (rows ++ new_row project ∷ []) ≡ rows ++ change (row_on project rows) ∷ []
  new_there change [] h = simp (eq-eqb project project refl) refl
  new_there change (r ∷ rs) h =
      ⊎_elim
      (λ (e : is_its_row r ≡ true). let h' = simp e at h in let n : ◌≡◌ {A = ℕ} 0 1 = cc in absurd (omega arith))
      (λ (e : is_its_row r ≡ false). let h' = simp e at h in simp e (ap (λ xs. r ∷ xs) (new_there change rs h')))
      (cases_Bool (is_its_row r))

  -- without a row, the number is met nowhere
  row_is_new : (rows : List RowView) → has_row project rows ≡ false → row_on project rows ≡ new_row project
  row_is_new [] h = refl
  row_is_new (r ∷ rs) h =
      ⊎_elim
      (λ (e : is_its_row r ≡ true). let h' = simp e at h in let n : ◌≡◌ {A = ℕ} 0 1 = cc in absurd (omega arith))
      (λ (e : is_its_row r ≡ false). let h' = simp e at h in simp e (row_is_new rs h'))
      (cases_Bool (is_its_row r))

  no_further : (rows : List RowView) → place rows ≤ length rows
  no_further [] = omega arith
  no_further (r ∷ rs) =
      ⊎_elim
      (λ (e : is_its_row r ≡ true). simp e (omega arith))
      (λ (e : is_its_row r ≡ false). simp e (omega (arith, no_further rs)))
      (cases_Bool (is_its_row r))

  at_the_end : (rows : List RowView) (row : RowView) → has_row project rows ≡ false → rows ++ row ∷ [] ≡ written (place rows) row rows
  at_the_end rows row h =
      let end : place rows ≡ length rows = let l = no_further rows in let e = sym (has_it rows) ∙ h in grind (arith, nat_tests) in
      simp end (after rows row)
    where
      after : (rows : List RowView) (row : RowView) → rows ++ row ∷ [] ≡ written (length rows) row rows
      after [] row = refl
      after (r ∷ rs) row = simp next_one (ap (λ xs. r ∷ xs) (after rs row))

  pub stands : (rows : List RowView) → StandsAt project rows (place rows) (row_on project rows)
  stands rows = record {
    place_is_no_further_than_the_end = no_further rows;
    row_is_the_projects = refl;
    it_has_one_where_the_place_is_in_use = has_it rows;
    change_is_written_there = λ change.
        ⊎_elim
        (λ (h : has_row project rows ≡ true). simp h (change_there change rows h))
        (λ (h : has_row project rows ≡ false). simp h (new_there change rows h ∙ at_the_end rows (change (row_on project rows)) h))
        (cases_Bool (has_row project rows));
    change_of_a_row_is_written_there = λ change h. change_there change rows h;
  }

  -- the same of a place and a row as they are found
  pub found : (rows : List RowView) (i : ℕ) (blank : RowView) → position is_its_row rows ≡ Some i → StandsAt project rows i (get_or rows i blank)
  found rows i blank e =
      let here = cond_some (ltb (place rows) (length rows)) (place rows) i e in
      let within : place rows < length rows = let h = here.0 in grind (arith, nat_tests) in
      subst (λ n. StandsAt project rows n (get_or rows n blank)) here.1 (subst (StandsAt project rows (place rows)) (sym (row_is_there rows within blank)) (stands rows))

  pub not_found : (rows : List RowView) → position is_its_row rows ≡ None → StandsAt project rows (length rows) (new_row project)
  not_found rows e =
      let none : ltb (place rows) (length rows) ≡ false =
      ⊎_elim
      (λ (h : ltb (place rows) (length rows) ≡ true). absurd (none-some (place rows) (sym e ∙ cond-true _ _ _ h)))
      (λ (h : ltb (place rows) (length rows) ≡ false). h)
      (cases_Bool (ltb (place rows) (length rows))) in
      let end : place rows ≡ length rows = let l = no_further rows in grind (arith, nat_tests) in
      subst (λ n. StandsAt project rows n (new_row project)) end (subst (StandsAt project rows (place rows)) (row_is_new rows (has_it rows ∙ none)) (stands rows))

  -- a new row has room where the end is before the last place
  pub room_before_the_last : (rows : List RowView) (place : ℕ) (row : RowView) → StandsAt project rows place row → length rows ≤ 64 → has_room project rows ≡ ltb place 64
  room_before_the_last rows place row s few =
      let has = s.it_has_one_where_the_place_is_in_use in
      let end = s.place_is_no_further_than_the_end in
      simp has (grind (arith, nat_tests))
