-- What a put and a wipe leave of a run of entries.
use Rattle.std.proofs.Common.{◌≡◌, ◌∙◌, ℕ, zero, suc, ◌+◌, ◌-◌, ◌<◌, ◌≤◌, Bool, true, false, cond, List, [], ◌∷◌, length, Some, None, Option, is_some, nat_le, nat_lt, ap, refl, sym, ⊎_elim, arith}
use Rattle.std.specs.List.{count_by, find, position, position_or_len}
use Rattle.std.specs.Option.{option_map, option_or}
use Rattle.std.proofs.Math.ListN.{set, get_or, replicate}
use Rattle.std.proofs.lemmas.Bool.{both_ways, and_from, and_left, and_parts, and_right, cases_Bool, lt-ltb, ltb-true, ltb-false, not-true, eq-eqb}
use Rattle.std.proofs.lemmas.Bool.Decides.{nat_tests}
use Rattle.std.proofs.lemmas.Option.{cond_some, none-some, slice_get-get_or, slice_get_past}
use Rattle.std.proofs.lemmas.List.Folds.{find_at, find_past}
use Rattle.std.proofs.lemmas.List.Sums.{sum_by-cons, sum_by-set, fails_before_first}
use Rattle.std.proofs.lemmas.List.Quantifiers.{position-Some}
use Rattle.journals.specs.Journal.{most, Pair, in_range, same_pair, holding}
use Rattle.journals.specs.Calls.{Same}
use Rattle.journals.specs.Entries.{pair_of, used, unused, is_of, held_among, unused_among, places_among, spot_among, SpotFor}
use Rattle.journals.specs.EntryLaws.{same_pairs, place_in_range}
use Rattle.journals.proofs.Puts.{then_look}
use Rattle.journals.specs.declared.entry_journal.Entry.{Entry}

-- the first that passes, after one that passes is written
module _ {X : Type 0} (p : X → Bool) (y d : X) (passes : p y ≡ true) where
  find_written : (xs : List X) (i : ℕ) → i < length xs → ((k : ℕ) → k < i → p (get_or xs k d) ≡ false) → find p (set xs i y) ≡ Some y
  find_written [] i within before = absurd (omega arith)
  find_written (x ∷ xs) zero within before = rw passes
  find_written (x ∷ xs) (suc i) within before = rw (before 0 (omega arith)) (find_written xs i (omega arith) (λ k short. before (suc k) (omega arith)))

find_replicate : {X : Type 0} (p : X → Bool) (n : ℕ) (x : X) → p x ≡ false → find p (replicate n x) ≡ None
find_replicate p zero x fails = refl
find_replicate p (suc n) x fails = rw fails (find_replicate p n x fails)

-- entries that are all blank hold nothing
pub blanks_hold_nothing : (n : ℕ) (q : Pair) → held_among (replicate n (record { participant = 0; month = 0; kwh = 0 })) q ≡ None
blanks_hold_nothing n q =
    let blank : Entry = record { participant = 0; month = 0; kwh = 0 } in
    rw (find_replicate (is_of q) n blank (and_right (same_pair q (pair_of blank)) false refl))

past_all : {X : Type 0} (p : X → Bool) (xs : List X) → position p xs ≡ None → length xs ≤ position_or_len p xs
past_all p xs none = ⊎_elim
    (λ (within : nat_lt (position_or_len p xs) (length xs) ≡ true). absurd (none-some _ (sym (rw within at none))))
    (λ (past : nat_lt (position_or_len p xs) (length xs) ≡ false). ltb-false (position_or_len p xs) (length xs) past)
    (cases_Bool (nat_lt (position_or_len p xs) (length xs)))

count_none : {X : Type 0} (p : X → Bool) (d : X) (xs : List X) → ((k : ℕ) → k < length xs → p (get_or xs k d) ≡ false) → count_by p xs ≡ 0
count_none p d [] fails = refl
count_none p d (x ∷ xs) fails =
    sum_by-cons (λ y. cond (p y) 1 0) x xs ∙ rw (fails 0 (omega arith)) (omega (arith, count_none p d xs (λ k short. fails (suc k) (omega arith))))

none_of : (es : List Entry) (pair : Pair) → position (is_of pair) es ≡ None → find (is_of pair) es ≡ None
none_of es pair none = find_at (is_of pair) es ∙ slice_get_past es (position_or_len (is_of pair) es) (past_all (is_of pair) es none)

is_apart : (p q : Pair) (e : Entry) → same_pair p q ≡ false → is_of p e ≡ true → is_of q e ≡ false
is_apart p q e apart of = grind (arith, nat_tests)

-- what a put leaves of a run, where it writes an entry at its spot
pub record Written (es : List Entry) (pair : Pair) (new : Entry) (spot : ℕ) : Type 0 where
  pub within : spot < length es
  pub placed : places_among es pair ≡ true
  pub holds : Same (holding (held_among es) pair new.kwh) (held_among (set es spot new))
  pub unused_left : unused_among (set es spot new) ≡ cond (is_some (held_among es pair)) (unused_among es) (unused_among es - 1)

module _ (es : List Entry) (pair : Pair) (new : Entry) (of : is_of pair new ≡ true) where
  holds_written : (i : ℕ) → i < length es → ((k : ℕ) → k < i → is_of pair (get_or es k new) ≡ false)
      → ((q : Pair) → same_pair pair q ≡ false → is_of q (get_or es i new) ≡ false)
      → Same (holding (held_among es) pair new.kwh) (held_among (set es i new))
  holds_written i within before others q = ⊎_elim
      (λ (here : same_pair pair q ≡ true).
      rw here (rw (← same_pairs pair q here) (ap (option_map (λ e. e.kwh)) (find_written (is_of pair) new new of es i within before))))
      (λ (apart : same_pair pair q ≡ false).
      rw apart (ap (option_map (λ e. e.kwh)) (find_past (is_of q) es i new new (others q apart) (is_apart pair q new apart of))))
      (cases_Bool (same_pair pair q))

  counted_after : (i : ℕ) → i < length es → unused_among (set es i new) + cond (unused (get_or es i new)) 1 0 ≡ unused_among es
  counted_after i within =
      let sum = sum_by-set (λ e. cond (unused e) 1 0) es i new new within in
      let fits : used new ≡ true = (and_parts (same_pair pair (pair_of new)) (used new) of).1 in
      omega (arith, rw fits at sum)

  -- the first entry of the pair is replaced
  replaced : (i : ℕ) → position (is_of pair) es ≡ Some i → Written es pair new i
  replaced i found =
      let at = position-Some (is_of pair) es i new found in
      let old : used (get_or es i new) ≡ true = (and_parts (same_pair pair (pair_of (get_or es i new))) (used (get_or es i new)) at.1).1 in
      let place = cond_some (nat_lt (position_or_len (is_of pair) es) (length es)) (position_or_len (is_of pair) es) i found in
      let held : is_some (held_among es pair) ≡ true =
      rw (find_at (is_of pair) es, slice_get-get_or es (position_or_len (is_of pair) es) new (ltb-true (position_or_len (is_of pair) es) (length es) place.0)) in
      record {
        within = at.0;
        placed = rw held;
        holds = holds_written i at.0 at.2 (λ q apart. is_apart pair q (get_or es i new) apart at.1);
        unused_left = let sum = counted_after i at.0 in rw held (omega (arith, rw old at sum));
      }

  -- an unused entry is filled
  filled : (i : ℕ) → position (is_of pair) es ≡ None → position unused es ≡ Some i → Written es pair new i
  filled i none found =
      let at = position-Some unused es i new found in
      let fits = and_parts (same_pair pair (pair_of new)) (used new) of in
      let sum = rw at.1 at (counted_after i at.0) in
      let free : nat_lt 0 (unused_among es) ≡ true = lt-ltb 0 (unused_among es) (omega (arith, sum)) in
      let ranged : in_range pair ≡ true = rw (same_pairs pair (pair_of new) fits.0) ((and_parts (in_range (pair_of new)) (nat_le new.kwh most) fits.1).0) in
      record {
        within = at.0;
        placed = rw (none_of es pair none, ranged, free);
        holds = holds_written i at.0
            (λ k short. fails_before_first (is_of pair) es k new (omega (arith, past_all (is_of pair) es none)))
            (λ q apart. rw (not-true (used (get_or es i new)) at.1) (and_right (same_pair q (pair_of (get_or es i new))) false refl));
        unused_left = rw (none_of es pair none) (omega (arith, sum));
      }

  by_spot : (o : Option ℕ) → position (is_of pair) es ≡ o → (i : ℕ) → option_or o (position unused es) ≡ Some i → Written es pair new i
  by_spot None none i spot = filled i none spot
  by_spot (Some j) found i spot = replaced i (found ∙ spot)

  written : (i : ℕ) → spot_among es pair ≡ Some i → Written es pair new i
  written = by_spot (position (is_of pair) es) refl

module _ (es : List Entry) (pair : Pair) (d : Entry) where
  by_no_spot : (o : Option ℕ) → position (is_of pair) es ≡ o → option_or o (position unused es) ≡ None → places_among es pair ≡ false
  by_no_spot None none full =
      let count : unused_among es ≡ 0 = count_none unused d es (λ k short. fails_before_first unused es k d (omega (arith, past_all unused es full))) in
      rw (none_of es pair none, count) (and_right (in_range pair) false refl)
  by_no_spot (Some j) found full = absurd (none-some j (sym full))

  -- without a spot there is no place
  no_place : spot_among es pair ≡ None → places_among es pair ≡ false
  no_place = by_no_spot (position (is_of pair) es) refl

-- what could not be held has no place
pub unfit : (es : List Entry) (pair : Pair) → in_range pair ≡ false → places_among es pair ≡ false
unfit es pair out = ⊎_elim
    (λ (placed : places_among es pair ≡ true). absurd (both_ways (in_range pair) out (place_in_range es pair placed)))
    (λ (none : places_among es pair ≡ false). none)
    (cases_Bool (places_among es pair))

pub spot_for : (es : List Entry) (pair : Pair) (kwh : ℕ) → in_range pair ≡ true → nat_le kwh most ≡ true → (spot : Option ℕ) → spot ≡ spot_among es pair → SpotFor es pair kwh spot
spot_for es pair kwh ranged fits None is = and_left (places_among es pair) (nat_le kwh most) (no_place es pair (record { participant = 0; month = 0; kwh = 0 }) (sym is))
spot_for es pair kwh ranged fits (Some i) is =
    let new : Entry = record { participant = pair.0; month = pair.1; kwh = kwh } in
    let w = written es pair new (and_from _ _ (and_from _ _ (eq-eqb pair.0 pair.0 refl) (eq-eqb pair.1 pair.1 refl)) (and_from _ _ ranged fits)) i (sym is) in
    record {
      spot_is_within_the_run = w.within;
      pair_is_in_range = ranged;
      put_is_accepted = and_from (places_among es pair) (nat_le kwh most) w.placed fits;
      run_then_holds_the_number = w.holds;
      look_then_answers_it = then_look (held_among es) (held_among (set es i new)) pair kwh w.holds;
      new_pair_takes_an_unused_entry = w.unused_left;
    }
