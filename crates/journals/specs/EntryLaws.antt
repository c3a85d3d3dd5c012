-- The laws of every journal, for entries.
use Rattle.std.proofs.Common.{◌≡◌, ℕ, true, false, ◌==◌, ◌&&◌, List, [], ◌∷◌, Some, None, Option, is_some, nat_le, nat_lt, refl, ⊎_elim, arith}
use Rattle.std.proofs.lemmas.Bool.{and_parts, cases_Bool, eqb-true, or_cases}
use Rattle.std.proofs.lemmas.Option.{same_Some, none-some}
use Rattle.journals.specs.Journal.{most, Pair, in_range, same_pair}
use Rattle.journals.specs.Entries.{pair_of, used, is_of, held_among, unused_among, places_among}
use Rattle.journals.specs.Calls.{HeldWithinLimitAtPlacesInRange}
use Rattle.journals.specs.declared.entry_journal.Entry.{Entry}

pub same_pairs : (p q : Pair) → same_pair p q ≡ true → p ≡ q
same_pairs (a, b) (c, d) same =
    let parts = and_parts (a == c) (b == d) same in
    rw (eqb-true a c parts.0, eqb-true b d parts.1)

-- what is held can be held
held_fits : (entries : List Entry) (q : Pair) (kwh : ℕ) → held_among entries q ≡ Some kwh → (in_range q ≡ true) × (nat_le kwh most ≡ true)
held_fits [] q kwh held = absurd (none-some kwh held)
held_fits (e ∷ es) q kwh held = ⊎_elim
    (λ (of : is_of q e ≡ true).
    let parts = and_parts (same_pair q (pair_of e)) (used e) of in
    let fits = and_parts (in_range (pair_of e)) (nat_le e.kwh most) parts.1 in
    let here : e.kwh ≡ kwh = same_Some e.kwh kwh (rw of at held) in
    (rw (same_pairs q (pair_of e) parts.0) fits.0, rw (← here) fits.1))
    (λ (other : is_of q e ≡ false). held_fits es q kwh (rw other at held))
    (cases_Bool (is_of q e))

is_held : (o : Option ℕ) → is_some o ≡ true → (kwh : ℕ) × (o ≡ Some kwh)
is_held None some = absurd (grind arith)
is_held (Some kwh) some = (kwh, refl)

-- a pair with a place is in range
pub place_in_range : (entries : List Entry) (q : Pair) → places_among entries q ≡ true → in_range q ≡ true
place_in_range entries q placed = ⊎_elim
    (λ (held : is_some (held_among entries q) ≡ true). let found = is_held (held_among entries q) held in (held_fits entries q found.0 found.1).0)
    (λ (free : (in_range q && nat_lt 0 (unused_among entries)) ≡ true). (and_parts (in_range q) (nat_lt 0 (unused_among entries)) free).0)
    (or_cases (is_some (held_among entries q)) (in_range q && nat_lt 0 (unused_among entries)) placed)

-- the laws that every journal keeps
pub entries_held_within_limit_at_places_in_range : (entries : List Entry) → HeldWithinLimitAtPlacesInRange (held_among entries) (places_among entries)
entries_held_within_limit_at_places_in_range entries = record {
  held_pair_has_a_place = λ q kwh held. rw held;
  held_number_is_at_most_the_limit = λ q kwh held. (held_fits entries q kwh held).1;
  pair_out_of_range_has_no_place = place_in_range entries;
}
