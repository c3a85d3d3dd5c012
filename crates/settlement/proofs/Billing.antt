-- A bill and a resettle keep the tally and the book sound.
use Rattle.std.proofs.Common.{◌≡◌, ℕ, ◌+◌, ◌≤◌, Bool, true, cond, not, ℤ, ◌+ℤ◌, is_some, Some, None, Ok, Option, unwrap_or, refl, ap, ◌∙◌, arith}
use Rattle.std.proofs.lemmas.Int.{ints}
use Rattle.journals.specs.Journal.{Pair, same_pair}
use Rattle.settlement.specs.declared.state.State.{State}
use Rattle.settlement.specs.declared.state.State.TheVariants.{Draft, Posted}
use Rattle.settlement.specs.Rules.{pair_of, unsigned}
use Rattle.settlement.specs.Billing.{bill_questions, billed, change_to, charge_at, entered_book, resettle_questions, resettled}
use Rattle.settlement.specs.Books.{BookView, is_posted, rate_of}
use Rattle.settlement.specs.Outcomes.{Gives}
use Rattle.settlement.specs.Tally.{Tally, note_reading}
use Rattle.settlement.proofs.Asking.{asked_ok}
use Rattle.settlement.proofs.Invariants.{MeteredAgrees, Sound, first_free, lifetimes_same}
use Rattle.settlement.proofs.Readings.{before_noted, charge_if_noted, noted_charges, reading_at_noted}

none_held : (o : Option ℕ) → not (is_some o) ≡ true → o ≡ None
none_held None e = refl
none_held (Some x) e = let n : ◌≡◌ {A = ℕ} 0 1 = cc in absurd (omega arith)

some_held : (o : Option ℕ) → is_some o ≡ true → o ≡ Some (unwrap_or o 0)
some_held None e = let n : ◌≡◌ {A = ℕ} 0 1 = cc in absurd (omega arith)
some_held (Some x) e = refl

after_year : (s : State) (year : ℕ) → is_posted s ≡ true → year + 1 ≤ first_free s year
after_year Draft year e = let n : ◌≡◌ {A = ℕ} 0 1 = cc in absurd (omega arith)
after_year (Posted r) year e = omega arith

-- a reading noted and held, at the new charge less the charge on what was held
module _ (t : Tally) (b : BookView) (pair : Pair) (kwh : ℕ) (s : Sound t b) (posted : is_posted b.state ≡ true) where
  metered_entered : (change : ℤ) → (change +ℤ charge_if_noted (rate_of b.state) (b.held pair)) ≡ charge_at b kwh → MeteredAgrees (note_reading pair kwh t) (entered_book b pair kwh change)
  metered_entered change is =
      let a = s.metered in
      let noted = rw (a.rate posted, a.held pair) at (noted_charges t.metered.rates t.year pair kwh t.metered.readings) in
      let before = a.balance in
      record {
        years = a.years;
        held = λ q. reading_at_noted t.year pair kwh q t.metered.readings ∙ ap (cond (same_pair pair q) (Some kwh)) (a.held q);
        rate = a.rate;
        early = before_noted (first_free b.state t.year) t.year pair kwh t.metered.readings (omega (arith, after_year b.state t.year posted)) a.early;
        balance = omega (arith, ints, noted);
      }

  sound_entered : (change : ℤ) → (change +ℤ charge_if_noted (rate_of b.state) (b.held pair)) ≡ charge_at b kwh → Sound (note_reading pair kwh t) (entered_book b pair kwh change)
  sound_entered change is = record {
    metered = metered_entered change is;
    rows = s.rows;
    lifetimes = lifetimes_same t (note_reading pair kwh t) refl refl refl s.lifetimes;
    total_above = s.total_above;
  }

pub sound_bill : (t : Tally) (b b' : BookView) (place : Bool) (participant month kwh answer : ℤ) → Sound t b → Gives (billed b place participant month kwh) (Ok answer) b' → Sound (note_reading (pair_of participant month) (unsigned kwh) t) b'
sound_bill t b b' place p m k x s g =
    let pair = pair_of p m in
    let change = charge_at b (unsigned k) in
    let h = asked_ok b change (entered_book b pair (unsigned k) change) b' x (bill_questions b place p m k) g in
    let none = none_held (b.held pair) h.0.1.1.0 in
    rw h.2 (sound_entered t b pair (unsigned k) s h.0.1.0 change (rw none (omega (arith, ints))))

pub sound_resettle : (t : Tally) (b b' : BookView) (participant month kwh answer : ℤ) → Sound t b → Gives (resettled b participant month kwh) (Ok answer) b' → Sound (note_reading (pair_of participant month) (unsigned kwh) t) b'
sound_resettle t b b' p m k x s g =
    let pair = pair_of p m in
    let change = change_to b pair (unsigned k) in
    let h = asked_ok b change (entered_book b pair (unsigned k) change) b' x (resettle_questions b p m k) g in
    let old : charge_if_noted (rate_of b.state) (b.held pair) ≡ charge_at b (unwrap_or (b.held pair) 0) = ap (charge_if_noted (rate_of b.state)) (some_held (b.held pair) h.0.1.1.0) in
    rw h.2 (sound_entered t b pair (unsigned k) s h.0.1.0 change (rw old (omega (arith, ints))))
