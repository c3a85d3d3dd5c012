-- A number in columns that are wide enough for it.
use Rattle.std.proofs.Common.{◌≡◌, ℕ, ◌-◌, ◌^◌, ◌<◌, ◌≤◌, List, length, ℤ, nat_abs, Ok, Result, ap, ◌∙◌, arith}
use Rattle.columns.specs.Fields.{Gives, right_justified, written}
use Rattle.columns.specs.Texts.{width_of}
use Rattle.columns.specs.declared.refusal.Refusal.{Refusal}
use Rattle.columns.proofs.Widths.{width_within, written_where_it_fits}

pub wide_enough : (columns : ℕ) (n : ℤ) → 2 ≤ columns → nat_abs n < 10 ^ (columns - 1) → width_of n ≤ columns
wide_enough columns n two fits = omega (arith, width_within (columns - 1) n (omega arith) fits)

-- it is written
pub accepted_there : (columns : ℕ) (n : ℤ) (part after : List ℕ) (r : Result (Unit {0}) Refusal) → length part ≡ columns → width_of n ≤ columns → Gives (written part n) r after →
    (r ≡ Ok tt) × (after ≡ right_justified columns n)
accepted_there columns n part after r long narrow g =
    let w = written_where_it_fits part n (omega arith) in
    (g.0 ∙ ap (λ w. w.answer) w, g.1 ∙ ap (λ w. w.after) w ∙ ap (λ k. right_justified k n) long)
