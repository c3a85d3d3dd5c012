-- The library writes a number as its text.
use Rattle.std.proofs.Common.{◌≡◌, ℕ, ◌^◌, ◌<◌, ℤ, sym, ap, ◌∙◌, arith, SFits, to_z, of_z}
use mir.Syntax.{w64}
use Rattle.std.specs.Fmt.{decimal, signed_decimal}
use Rattle.std.proofs.lemmas.Int.{to_z-of_z}
use Rattle.columns.proofs.Library.{decimal_is, signed_decimal_is}
use Rattle.columns.proofs.Spelling.{text_at_least_zero}
use Rattle.answers.specs.Numbers.{natural, number}

-- a number of 64 bits, as a call passes it on
pub number_shown : (n : ℤ) → SFits w64 n → signed_decimal (to_z w64 (of_z w64 n)) ≡ number n
number_shown n h = ap signed_decimal (to_z-of_z w64 n h) ∙ signed_decimal_is n (record { sfits = omega (arith, h.sfits) })

pub natural_shown : (m : ℕ) → m < 2 ^ 64 → decimal m ≡ natural m
natural_shown m h = decimal_is m (omega arith) ∙ sym (text_at_least_zero m)

pub ruleset shown = (number_shown, natural_shown)
