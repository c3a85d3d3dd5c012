-- A number's text has no byte below the minus sign: no space, no comma.
use Rattle.std.proofs.Common.{◌≡◌, ℕ, suc, ◌+◌, ◌%◌, ◌<◌, false, eqb, List, [], ℤ, pos, negsuc, sym, subst, arith}
use Rattle.std.specs.List.{All}
use Rattle.std.proofs.lemmas.Bool.{ne_eqb}
use Rattle.std.proofs.lemmas.List.Elements.{All-cons, All-nil, All-push}
use Rattle.columns.specs.Texts.{digits_of, text_of}
use Rattle.columns.proofs.Digits.{by_digits}
use Rattle.columns.proofs.Spelling.{text_at_least_zero}

-- no byte of the text is this one
abbrev pub Lacks : ℕ → List ℕ → Type 0
Lacks c text = All (λ b. eqb b c ≡ false) text

module _ (c : ℕ) (small : c < 45) where
  digits_lack : (m : ℕ) → Lacks c (digits_of m)
  digits_lack = by_digits (λ m ds. Lacks c ds)
      (λ m l. All-cons (λ b. eqb b c ≡ false) (48 + m) [] (ne_eqb _ _ (λ e. omega arith)) (All-nil (λ b. eqb b c ≡ false)))
      (λ m ds l h. All-push (λ b. eqb b c ≡ false) ds (48 + m % 10) h (ne_eqb _ _ (λ e. omega arith)))

  -- for callers that join numbers by such a byte
  pub text_lacks : (n : ℤ) → Lacks c (text_of n)
  text_lacks (pos m) = subst (Lacks c) (sym (text_at_least_zero m)) (digits_lack m)
  text_lacks (negsuc m) = All-cons (λ b. eqb b c ≡ false) 45 (digits_of (suc m)) (ne_eqb _ _ (λ e. omega arith)) (digits_lack (suc m))
