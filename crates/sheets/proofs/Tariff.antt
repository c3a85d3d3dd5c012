-- The factors and columns follow the tariff's own words.
use Rattle.std.proofs.Common.{◌≡◌, ℕ, ◌*◌, ◌<◌, ◌≤◌, Bool, true, false, cond, Ok, Err, Result, List, [], ◌∷◌, map, ℤ, pos, ◌+ℤ◌, ◌-ℤ◌, ◌*ℤ◌, nat_abs, ◌<ℤ◌, Some, None, Option, sym, refl, ap, ◌∙◌, subst, mul-le-mul_right, le_of_mul-le-mul_right, arith}
use native.Mathlib.Nat.{eq_of_mul-eq-mul_right}
use Rattle.std.proofs.Math.IntN.{*ℤ_comm}
use Rattle.std.proofs.Math.Nat.{mul-pos}
use Rattle.std.proofs.lemmas.Int.{ints, unsigned_abs-mul}
use Rattle.std.specs.Option.{option_map}
use Rattle.amounts.proofs.Laws.{rounded_is_nearest}
use Rattle.amounts.proofs.Products.{times_sum, times_difference, times_assoc}
use Rattle.amounts.specs.Rounding.{Nearest}
use Rattle.sheets.specs.declared.elements.Elements.{Elements}
use Rattle.sheets.specs.declared.elements.ExpenseElements.{ExpenseElements}
use Rattle.sheets.specs.declared.elements.ReturnElements.{ReturnElements}
use Rattle.sheets.specs.declared.elements.TransmissionOm.{TransmissionOm}
use Rattle.sheets.specs.declared.factors.Factors.{Factors}
use Rattle.sheets.specs.declared.figures.Figures.{Figures}
use Rattle.sheets.specs.declared.pricing.Project.{Project}
use Rattle.sheets.specs.declared.refusal.Refusal.{Refusal}
use Rattle.sheets.specs.declared.refusal.Refusal.TheVariants.{AdjustedOmOutOfRange, BaseNotAboveZero, FactorOutOfRange, LineMissing}
use Rattle.sheets.specs.Elements.{total_expense, total_return}
use Rattle.sheets.specs.Factors.{bases_above_zero, expense_factors, factor, factors_fit, factors_of, om_base_above_zero, om_factor, return_factors}
use Rattle.sheets.specs.Pricing.{columns_of, net_plant_of, om_charge}
use Rattle.sheets.specs.Rules.{Rules}
use Rattle.sheets.specs.Sheets.{finished, worked}
use Rattle.sheets.specs.Tariff.{ExpenseFollows, NearestParts, OmChargeFollows, OmFollows, PageOneFollows, PageTwoFollows, ReturnFollows, exact_sum, single}
use Rattle.sheets.proofs.Told.{above_told, bases_told}

abbrev total : List ℤ → ℤ
total [] = pos 0
total (n ∷ ns) = n +ℤ total ns

-- the exact sum of quotients over one base is the total over that base
sum_over_base : (base : ℤ) (ns : List ℤ) → (exact_sum (map (single base) ns)).over *ℤ pos (nat_abs base) ≡ total ns *ℤ pos (exact_sum (map (single base) ns)).under
sum_over_base base [] = omega (arith, ints)
sum_over_base base (n ∷ ns) =
    let d = pos (nat_abs base) in
    let rest = exact_sum (map (single base) ns) in
    let u = pos rest.under in
    times_sum d (n *ℤ u) (rest.over *ℤ d)
    ∙ ap (λ z. (n *ℤ u) *ℤ d +ℤ z *ℤ d) (sum_over_base base ns)
    ∙ sym (times_sum d (n *ℤ u) (total ns *ℤ u))
    ∙ ap (λ z. z *ℤ d) (sym (times_sum u n (total ns)))
    ∙ times_assoc (n +ℤ total ns) u d
    ∙ ap (λ z. (n +ℤ total ns) *ℤ z) (*ℤ_comm u d)

sum_under_positive : (base : ℤ) (ns : List ℤ) → 0 < nat_abs base → 0 < (exact_sum (map (single base) ns)).under
sum_under_positive base [] p = omega arith
sum_under_positive base (n ∷ ns) p = mul-pos p (sum_under_positive base ns p)

-- equal quotients n ÷ e and m ÷ d have the same nearest number of parts
module _ (m n : ℤ) (d e scale : ℕ) (r : ℤ) (same : n *ℤ pos d ≡ m *ℤ pos e) where
  swapped : (a b c : ℤ) → (a *ℤ b) *ℤ c ≡ (a *ℤ c) *ℤ b
  swapped a b c = times_assoc a b c ∙ ap (λ z. a *ℤ z) (*ℤ_comm b c) ∙ sym (times_assoc a c b)

  scaled_same : (n *ℤ pos scale) *ℤ pos d ≡ (m *ℤ pos scale) *ℤ pos e
  scaled_same = swapped n (pos scale) (pos d) ∙ ap (λ z. z *ℤ pos scale) same ∙ swapped m (pos e) (pos scale)

  rest_same : (n *ℤ pos scale -ℤ r *ℤ pos e) *ℤ pos d ≡ (m *ℤ pos scale -ℤ r *ℤ pos d) *ℤ pos e
  rest_same =
      times_difference (pos d) (n *ℤ pos scale) (r *ℤ pos e)
      ∙ ap (λ z. z -ℤ (r *ℤ pos e) *ℤ pos d) scaled_same
      ∙ ap (λ z. (m *ℤ pos scale) *ℤ pos e -ℤ z) (swapped r (pos e) (pos d))
      ∙ sym (times_difference (pos e) (m *ℤ pos scale) (r *ℤ pos d))

  sizes : (a b : ℤ) → a *ℤ pos d ≡ b *ℤ pos e → nat_abs a * d ≡ nat_abs b * e
  sizes a b h = sym (unsigned_abs-mul a (pos d)) ∙ ap nat_abs h ∙ unsigned_abs-mul b (pos e)

  pub nearest_same : 0 < d → 0 < e → Nearest (m *ℤ pos scale) d r → Nearest (n *ℤ pos scale) e r
  nearest_same p q h =
      let v = nat_abs (n *ℤ pos scale -ℤ r *ℤ pos e) in
      let u = nat_abs (m *ℤ pos scale -ℤ r *ℤ pos d) in
      let rests = sizes (n *ℤ pos scale -ℤ r *ℤ pos e) (m *ℤ pos scale -ℤ r *ℤ pos d) rest_same in
      let wholes = sizes (n *ℤ pos scale) (m *ℤ pos scale) scaled_same in
      let products = sizes (r *ℤ pos e) (r *ℤ pos d) (swapped r (pos e) (pos d)) in
      let near : 2 * v ≤ e = le_of_mul-le-mul_right {m = 2 * v} {n = e} {k = d} (omega (arith, mul-le-mul_right e h.near)) p in
      let away : 2 * v ≡ e → nat_abs (n *ℤ pos scale) ≤ nat_abs (r *ℤ pos e) =
      (λ half.
      let exactly : 2 * u ≡ d = eq_of_mul-eq-mul_right e q (2 * u) d (omega (arith, ap (λ x. x * d) half)) in
      le_of_mul-le-mul_right {m = nat_abs (n *ℤ pos scale)} {n = nat_abs (r *ℤ pos e)} {k = d} (omega (arith, mul-le-mul_right e (h.half_away_from_zero exactly))) p) in
      record { near = near; half_away_from_zero = away }

-- a factor of a total is nearest to the exact sum of its single quotients
sum_follows : (scale : ℕ) (base : ℤ) (ns : List ℤ) → pos 0 <ℤ base → NearestParts scale (exact_sum (map (single base) ns)) (factor scale (total ns) base)
sum_follows scale base ns p =
    let positive : 0 < nat_abs base = omega (arith, ints) in
    nearest_same (total ns) (exact_sum (map (single base) ns)).over (nat_abs base) (exact_sum (map (single base) ns)).under scale (factor scale (total ns) base)
    (sum_over_base base ns) positive (sum_under_positive base ns positive) (rounded_is_nearest (total ns *ℤ pos scale) (nat_abs base) positive)

single_follows : (scale : ℕ) (base amount : ℤ) → pos 0 <ℤ base → NearestParts scale (single base amount) (factor scale amount base)
single_follows scale base amount p = rounded_is_nearest (amount *ℤ pos scale) (nat_abs base) (omega (arith, ints))

expense_follows : (scale : ℕ) (e : ExpenseElements) → pos 0 <ℤ e.gross_plant → ExpenseFollows scale e (expense_factors scale e)
expense_follows scale e p =
    let base = e.gross_plant in
    let parts = e.other_om ∷ e.general_depreciation ∷ e.other_taxes ∷ [] in
    let adds : total parts ≡ total_expense e = omega (arith, ints) in
    record {
      other_om_is_nearest_to_its_quotient = single_follows scale base e.other_om p;
      general_depreciation_is_nearest_to_its_quotient = single_follows scale base e.general_depreciation p;
      other_taxes_are_nearest_to_their_quotient = single_follows scale base e.other_taxes p;
      line_9_is_nearest_to_the_exact_sum = subst (λ z. NearestParts scale (exact_sum (map (single base) parts)) (factor scale z base)) adds (sum_follows scale base parts p);
    }

return_follows : (scale : ℕ) (e : ReturnElements) → pos 0 <ℤ e.net_plant → ReturnFollows scale e (return_factors scale e)
return_follows scale e p =
    let base = e.net_plant in
    let parts = e.income_taxes ∷ e.return_on_rate_base ∷ [] in
    let adds : total parts ≡ total_return e = omega (arith, ints) in
    record {
      income_taxes_are_nearest_to_their_quotient = single_follows scale base e.income_taxes p;
      return_on_rate_base_is_nearest_to_its_quotient = single_follows scale base e.return_on_rate_base p;
      line_14_is_nearest_to_the_exact_sum = subst (λ z. NearestParts scale (exact_sum (map (single base) parts)) (factor scale z base)) adds (sum_follows scale base parts p);
    }

om_follows : (scale : ℕ) (o : Option TransmissionOm) → om_base_above_zero o ≡ true → OmFollows scale o (option_map (om_factor scale) o)
om_follows scale (Some e) h = single_follows scale e.accumulated_depreciation e.adjusted_om (above_told e.accumulated_depreciation h)
om_follows scale None h = refl

pub factors_follow : (scale : ℕ) (e : Elements) → bases_above_zero e ≡ true → PageOneFollows scale e (factors_of scale e)
factors_follow scale e h =
    let told = bases_told e h in
    record {
      line_4_is_nearest_to_its_quotient = om_follows scale e.transmission_om told.0;
      line_9_and_its_parts_are_nearest = expense_follows scale e.expense told.1;
      line_14_and_its_parts_are_nearest = return_follows scale e.returns told.2;
    }

-- page 1 finished: every question was answered yes
answered_yes : {A : Type 0} (b : Bool) (why : Refusal) (r : Result A Refusal) (x : A) → cond b r (Err why) ≡ Ok x → (b ≡ true) × (r ≡ Ok x)
answered_yes true why r x e = (refl, e)
answered_yes false why r x e = absurd cc

pub finished_told : {L : Type 0} (scale : ℕ) (t : Rules L) (f : Figures) (p : Factors) → finished scale t f ≡ Ok p → (factors_fit scale p ≡ true) × PageOneFollows scale (t.elements_of f) p
finished_told scale t f p e =
    let elements = t.elements_of f in
    let complete = answered_yes _ LineMissing (worked scale t f) p e in
    let based = answered_yes (bases_above_zero elements) BaseNotAboveZero _ p complete.1 in
    let adjusted = answered_yes (t.adjusted_om_fits f) AdjustedOmOutOfRange _ p based.1 in
    let fit = answered_yes (factors_fit scale (factors_of scale elements)) FactorOutOfRange _ p adjusted.1 in
    let is : factors_of scale elements ≡ p = cc in
    (subst (λ q. factors_fit scale q ≡ true) is fit.0, subst (PageOneFollows scale elements) is (factors_follow scale elements based.0))

om_charge_follows : (scale : ℕ) (o : Option ℤ) (base : ℤ) → 0 < scale → OmChargeFollows scale o base (om_charge scale o base)
om_charge_follows scale (Some factor) base p = rounded_is_nearest (base *ℤ factor) scale p
om_charge_follows scale None base p = refl

pub columns_follow : (scale : ℕ) (p : Factors) (om_base : Project → ℤ) (j : Project) → 0 < scale → PageTwoFollows scale p om_base j (columns_of scale p om_base j)
columns_follow scale p om_base j h = record {
  transmission_om_expense_is_nearest = om_charge_follows scale p.transmission_om (om_base j) h;
  other_expense_is_nearest = rounded_is_nearest (j.gross_plant *ℤ p.expense.total) scale h;
  expense_charge_is_both_expenses = refl;
  return_charge_is_nearest = rounded_is_nearest (net_plant_of j *ℤ p.returns.total) scale h;
  depreciation_is_the_projects_own = refl;
  requirement_is_the_sum = refl;
}
