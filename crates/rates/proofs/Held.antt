-- What holding does, from the latest of some months.
use Rattle.std.proofs.Common.{◌≡◌, ℕ, zero, suc, ◌+◌, ◌-◌, ◌<◌, ◌≤◌, true, ◌⊎◌, is_some, Some, None, Option, refl, sym, ◌∙◌, inl, inr, ⊎_elim, arith}
use Rattle.std.proofs.iter.runs.Sources.{nat_range_steps_back, range_runs_back}
use Rattle.std.proofs.lemmas.Iterator.Adapters.{option_map_id}
use Rattle.std.proofs.Math.Nat.{eq-or-lt_of_le}
use Rattle.std.specs.Iterator.Runs.{Run, AllItemsGive, IsFirstToGive, IsIdenticalRun}
use Rattle.std.specs.Prelude.{MatchOption, IsTrue}
use Rattle.std.specs.Fn.{Called}
use denote.Param.Members.{Mut}
use Rattle.std.specs.Option.{option_or}
use Rattle.rates.specs.Rates.{Rates, Has}
use Rattle.rates.specs.Holding.{Holds, held, latest_before}

option_or_later : (a b : Option ℕ) → is_some b ≡ true → is_some (option_or a b) ≡ true
option_or_later None b has = has
option_or_later (Some x) b has = refl

option_or_first : (a b : Option ℕ) → is_some a ≡ true → is_some (option_or a b) ≡ true
option_or_first None b has = grind arith
option_or_first (Some x) b has = refl

option_or_either : (a b : Option ℕ) → is_some (option_or a b) ≡ true → (is_some a ≡ true) ⊎ (is_some b ≡ true)
option_or_either None b has = inr has
option_or_either (Some x) b has = inl refl

module _ (rates : Rates) where
  latest_takes : (month n last rate : ℕ) → last < month → month ≤ last + n → rates last ≡ Some rate
      → ((later : ℕ) → last < later → later < month → rates later ≡ None) → latest_before rates month n ≡ Some rate
  unfolding latest_before
  latest_takes zero n last rate before near here later = absurd (omega arith)
  latest_takes (suc month) zero last rate before near here later = absurd (omega arith)
  latest_takes (suc month) (suc n) last rate before near here later = ⊎_elim
      (λ (same : last ≡ month). rw (← same) (rw here))
      (λ (earlier : last < month).
      rw (later month earlier (omega arith)) (latest_takes month n last rate earlier (omega arith) here (λ m past short. later m past (omega arith))))
      (eq-or-lt_of_le (omega arith))

  latest_none : (month n : ℕ) → ((earlier : ℕ) → earlier < month → month ≤ earlier + n → rates earlier ≡ None) → latest_before rates month n ≡ None
  unfolding latest_before
  latest_none month zero none = refl
  latest_none zero (suc n) none = refl
  latest_none (suc month) (suc n) none = rw (none month (omega arith) (omega arith)) (latest_none month n (λ m before near. none m (omega arith) (omega arith)))

  latest_covers : (month n earlier : ℕ) → earlier < month → month ≤ earlier + n → Has rates earlier → is_some (latest_before rates month n) ≡ true
  unfolding latest_before
  latest_covers zero n earlier before near has = absurd (omega arith)
  latest_covers (suc month) zero earlier before near has = absurd (omega arith)
  latest_covers (suc month) (suc n) earlier before near has = ⊎_elim
      (λ (same : earlier ≡ month). option_or_first (rates month) (latest_before rates month n) (rw (← same) has))
      (λ (further : earlier < month). option_or_later (rates month) (latest_before rates month n) (latest_covers month n earlier further (omega arith) has))
      (eq-or-lt_of_le (omega arith))

  latest_only : (month n : ℕ) → is_some (latest_before rates month n) ≡ true → (earlier : ℕ) × ((earlier < month) × (month ≤ earlier + n) × Has rates earlier)
  unfolding latest_before
  latest_only month zero has = absurd (grind arith)
  latest_only zero (suc n) has = absurd (grind arith)
  latest_only (suc month) (suc n) has = ⊎_elim
      (λ (here : Has rates month). (month, (omega arith, omega arith, here)))
      (λ (there : is_some (latest_before rates month n) ≡ true).
      let found = latest_only month n there in (found.0, (omega arith, omega arith, found.1.2)))
      (option_or_either (rates month) (latest_before rates month n) has)

-- p runs back over the months before a month, q is the run behind it: it has found the latest rate
module _ {S F : Type 0} {steps : S → Option ℕ → S → Type 0} (g : Mut F (ℕ × Unit {0}) (Option ℕ)) (f : F)
    (p : Run steps) (q : Run nat_range_steps_back) (rates : Rates) (month count : ℕ) where
  abbrev Back : Type 0
  Back = IsIdenticalRun p q × (q.from.start ≡ month - count) × (q.from.end ≡ month)

  abbrev Answers : Type 0
  Answers = (x : ℕ) (r : Option ℕ) (f' : F) → Called g f (x, tt) r f' → (r ≡ rates x) × (f' ≡ f)

  place_in_run : Back → (k : ℕ) → k < p.len → p.at k ≡ Some (month - 1 - k)
  place_in_run back k short =
      rw (back.0.0.2 k, back.2, option_map_id (p.at k)) at ((range_runs_back q q.seen).3 k (rw back.0.0.0 short))

  pub latest_found : (found : Option ℕ) → Back → Answers
      → MatchOption found (IsTrue p.whole × AllItemsGive p g f None) (λ rate. (i : ℕ) × (i < p.len) × (p.len ≡ i + 1) × IsFirstToGive p g f (Some rate) None i)
      → found ≡ latest_before rates month count
  latest_found None back answers ran =
      let none = ran.1 (λ x r f' called. (answers x.0 r f' called).1) in
      let all : q.len ≡ month - (month - count) = rw (← back.1, ← back.2) ((range_runs_back q q.seen).1 (back.0.1 ∙ ran.0)) in
      sym (latest_none rates month count (λ earlier before near.
      let place : month - 1 - (month - 1 - earlier) ≡ earlier = omega arith in
      let called = rw (place_in_run back (month - 1 - earlier) (omega (arith, back.0.0.0))) at (none (month - 1 - earlier)) in
      rw place at (sym (answers _ None f called).0)))
  latest_found (Some rate) back answers ran =
      let first = ran.3 (λ x r f' called. (answers x.0 r f' called).1) in
      let within : q.len ≤ month - (month - count) = rw (← back.1, ← back.2) (range_runs_back q q.seen).0 in
      let called = rw (place_in_run back ran.0 ran.1) at first.0 in
      sym (latest_takes rates month count (month - 1 - ran.0) rate (omega (arith, back.0.0.0)) (omega (arith, back.0.0.0)) (sym (answers _ (Some rate) f called).0)
      (λ later past before.
      let place : month - 1 - (month - 1 - later) ≡ later = omega arith in
      let called_later = rw (place_in_run back (month - 1 - later) (omega arith)) at (first.1 (month - 1 - later) (omega arith)) in
      rw place at (sym (answers _ None f called_later).0)))

-- what is held is the latest of 25 months
pub holds : (rates : Rates) → Holds rates (held rates)
unfolding latest_before
holds rates = record {
  month_with_a_rate_is_never_changed = λ month rate here. rw here;
  latest_rate_is_taken = λ last month rate near here later. latest_takes rates (suc month) 25 last rate (omega arith) (omega arith) here (λ m past short. later m past (omega arith));
  rate_where_one_of_25_months_has_one = λ month earlier near has. latest_covers rates (suc month) 25 earlier (omega arith) (omega arith) has;
  rate_only_where_one_of_25_months_has_one = λ month has.
      let found = latest_only rates (suc month) 25 has in (found.0, ((omega arith, omega arith), found.1.2));
}
