-- A post keeps the tally and the book sound.
use Rattle.std.proofs.Common.{◌≡◌, ℕ, ◌+◌, ◌≤◌, true, eqb, ℤ, pos, ◌*ℤ◌, ◌<ℤ◌, Ok, refl, ◌∙◌, arith}
use Rattle.std.proofs.lemmas.Int.{ints, by_lt_z}
use Rattle.std.proofs.lemmas.Bool.{cond-true, eq-eqb}
use Rattle.amounts.proofs.Laws.{rounds}
use Rattle.settlement.specs.declared.state.State.{State}
use Rattle.settlement.specs.declared.state.State.TheVariants.{Draft, Posted}
use Rattle.settlement.specs.Rules.{rate_scale, unsigned, usage_rate}
use Rattle.settlement.specs.Books.{BookView, is_draft, total_of, with_state}
use Rattle.settlement.specs.Drafting.{is_forecast, is_usage_rate, post_questions, posted, rate_for}
use Rattle.settlement.specs.Outcomes.{Gives}
use Rattle.settlement.specs.Tally.{Tally, note_rate}
use Rattle.settlement.proofs.Asking.{asked_ok}
use Rattle.settlement.proofs.Invariants.{MeteredAgrees, Sound, first_free, lifetimes_same}
use Rattle.settlement.proofs.Ranges.{at_least}
use Rattle.settlement.proofs.Readings.{before_more, charges_kept}
use Rattle.settlement.proofs.Shares.{unsigned_is}

-- a rate above zero comes from a total above zero
total_from_rate : (total forecast : ℤ) → is_forecast forecast ≡ true → is_usage_rate (usage_rate rate_scale total (unsigned forecast)) ≡ true → pos 0 <ℤ total
total_from_rate total forecast f e =
    let least = at_least (pos 1) (pos 1000000000) forecast f in
    let is = unsigned_is forecast (omega (arith, ints)) in
    let rate = at_least (pos 1) (pos 1000000) (usage_rate rate_scale total (unsigned forecast)) e in
    let law = (rounds (total *ℤ pos rate_scale) (unsigned forecast) (omega (arith, ints))).sign_is_never_turned in
    by_lt_z (pos 0) total (λ l. l) (λ l. let none = law.1 (omega (arith, ints)) in absurd (omega (arith, ints)))

draft_year : (s : State) (year : ℕ) → is_draft s ≡ true → first_free s year ≤ year
draft_year Draft year e = omega arith
draft_year (Posted r) year e = let n : ◌≡◌ {A = ℕ} 0 1 = cc in absurd (omega arith)

metered_posted : (t : Tally) (b : BookView) (rate : ℤ) → MeteredAgrees t b → is_draft b.state ≡ true → MeteredAgrees (note_rate rate t) (with_state (Posted rate) b)
metered_posted t b rate a draft =
    let before = before_more (first_free b.state t.year) t.year t.metered.readings (draft_year b.state t.year draft) a.early in
    record {
      years = a.years;
      held = a.held;
      rate = λ _. cond-true (eqb t.year t.year) rate (t.metered.rates t.year) (eq-eqb t.year t.year refl);
      early = before_more t.year (t.year + 1) t.metered.readings (omega arith) before;
      balance = charges_kept t.year rate t.metered.rates t.metered.readings before ∙ a.balance;
    }

pub sound_post : (t : Tally) (b b' : BookView) (forecast rate : ℤ) → Sound t b → Gives (posted b forecast) (Ok rate) b' → Sound (note_rate rate t) b'
sound_post t b b' forecast x s g =
    let rate = rate_for b forecast in
    let h = asked_ok b rate (with_state (Posted rate) b) b' x (post_questions b forecast) g in
    rw (h.2, h.1) (record {
      metered = metered_posted t b rate s.metered h.0.0;
      rows = s.rows;
      lifetimes = lifetimes_same t (note_rate rate t) refl refl refl s.lifetimes;
      total_above = λ e. total_from_rate (total_of b.rows) forecast h.0.1.1.0 h.0.1.1.1.0;
    })
