-- A call whose accepted answer is put in another form.
use Rattle.std.proofs.Common.{◌≡◌, Ok, Err, Result, IsOkAnd, MatchResult, refl}
use Rattle.std.specs.Result.{result_and}
use Rattle.answers.specs.declared.answer.Answer.{Answer}
use Rattle.settlement.specs.declared.refusal.Refusal.{Refusal}
use Rattle.settlement.specs.Books.{BookView}
use Rattle.settlement.specs.Outcomes.{Gives, Outcome}
use Rattle.desk.specs.Entries.{said, saying}

module _ {A : Type 0} (say : A → Answer) where
  is_said : (r : Result A Refusal) (told : Result Answer Refusal) → MatchResult r (λ x. IsOkAnd told (λ answer. answer ≡ say x)) (λ why. told ≡ Err why) → told ≡ said say r
  is_said (Ok x) (Ok answer) e = cc
  is_said (Ok x) (Err why) e = absurd e
  is_said (Err why) told e = e

  pub says : (o : Outcome A) (b : BookView) (r : Result A Refusal) (told : Result Answer Refusal) → Gives o r b → MatchResult r (λ x. IsOkAnd told (λ answer. answer ≡ say x)) (λ why. told ≡ Err why) → Gives (saying say o) told b
  says o b r told g e = (rw (← g.0) (is_said r told e), g.1)

module _ (answer : Answer) where
  is_said_only : (r : Result (Unit {0}) Refusal) → result_and r (Ok answer) ≡ said (λ _. answer) r
  is_said_only (Ok x) = refl
  is_said_only (Err why) = refl

  pub says_only : (o : Outcome (Unit {0})) (b : BookView) (r : Result (Unit {0}) Refusal) (told : Result Answer Refusal) → Gives o r b → told ≡ result_and r (Ok answer) → Gives (saying (λ _. answer) o) told b
  says_only o b r told g e = (rw (e, ← g.0) (is_said_only r), g.1)
