-- What an answer tells about the questions before a call.
use Rattle.std.proofs.Common.{◌≡◌, ℕ, Bool, true, false, cond, List, [], ◌∷◌, Ok, Err, refl, arith}
use Rattle.questions.specs.Questions.{Question, asked}
use Rattle.settlement.specs.declared.refusal.Refusal.{Refusal}
use Rattle.settlement.specs.Books.{BookView}
use Rattle.settlement.specs.Outcomes.{Gives, done, refused}

-- every question is answered with yes
abbrev pub AllHold : List (Question Refusal) → Type 0
AllHold [] = Unit {0}
AllHold (q ∷ qs) = (q.holds ≡ true) × AllHold qs

module _ {A : Type 0} (b : BookView) (y : A) (after b' : BookView) where
  module _ (x : A) where
    ok_step : (holds : Bool) (w : Refusal) (qs : List (Question Refusal)) → (Gives (asked (refused b) qs (done y after)) (Ok x) b' → AllHold qs × (x ≡ y) × (b' ≡ after)) → Gives (cond holds (asked (refused b) qs (done y after)) (refused b w)) (Ok x) b' → (holds ≡ true) × AllHold qs × (x ≡ y) × (b' ≡ after)
    ok_step true w qs rest g = let h = rest g in (refl, h.0, h.1, h.2)
    ok_step false w qs rest g = let e = g.0 in let n : ◌≡◌ {A = ℕ} 0 1 = cc in absurd (omega arith)

    pub asked_ok : (qs : List (Question Refusal)) → Gives (asked (refused b) qs (done y after)) (Ok x) b' → AllHold qs × (x ≡ y) × (b' ≡ after)
    asked_ok [] g = let e = g.0 in (tt, cc, g.1)
    asked_ok (q ∷ qs) g = let h = ok_step q.holds q.otherwise qs (asked_ok qs) g in ((h.0, h.1), h.2, h.3)

  module _ (why : Refusal) where
    err_step : (holds : Bool) (w : Refusal) (qs : List (Question Refusal)) → (Gives (asked (refused b) qs (done y after)) (Err why) b' → b' ≡ b) → Gives (cond holds (asked (refused b) qs (done y after)) (refused b w)) (Err why) b' → b' ≡ b
    err_step true w qs rest g = rest g
    err_step false w qs rest g = g.1

    pub asked_err : (qs : List (Question Refusal)) → Gives (asked (refused b) qs (done y after)) (Err why) b' → b' ≡ b
    asked_err [] g = let e = g.0 in let n : ◌≡◌ {A = ℕ} 0 1 = cc in absurd (omega arith)
    asked_err (q ∷ qs) g = err_step q.holds q.otherwise qs (asked_err qs) g
