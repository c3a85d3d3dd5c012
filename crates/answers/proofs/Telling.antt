-- An answer is told from its text, so no two have the same.
use Rattle.std.proofs.Common.{◌≡◌, ℕ, ◌<◌, Bool, true, false, cond, eqb, not, List, [], ◌∷◌, ℤ, pos, nat_abs, Option, Some, None, codes, refl, sym, ap, ◌∙◌, ⊎_elim, arith, length, get_or}
use Rattle.std.specs.List.{AllByRecursion, join_with_byte, list_all, slice_split}
use Rattle.std.specs.Str.{bytes_eq}
use Rattle.std.specs.Str.Parse.{signed_digits_value}
use Rattle.std.proofs.lemmas.Bool.{and_parts, cases_Bool, cond-false}
use Rattle.std.proofs.lemmas.List.Elements.{All-cons, All-from_recursion, All-nil}
use Rattle.std.proofs.lemmas.Slice.Eq.{bytes_eq-Decides}
use Rattle.columns.proofs.Bytes.{Lacks, text_lacks}
use Rattle.columns.proofs.Digits.{one_digit}
use Rattle.columns.proofs.Spelling.{text_at_least_zero, text_spells}
use Rattle.settlement.specs.Refusals.{number_of}
use Rattle.settlement.specs.declared.account.Filed as account
use Rattle.settlement.specs.declared.refusal.Refusal.{Refusal}
use Rattle.settlement.specs.declared.refusal.Refusal.TheVariants.{ProjectNumberOutOfRange, NotDraft, NoRoomForARow, RequirementOutOfRange, NotFiled, ForecastOutOfRange, UsageRateOutOfRange, ReadingOutOfRange, NotPosted, AlreadyHeld, MoneyOutOfRange, NoPlace, NotHeld, NoRow, ActualOutOfRange, NotStated, NotPaid, LastYear, RateMissing, TrueUpOutOfRange}
use Rattle.settlement.specs.declared.row_answer.RowAnswer.{RowAnswer}
use Rattle.settlement.specs.declared.state.State.TheVariants.{Draft, Posted}
use Rattle.answers.specs.Numbers.{natural, number}
use Rattle.answers.specs.Answers.{HasItsOwnText, amount, answer_text, answer_words, filed_words, row_words}
use Rattle.answers.specs.declared.answer.Answer.{Answer}
use Rattle.answers.specs.declared.answer.Answer.TheVariants.{Opened, Filed, Rate, Charge, Change, Paid, Stated, Closed, Row, Refused, Unread, Year}
use Rattle.answers.proofs.Splitting.{split_joined}

abbrev refusal_of : ℕ → Refusal
refusal_of n =
    cond (eqb n 1) ProjectNumberOutOfRange
    (cond (eqb n 2) NotDraft
    (cond (eqb n 3) NoRoomForARow
    (cond (eqb n 4) RequirementOutOfRange
    (cond (eqb n 5) NotFiled
    (cond (eqb n 6) ForecastOutOfRange
    (cond (eqb n 7) UsageRateOutOfRange
    (cond (eqb n 8) ReadingOutOfRange
    (cond (eqb n 9) NotPosted
    (cond (eqb n 10) AlreadyHeld
    (cond (eqb n 11) MoneyOutOfRange
    (cond (eqb n 12) NoPlace
    (cond (eqb n 13) NotHeld
    (cond (eqb n 14) NoRow
    (cond (eqb n 15) ActualOutOfRange
    (cond (eqb n 16) NotStated
    (cond (eqb n 17) NotPaid
    (cond (eqb n 18) LastYear
    (cond (eqb n 19) RateMissing
    TrueUpOutOfRange))))))))))))))))))

refusal_back : (r : Refusal) → refusal_of (number_of r) ≡ r
refusal_back ProjectNumberOutOfRange = refl
refusal_back NotDraft = refl
refusal_back NoRoomForARow = refl
refusal_back RequirementOutOfRange = refl
refusal_back NotFiled = refl
refusal_back ForecastOutOfRange = refl
refusal_back UsageRateOutOfRange = refl
refusal_back ReadingOutOfRange = refl
refusal_back NotPosted = refl
refusal_back AlreadyHeld = refl
refusal_back MoneyOutOfRange = refl
refusal_back NoPlace = refl
refusal_back NotHeld = refl
refusal_back NoRow = refl
refusal_back ActualOutOfRange = refl
refusal_back NotStated = refl
refusal_back NotPaid = refl
refusal_back LastYear = refl
refusal_back RateMissing = refl
refusal_back TrueUpOutOfRange = refl

-- the word at a place, and what it says
abbrev word : List (List ℕ) → ℕ → List ℕ
word words k = get_or words k []

abbrev number_at : List (List ℕ) → ℕ → ℤ
number_at words k = signed_digits_value 10 (word words k)

abbrev natural_at : List (List ℕ) → ℕ → ℕ
natural_at words k = nat_abs (number_at words k)

abbrev amount_in : List ℕ → Option ℤ
amount_in w = cond (bytes_eq w (codes "-")) None (Some (signed_digits_value 10 w))

abbrev row_of : List (List ℕ) → RowAnswer
row_of w = record {
  project = natural_at w 1;
  due_now = number_at w 3;
  due_next = number_at w 5;
  paid = number_at w 7;
  kept = number_at w 9;
  requirement = amount_in (word w 11);
  actual = amount_in (word w 13);
}

abbrev draft_of : List (List ℕ) → Answer
draft_of w = Year (natural_at w 1) Draft (number_at w 4) (number_at w 6)

abbrev posted_of : List (List ℕ) → Answer
posted_of w = Year (natural_at w 1) (Posted (number_at w 3)) (number_at w 5) (number_at w 7)

abbrev answer_by : List ℕ → List (List ℕ) → Answer
answer_by name w =
    cond (bytes_eq name (codes "opened")) (Opened (natural_at w 1))
    (cond (bytes_eq name (codes "filed")) Filed
    (cond (bytes_eq name (codes "rate")) (Rate (number_at w 1))
    (cond (bytes_eq name (codes "charge")) (Charge (number_at w 1))
    (cond (bytes_eq name (codes "change")) (Change (number_at w 1))
    (cond (bytes_eq name (codes "paid")) (Paid (number_at w 1) (number_at w 3))
    (cond (bytes_eq name (codes "stated")) Stated
    (cond (bytes_eq name (codes "closed")) (Closed (natural_at w 1))
    (cond (bytes_eq name (codes "row")) (Row (row_of w))
    (cond (bytes_eq name (codes "refused")) (Refused (refusal_of (natural_at w 1)))
    (cond (bytes_eq name (codes "year")) (cond (bytes_eq (word w 2) (codes "draft")) (draft_of w) (posted_of w))
    Unread))))))))))

abbrev answer_of : List (List ℕ) → Answer
answer_of w = answer_by (word w 0) w

number_back : (n : ℤ) → signed_digits_value 10 (number n) ≡ n
number_back n = (text_spells n).has_the_value

natural_back : (n : ℕ) → nat_abs (signed_digits_value 10 (natural n)) ≡ n
natural_back n = ap nat_abs (number_back (pos n))

no_hyphen : (n : ℤ) → bytes_eq (number n) (codes "-") ≡ false
no_hyphen n =
    ⊎_elim
    (λ t. absurd (let e = (bytes_eq-Decides (number n) (codes "-")).0 t in
    let zero : n ≡ pos 0 = sym (number_back n) ∙ ap (signed_digits_value 10) e in
    omega (arith, ap (λ w. get_or w 0 0) (sym (one_digit 0 (omega arith)) ∙ sym (text_at_least_zero 0) ∙ sym (ap number zero) ∙ e))))
    (λ f. f)
    (cases_Bool (bytes_eq (number n) (codes "-")))

amount_back : (a : Option ℤ) → amount_in (amount a) ≡ a
amount_back None = refl
amount_back (Some n) = cond-false (bytes_eq (number n) (codes "-")) _ _ (no_hyphen n) ∙ ap Some (number_back n)

row_back : (r : RowAnswer) → row_of (answer_words (Row r)) ≡ r
row_back r i = record {
  project = natural_back r.project i;
  due_now = number_back r.due_now i;
  due_next = number_back r.due_next i;
  paid = number_back r.paid i;
  kept = number_back r.kept i;
  requirement = amount_back r.requirement i;
  actual = amount_back r.actual i;
}

answer_back : (a : Answer) → answer_of (answer_words a) ≡ a
answer_back (Opened year) = ap Opened (natural_back year)
answer_back Filed = refl
answer_back (Rate rate) = ap Rate (number_back rate)
answer_back (Charge charge) = ap Charge (number_back charge)
answer_back (Change change) = ap Change (number_back change)
answer_back (Paid change till) = λ i. Paid (number_back change i) (number_back till i)
answer_back Stated = refl
answer_back (Closed year) = ap Closed (natural_back year)
answer_back (Row row) = ap Row (row_back row)
answer_back (Refused refusal) = ap (λ n. Refused (refusal_of n)) (natural_back (number_of refusal)) ∙ ap Refused (refusal_back refusal)
answer_back Unread = refl
answer_back (Year year Draft money till) = λ i. Year (natural_back year i) Draft (number_back money i) (number_back till i)
answer_back (Year year (Posted rate) money till) = λ i. Year (natural_back year i) (Posted (number_back rate i)) (number_back money i) (number_back till i)

-- no word has a space
plain : (w : List ℕ) → list_all (λ b. not (eqb b 32)) w ≡ true → Lacks 32 w
plain [] h = All-nil (λ b. eqb b 32 ≡ false)
plain (b ∷ bs) h =
    let p = and_parts (not (eqb b 32)) (list_all (λ b. not (eqb b 32)) bs) h in
    All-cons (λ b. eqb b 32 ≡ false) b bs (no_space (eqb b 32) p.0) (plain bs p.1)
  where
    no_space : (t : Bool) → not t ≡ true → t ≡ false
    no_space true e = sym e
    no_space false e = refl

abbrev Plain : List (List ℕ) → Type 0
Plain words = AllByRecursion (Lacks 32) words

digits : (n : ℤ) → Lacks 32 (number n)
digits n = text_lacks 32 (omega arith) n

amount_plain : (a : Option ℤ) → Lacks 32 (amount a)
amount_plain None = plain (codes "-") refl
amount_plain (Some n) = digits n

filed_plain : (f : account.Filed) → Plain (filed_words f)
filed_plain f = (plain (codes "requirement") refl, (amount_plain f.requirement, (plain (codes "actual") refl, (amount_plain f.actual, tt))))

row_plain : (r : RowAnswer) → Plain (row_words r)
row_plain r = (
  digits (pos r.project),
  (plain (codes "due-now") refl, (digits r.due_now, (plain (codes "due-next") refl, (digits r.due_next, (plain (codes "paid") refl, (digits r.paid, (plain (codes "kept") refl, (digits r.kept, filed_plain (record { requirement = r.requirement; actual = r.actual }))))))))),
)

money_plain : (m t : ℤ) → Plain (codes "money" ∷ number m ∷ codes "till" ∷ number t ∷ [])
money_plain m t = (plain (codes "money") refl, (digits m, (plain (codes "till") refl, (digits t, tt))))

answer_plain : (a : Answer) → Plain (answer_words a)
answer_plain (Opened year) = (plain (codes "opened") refl, (digits (pos year), tt))
answer_plain Filed = (plain (codes "filed") refl, tt)
answer_plain (Rate rate) = (plain (codes "rate") refl, (digits rate, tt))
answer_plain (Charge charge) = (plain (codes "charge") refl, (digits charge, tt))
answer_plain (Change change) = (plain (codes "change") refl, (digits change, tt))
answer_plain (Paid change till) = (plain (codes "paid") refl, (digits change, (plain (codes "till") refl, (digits till, tt))))
answer_plain Stated = (plain (codes "stated") refl, tt)
answer_plain (Closed year) = (plain (codes "closed") refl, (digits (pos year), tt))
answer_plain (Row row) = (plain (codes "row") refl, row_plain row)
answer_plain (Refused refusal) = (plain (codes "refused") refl, (digits (pos (number_of refusal)), tt))
answer_plain Unread = (plain (codes "unread") refl, tt)
answer_plain (Year year Draft money till) = (plain (codes "year") refl, (digits (pos year), (plain (codes "draft") refl, money_plain money till)))
answer_plain (Year year (Posted rate) money till) = (plain (codes "year") refl, (digits (pos year), (plain (codes "posted") refl, (digits rate, money_plain money till))))

answer_some : (a : Answer) → 0 < length (answer_words a)
answer_some (Opened year) = omega arith
answer_some Filed = omega arith
answer_some (Rate rate) = omega arith
answer_some (Charge charge) = omega arith
answer_some (Change change) = omega arith
answer_some (Paid change till) = omega arith
answer_some Stated = omega arith
answer_some (Closed year) = omega arith
answer_some (Row row) = omega arith
answer_some (Refused refusal) = omega arith
answer_some Unread = omega arith
answer_some (Year year Draft money till) = omega arith
answer_some (Year year (Posted rate) money till) = omega arith

words_back : (ws : List (List ℕ)) → 0 < length ws → Plain ws → slice_split (λ b. eqb b 32) (join_with_byte 32 ws) ≡ ws
words_back [] some h = absurd (omega arith)
words_back (w ∷ ws) some h = split_joined 32 w ws h.0 (All-from_recursion (Lacks 32) ws h.1)

-- the answer that a text tells
abbrev told : List ℕ → Answer
told text = answer_of (slice_split (λ b. eqb b 32) text)

told_back : (a : Answer) → told (answer_text a) ≡ a
told_back a = ap answer_of (words_back (answer_words a) (answer_some a) (answer_plain a)) ∙ answer_back a

pub has_its_own_text : (a : Answer) → HasItsOwnText a
has_its_own_text a b e = sym (told_back b) ∙ ap told e ∙ told_back a
