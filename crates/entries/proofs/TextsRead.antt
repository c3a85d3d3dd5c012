-- The text of each entry is read as that entry.
use Rattle.std.proofs.Common.{◌≡◌, ℕ, ◌^◌, ◌<◌, Bool, true, false, ltb, leb, List, [], ◌∷◌, ◌++◌, map, ℤ, pos, Option, Some, refl, ap, ◌∙◌, arith}
use Rattle.std.specs.List.{All}
use Rattle.std.specs.Option.{option_and_then, option_map, option_zip}
use Rattle.std.proofs.lemmas.Bool.{cond-true, le-leb, lt-ltb}
use Rattle.std.proofs.lemmas.List.Elements.{All-cons, All-head, All-nil, All-tail}
use Rattle.entries.specs.Numbers.{FitsI64, below, natural, number, number_in, two_numbers_in, u16_in, u32_in}
use Rattle.entries.specs.Rates.{all_of, rates_in}
use Rattle.entries.specs.Readings.{at_most, entry_in, given_list_in, journal_in, list_in, meter_reading_in, open_in}
use Rattle.entries.specs.Texts.{Fits, GivenListFits, JournalFits, MeterFits, entry_text, given_list_words, journal_words, list_words, meter_words}
use Rattle.entries.specs.Words.{first_word, joined, words_after}
use Rattle.entries.specs.declared.entry.Entry.{Entry}
use Rattle.entries.specs.declared.entry.Entry.TheVariants.{Open, File, Post, Bill, Resettle, Pay, State, Close, Look}
use Rattle.entries.specs.declared.entry.MeterReading.{MeterReading}
use Rattle.entries.specs.declared.given_list.GivenList.{GivenList}
use Rattle.entries.specs.declared.given_list.GivenList.TheVariants.{Flat, Quarter}
use Rattle.entries.specs.declared.given_list.ListEntry.{ListEntry}
use Rattle.entries.specs.declared.journal_kind.JournalKind.{JournalKind}
use Rattle.entries.specs.declared.journal_kind.JournalKind.TheVariants.{Table, Entries}
use Rattle.entries.proofs.Cutting.{NoComma, cut, number_no_comma, split_joined}
use Rattle.entries.proofs.Spelled.{number_of_text}

pub number_read : (n : ℤ) → FitsI64 n → number_in (number n) ≡ Some n
number_read n h = number_of_text n (lt-ltb _ _ h)

natural_read : (limit n : ℕ) → limit < 2 ^ 63 → n < limit → option_and_then (below limit) (number_in (natural n)) ≡ Some n
natural_read limit n small h = ap (option_and_then (below limit)) (number_read (pos n) (omega arith)) ∙ cond-true (ltb n limit) _ _ (lt-ltb _ _ h)

pub u16_read : (n : ℕ) → n < 2 ^ 16 → u16_in (natural n) ≡ Some n
u16_read n h = natural_read (2 ^ 16) n (omega arith) h

pub u32_read : (n : ℕ) → n < 2 ^ 32 → u32_in (natural n) ≡ Some n
u32_read n h = natural_read (2 ^ 32) n (omega arith) h

-- a number, and what follows it
module _ {A B : Type 0} (f : List ℕ → Option A) (g : List ℕ → Option B) where
  cut_read : (n : ℤ) (rest : List ℕ) (a : A) (b : B) → f (number n) ≡ Some a → g rest ≡ Some b →
      option_zip (f (first_word (number n ++ (44 ∷ rest)))) (g (words_after (number n ++ (44 ∷ rest)))) ≡ Some (a, b)
  cut_read n rest a b p q =
      let c = cut (number n) rest (number_no_comma n) in
      (λ i. option_zip (f (c.0 i)) (g (c.1 i))) ∙ (λ i. option_zip (p i) (q i))

two_read : (m n : ℤ) → FitsI64 m → FitsI64 n → two_numbers_in (joined (number m ∷ number n ∷ [])) ≡ Some (m, n)
two_read m n p q = cut_read number_in number_in m (number n) m n (number_read m p) (number_read n q)

meter_read : (r : MeterReading) → MeterFits r → meter_reading_in (joined (meter_words r)) ≡ Some r
meter_read r h = ap (option_map (λ p. record { participant = p.0; month = p.1.0; kwh = p.1.1 })) (cut_read number_in two_numbers_in r.participant (joined (number r.month ∷ number r.kwh ∷ [])) r.participant (r.month, r.kwh) (number_read r.participant h.0) (two_read r.month r.kwh h.1.0 h.1.1))

journal_read : (j : JournalKind) → JournalFits j → journal_in (joined (journal_words j)) ≡ Some j
journal_read (Table participants) h = ap (option_map Table) (u16_read participants h)
journal_read (Entries records) h = ap (λ o. option_map Entries (option_and_then (at_most 1000000) o)) (u32_read records (omega arith)) ∙ ap (option_map Entries) (cond-true (leb records 1000000) _ _ (le-leb _ _ h))

open_read : (year : ℕ) (j : JournalKind) → year < 2 ^ 16 → JournalFits j → open_in (joined (natural year ∷ journal_words j)) ≡ Some (Open year j)
open_read year (Table participants) p q = ap (option_map (λ p. Open p.0 p.1)) (cut_read u16_in journal_in (pos year) (joined (journal_words (Table participants))) year (Table participants) (u16_read year p) (journal_read (Table participants) q))
open_read year (Entries records) p q = ap (option_map (λ p. Open p.0 p.1)) (cut_read u16_in journal_in (pos year) (joined (journal_words (Entries records))) year (Entries records) (u16_read year p) (journal_read (Entries records) q))

each_read : (rates : List ℕ) → All (λ rate. rate < 2 ^ 32) rates → all_of (map u32_in (map natural rates)) ≡ Some rates
each_read [] h = refl
each_read (r ∷ rs) h =
    let P : ℕ → Type 0 = λ rate. rate < 2 ^ 32 in
    ap (λ o. all_of (o ∷ map u32_in (map natural rs))) (u32_read r (All-head P r rs h)) ∙ ap (option_map (λ ns. r ∷ ns)) (each_read rs (All-tail P r rs h))

naturals_no_comma : (rates : List ℕ) → All NoComma (map natural rates)
naturals_no_comma [] = All-nil NoComma
naturals_no_comma (r ∷ rs) = All-cons NoComma (natural r) (map natural rs) (number_no_comma (pos r)) (naturals_no_comma rs)

rates_read : (r : ℕ) (rs : List ℕ) → All (λ rate. rate < 2 ^ 32) (r ∷ rs) → rates_in (joined (map natural (r ∷ rs))) ≡ Some (r ∷ rs)
rates_read r rs h = ap (λ ws. all_of (map u32_in ws)) (split_joined 44 (natural r) (map natural rs) (number_no_comma (pos r)) (naturals_no_comma rs)) ∙ each_read (r ∷ rs) h

given_list_read : (l : GivenList) → GivenListFits l → given_list_in (joined (given_list_words l)) ≡ Some l
given_list_read (Flat rate) h = ap (option_map Flat) (u32_read rate h)
given_list_read (Quarter first []) h = absurd (omega (arith, h.1.0))
given_list_read (Quarter first (r ∷ rs)) h = ap (option_map (λ p. Quarter p.0 p.1)) (cut_read u32_in rates_in (pos first) (joined (map natural (r ∷ rs))) first (r ∷ rs) (u32_read first h.0) (rates_read r rs h.1.1))

abbrev entry_of : Bool → GivenList → ListEntry
entry_of holding l = record { holding = holding; list = l }

list_read : (holding : Bool) (l : GivenList) → GivenListFits l → list_in (joined (list_words (entry_of holding l))) ≡ Some (entry_of holding l)
list_read true (Flat rate) h = ap (option_map (entry_of true)) (given_list_read (Flat rate) h)
list_read true (Quarter first rates) h = ap (option_map (entry_of true)) (given_list_read (Quarter first rates) h)
list_read false (Flat rate) h = ap (option_map (entry_of false)) (given_list_read (Flat rate) h)
list_read false (Quarter first rates) h = ap (option_map (entry_of false)) (given_list_read (Quarter first rates) h)

close_read : (holding : Bool) (l : GivenList) → GivenListFits l → entry_in (entry_text (Close (entry_of holding l))) ≡ Some (Close (entry_of holding l))
close_read true (Flat rate) h = ap (option_map Close) (list_read true (Flat rate) h)
close_read true (Quarter first rates) h = ap (option_map Close) (list_read true (Quarter first rates) h)
close_read false (Flat rate) h = ap (option_map Close) (list_read false (Flat rate) h)
close_read false (Quarter first rates) h = ap (option_map Close) (list_read false (Quarter first rates) h)

pub text_read : (e : Entry) → Fits e → entry_in (entry_text e) ≡ Some e
text_read (Open year (Table participants)) h = open_read year (Table participants) h.0 h.1
text_read (Open year (Entries records)) h = open_read year (Entries records) h.0 h.1
text_read (File project requirement) h = ap (option_map (λ p. File p.0 p.1)) (two_read project requirement h.0 h.1)
text_read (Post forecast) h = ap (option_map Post) (number_read forecast h)
text_read (Bill reading) h = ap (option_map Bill) (meter_read reading h)
text_read (Resettle reading) h = ap (option_map Resettle) (meter_read reading h)
text_read Pay h = refl
text_read (State project actual) h = ap (option_map (λ p. State p.0 p.1)) (two_read project actual h.0 h.1)
text_read (Close l) h = close_read l.holding l.list h
text_read (Look project) h = ap (option_map Look) (number_read project h)
