-- A line that is read as an entry is the text of that entry.
use Rattle.std.proofs.Common.{◌≡◌, ℕ, ◌^◌, ◌<◌, Bool, true, false, cond, ltb, leb, List, [], ◌∷◌, ◌++◌, length, map, ℤ, pos, negsuc, Option, Some, None, refl, sym, ap, ◌∙◌, subst, arith, codes}
use Rattle.std.specs.List.{All, slice_split}
use Rattle.std.specs.Option.{option_and_then, option_map, option_zip}
use Rattle.std.specs.Str.{bytes_eq}
use Rattle.std.proofs.lemmas.Bool.{leb-true, ltb-true}
use Rattle.std.proofs.lemmas.List.{length-append, length-map}
use Rattle.std.proofs.lemmas.List.Elements.{All-cons, All-nil}
use Rattle.std.proofs.lemmas.List.Splits.{join_with_byte-slice_split, length-slice_split}
use Rattle.std.proofs.lemmas.Option.{cond_some, none-some, same_Some}
use Rattle.std.proofs.lemmas.Slice.Eq.{bytes_eq-Decides}
use Rattle.entries.specs.Numbers.{FitsI64, below, natural, number, number_in, two_numbers_in, u32_in}
use Rattle.entries.specs.Rates.{all_of, rates_in}
use Rattle.entries.specs.Readings.{at_most, entry_in, given_list_in, journal_in, list_by, list_in, meter_reading_in, named_in, open_in, quarter_in}
use Rattle.entries.specs.Texts.{Fits, GivenListFits, JournalFits, MeterFits, entry_text, given_list_words, journal_words, list_words, meter_words}
use Rattle.entries.specs.Words.{first_word, is_comma, joined, words_after}
use Rattle.entries.specs.declared.entry.Entry.{Entry}
use Rattle.entries.specs.declared.entry.Entry.TheVariants.{Open, File, Post, Bill, Resettle, State, Close, Look}
use Rattle.entries.specs.declared.entry.MeterReading.{MeterReading}
use Rattle.entries.specs.declared.given_list.GivenList.{GivenList}
use Rattle.entries.specs.declared.given_list.GivenList.TheVariants.{Flat, Quarter}
use Rattle.entries.specs.declared.given_list.ListEntry.{ListEntry}
use Rattle.entries.specs.declared.journal_kind.JournalKind.{JournalKind}
use Rattle.entries.specs.declared.journal_kind.JournalKind.TheVariants.{Table, Entries}
use Rattle.entries.proofs.Cutting.{cut_is, number_some}
use Rattle.entries.proofs.Spelled.{text_of_number}

-- what an option was made of
mapped : {A B P : Type 0} (f : A → B) (o : Option A) (y : B) → option_map f o ≡ Some y → ((x : A) → o ≡ Some x → f x ≡ y → P) → P
mapped f None y e then = absurd (none-some y e)
mapped f (Some x) y e then = then x refl (same_Some _ _ e)

zipped : {A B : Type 0} (a : Option A) (b : Option B) (p : A × B) → option_zip a b ≡ Some p → (a ≡ Some p.0) × (b ≡ Some p.1)
zipped None b p e = absurd (none-some p e)
zipped (Some x) None p e = absurd (none-some p e)
zipped (Some x) (Some y) p e = (ap (λ p. Some p.0) (same_Some _ _ e), ap (λ p. Some p.1) (same_Some _ _ e))

chained : {A B P : Type 0} (f : A → Option B) (o : Option A) (y : B) → option_and_then f o ≡ Some y → ((x : A) → o ≡ Some x → f x ≡ Some y → P) → P
chained f None y e then = absurd (none-some y e)
chained f (Some x) y e then = then x refl e

by_word : {A P : Type 0} (text word : List ℕ) (x y : Option A) (v : A) → cond (bytes_eq text word) x y ≡ Some v → (text ≡ word → x ≡ Some v → P) → (y ≡ Some v → P) → P
by_word {A = A} {P = P} text word x y v e here else = by (bytes_eq text word) refl e
  where
    by : (b : Bool) → bytes_eq text word ≡ b → cond b x y ≡ Some v → P
    by true t e = here ((bytes_eq-Decides text word).0 t) e
    by false t e = else e

number_is : (word : List ℕ) (n : ℤ) → number_in word ≡ Some n → (word ≡ number n) × FitsI64 n
number_is word n e = let t = text_of_number word n e in (t.0, ltb-true _ _ t.1)

below_is : (limit : ℕ) (z : ℤ) (n : ℕ) → below limit z ≡ Some n → (z ≡ pos n) × (n < limit)
below_is limit (pos m) n e = let c = cond_some (ltb m limit) m n e in (ap pos c.1, omega (arith, ltb-true _ _ c.0))
below_is limit (negsuc m) n e = absurd (none-some n e)

natural_is : (limit : ℕ) (word : List ℕ) (n : ℕ) → option_and_then (below limit) (number_in word) ≡ Some n → (word ≡ natural n) × (n < limit)
natural_is limit word n e = chained (below limit) (number_in word) n e (λ z p q. let b = below_is limit z n q in ((number_is word z p).0 ∙ ap number b.0, b.1))

-- a number, and what follows it
after_number : (words rest : List ℕ) (n : ℤ) → first_word words ≡ number n → words_after words ≡ rest → 0 < length rest → words ≡ number n ++ (44 ∷ rest)
after_number words rest n f w some = cut_is words (number n) rest f w some

two_is : (words : List ℕ) (m n : ℤ) → two_numbers_in words ≡ Some (m, n) → (words ≡ joined (number m ∷ number n ∷ [])) × (FitsI64 m × FitsI64 n)
two_is words m n e =
    let z = zipped _ _ (m, n) e in
    let a = number_is (first_word words) m z.0 in
    let b = number_is (words_after words) n z.1 in
    (cut_is words (number m) (number n) a.0 b.0 (number_some n), (a.1, b.1))

meter_is : (words : List ℕ) (r : MeterReading) → meter_reading_in words ≡ Some r → (words ≡ joined (meter_words r)) × MeterFits r
meter_is words r e =
    mapped (λ p. record { participant = p.0; month = p.1.0; kwh = p.1.1 }) _ r e
    (λ p o is. let z = zipped _ _ p o in
    let a = number_is (first_word words) p.0 z.0 in
    let b = two_is (words_after words) p.1.0 p.1.1 z.1 in
    let text : words ≡ number p.0 ++ (44 ∷ joined (number p.1.0 ∷ number p.1.1 ∷ [])) = cut_is words (number p.0) _ a.0 b.0 (omega (arith, length-append (number p.1.0) (44 ∷ number p.1.1))) in
    subst (λ r. (words ≡ joined (meter_words r)) × MeterFits r) is (text, (a.1, b.1)))

journal_is : (words : List ℕ) (j : JournalKind) → journal_in words ≡ Some j → (words ≡ joined (journal_words j)) × ((0 < length words) × JournalFits j)
journal_is words j e =
    let kind = first_word words in
    let size = words_after words in
    by_word kind (codes "table") _ _ j e
    (λ k x. mapped Table _ j x (λ n o is.
    let a = natural_is (2 ^ 16) size n o in
    let text = cut_is words (codes "table") (natural n) k a.0 (number_some (pos n)) in
    subst (λ j. (words ≡ joined (journal_words j)) × ((0 < length words) × JournalFits j)) is (text, (omega (arith, ap length text), a.1))))
    (λ y. by_word kind (codes "entries") _ None j y
    (λ k x. mapped Entries _ j x (λ n o is. chained (at_most 1000000) _ n o (λ m p q.
    let c = cond_some (leb m 1000000) m n q in
    let a = natural_is (2 ^ 32) size m p in
    let text = cut_is words (codes "entries") (natural n) k (a.0 ∙ ap natural c.1) (number_some (pos n)) in
    subst (λ j. (words ≡ joined (journal_words j)) × ((0 < length words) × JournalFits j)) is (text, (omega (arith, ap length text), omega (arith, leb-true _ _ c.0))))))
    (λ none. absurd (none-some j none)))

each_is : (words : List (List ℕ)) (rates : List ℕ) → all_of (map u32_in words) ≡ Some rates → (words ≡ map natural rates) × All (λ rate. rate < 2 ^ 32) rates
each_is [] rates e = subst (λ rs. (◌≡◌ {A = List (List ℕ)} [] (map natural rs)) × All (λ rate. rate < 2 ^ 32) rs) (same_Some _ _ e) (refl, All-nil (λ rate. rate < 2 ^ 32))
each_is (w ∷ ws) rates e = first (u32_in w) refl e (each_is ws)
  where
    first : (o : Option ℕ) → u32_in w ≡ o → all_of (o ∷ map u32_in ws) ≡ Some rates → ((rs : List ℕ) → all_of (map u32_in ws) ≡ Some rs → (ws ≡ map natural rs) × All (λ rate. rate < 2 ^ 32) rs) →
        (w ∷ ws ≡ map natural rates) × All (λ rate. rate < 2 ^ 32) rates
    first None r e more = absurd (none-some rates e)
    first (Some n) r e more =
        mapped (λ ns. n ∷ ns) (all_of (map u32_in ws)) rates e
        (λ rs o is. let a = natural_is (2 ^ 32) w n r in
        let b = more rs o in
        subst (λ rates. (w ∷ ws ≡ map natural rates) × All (λ rate. rate < 2 ^ 32) rates) is ((λ i. a.0 i ∷ b.0 i), All-cons (λ rate. rate < 2 ^ 32) n rs a.1 b.1))

rates_is : (words rates : List ℕ) → rates_in words ≡ Some rates → (words ≡ joined (map natural rates)) × ((0 < length rates) × All (λ rate. rate < 2 ^ 32) rates)
rates_is words rates e =
    let r = each_is (slice_split is_comma words) rates e in
    (sym (join_with_byte-slice_split 44 words) ∙ ap joined r.0, (omega (arith, length-slice_split is_comma words, ap length r.0, length-map rates natural), r.1))

rates_some : (rates : List ℕ) → 0 < length rates → 0 < length (joined (map natural rates))
rates_some [] h = h
rates_some (r ∷ []) h = number_some (pos r)
rates_some (r ∷ q ∷ rs) h = omega (arith, length-append (natural r) (44 ∷ joined (map natural (q ∷ rs))))

held_text : (l : GivenList) → joined (codes "holding" ∷ given_list_words l) ≡ codes "holding" ++ (44 ∷ joined (given_list_words l))
held_text (Flat rate) = refl
held_text (Quarter first rates) = refl

quarter_text : (first : ℕ) (rates : List ℕ) → 0 < length rates → joined (given_list_words (Quarter first rates)) ≡ codes "quarter" ++ (44 ∷ (natural first ++ (44 ∷ joined (map natural rates))))
quarter_text first [] h = absurd (omega arith)
quarter_text first (r ∷ rs) h = refl

quarter_is : (words : List ℕ) (l : GivenList) → quarter_in words ≡ Some l → (first : ℕ) × ((rates : List ℕ) × ((l ≡ Quarter first rates) × ((words ≡ natural first ++ (44 ∷ joined (map natural rates))) × GivenListFits (Quarter first rates))))
quarter_is words l e =
    mapped (λ p. Quarter p.0 p.1) _ l e (λ p o is. let z = zipped _ _ p o in
    let a = natural_is (2 ^ 32) (first_word words) p.0 z.0 in
    let b = rates_is (words_after words) p.1 z.1 in
    (p.0, (p.1, (sym is, (cut_is words (natural p.0) (joined (map natural p.1)) a.0 b.0 (rates_some p.1 b.1.0), (a.1, b.1))))))

given_list_is : (words : List ℕ) (l : GivenList) → given_list_in words ≡ Some l → (words ≡ joined (given_list_words l)) × ((0 < length words) × GivenListFits l)
given_list_is words l e =
    let kind = first_word words in
    let after = words_after words in
    by_word kind (codes "flat") _ _ l e
    (λ k x. mapped Flat _ l x (λ n o is.
    let a = natural_is (2 ^ 32) after n o in
    let text = cut_is words (codes "flat") (natural n) k a.0 (number_some (pos n)) in
    subst (λ l. (words ≡ joined (given_list_words l)) × ((0 < length words) × GivenListFits l)) is (text, (omega (arith, ap length text), a.1))))
    (λ y. by_word kind (codes "quarter") _ None l y
    (λ k x. let q = quarter_is after l x in
    let first : ℕ = q.0 in
    let rates : List ℕ = q.1.0 in
    let rest : List ℕ = natural first ++ (44 ∷ joined (map natural rates)) in
    let text : words ≡ codes "quarter" ++ (44 ∷ rest) = cut_is words (codes "quarter") rest k q.1.1.1.0 (omega (arith, length-append (natural first) (44 ∷ joined (map natural rates)))) in
    subst (λ l. (words ≡ joined (given_list_words l)) × ((0 < length words) × GivenListFits l)) (sym q.1.1.0) (text ∙ sym (quarter_text first rates q.1.1.1.1.1.0), (omega (arith, ap length text), q.1.1.1.1)))
    (λ none. absurd (none-some l none)))

list_is : (words : List ℕ) (l : ListEntry) → list_in words ≡ Some l → (words ≡ joined (list_words l)) × ((0 < length words) × GivenListFits l.list)
list_is words l h = by (bytes_eq (first_word words) (codes "holding")) refl h
  where
    by : (b : Bool) → bytes_eq (first_word words) (codes "holding") ≡ b → list_by b (cond b (words_after words) words) ≡ Some l → (words ≡ joined (list_words l)) × ((0 < length words) × GivenListFits l.list)
    by true t h =
        mapped (λ list. record { holding = true; list = list }) _ l h (λ g o is.
        let a = given_list_is (words_after words) g o in
        let text = cut_is words (codes "holding") (joined (given_list_words g)) ((bytes_eq-Decides (first_word words) (codes "holding")).0 t) a.0 (omega (arith, ap length a.0)) in
        subst (λ l. (words ≡ joined (list_words l)) × ((0 < length words) × GivenListFits l.list)) is (text ∙ sym (held_text g), (omega (arith, ap length text), a.1.1)))
    by false t h =
        mapped (λ list. record { holding = false; list = list }) _ l h (λ g o is. subst (λ l. (words ≡ joined (list_words l)) × ((0 < length words) × GivenListFits l.list)) is (given_list_is words g o))

open_is : (words : List ℕ) (e : Entry) → open_in words ≡ Some e → (year : ℕ) × ((j : JournalKind) × ((e ≡ Open year j) × ((words ≡ natural year ++ (44 ∷ joined (journal_words j))) × ((year < 2 ^ 16) × JournalFits j))))
open_is words e h =
    mapped (λ p. Open p.0 p.1) _ e h (λ p o is. let z = zipped _ _ p o in
    let a = natural_is (2 ^ 16) (first_word words) p.0 z.0 in
    let b = journal_is (words_after words) p.1 z.1 in
    (p.0, (p.1, (sym is, (cut_is words (natural p.0) (joined (journal_words p.1)) a.0 b.0 (omega (arith, ap length b.0)), (a.1, b.1.1))))))

-- the name and the words after it are those of the entry
abbrev IsText : List ℕ → List ℕ → Entry → Type 0
IsText name words e = Fits e × ((name ++ (44 ∷ words) ≡ entry_text e) × (0 < length words))

one_number : (words : List ℕ) (n : ℤ) → number_in words ≡ Some n → (words ≡ number n) × ((0 < length words) × FitsI64 n)
one_number words n e = let a = number_is words n e in (a.0, (omega (arith, ap length a.0, number_some n), a.1))

two_some : (m n : ℤ) → 0 < length (joined (number m ∷ number n ∷ []))
two_some m n = omega (arith, length-append (number m) (44 ∷ number n))

meter_some : (r : MeterReading) → 0 < length (joined (meter_words r))
meter_some r = omega (arith, length-append (number r.participant) (44 ∷ joined (number r.month ∷ number r.kwh ∷ [])))

named_open : (words : List ℕ) (e : Entry) → open_in words ≡ Some e → IsText (codes "open") words e
named_open words e h =
    let o = open_is words e h in
    let text = o.1.1.1.0 in
    subst (IsText (codes "open") words) (sym o.1.1.0) (o.1.1.1.1, (ap (λ w. codes "open" ++ (44 ∷ w)) text ∙ sym (open_text o.0 o.1.0), omega (arith, ap length text, length-append (natural o.0) (44 ∷ joined (journal_words o.1.0)))))
  where
    open_text : (year : ℕ) (j : JournalKind) → entry_text (Open year j) ≡ codes "open" ++ (44 ∷ (natural year ++ (44 ∷ joined (journal_words j))))
    open_text year (Table participants) = refl
    open_text year (Entries records) = refl

close_text : (holding : Bool) (l : GivenList) → entry_text (Close (record { holding = holding; list = l })) ≡ codes "close" ++ (44 ∷ joined (list_words (record { holding = holding; list = l })))
close_text true (Flat rate) = refl
close_text true (Quarter first rates) = refl
close_text false (Flat rate) = refl
close_text false (Quarter first rates) = refl

named_close : (words : List ℕ) (e : Entry) → option_map Close (list_in words) ≡ Some e → IsText (codes "close") words e
named_close words e h =
    mapped Close _ e h (λ l o is. let a = list_is words l o in
    subst (IsText (codes "close") words) is (a.1.1, (ap (λ w. codes "close" ++ (44 ∷ w)) a.0 ∙ sym (close_text l.holding l.list), a.1.0)))

named_one : (name words : List ℕ) (make : ℤ → Entry) (e : Entry) → ((n : ℤ) → FitsI64 n → Fits (make n)) → ((n : ℤ) → entry_text (make n) ≡ name ++ (44 ∷ number n)) → option_map make (number_in words) ≡ Some e → IsText name words e
named_one name words make e fits text h =
    mapped make _ e h (λ n o is. let a = one_number words n o in
    subst (IsText name words) is (fits n a.1.1, (ap (λ w. name ++ (44 ∷ w)) a.0 ∙ sym (text n), a.1.0)))

named_two : (name words : List ℕ) (make : ℤ × ℤ → Entry) (e : Entry) → ((p : ℤ × ℤ) → FitsI64 p.0 × FitsI64 p.1 → Fits (make p)) → ((p : ℤ × ℤ) → entry_text (make p) ≡ name ++ (44 ∷ joined (number p.0 ∷ number p.1 ∷ []))) →
    option_map make (two_numbers_in words) ≡ Some e → IsText name words e
named_two name words make e fits text h =
    mapped make _ e h (λ p o is. let a = two_is words p.0 p.1 o in
    subst (IsText name words) is (fits p a.1, (ap (λ w. name ++ (44 ∷ w)) a.0 ∙ sym (text p), omega (arith, ap length a.0, two_some p.0 p.1))))

named_meter : (name words : List ℕ) (make : MeterReading → Entry) (e : Entry) → ((r : MeterReading) → MeterFits r → Fits (make r)) → ((r : MeterReading) → entry_text (make r) ≡ name ++ (44 ∷ joined (meter_words r))) →
    option_map make (meter_reading_in words) ≡ Some e → IsText name words e
named_meter name words make e fits text h =
    mapped make _ e h (λ r o is. let a = meter_is words r o in
    subst (IsText name words) is (fits r a.1, (ap (λ w. name ++ (44 ∷ w)) a.0 ∙ sym (text r), omega (arith, ap length a.0, meter_some r))))

named : {word : List ℕ} (name words : List ℕ) (e : Entry) → name ≡ word → IsText word words e → IsText name words e
named name words e n t = subst (λ w. IsText w words e) (sym n) t

named_is : (name words : List ℕ) (e : Entry) → named_in name words ≡ Some e → IsText name words e
named_is name words e h =
    by_word name (codes "open") _ _ e h (λ n x. named name words e n (named_open words e x))
    (λ h. by_word name (codes "file") _ _ e h (λ n x. named name words e n (named_two (codes "file") words (λ p. File p.0 p.1) e (λ p f. f) (λ p. refl) x))
    (λ h. by_word name (codes "post") _ _ e h (λ n x. named name words e n (named_one (codes "post") words Post e (λ n f. f) (λ n. refl) x))
    (λ h. by_word name (codes "bill") _ _ e h (λ n x. named name words e n (named_meter (codes "bill") words Bill e (λ r f. f) (λ r. refl) x))
    (λ h. by_word name (codes "resettle") _ _ e h (λ n x. named name words e n (named_meter (codes "resettle") words Resettle e (λ r f. f) (λ r. refl) x))
    (λ h. by_word name (codes "state") _ _ e h (λ n x. named name words e n (named_two (codes "state") words (λ p. State p.0 p.1) e (λ p f. f) (λ p. refl) x))
    (λ h. by_word name (codes "close") _ _ e h (λ n x. named name words e n (named_close words e x))
    (λ h. by_word name (codes "look") _ None e h (λ n x. named name words e n (named_one (codes "look") words Look e (λ n f. f) (λ n. refl) x))
    (λ none. absurd (none-some e none)))))))))

pub read_is : (line : List ℕ) (e : Entry) → entry_in line ≡ Some e → Fits e × (line ≡ entry_text e)
read_is line e h =
    by_word line (codes "pay") _ _ e h (λ n x. subst (λ e. Fits e × (line ≡ entry_text e)) (same_Some _ _ x) (tt, n))
    (λ h. let t = named_is (first_word line) (words_after line) e h in (t.0, cut_is line (first_word line) (words_after line) refl refl t.1.1 ∙ t.1.0))
