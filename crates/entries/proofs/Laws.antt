-- A line is read as the entry whose text it is.
use Rattle.std.proofs.Common.{◌≡◌, ℕ, Bool, true, false, cond, List, Option, Some, None, refl, sym, ap, ◌∙◌}
use Rattle.std.proofs.lemmas.Bool.{cond-false, cond-true}
use Rattle.std.proofs.lemmas.Option.{same_Some}
use Rattle.entries.specs.Lines.{ReadsEntryTexts, content_of, entry_or_unread, line_in, passed_over, text_in}
use Rattle.entries.specs.Readings.{entry_in}
use Rattle.entries.specs.Texts.{Fits, entry_text}
use Rattle.entries.specs.declared.entry.Entry as entry
use Rattle.entries.specs.declared.entry.Entry.TheVariants.{Open, File, Post, Bill, Resettle, Pay, State, Close, Look}
use Rattle.entries.specs.declared.given_list.GivenList.{GivenList}
use Rattle.entries.specs.declared.given_list.GivenList.TheVariants.{Flat, Quarter}
use Rattle.entries.specs.declared.journal_kind.JournalKind.TheVariants.{Table, Entries}
use Rattle.entries.specs.declared.line.Line.TheVariants.{Passed, Entry}
use Rattle.entries.proofs.ReadsText.{read_is}
use Rattle.entries.proofs.TextsRead.{text_read}

close_not_passed_over : (holding : Bool) (l : GivenList) → passed_over (entry_text (Close (record { holding = holding; list = l }))) ≡ false
close_not_passed_over true (Flat rate) = refl
close_not_passed_over true (Quarter first rates) = refl
close_not_passed_over false (Flat rate) = refl
close_not_passed_over false (Quarter first rates) = refl

not_passed_over : (e : entry.Entry) → passed_over (entry_text e) ≡ false
not_passed_over (Open year (Table participants)) = refl
not_passed_over (Open year (Entries records)) = refl
not_passed_over (File project requirement) = refl
not_passed_over (Post forecast) = refl
not_passed_over (Bill reading) = refl
not_passed_over (Resettle reading) = refl
not_passed_over Pay = refl
not_passed_over (State project actual) = refl
not_passed_over (Close l) = close_not_passed_over l.holding l.list
not_passed_over (Look project) = refl

entry_not_passed : (o : Option entry.Entry) → entry_or_unread o ≡ Passed → ⊥
entry_not_passed None e = cc
entry_not_passed (Some x) e = cc

entry_is : (o : Option entry.Entry) (e : entry.Entry) → entry_or_unread o ≡ Entry e → o ≡ Some e
entry_is None e h = absurd cc
entry_is (Some x) e h = cc

module _ (text : List ℕ) where
  entry_read : (e : entry.Entry) → Fits e → text ≡ entry_text e → text_in text ≡ Entry e
  entry_read e fits t = ap text_in t ∙ cond-false (passed_over (entry_text e)) _ _ (not_passed_over e) ∙ ap entry_or_unread (text_read e fits)

  read_entry : (e : entry.Entry) → text_in text ≡ Entry e → Fits e × (text ≡ entry_text e)
  read_entry e h = by (passed_over text) refl h
    where
      by : (b : Bool) → passed_over text ≡ b → cond b Passed (entry_or_unread (entry_in text)) ≡ Entry e → Fits e × (text ≡ entry_text e)
      by true p h = absurd cc
      by false p h = read_is text e (entry_is (entry_in text) e h)

  passed : text_in text ≡ Passed → passed_over text ≡ true
  passed h = by (passed_over text) refl h
    where
      by : (b : Bool) → passed_over text ≡ b → cond b Passed (entry_or_unread (entry_in text)) ≡ Passed → passed_over text ≡ true
      by true p h = p
      by false p h = absurd (entry_not_passed (entry_in text) h)

one_entry : (text : List ℕ) (d e : entry.Entry) → Fits d × (text ≡ entry_text d) → Fits e × (text ≡ entry_text e) → d ≡ e
one_entry text d e p q = same_Some d e (sym (text_read d p.0) ∙ ap entry_in (sym p.1 ∙ q.1) ∙ text_read e q.0)

pub reads_entry_texts : (line : List ℕ) → ReadsEntryTexts line (line_in line)
unfolding line_in
reads_entry_texts line =
    let text = content_of line in
    record {
      text_of_an_entry_is_read = λ e t. entry_read text e t.0 t.1;
      entry_read_has_that_text = read_entry text;
      line_is_the_text_of_one_entry = one_entry text;
      empty_line_and_remark_are_passed_over = (passed text, λ p. cond-true (passed_over text) Passed _ p);
    }
