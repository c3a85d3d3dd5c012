use Rattle.std.proofs.Common.{[], ◌∷◌, ◌++◌, take, drop, set, sym, refl, ap, subst, arith}
use Rattle.std.proofs.lemmas.List.{length-set}
use Rattle.page_text.specs.Fields.{fields_text, fields_width, newline}
use Rattle.page_text.specs.Lines.{refusal_fields, refusal_text}
use Rattle.page_text.specs.Outcomes.{Gives, printed}
use Rattle.page_text.specs.ReadBack.{RefusalReadsBack}
use Rattle.page_text.proofs.Placing.{printed_byte, printed_next}
use Rattle.page_text.proofs.Reading.{refusal_reads_back}
use Rattle.page_text.proofs.refusal_line.write_refusal.Goals as goal

-- in full: with a lemma for the whole run `grind` stops at its limit of term size
pub returns : goal.returns
unfolding refusal_text
returns c =
    let before = c.args.run.now in
    let was = set before 0 82 in
    let letter = printed_byte before before [] 0 82 (omega arith) (refl, refl) in
    let numbers = subst (λ fs. Gives (printed (fields_text fs ++ newline) (take 4484 (drop 1 was))) c.write_line.result c.write_line.new.bytes) c.refusal_fields.ensures c.write_line.ensures.text in
    let outcome = printed_next before was c.write_line.new.bytes (82 ∷ []) (fields_text (refusal_fields c.args.line c.args.number) ++ newline) 1 c.write_line.result 4484 (omega (arith, length-set before 0 82)) letter numbers in
    record {
      outcome = outcome;
      reads_back = subst (RefusalReadsBack c.args.line c.args.number) (sym outcome.1) (refusal_reads_back c.args.line c.args.number _ (omega arith) (omega arith));
      one_line = omega (arith, ap fields_width c.refusal_fields.ensures);
    }
