use Rattle.std.proofs.Common.{◌≡◌, sym, ap, ◌∙◌, subst}
use Rattle.columns.specs.Fields.{ReadsWhatIsHeld, UndoesWriting, number_in, reading}
use Rattle.columns.proofs.Laws.{reads_what_is_held, undoes_writing}
use Rattle.columns.proofs.reading.read_number.Goals as goal

pub returns : goal.returns
unfolding reading
returns c =
    let field = c.args.field.now in
    let answer : c.number_in.result ≡ reading field = c.number_in.ensures ∙ ap number_in c.after_spaces.ensures in
    record {
      answer = answer;
      reads_what_is_held = subst (ReadsWhatIsHeld field) (sym answer) (reads_what_is_held field);
      undoes_writing = subst (UndoesWriting field) (sym answer) (undoes_writing field);
    }
