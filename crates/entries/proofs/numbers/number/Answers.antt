use Rattle.std.proofs.Common.{sym, ap, ◌∙◌}
use Rattle.entries.specs.Numbers.{number_in}
use Rattle.entries.proofs.Spelled.{read_within, spaced_is_none, unread_is_none}
use Rattle.entries.proofs.numbers.number.Goals as goal

pub returns-then-starts_with : goal.returns-then-starts_with
returns-then-starts_with c = spaced_is_none c.as_bytes-word.result.now (sym c.starts_with.ensures.value ∙ c.if-starts_with.true) ∙ ap number_in c.as_bytes-word.ensures.value

pub returns-in_err-ok : goal.returns-in_err-ok
returns-in_err-ok c =
    c.from_residual.ensures
    ∙ unread_is_none c.as_bytes-word.result.now c.read_number.result (sym c.starts_with.ensures.value ∙ c.if-starts_with.false) c.read_number.ensures.reads_what_is_held (sym c.ok.ensures.value ∙ c.in_err-ok.was)
    ∙ ap number_in c.as_bytes-word.ensures.value

pub returns : goal.returns
returns c =
    c.ok-2.ensures.value
    ∙ read_within c.as_bytes-word.result.now c.read_number.result (sym c.starts_with.ensures.value ∙ c.if-starts_with.false) c.read_number.ensures.reads_what_is_held c.in_ok-ok.field-0 c.try_from.result (sym c.ok.ensures.value ∙ c.in_ok-ok.was) c.try_from.ensures
    ∙ ap number_in c.as_bytes-word.ensures.value
