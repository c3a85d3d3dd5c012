use Rattle.std.proofs.Common.{rules}
use Rattle.std.proofs.lemmas.Int.{to_z-of_z}
use mir.Syntax.{w64}
use mir.Val.{SFits}
use Rattle.answers.specs.declared.answer.Answer.TheVariants as answer
use Rattle.settlement.specs.Billing.{billed, resettled}
use Rattle.settlement.specs.Drafting.{filed}
use Rattle.settlement.specs.Stating.{stated}
use Rattle.settlement.specs.Rules.{pair_of}
use Rattle.book.specs.Views.{view}
use Rattle.desk.proofs.Saying.{says, says_only}
use Rattle.desk.proofs.calls.call.Goals as goal

pub returns-in-File-clause-outcome : goal.returns-in-File-clause-outcome
returns-in-File-clause-outcome g c =
    let b = view g.J.Journal.held c.args.book.now in
    let project : SFits w64 c.in-File.project = search rules in
    let requirement : SFits w64 c.in-File.requirement = search rules in
    let outcome = simp to_z-of_z at c.file.ensures.outcome in
    rw c.in-File.is (says_only answer.Filed (filed b c.in-File.project c.in-File.requirement) (view g.J.Journal.held c.file.new.self) c.file.result c.and.result outcome c.and.ensures)

pub returns-in-Bill-clause-outcome : goal.returns-in-Bill-clause-outcome
returns-in-Bill-clause-outcome g c =
    let b = view g.J.Journal.held c.args.book.now in
    let r = c.in-Bill.r in
    let participant : SFits w64 r.participant = search rules in
    let month : SFits w64 r.month = search rules in
    let kwh : SFits w64 r.kwh = search rules in
    let outcome = simp to_z-of_z at c.bill.ensures.outcome in
    rw c.in-Bill.is (says answer.Charge (billed b (g.J.Journal.place c.args.book.now.journal (pair_of r.participant r.month)) r.participant r.month r.kwh) (view g.J.Journal.held c.bill.new.self) c.bill.result c.map-in-Bill.result outcome c.map-in-Bill.ensures.cases)

pub returns-in-Resettle-clause-outcome : goal.returns-in-Resettle-clause-outcome
returns-in-Resettle-clause-outcome g c =
    let b = view g.J.Journal.held c.args.book.now in
    let r = c.in-Resettle.r in
    let participant : SFits w64 r.participant = search rules in
    let month : SFits w64 r.month = search rules in
    let kwh : SFits w64 r.kwh = search rules in
    let outcome = simp to_z-of_z at c.resettle.ensures.outcome in
    rw c.in-Resettle.is (says answer.Change (resettled b r.participant r.month r.kwh) (view g.J.Journal.held c.resettle.new.self) c.resettle.result c.map-in-Resettle.result outcome c.map-in-Resettle.ensures.cases)

pub returns-in-State-clause-outcome : goal.returns-in-State-clause-outcome
returns-in-State-clause-outcome g c =
    let b = view g.J.Journal.held c.args.book.now in
    let project : SFits w64 c.in-State.project = search rules in
    let actual : SFits w64 c.in-State.actual = search rules in
    let outcome = simp to_z-of_z at c.state.ensures.outcome in
    rw c.in-State.is (says_only answer.Stated (stated b c.in-State.project c.in-State.actual) (view g.J.Journal.held c.state.new.self) c.state.result c.and-in-State.result outcome c.and-in-State.ensures)

pub returns-in_ok-named-in-Close-clause-outcome : goal.returns-in_ok-named-in-Close-clause-outcome
returns-in_ok-named-in-Close-clause-outcome g c = rw (c.in-Close.is, ← c.in_ok-named-in-Close.ensures.list_has_the_rates_given) c.close.ensures.outcome
