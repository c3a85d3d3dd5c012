use Rattle.std.proofs.Common.{◌≡◌, ◌+◌, map, take, ◌+ℤ◌, rules, w64, SFits}
use Rattle.page_text.specs.Lines.{sum_of, sums_line}
use Rattle.page_text.specs.ReadBack.{Amount, amount_in}
use Rattle.page_text.specs.ReadBack.Amount.{expense_charge, return_charge, depreciation, requirement}
use Rattle.page_text.specs.Rows.{row_of}
use Rattle.page_text.proofs.Adding.{one_more}
use Rattle.page_text.proofs.line.add_up.Goals as goal
use Rattle.page_text.proofs.line.add_up.Goals.{After-row-item}

-- what each sum is with this row
more : (a : Amount) (c : After-row-item) →
    let sum = amount_in a (sums_line c.loop-row.sums) +ℤ amount_in a (row_of c.row-item.result) in
    SFits w64 sum × (sum ≡ sum_of (amount_in a) (map row_of (take (c.loop-row.row-index + 1) c.args.rows.now)))
more a c = one_more a _ _ c.row-item.result (sums_line c.loop-row.sums) c.loop-row.invariant.few c.loop-row-test.true c.row-item.is c.loop-row.invariant.added

pub overflow_add-sums : goal.overflow_add-sums
overflow_add-sums c = search (rules, more expense_charge (goal.at.overflow_add-sums c).After-row-item)

pub overflow_add-sums-in-loop-row : goal.overflow_add-sums-in-loop-row
overflow_add-sums-in-loop-row c = search (rules, more return_charge (goal.at.overflow_add-sums-in-loop-row c).After-row-item)

pub overflow_add-sums-in-loop-row-2 : goal.overflow_add-sums-in-loop-row-2
overflow_add-sums-in-loop-row-2 c = search (rules, more depreciation (goal.at.overflow_add-sums-in-loop-row-2 c).After-row-item)

pub overflow_add-sums-in-loop-row-3 : goal.overflow_add-sums-in-loop-row-3
overflow_add-sums-in-loop-row-3 c = search (rules, more requirement (goal.at.overflow_add-sums-in-loop-row-3 c).After-row-item)

pub loop-row-preserved : goal.loop-row-preserved
loop-row-preserved c =
    let here = (goal.at.loop-row-preserved c).After-row-item in
    record {
      few = c.loop-row.invariant.few;
      added = search (rules, more expense_charge here, more return_charge here, more depreciation here, more requirement here);
    }
