-- The cost elements of page 1, each with the plant that it is divided by.
use Rattle.std.specs.Prelude.{◌≤◌, ℤ, ◌+ℤ◌, IfSome, unsigned_abs}
use Rattle.sheets.specs.declared.elements.Elements.{Elements}
use Rattle.sheets.specs.declared.elements.ExpenseElements.{ExpenseElements}
use Rattle.sheets.specs.declared.elements.ReturnElements.{ReturnElements}
use Rattle.sheets.specs.declared.elements.TransmissionOm.{TransmissionOm}

-- what line 9 divides by gross plant
abbrev pub total_expense : ExpenseElements → ℤ
total_expense e = e.other_om +ℤ e.general_depreciation +ℤ e.other_taxes

-- what line 14 divides by net plant
abbrev pub total_return : ReturnElements → ℤ
total_return e = e.income_taxes +ℤ e.return_on_rate_base

-- so small that no factor leaves its type
abbrev pub Small : ℤ → Type 0
Small x = unsigned_abs x ≤ 100000000000

-- each amount and each base is small
pub record SmallOm (e : TransmissionOm) : Type 0 where
  pub adjusted : Small e.adjusted_om
  pub base : Small e.accumulated_depreciation

pub record SmallExpense (e : ExpenseElements) : Type 0 where
  pub om : Small e.other_om
  pub depreciation : Small e.general_depreciation
  pub taxes : Small e.other_taxes
  pub base : Small e.gross_plant

pub record SmallReturn (e : ReturnElements) : Type 0 where
  pub taxes : Small e.income_taxes
  pub return : Small e.return_on_rate_base
  pub base : Small e.net_plant

pub record SmallElements (e : Elements) : Type 0 where
  pub om : IfSome e.transmission_om SmallOm
  pub expense : SmallExpense e.expense
  pub return : SmallReturn e.returns
