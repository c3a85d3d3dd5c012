-- What is left of an output where the pages were not written.
use Rattle.std.specs.Prelude.{◌≡◌, ⊤, Ok, Err, Result}
use Rattle.filing_input.specs.declared.PagesError.{PagesError}
use Rattle.filing_input.specs.declared.PagesError.TheVariants.{Unreadable, Unwritable}

-- an input that cannot be read leaves the output as found
abbrev pub StaysWhereUnreadable : {W : Type 0} → Result (Unit {0}) PagesError → W → W → Type 0
StaysWhereUnreadable (Ok _) before after = ⊤
StaysWhereUnreadable (Err (Unreadable why)) before after = after ≡ before
StaysWhereUnreadable (Err (Unwritable why)) before after = ⊤
