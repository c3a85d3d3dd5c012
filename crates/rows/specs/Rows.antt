-- The rows as a plain list, and what adding one gives.
use Rattle.std.specs.Prelude.{◌≡◌, ℕ, cond, List, [], ◌∷◌, ◌++◌, length, take, Ok, Err, Result, nat_lt}
use Rattle.rows.specs.declared.Full.{Full}
use Rattle.rows.specs.declared.Rows.{Rows}

-- the rows in use, the oldest first
abbrev pub rows_in : {T : Type 0} {MOST : ℕ} → Rows T MOST → List T
rows_in r = take r.count r.places

-- what adding a row answers, and the rows after it
pub record Added (T : Type 0) : Type 0 where
  pub answer : Result (Unit {0}) Full
  pub after : List T

-- the call gave this
abbrev pub Gives : {T : Type 0} → Added T → Result (Unit {0}) Full → List T → Type 0
Gives a r rows = (r ≡ a.answer) × (rows ≡ a.after)

-- one row more after the others; where there are as many as there can be, they stay as they are
abbrev pub added : {T : Type 0} → ℕ → List T → T → Added T
added most rows row =
    cond (nat_lt (length rows) most)
    (record { answer = Ok tt; after = rows ++ (row ∷ []) })
    (record { answer = Err (record {}); after = rows })
