-- What a journal means: for each pair of a participant and a month the kilowatt-hours held, or none; and which pairs have a place.
use Rattle.std.specs.Prelude.{ℕ, Bool, ◌&&◌, Some, Option, ◌==◌, nat_le}
use Rattle.std.specs.Map.{update}

-- the most kilowatt-hours that a pair may hold
abbrev pub most : ℕ
most = 10000000000

-- a participant and a month
abbrev pub Pair : Type 0
Pair = ℕ × ℕ

-- participants 1 to 65,535 and months 1 to 12
abbrev pub in_range : Pair → Bool
in_range q = (nat_le 1 q.0 && nat_le q.0 65535) && (nat_le 1 q.1 && nat_le q.1 12)

abbrev pub same_pair : Pair → Pair → Bool
same_pair a b = a.0 == b.0 && a.1 == b.1

-- what each pair holds: a number, or none
abbrev pub Held : Type 0
Held = Pair → Option ℕ

-- the same with this number held under the pair, in place of one that it held
abbrev pub holding : Held → Pair → ℕ → Held
holding held pair kwh = update same_pair held pair (Some kwh)
