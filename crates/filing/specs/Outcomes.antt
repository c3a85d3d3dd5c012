-- What follows an answer.
use Rattle.std.specs.Prelude.{Ok, Err, Result}

-- go on with an answer, unless it is a refusal
abbrev pub then : {E X Y : Type 0} → Result X E → (X → Result Y E) → Result Y E
then (Ok x) next = next x
then (Err why) next = Err why
