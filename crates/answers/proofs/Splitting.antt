-- Joined words are split into just those words.
use Rattle.std.proofs.Common.{◌≡◌, ℕ, eqb, List, [], ◌∷◌, refl, ap, ◌∙◌}
use Rattle.std.specs.List.{All, join_with_byte, slice_split}
use Rattle.std.proofs.lemmas.Bool.{eq-eqb}
use Rattle.std.proofs.lemmas.List.Elements.{All-head, All-tail}
use Rattle.std.proofs.lemmas.List.Splits.{slice_split_at, slice_split_none}
use Rattle.columns.proofs.Bytes.{Lacks}

pub split_joined : (c : ℕ) (word : List ℕ) (others : List (List ℕ)) → Lacks c word → All (Lacks c) others → slice_split (λ b. eqb b c) (join_with_byte c (word ∷ others)) ≡ word ∷ others
split_joined c word [] h hs = slice_split_none (λ b. eqb b c) word h
split_joined c word (next ∷ others) h hs =
    slice_split_at (λ b. eqb b c) word c (join_with_byte c (next ∷ others)) h (eq-eqb c c refl) ∙ ap (λ ws. word ∷ ws) (split_joined c next others (All-head (Lacks c) next others hs) (All-tail (Lacks c) next others hs))
