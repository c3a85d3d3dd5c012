-- Whether each word is a rate.
use Rattle.std.proofs.Common.{◌≡◌, ℕ, Bool, true, false, ◌&&◌, List, [], ◌∷◌, map, Option, Some, None, sym, refl, ap}
use Rattle.std.specs.List.{cons_option, filter_map, list_all}
use Rattle.std.specs.Option.{IsSome, is_some, option_map, unwrap_or}
use Rattle.std.proofs.lemmas.Bool.{false≢true}
use Rattle.entries.specs.Rates.{all_of}

pub some_of : {A : Type 0} (o : Option (List A)) → IsSome o → Some (unwrap_or o []) ≡ o
some_of None h = absurd (false≢true h)
some_of (Some xs) h = refl

one_more : (n : ℕ) (o : Option (List ℕ)) → IsSome o → IsSome (option_map (λ ns. n ∷ ns) o)
one_more n None h = absurd (false≢true h)
one_more n (Some ns) h = refl

module _ (f : List ℕ → Option ℕ) where
  first_there : (o : Option ℕ) (b : Bool) (others : List (Option ℕ)) → (b ≡ true → IsSome (all_of others)) → (is_some o && b) ≡ true → IsSome (all_of (o ∷ others))
  first_there None b others more e = absurd (false≢true e)
  first_there (Some n) b others more e = one_more n (all_of others) (more e)

  pub all_there : (words : List (List ℕ)) → list_all (λ w. is_some (f w)) words ≡ true → IsSome (all_of (map f words))
  all_there [] e = refl
  all_there (w ∷ ws) e = first_there (f w) (list_all (λ w. is_some (f w)) ws) (map f ws) (all_there ws) e

  first_missing : (o : Option ℕ) (b : Bool) (others : List (Option ℕ)) → (b ≡ false → None ≡ all_of others) → (is_some o && b) ≡ false → None ≡ all_of (o ∷ others)
  first_missing None b others more e = refl
  first_missing (Some n) b others more e = ap (option_map (λ ns. n ∷ ns)) (more e)

  pub one_missing : (words : List (List ℕ)) → list_all (λ w. is_some (f w)) words ≡ false → None ≡ all_of (map f words)
  one_missing [] e = absurd (false≢true (sym e))
  one_missing (w ∷ ws) e = first_missing (f w) (list_all (λ w. is_some (f w)) ws) (map f ws) (one_missing ws) e

  first_kept : (o : Option ℕ) (kept : List ℕ) (others : List (Option ℕ)) → (IsSome (all_of others) → kept ≡ unwrap_or (all_of others) []) → IsSome (all_of (o ∷ others)) → cons_option o kept ≡ unwrap_or (all_of (o ∷ others)) []
  first_kept None kept others more h = absurd (false≢true h)
  first_kept (Some n) kept others more h = by (all_of others) h more
    where
      by : (o : Option (List ℕ)) → IsSome (option_map (λ ns. n ∷ ns) o) → (IsSome o → kept ≡ unwrap_or o []) → n ∷ kept ≡ unwrap_or (option_map (λ ns. n ∷ ns) o) []
      by None h more = absurd (false≢true h)
      by (Some ns) h more = ap (λ ns. n ∷ ns) (more refl)

  -- where none is missing, those that are there are all
  pub kept_all : (words : List (List ℕ)) → IsSome (all_of (map f words)) → filter_map f words ≡ unwrap_or (all_of (map f words)) []
  kept_all [] h = refl
  kept_all (w ∷ ws) h = first_kept (f w) (filter_map f ws) (map f ws) (kept_all ws) h
