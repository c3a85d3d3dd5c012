-- A text printed at the start of some bytes, and one more after it.
use Rattle.std.proofs.Common.{◌≡◌, ℕ, ◌+◌, ◌-◌, ◌<◌, ◌≤◌, List, [], ◌∷◌, ◌++◌, length, get_or, take, drop, set, sym, refl, ap, ◌∙◌, subst, append_assoc, add-one, arith}
use borrow.Rule.Slice.PartMut.{put_mid}
use Rattle.std.proofs.lemmas.List.{append-nil, drop_all, drop_at, drop-drop, flat_map_more, length-append, length-drop, length_push, set_split, take_all, take_at, take_more, take_rest}
use Rattle.std.specs.List.{flat_map}
use Rattle.page_text.specs.Outcomes.{Gives, printed}

-- n bytes are left from there on
pub printed_next : (before was is xs ys : List ℕ) (at r n : ℕ) → length was - at ≡ n → Gives (printed xs before) at was → Gives (printed ys (take n (drop at was))) r is →
    Gives (printed (xs ++ ys) before) (at + r) (put_mid at n was is)
printed_next before was is xs ys at r n left p q =
    let front : take at was ≡ xs = ap (take at) p.1 ∙ take_at xs _ at (sym p.0) in
    let rest : drop at was ≡ drop (length xs) before = ap (drop at) p.1 ∙ drop_at xs _ at (sym p.0) in
    let none : drop n (drop at was) ≡ [] = drop_all n (drop at was) (simp length-drop (omega arith)) in
    let whole : take n (drop at was) ≡ drop (length xs) before = ap (λ k. take k (drop at was)) (sym left) ∙ take_rest was at ∙ rest in
    let here : is ≡ ys ++ drop (length ys) (drop (length xs) before) = q.1 ∙ ap (λ zs. ys ++ drop (length ys) zs) whole in
    (omega (arith, length-append xs ys), rw (front, none, append-nil, here, drop-drop, length-append) (sym (append_assoc xs ys _)))

pub printed_byte : (before was xs : List ℕ) (at b : ℕ) → at < length was → Gives (printed xs before) at was → Gives (printed (xs ++ (b ∷ [])) before) (at + 1) (set was at b)
printed_byte before was xs at b h p =
    let front : take at was ≡ xs = ap (take at) p.1 ∙ take_at xs _ at (sym p.0) in
    let rest : drop at was ≡ drop (length xs) before = ap (drop at) p.1 ∙ drop_at xs _ at (sym p.0) in
    let past : drop (at + 1) was ≡ drop (length xs + 1) before = sym (drop-drop 1 at was) ∙ ap (drop 1) rest ∙ drop-drop 1 (length xs) before in
    (omega (arith, length_push xs b), set_split was at b h ∙ rw (front, ← add-one, past, length_push) (sym (append_assoc xs (b ∷ []) _)))

-- the texts of a list one after another: one more, and all
module _ {X : Type 0} (text : X → List ℕ) (xs : List X) (i : ℕ) where
  joined_next : (x : X) → i < length xs → x ≡ get_or xs i x → flat_map text (take (i + 1) xs) ≡ flat_map text (take i xs) ++ text x
  joined_next x h e = ap (flat_map text) (take_more xs i x h) ∙ sym (flat_map_more text [] (take i xs) (get_or xs i x)) ∙ ap (λ z. flat_map text (take i xs) ++ text z) (sym e)

  pub printed_more : (before was is : List ℕ) (at r : ℕ) (x : X) → i < length xs → x ≡ get_or xs i x →
      Gives (printed (flat_map text (take i xs)) before) at was → Gives (printed (text x) (take (length was - at) (drop at was))) r is →
      Gives (printed (flat_map text (take (i + 1) xs)) before) (at + r) (put_mid at (length was - at) was is)
  printed_more before was is at r x h e p q =
      subst (λ ys. Gives (printed ys before) (at + r) (put_mid at (length was - at) was is)) (sym (joined_next x h e)) (printed_next before was is _ _ at r (length was - at) refl p q)

  pub printed_all : (before was : List ℕ) (at : ℕ) → length xs ≤ i → Gives (printed (flat_map text (take i xs)) before) at was → Gives (printed (flat_map text xs) before) at was
  printed_all before was at h = subst (λ ys. Gives (printed (flat_map text ys) before) at was) (take_all i xs h)
