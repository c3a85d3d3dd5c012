-- An input that is cut off one byte beyond the limit is filed as the whole input: both are too long.
use Rattle.std.proofs.Common.{◌≡◌, ℕ, ◌<◌, cond, List, length, take, Err, sym, ap, ◌∙◌, ⊎_elim, arith}
use Rattle.std.proofs.lemmas.Bool.{lt-leb}
use Rattle.std.proofs.lemmas.Bool.Decides.{leb_tells}
use Rattle.std.proofs.lemmas.List.{length-take, take_all}
use Rattle.filing.specs.Filing.{filed, filed_lines}
use Rattle.filing.specs.Lines.{at_line, lines_of}
use Rattle.filing.specs.declared.refusal.Refusal.TheVariants.{FileTooLong}

too_long : (file : List ℕ) → 65536 < length file → filed file ≡ Err (at_line 1 FileTooLong)
too_long file long = ap (λ short. cond short (filed_lines (lines_of file)) (Err (at_line 1 FileTooLong))) (lt-leb (length file) 65536 long)

pub cut_is_filed_as_whole : (bytes : List ℕ) → filed (take 65537 bytes) ≡ filed bytes
cut_is_filed_as_whole bytes =
    ⊎_elim
    (λ short. ap filed (take_all 65537 bytes (omega (arith, short.1))))
    (λ long. too_long (take 65537 bytes) (omega (arith, long.1, length-take 65537 bytes)) ∙ sym (too_long bytes long.1))
    (leb_tells (length bytes) 65536)
