-- What is consumed of a reader up to its end, or up to a most.
use Rattle.std.proofs.Common.{◌≡◌, ℕ, ◌≤◌, List, take, length, ap, sym, ◌∙◌}
use Rattle.std.specs.Prelude.{Option, Some, None, ◌++◌}
use Rattle.std.specs.Io.KnownBytes.{Consumes, IsAtEnd}
use Rattle.std.proofs.KnownBytes.{Consumes-nil, Consumes-trans}
use Rattle.std.proofs.lemmas.List.{append-nil, take_all}
use Rattle.std.proofs.Math.Seq.{take-append_seam}
use Rattle.mz_outside.specs.Front.{IsFront}

-- what is consumed up to the end, and is no longer than the most, is the front
pub IsFront-end : (first now : Option (List ℕ)) (n : ℕ) (bytes : List ℕ) → Consumes first now bytes → IsAtEnd now → length bytes ≤ n → IsFront n first bytes
IsFront-end None now n bytes consumed end within = tt
IsFront-end (Some all) None n bytes consumed end within = absurd consumed
IsFront-end (Some all) (Some left) n bytes consumed end within =
    let all_bytes : all ≡ bytes = consumed ∙ ap (λ rest. bytes ++ rest) end ∙ append-nil bytes in
    sym (ap (λ list. take n list) all_bytes ∙ take_all n bytes within)

-- as many bytes as the most are the front
pub IsFront-full : (first now : Option (List ℕ)) (n : ℕ) (bytes : List ℕ) → Consumes first now bytes → length bytes ≡ n → IsFront n first bytes
IsFront-full None now n bytes consumed full = tt
IsFront-full (Some all) None n bytes consumed full = absurd consumed
IsFront-full (Some all) (Some left) n bytes consumed full =
    sym (ap (λ list. take n list) consumed ∙ ap (λ count. take count (bytes ++ left)) (sym full) ∙ take-append_seam bytes left)

pub ruleset fronts = (IsFront-end, IsFront-full, Consumes-nil)

pub ruleset pieces = (Consumes-trans)
