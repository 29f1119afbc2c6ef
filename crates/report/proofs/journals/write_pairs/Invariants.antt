use Rattle.std.proofs.Common.{◌≡◌, ◌++◌, drop}
use Rattle.std.specs.List.{flat_map}
use Rattle.std.specs.String.{string_bytes}
use Rattle.report.specs.Texts.{pair_text}
use Rattle.report.proofs.journals.write_pairs.Given as goal

-- what is written, and then the pairs that are left, are all pairs
abbrev pub invariant-loop-pair : goal.invariant-loop-pair
invariant-loop-pair l =
    string_bytes l.out ++ flat_map pair_text (drop l.pair-index l.pairs) ≡ string_bytes l.initial.out ++ flat_map pair_text l.pairs
