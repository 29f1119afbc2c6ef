use Rattle.std.proofs.Common.{◌≡◌, ◌++◌, ◌∷◌, [], map, take}
use Rattle.pos_table.proofs.kanji.add_kanji.Given as goal

abbrev pub invariant-loop-letter : goal.invariant-loop-letter
invariant-loop-letter l =
    l.single.items ≡ l.initial.single.items ++ map (λ letter. record { reading = l.row.reading; value = letter ∷ [] }) (take l.letter-index l.letter-items)
