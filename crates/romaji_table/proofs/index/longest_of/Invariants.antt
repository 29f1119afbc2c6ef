use Rattle.std.proofs.Common.{◌-◌}
use Rattle.romaji_table.proofs.LongestRule.{FitsWithin}
use Rattle.romaji_table.proofs.index.longest_of.Given as goal

-- the rules that fit are no longer than the fronts that are left
abbrev pub invariant-loop-shorter : goal.invariant-loop-shorter
invariant-loop-shorter l = FitsWithin l.rules l.text (l.limit - l.shorter)
