use Rattle.std.proofs.Common.{◌≡◌, ◌++◌, drop}
use Rattle.std.specs.List.{flat_map}
use Rattle.std.specs.String.{string_bytes}
use Rattle.conversion_text.specs.Texts.{segment_text}
use Rattle.conversion_text.proofs.writer.print_segments.Given as goal

-- what is written, and then the segments that are left, are all segments
abbrev pub invariant-loop-segment : goal.invariant-loop-segment
invariant-loop-segment l =
    string_bytes l.out ++ flat_map (segment_text l.key) (drop l.segment-index l.segments) ≡ string_bytes l.initial.out ++ flat_map (segment_text l.key) l.segments
