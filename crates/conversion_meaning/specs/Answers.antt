-- Least costs as a function, and the answer of a conversion: docs/CONVERSION.md, "Certificates" and "Answers".
use Rattle.std.specs.Prelude.{ℕ, ℤ, List, map, slice_range}
use Rattle.mz_base.specs.Data.{DataLists}
use Rattle.mz_base.specs.declared.conversion.Conversion.{Conversion}
use Rattle.mz_base.specs.declared.conversion.Segment.{Segment}
use Rattle.mz_base.specs.declared.lattice.Certificate.{Certificate}
use Rattle.mz_base.specs.declared.lattice.Entry.{Entry}
use Rattle.mz_base.specs.declared.lattice.Pair.{Pair}
use Rattle.mz_base.specs.declared.lattice.Span.{Span}
use Rattle.mz_base.specs.declared.user.UserRow.{UserRow}
use Rattle.conversion_meaning.specs.Candidates.{first_values}
use Rattle.conversion_meaning.specs.Entries.{entries}
use Rattle.conversion_meaning.specs.InOrder.{best_path}
use Rattle.conversion_meaning.specs.Paths.{path_cost, whole_key}
use Rattle.conversion_meaning.specs.Potentials.{cost_to, ordinals_in}
use Rattle.conversion_meaning.specs.Rules.{rewritten_by}
use Rattle.conversion_meaning.specs.Segments.{cut, span_between}
use Rattle.conversion_meaning.specs.Steps.{span_before}

-- what an entry costs after the best path that leads to it
abbrev pub least_cost : DataLists → List Entry → Span → ℕ → ℤ
least_cost d es span o = cost_to d es span (best_path d es (span_before es span o)) o

-- the least costs of the entries of a span, by rising ordinal
unfoldable pub least_costs : DataLists → List Entry → Span → List ℤ
least_costs d es span = map (least_cost d es span) (ordinals_in es span)

-- the certificate of a span: its best path, the least costs and the path's cost
abbrev pub certificate_over : DataLists → List Entry → Span → List ℕ → Certificate
certificate_over d es span bounds =
    let path = best_path d es span in
    record { bounds = bounds; path = path; potentials = least_costs d es span; total = path_cost d es span path }

-- The first answer to a key with its bounds, before any rule, the id 0 on both sides, by a data set and a user's rows.
unfoldable pub first_answer : DataLists → List UserRow → List ℕ → List ℕ → Certificate
first_answer d rows key bounds = certificate_over d (entries d rows key bounds) (whole_key key 0) bounds

-- a part of the key, its first values between the ids of the path on its borders, and what these rules make of them
abbrev pub segment_of : DataLists → List UserRow → List Pair → List ℕ → List ℕ → List Entry → List ℕ → ℕ × ℕ → Segment
segment_of d rows history rules key es path part =
    record { begin = part.0; end = part.1; candidates = rewritten_by rules (record { lists = d; history = history; key = slice_range key part.0 part.1 }) (first_values d rows key es (span_between es path part)) }

-- the segments of a path over the whole key
abbrev pub segments_of : DataLists → List UserRow → List Pair → List ℕ → List ℕ → List Entry → List ℕ → List ℕ → List Segment
segments_of d rows history rules key es bounds path =
    map (segment_of d rows history rules key es path) (cut d es bounds path)

-- The answer to a key: the first answer, and the segments of its path.
unfoldable pub answer : DataLists → List UserRow → List Pair → List ℕ → List ℕ → List ℕ → Conversion
answer d rows history rules key bounds =
    let first = first_answer d rows key bounds in
    record { certificate = first; segments = segments_of d rows history rules key (entries d rows key bounds) bounds first.path }
