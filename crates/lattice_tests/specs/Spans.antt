-- The test of a span of a key in the example's set, for the tests.
use Rattle.std.specs.Prelude.{ℕ, Bool, ◌&&◌, nat_le, nat_lt}
use Rattle.mz_base.specs.declared.lattice.Span.{Span}

abbrev pub is_span : ℕ → Span → Bool
is_span length span =
    nat_lt span.begin span.end && (nat_le span.end length && (nat_lt span.left 3 && nat_lt span.right 3))
