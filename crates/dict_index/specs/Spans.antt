-- Some items of a list that stand together.
use Rattle.std.specs.Prelude.{List, take, drop}
use Rattle.dict_index.specs.declared.order.Span.{Span}

-- the items of a span
abbrev pub in_span : {A : Type 0} → Span → List A → List A
in_span span items = take span.count (drop span.start items)
