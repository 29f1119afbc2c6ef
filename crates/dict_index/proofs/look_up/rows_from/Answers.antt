use Rattle.std.proofs.Common.{ap, ◌∙◌, nat_eq}
use Rattle.std.specs.List.{filter}
use Rattle.std.specs.Ordering.{is_lt, nat_cmp}
use Rattle.std.proofs.lemmas.List.Sorted.{IsNonDecreasingBy-from_sort}
use Rattle.dict_index.specs.Heads.{places_in}
use Rattle.dict_index.proofs.IndexRows.{rows-of_prefix}
use Rattle.dict_index.proofs.SameNumbers.{AreSame-stable}
use Rattle.std.proofs.lemmas.Cmp.{nat_cmp_total, tied_itself}
use Rattle.dict_index.proofs.look_up.rows_from.Goals as goal

pub returns : goal.returns
returns c =
    let rows = c.sort.new.self.items in
    let found = c.in_ok-rows.ensures ∙ (ap places_in c.in_span.ensures ∙ c.block-found.ensures.found) in
    let up = IsNonDecreasingBy-from_sort (λ n. n) rows c.in_ok-sort.ensures.sorted in
    let same = AreSame-stable (λ n m. is_lt (nat_cmp n m)) (λ n. ap is_lt (tied_itself nat_cmp_total n)) c.in_ok-rows.rows.items rows c.in_ok-sort.ensures.stable in
    rows-of_prefix c.args.texts.now (places_in c.args.heads.now) c.requires.index c.args.prefix.now rows up (λ n. same n ∙ ap (λ zs. filter (nat_eq n) zs) found)
