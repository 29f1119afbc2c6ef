use Rattle.std.proofs.Common.{◌≡◌, ◌+◌, ◌-◌, true, false, length, sym, ap, subst, ◌∙◌, drop, take}
use Rattle.std.specs.List.Sorted.{IsPartitionPoint, IsPartitionedBy}
use Rattle.std.specs.Ordering.{is_eq, is_le, is_lt, ordering_index}
use Rattle.std.proofs.lemmas.List.Elements.{All-filter}
use Rattle.std.proofs.lemmas.List.Sorted.{IsNonDecreasingBy-drop}
use Rattle.dict_index.specs.Heads.{AreHeads, code_of, head_of, is_below, places_in}
use Rattle.dict_index.specs.declared.heads.Head.{Head}
use Rattle.dict_index.proofs.Codes.{by_code, by_code-rises, standing-by_code}
use Rattle.dict_index.proofs.Points.{is_le-nat_cmp, is_lt-nat_cmp, parted-alike, point-alike}
use Rattle.dict_index.proofs.Standing.{IsPartitionedBy-le, IsPartitionedBy-lt, tied-between}
use Rattle.dict_index.proofs.order.narrowed.Goals as goal

pub first_from_code-before-requires : goal.first_from_code-before-requires
first_from_code-before-requires c =
    let texts = c.args.texts.now in
    let text = c.args.text.now in
    let heads = c.args.stretch.heads.now in
    let depth = length text - 1 in
    let letter = c.index-text-depth.result in
    let by = by_code texts heads text c.requires.are letter in
    let rises = by_code-rises texts heads text c.requires.are letter c.index-text-depth.is c.requires.some c.requires.begun c.requires.sorted in
    parted-alike (λ head. is_lt (by head)) (is_below texts depth (letter + 1)) (λ head. is_lt-nat_cmp (code_of texts head depth) (letter + 1)) heads (IsPartitionedBy-lt by heads rises)

pub first_from_code-count-requires : goal.first_from_code-count-requires
first_from_code-count-requires c =
    let texts = c.args.texts.now in
    let text = c.args.text.now in
    let heads = c.args.stretch.heads.now in
    let depth = length text - 1 in
    let letter = c.index-text-depth.result in
    let by = by_code texts heads text c.requires.are letter in
    let rises = by_code-rises texts heads text c.requires.are letter c.index-text-depth.is c.requires.some c.requires.begun c.requires.sorted in
    let i = c.first_from_code-before.result in
    let rest-rises = IsNonDecreasingBy-drop (λ head. ordering_index (by head)) i heads rises in
    let parted = parted-alike (λ head. is_le (by head)) (is_below texts depth (letter + 1 + 1)) (λ head. is_le-nat_cmp (code_of texts head depth) (letter + 1)) (drop i heads) (IsPartitionedBy-le by (drop i heads) rest-rises) in
    subst (IsPartitionedBy (is_below texts depth (letter + 1 + 1))) (sym c.split_at.ensures.back) parted

pub returns : goal.returns
returns c =
    let texts = c.args.texts.now in
    let text = c.args.text.now in
    let heads = c.args.stretch.heads.now in
    let depth = length text - 1 in
    let letter = c.index-text-depth.result in
    let by = by_code texts heads text c.requires.are letter in
    let i = c.first_from_code-before.result in
    let j = c.first_from_code-count.result in
    let rest = c.split_at.result.1.now in
    let is-rest = c.split_at.ensures.back in
    let low = point-alike (λ head. is_lt (by head)) (is_below texts depth (letter + 1)) (λ head. is_lt-nat_cmp (code_of texts head depth) (letter + 1)) heads i c.first_from_code-before.ensures.point in
    let high = point-alike (λ head. is_le (by head)) (is_below texts depth (letter + 1 + 1)) (λ head. is_le-nat_cmp (code_of texts head depth) (letter + 1)) rest j c.first_from_code-count.ensures.point in
    let high-there = subst (λ xs. IsPartitionPoint (λ head. is_le (by head) ≡ true) (λ head. is_le (by head) ≡ false) xs j) is-rest high in
    let found = c.split_at-2.ensures.front ∙ ap (λ xs. take j xs) is-rest ∙ sym (tied-between by heads i j low high-there) in
    record {
      found = ap places_in found ∙ standing-by_code texts heads text c.requires.are letter c.index-text-depth.is c.requires.some c.requires.begun;
      are = subst (AreHeads texts) (sym found) (All-filter (λ head. is_eq (by head)) (λ (head : Head). head ≡ head_of texts head.place) heads c.requires.are);
    }
