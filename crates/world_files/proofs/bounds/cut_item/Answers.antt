use Rattle.std.proofs.Common.{◌≡◌, ℕ, ◌<◌, List, [], ◌∷◌, Some, None, Bool, eqb, length, arith, lit<}
use Rattle.std.specs.List.{slice_split, position_or_len, before_first, after_first}
use Rattle.std.proofs.lemmas.List.Splits.{slice_split_first, slice_split_none}
use Rattle.std.proofs.lemmas.List.Sums.{fails_before_first}
use Rattle.std.proofs.lemmas.Str.Pattern.{split_once_first}
use Rattle.world_files.proofs.bounds.cut_item.Goals as goal

cut_first : (p : ℕ → Bool) (line field rest : List ℕ) → (position_or_len p line < length line) × (field ≡ before_first p line) × (rest ≡ after_first p line) → slice_split p line ≡ field ∷ slice_split p rest
cut_first p line field rest (inside, front, back) = rw (front, back) (slice_split_first p line 0 inside)

uncut : (p : ℕ → Bool) (line : List ℕ) → position_or_len p line ≡ length line → slice_split p line ≡ line ∷ []
uncut p line none =
    slice_split_none p line (λ k d inside. fails_before_first p line k d (omega (arith, none)))

pub returns-in-Some-clause-items : goal.returns-in-Some-clause-items
returns-in-Some-clause-items c =
    let parts = split_once_first 44 c.args.text.now (Some (c.in-Some.item, c.in-Some.rest)) c.in-Some.ensures.cases (lit< tt) in
    cut_first (λ b. eqb b 44) c.args.text.now c.in-Some.item.now c.in-Some.rest.now parts

pub returns-in-None-clause-items : goal.returns-in-None-clause-items
returns-in-None-clause-items c =
    uncut (λ b. eqb b 44) c.args.text.now (split_once_first 44 c.args.text.now None c.in-None.ensures.cases (lit< tt))
