use Rattle.std.proofs.Common.{◌≡◌, ◌<◌, ◌≤◌, ◌∙◌, length, sym, arith}
use Rattle.std.proofs.lemmas.Bool.{eqb-false, eqb-true}
use Rattle.conversion_meaning.specs.declared.suggestions.TheConstants.{MOST_SUGGESTIONS}
use Rattle.predictor.proofs.FoundWords.{answer-all, answer-enough, no-base, rows-there, slice-cheapest, words-less}
use Rattle.predictor.proofs.suggestion.suggest.Goals as goal
use Rattle.predictor.proofs.suggestion.suggest.Goals.{then-len-ge-MOST_SUGGESTIONS-via-then-len-ge-MOST_SUGGESTIONS, then-len-ge-MOST_SUGGESTIONS-via-else-len-ge-MOST_SUGGESTIONS+then-len-most}

pub returns-then-is_empty : goal.returns-then-is_empty
returns-then-is_empty g c =
    let none : length c.args.base.now ≡ 0 = eqb-true (length c.args.base.now) 0 (sym c.if-is_empty.ensures) in
    c.new.ensures.items ∙ no-base (g.D.DataSet.lists c.args.set.now) c.args.history.now c.args.base.now none

pub pairs_of-requires : goal.pairs_of-requires
pairs_of-requires g c =
    let d = g.D.DataSet.lists c.args.set.now in
    let base = c.args.base.now in
    let most = c.loop-words.most in
    let words = c.as_slice.result.now in
    rows-there d most base words (slice-cheapest d most base words c.in_ok-words.words.items c.as_slice.ensures.value c.in_ok-words.ensures)

pub returns-then-len-ge-MOST_SUGGESTIONS : goal.returns-then-len-ge-MOST_SUGGESTIONS
returns-then-len-ge-MOST_SUGGESTIONS g c =
    let d = g.D.DataSet.lists c.args.set.now in
    let history = c.args.history.now in
    let base = c.args.base.now in
    let most = c.loop-words.most in
    let words = c.as_slice.result.now in
    let pairs = c.in_ok-pairs.pairs.items in
    let apart = eqb-false (length base) 0 (sym c.if-is_empty.ensures) in
    let some : 0 < length base = omega (arith, apart) in
    let words_are = slice-cheapest d most base words c.in_ok-words.words.items c.as_slice.ensures.value c.in_ok-words.ensures in
    elim c.then-len-ge-MOST_SUGGESTIONS.branch [
      | then-len-ge-MOST_SUGGESTIONS-via-then-len-ge-MOST_SUGGESTIONS w ↦
          let enough : MOST_SUGGESTIONS ≤ length pairs = omega (arith, c.len.ensures, w.if-len-ge-MOST_SUGGESTIONS.true) in
          answer-enough d history base most words pairs some words_are c.in_ok-pairs.ensures enough
      | then-len-ge-MOST_SUGGESTIONS-via-else-len-ge-MOST_SUGGESTIONS+then-len-most w ↦
          let few : length words < most = omega (arith, c.as_slice.ensures.len, w.len-else-len-ge-MOST_SUGGESTIONS.ensures, w.if-len-most.true) in
          answer-all d history base most words pairs some words_are c.in_ok-pairs.ensures few
    ]

pub loop-words-smaller : goal.loop-words-smaller
loop-words-smaller g c =
    let d = g.D.DataSet.lists c.args.set.now in
    let base = c.args.base.now in
    let most = c.loop-words.most in
    let words = c.as_slice.result.now in
    let came : most ≤ length words = omega (arith, c.as_slice.ensures.len, c.len-else-len-ge-MOST_SUGGESTIONS.ensures, c.if-len-most.false) in
    words-less d most base words (slice-cheapest d most base words c.in_ok-words.words.items c.as_slice.ensures.value c.in_ok-words.ensures) came c.loop-words.invariant
