use Rattle.std.proofs.Common.{rules, Vec, Global, ap, sym, ◌∙◌, ◌≡◌, ◌+◌, ◌-◌, ◌++◌, true, false, List, length, arith, append-nil}
use Rattle.std.specs.List.{flat_map, range_with_len}
use Rattle.mz_base.specs.Data.{hits_at, hits_to, readings}
use Rattle.mz_base.specs.declared.lattice.Entry.{Entry}
use Rattle.conversion_meaning.specs.Entries.{char_entries, entries_from, entries_in, is_cut, run_entries, user_entries, word_entries}
use Rattle.lattice.proofs.EntrySteps.{entries_in-cut, entries_in-uncut}
use Rattle.lattice.proofs.GroupLemmas.{four_groups}
use Rattle.lattice.proofs.HitLemmas.{first_hits, later_hits}
use Rattle.conversion_meaning.proofs.RangeLemmas.{flat_map_step}
use Rattle.lattice.proofs.entries.push_from.Goals as goal
use Rattle.lattice.proofs.entries.push_from.Goals.{then-not-is_cut+in_ok-push_rows+in_ok-push_text, else-not-is_cut}

pub loop-end-init : goal.loop-end-init
unfolding entries_from hits_at
loop-end-init g c =
    let d = g.D.DataSet.lists c.args.set.now in
    let key = c.args.key.now in
    let begin = c.args.begin in
    let count : length key - begin ≡ length key + 1 - (begin + 1) = omega arith in
    let from : c.from.result ≡ begin = search rules in
    record {
      hits = c.as_slice-left.ensures.value ∙ c.in_ok-hits.ensures ∙ ap (hits_at (readings d) key) from ∙ ap (λ n. flat_map (hits_to (readings d) key begin) (range_with_len (begin + 1) n)) count;
      added = ap (λ n. c.args.out.now.items ++ flat_map (entries_in d (g.U.UserWords.rows c.args.user.now) key c.args.bounds.now begin) (range_with_len (begin + 1) n)) (sym count);
    }

pub push_rows-requires-clause-hits : goal.push_rows-requires-clause-hits
push_rows-requires-clause-hits g c =
    let d = g.D.DataSet.lists c.args.set.now in
    c.split_at.ensures.front ∙ first_hits (readings d) c.args.key.now c.args.begin c.loop-end.end (length c.args.key.now + 1) c.count_at.result c.loop-end.left.now c.loop-end-test.true c.loop-end.invariant.hits c.count_at.ensures

pub loop-end-preserved : goal.loop-end-preserved
loop-end-preserved g c =
    let d = g.D.DataSet.lists c.args.set.now in
    let rows = g.U.UserWords.rows c.args.user.now in
    let key = c.args.key.now in
    let limit = length key + 1 in
    let end = c.loop-end.end in
    let of = entries_in d rows key c.args.bounds.now c.args.begin in
    let out = c.loop-end.out.items in
    let all = c.args.out.now.items ++ entries_from d rows key c.args.bounds.now c.args.begin in
    let grown : c.if-not-is_cut.out.items ≡ out ++ of end = (
    elim c.if-not-is_cut.branch [
      | then-not-is_cut+in_ok-push_rows+in_ok-push_text w ↦ (
          let uncut : is_cut c.args.bounds.now c.args.begin end ≡ false = search rules in
          let groups = four_groups out (user_entries d rows key c.args.begin end) (word_entries d key c.args.begin end) (char_entries d key c.args.begin end) (run_entries d key c.args.begin end) _ _ w.in_ok-push_rows.ensures w.in_ok-push_text.ensures in
          ap (λ (v : Vec Entry Global). v.items) w.out-is ∙ groups ∙ ap (λ xs. out ++ xs) (sym (entries_in-uncut d rows key c.args.bounds.now c.args.begin end uncut))
          )
      | else-not-is_cut w ↦ (
          let cut : is_cut c.args.bounds.now c.args.begin end ≡ true = search rules in
          ap (λ (v : Vec Entry Global). v.items) w.out-is ∙ sym (append-nil out) ∙ ap (λ xs. out ++ xs) (sym (entries_in-cut d rows key c.args.bounds.now c.args.begin end cut))
          )
    ]
    ) in
    record {
      hits = c.split_at.ensures.back ∙ later_hits (readings d) key c.args.begin end limit c.count_at.result c.loop-end.left.now c.loop-end-test.true c.loop-end.invariant.hits c.count_at.ensures;
      added = ap (λ (xs : List Entry). xs ++ flat_map of (range_with_len (end + 1) (limit - (end + 1)))) grown ∙ flat_map_step of out all end limit c.loop-end-test.true c.loop-end.invariant.added;
    }
