use Rattle.std.proofs.Common.{◌∙◌, ◌∷◌, [], length, length-append, map, sym, ap, subst, arith, refl}
use Rattle.std.proofs.lemmas.List.{length-map, map-append}
use Rattle.indexmap.proofs.CallerLemmas.{insert_entry-new}
use Rattle.user_dict.specs.Kept.{AreCounts, row_of_entry, row_of_words}
use Rattle.user_dict.specs.Rows.{is_same}
use Rattle.user_dict.proofs.CountLemmas.{AreCounts-push}
use Rattle.user_dict.proofs.RowLemmas.{any-lookup, none-found, taken-new}
use Rattle.user_dict.proofs.reader.Reader.take_new.Goals as goal

pub returns-clause-given : goal.returns-clause-given
returns-clause-given c =
    let entries = c.args.self.now.rows.entries in
    let row = row_of_words c.args.words c.args.line in
    let none = none-found _ (any-lookup _ (is_same row) (λ words line. refl) entries ∙ c.requires.new) in
    let more = c.in_ok-insert.ensures.entries ∙ insert_entry-new _ c.args.self.now.rows c.args.words c.args.line none in
    taken-new entries c.insert.new.self.entries c.args.words c.args.line c.args.self.now.skipped.items more (omega (arith, c.len.ensures.len, c.if-len-ge-MOST_USER_ROWS.false))

pub returns-clause-kept : goal.returns-clause-kept
returns-clause-kept c =
    let entries = c.args.self.now.rows.entries in
    let row = row_of_words c.args.words c.args.line in
    let none = none-found _ (any-lookup _ (is_same row) (λ words line. refl) entries ∙ c.requires.new) in
    let more = c.in_ok-insert.ensures.entries ∙ insert_entry-new _ c.args.self.now.rows c.args.words c.args.line none in
    let rows = ap (map row_of_entry) more ∙ map-append row_of_entry entries ((c.args.words, c.args.line) ∷ []) in
    let long = ap (λ rows. length rows) rows in
    record {
      counts = subst (AreCounts c.add.new.self) (sym rows) (AreCounts-push c.args.self.now.counts c.add.new.self (map row_of_entry entries) row c.in_ok-reading.reading.items c.requires.kept.counts (c.in_ok-reading.ensures.items ∙ c.as_slice.ensures.value) c.in_ok-add.ensures);
      few = omega (arith, long, length-append (map row_of_entry entries) (row ∷ []), length-map entries row_of_entry, c.len.ensures.len, c.if-len-ge-MOST_USER_ROWS.false);
    }
