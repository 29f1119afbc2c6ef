use Rattle.std.proofs.Common.{◌≡◌, ℕ, ◌||◌, Bool, true, false, List, Some, Ok, Err, refl, ap, sym, ◌∙◌, length, nat_le}
use Rattle.mz_base.specs.Answers.{◌>>=◌}
use Rattle.mz_base.specs.Limits.{is_long}
use Rattle.mz_base.specs.declared.data.TheConstants.{MOST_HOMOPHONES, MOST_WORDS}
use Rattle.mz_base.specs.declared.data.WordRow.{WordRow}
use Rattle.mz_base.specs.declared.fault.FaultKind.TheVariants.{Limit}
use Rattle.dict_rows.specs.Columns.{row_of_columns, numbers_view}
use Rattle.dict_rows.specs.Rows.{RowFields, RowNumbers, numbers_in, passes_limit, within_limits, word_of}
use Rattle.mz_base.specs.Data.{times_in}
use Rattle.dict_rows.proofs.reader.WordReader.read_columns.Goals as goal

only_last : (first second third last : Bool) → (first || (second || third)) ≡ false → (first || (second || (third || last))) ≡ last
only_last false false false last none = refl
only_last true second third last none = absurd cc
only_last false true third last none = absurd cc
only_last false false true last none = absurd cc

-- a row that is not too much passes a limit where its reading has as many rows as may be
passes : (rows : List WordRow) (fields : RowFields) (row : WordRow) (numbers : RowNumbers) (full : Bool) → false ≡ (is_long fields.reading || (is_long fields.value || nat_le MOST_WORDS (length rows))) → row ≡ word_of fields numbers → full ≡ nat_le MOST_HOMOPHONES (times_in rows row.reading) → passes_limit rows fields ≡ full
passes rows fields row numbers full short is counted =
    only_last (is_long fields.reading) (is_long fields.value) (nat_le MOST_WORDS (length rows)) _ (sym short)
    ∙ ap (λ (row : WordRow). nat_le MOST_HOMOPHONES (times_in rows row.reading)) (sym is)
    ∙ sym counted

refused : (ids number : ℕ) (rows : List WordRow) (fields : RowFields) (numbers : RowNumbers) → numbers_in ids number fields ≡ Ok numbers → passes_limit rows fields ≡ true → (numbers_in ids number fields >>= within_limits rows number fields) ≡ Err (Limit number)
refused ids number rows fields numbers given full = rw (given, full) refl

taken : (ids number : ℕ) (rows : List WordRow) (fields : RowFields) (numbers : RowNumbers) → numbers_in ids number fields ≡ Ok numbers → passes_limit rows fields ≡ false → (numbers_in ids number fields >>= within_limits rows number fields) ≡ Ok (Some (word_of fields numbers))
taken ids number rows fields numbers given short = rw (given, short) refl

pub returns-then-is_full-clause-given : goal.returns-then-is_full-clause-given
returns-then-is_full-clause-given c =
    let fields = row_of_columns c.args.columns.now in
    let numbers = numbers_view c.in_ok-numbers.numbers in
    rw c.into-then-is_full.ensures (refused c.args.self.now.ids c.args.number c.args.rows.now fields numbers c.in_ok-numbers.ensures.given (passes c.args.rows.now fields c.in_ok-row.row numbers true c.if-is_too_much.ensures c.in_ok-row.ensures c.if-is_full.ensures))

pub returns-clause-given : goal.returns-clause-given
returns-clause-given c =
    let fields = row_of_columns c.args.columns.now in
    let numbers = numbers_view c.in_ok-numbers.numbers in
    taken c.args.self.now.ids c.args.number c.args.rows.now fields numbers c.in_ok-numbers.ensures.given (passes c.args.rows.now fields c.in_ok-row.row numbers false c.if-is_too_much.ensures c.in_ok-row.ensures c.if-is_full.ensures)
    ∙ ap (λ row. Ok (Some row)) (sym c.in_ok-row.ensures)

pub returns-clause-noted : goal.returns-clause-noted
returns-clause-noted c = record {
  few_ids = c.requires.few_ids;
  tallied = c.note.ensures c.args.rows.now c.in_ok-row.row c.requires.tallied refl;
}
