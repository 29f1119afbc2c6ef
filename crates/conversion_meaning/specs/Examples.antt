-- Worked examples: a small data set, and what its definitions give for some keys.
use Rattle.std.specs.Prelude.{◌≡◌, ℕ, ℤ, pos, List, [], ◌∷◌, Some, None, length}
use Rattle.mz_base.specs.Data.{DataLists}
use Rattle.mz_base.specs.declared.conversion.Segment.{Segment}
use Rattle.mz_base.specs.declared.data.PosRow.{PosRow}
use Rattle.mz_base.specs.declared.data.UnknownRow.{UnknownRow}
use Rattle.mz_base.specs.declared.data.WordRow.{WordRow}
use Rattle.mz_base.specs.declared.lattice.Candidate.{Candidate}
use Rattle.mz_base.specs.declared.lattice.Certificate.{Certificate}
use Rattle.mz_base.specs.declared.lattice.Entry.{Entry}
use Rattle.mz_base.specs.declared.lattice.Pair.{Pair}
use Rattle.mz_base.specs.declared.lattice.Source.{Source}
use Rattle.mz_base.specs.declared.status.CertFault.TheVariants as fault
use Rattle.mz_base.specs.declared.lattice.Source.TheVariants.{Word, Char, Run}
use Rattle.mz_base.specs.declared.lattice.Span.{Span}
use Rattle.conversion_meaning.specs.Answers.{answer, first_answer}
use Rattle.conversion_meaning.specs.Best.{IsBest}
use Rattle.conversion_meaning.specs.Candidates.{first_values}
use Rattle.conversion_meaning.specs.Certificates.{Claim, IsCertificate}
use Rattle.conversion_meaning.specs.Entries.{entries, suppressed}
use Rattle.conversion_meaning.specs.InOrder.{paths_in_order}
use Rattle.conversion_meaning.specs.Rules.{spelled}
use Rattle.conversion_meaning.specs.Segments.{cut}
use Rattle.conversion_meaning.specs.Suggestions.{suggestions}
use Rattle.conversion_meaning.specs.Verdicts.{IsFault}

abbrev pub word_row : List ℕ → ℕ → ℕ → ℕ → List ℕ → WordRow
word_row reading lid rid cost value =
    record { reading = reading; lid = lid; rid = rid; cost = pos cost; value = value }

abbrev pub unknown_row : ℕ → ℕ → UnknownRow
unknown_row id cost = record { id = id; cost = pos cost }

-- きょう 今日 300, きょう 京 350, は は 100, は 葉 600, も 藻 300, も 喪 300
abbrev pub words_of_set : List WordRow
words_of_set =
    word_row (0x304d ∷ 0x3087 ∷ 0x3046 ∷ []) 1 1 300 (0x4eca ∷ 0x65e5 ∷ []) ∷ word_row (0x304d ∷ 0x3087 ∷ 0x3046 ∷ []) 1 1 350 (0x4eac ∷ []) ∷ word_row (0x306f ∷ []) 2 2 100 (0x306f ∷ []) ∷ word_row (0x306f ∷ []) 1 1 600 (0x8449 ∷ []) ∷ word_row (0x3082 ∷ []) 1 1 300 (0x85fb ∷ []) ∷ word_row (0x3082 ∷ []) 1 1 300 (0x55aa ∷ []) ∷ []

-- 名詞 1 100
abbrev pub noun : PosRow
noun = record { name = 0x540d ∷ 0x8a5e ∷ []; id = 1; cost = pos 100 }

-- 抑制単語 2 200
abbrev pub suppressed_part : PosRow
suppressed_part = record { name = suppressed; id = 2; cost = pos 200 }

-- three ids, these words, and these parts of speech
abbrev pub set : DataLists
set =
    record {
      ids = 3;
      costs = pos 0 ∷ pos 100 ∷ pos 500 ∷ pos 100 ∷ pos 400 ∷ pos 50 ∷ pos 200 ∷ pos 100 ∷ pos 800 ∷ [];
      features = [];
      unknown = unknown_row 1 5000 ∷ unknown_row 1 6000 ∷ unknown_row 1 6000 ∷ unknown_row 1 6000 ∷ unknown_row 1 6000 ∷ [];
      joins = record { first_right = 1; last_right = 1; first_left = 2; last_left = 2 } ∷ [];
      pos = noun ∷ suppressed_part ∷ [];
      rules = [];
      words = words_of_set;
      symbols = [];
      kanji = [];
    }

-- きょうは
abbrev pub kyouha : List ℕ
kyouha = 0x304d ∷ 0x3087 ∷ 0x3046 ∷ 0x306f ∷ []

-- も
abbrev pub mo : List ℕ
mo = 0x3082 ∷ []

-- 1203
abbrev pub digits : List ℕ
digits = 0x31 ∷ 0x32 ∷ 0x30 ∷ 0x33 ∷ []

abbrev pub entry_with : ℕ → ℕ → ℕ → ℕ → ℕ → Source → Entry
entry_with begin end lid rid cost source =
    record { begin = begin; end = end; lid = lid; rid = rid; cost = pos cost; source = source }

-- the whole of a key of this length
abbrev pub span_of : ℕ → Span
span_of length = record { begin = 0; end = length; left = 0; right = 0 }

-- き, 今日, 京, ょ, う, は (the word), 葉, は (the character)
abbrev pub kyouha_entries : List Entry
kyouha_entries =
    entry_with 0 1 1 1 5000 Char ∷ entry_with 0 3 1 1 300 (Word 0) ∷ entry_with 0 3 1 1 350 (Word 1) ∷ entry_with 1 2 1 1 5000 Char ∷ entry_with 2 3 1 1 5000 Char ∷ entry_with 3 4 2 2 100 (Word 2) ∷ entry_with 3 4 1 1 600 (Word 3) ∷ entry_with 3 4 1 1 5000 Char ∷ []

-- き, ょ, う, は (the word), 葉, は (the character)
abbrev pub cut_entries : List Entry
cut_entries =
    entry_with 0 1 1 1 5000 Char ∷ entry_with 1 2 1 1 5000 Char ∷ entry_with 2 3 1 1 5000 Char ∷ entry_with 3 4 2 2 100 (Word 2) ∷ entry_with 3 4 1 1 600 (Word 3) ∷ entry_with 3 4 1 1 5000 Char ∷ []

-- 藻, 喪, も (the character)
abbrev pub mo_entries : List Entry
mo_entries = entry_with 0 1 1 1 300 (Word 4) ∷ entry_with 0 1 1 1 300 (Word 5) ∷ entry_with 0 1 1 1 5000 Char ∷ []

-- 1, 1203, 2, 0, 3
abbrev pub digit_entries : List Entry
digit_entries =
    entry_with 0 1 1 1 6000 Char ∷ entry_with 0 4 1 1 6000 Run ∷ entry_with 1 2 1 1 6000 Char ∷ entry_with 2 3 1 1 6000 Char ∷ entry_with 3 4 1 1 6000 Char ∷ []

-- entries, a path, potentials and a total: the entries are the key's, the path is the best, and they are a certificate
pub record Worked (d : DataLists) (key bounds : List ℕ) (es : List Entry) (path : List ℕ) (potentials : List ℤ) (total : ℤ) : Type 0 where
  pub entries_are : entries d [] key bounds ≡ es
  pub best : IsBest d es (span_of (length key)) path
  pub certified : IsCertificate (record { lists = d; entries = es; span = span_of (length key); path = path; potentials = potentials; total = total })

-- きょうは is 今日は
abbrev pub Kyouha : Type 0
Kyouha =
    Worked set kyouha [] kyouha_entries (1 ∷ 5 ∷ []) (pos 5100 ∷ pos 400 ∷ pos 450 ∷ pos 10500 ∷ pos 15900 ∷ pos 550 ∷ pos 1400 ∷ pos 5800 ∷ []) (pos 750)

-- with a bound after き it is that, character by character
abbrev pub KyouhaCut : Type 0
KyouhaCut =
    Worked set kyouha (1 ∷ []) cut_entries (0 ∷ 1 ∷ 2 ∷ 3 ∷ []) (pos 5100 ∷ pos 10500 ∷ pos 15900 ∷ pos 16050 ∷ pos 16900 ∷ pos 21300 ∷ []) (pos 16250)

-- of two words of one cost the one of the lower row is first
abbrev pub Mo : Type 0
Mo =
    Worked set mo [] mo_entries (0 ∷ []) (pos 400 ∷ pos 400 ∷ pos 5100 ∷ []) (pos 500)

-- digits are a run
abbrev pub Digits : Type 0
Digits =
    Worked set digits [] digit_entries (1 ∷ []) (pos 6100 ∷ pos 6100 ∷ pos 12500 ∷ pos 18900 ∷ pos 25300 ∷ []) (pos 6200)

-- the certificate of きょうは with another path, other potentials or another total
abbrev pub claim_with : List ℕ → List ℤ → ℤ → Claim
claim_with path potentials total =
    record { lists = set; entries = kyouha_entries; span = span_of 4; path = path; potentials = potentials; total = total }

abbrev pub kyouha_potentials : List ℤ
kyouha_potentials = pos 5100 ∷ pos 400 ∷ pos 450 ∷ pos 10500 ∷ pos 15900 ∷ pos 550 ∷ pos 1400 ∷ pos 5800 ∷ []

-- 600 in place of 550, the potential of は
abbrev pub raised_potentials : List ℤ
raised_potentials = pos 5100 ∷ pos 400 ∷ pos 450 ∷ pos 10500 ∷ pos 15900 ∷ pos 600 ∷ pos 1400 ∷ pos 5800 ∷ []

abbrev pub seven_potentials : List ℤ
seven_potentials = pos 5100 ∷ pos 400 ∷ pos 450 ∷ pos 10500 ∷ pos 15900 ∷ pos 550 ∷ pos 1400 ∷ []

-- what is wrong with changed certificates of きょうは
pub record KyouhaFaults : Type 0 where
  pub low_total : IsFault (claim_with (1 ∷ 5 ∷ []) kyouha_potentials (pos 749)) (fault.Total (pos 749) (pos 750))
  pub high_total : IsFault (claim_with (1 ∷ 5 ∷ []) kyouha_potentials (pos 751)) (fault.Edge (Some 5) None)
  pub high_potential : IsFault (claim_with (1 ∷ 5 ∷ []) raised_potentials (pos 750)) (fault.Edge (Some 1) (Some 5))
  pub few_potentials : IsFault (claim_with (1 ∷ 5 ∷ []) seven_potentials (pos 750)) (fault.Length 8 7)
  pub dearer_path : IsFault (claim_with (1 ∷ 6 ∷ []) kyouha_potentials (pos 750)) (fault.Total (pos 750) (pos 1500))
  pub short_path : IsFault (claim_with (1 ∷ []) kyouha_potentials (pos 750)) (fault.Path 1)

-- of two words of one cost the one of the lower row is first, and the character costs most
abbrev pub MoInOrder : Type 0
MoInOrder = paths_in_order set mo_entries (span_of 1) ≡ (0 ∷ []) ∷ (1 ∷ []) ∷ (2 ∷ []) ∷ []

abbrev pub value_with : List ℕ → ℕ → Candidate
value_with value cost = record { value = value; cost = Some (pos cost) }

-- 今日は, 京は, 今日葉, 京葉, きょうは, きょう葉: each at its least cost
abbrev pub KyouhaValues : Type 0
KyouhaValues =
    first_values set [] kyouha kyouha_entries (span_of 4) ≡ value_with (0x4eca ∷ 0x65e5 ∷ 0x306f ∷ []) 750 ∷ value_with (0x4eac ∷ 0x306f ∷ []) 800 ∷ value_with (0x4eca ∷ 0x65e5 ∷ 0x8449 ∷ []) 1500 ∷ value_with (0x4eac ∷ 0x8449 ∷ []) 1550 ∷ value_with (0x304d ∷ 0x3087 ∷ 0x3046 ∷ 0x306f ∷ []) 16250 ∷ value_with (0x304d ∷ 0x3087 ∷ 0x3046 ∷ 0x8449 ∷ []) 17000 ∷ []

-- the first answer to きょうは with a bound after き
abbrev pub kyouha_cut_answer : Certificate
kyouha_cut_answer =
    record {
      bounds = 1 ∷ [];
      path = 0 ∷ 1 ∷ 2 ∷ 3 ∷ [];
      potentials = pos 5100 ∷ pos 10500 ∷ pos 15900 ∷ pos 16050 ∷ pos 16900 ∷ pos 21300 ∷ [];
      total = pos 16250;
    }

abbrev pub KyouhaCutAnswer : Type 0
KyouhaCutAnswer = first_answer set [] kyouha (1 ∷ []) ≡ kyouha_cut_answer

-- its segments: き, for the bound; ょ, which う does not join; and うは, since the ids of う and は join
abbrev pub KyouhaCutSegments : Type 0
KyouhaCutSegments = cut set cut_entries (1 ∷ []) (0 ∷ 1 ∷ 2 ∷ 3 ∷ []) ≡ (0, 1) ∷ (1, 2) ∷ (2, 4) ∷ []

-- the rules in the order in which they are applied
abbrev pub all_rules : List ℕ
all_rules = 2 ∷ 3 ∷ 4 ∷ 5 ∷ 6 ∷ 1 ∷ []

abbrev pub value_without : List ℕ → Candidate
value_without value = record { value = value; cost = None }

abbrev pub segment_with : ℕ → ℕ → List Candidate → Segment
segment_with begin end candidates = record { begin = begin; end = end; candidates = candidates }

abbrev pub pair_with : List ℕ → List ℕ → Pair
pair_with key value = record { key = key; value = value }

-- きょうは is one segment: its values, and then キョウハ and ｷｮｳﾊ
abbrev pub KyouhaAnswer : Type 0
KyouhaAnswer =
    (answer set [] [] all_rules kyouha []).segments ≡ segment_with 0 4 (value_with (0x4eca ∷ 0x65e5 ∷ 0x306f ∷ []) 750 ∷ value_with (0x4eac ∷ 0x306f ∷ []) 800 ∷ value_with (0x4eca ∷ 0x65e5 ∷ 0x8449 ∷ []) 1500 ∷ value_with (0x4eac ∷ 0x8449 ∷ []) 1550 ∷ value_with (0x304d ∷ 0x3087 ∷ 0x3046 ∷ 0x306f ∷ []) 16250 ∷ value_with (0x304d ∷ 0x3087 ∷ 0x3046 ∷ 0x8449 ∷ []) 17000 ∷ value_without (0x30ad ∷ 0x30e7 ∷ 0x30a6 ∷ 0x30cf ∷ []) ∷ value_without (0xff77 ∷ 0xff6e ∷ 0xff73 ∷ 0xff8a ∷ []) ∷ []) ∷ []

-- with a bound after き: き, キ and ｷ; ょ, ョ and ｮ; うは, う葉, ウハ and ｳﾊ
abbrev pub KyouhaCutLists : Type 0
KyouhaCutLists =
    (answer set [] [] all_rules kyouha (1 ∷ [])).segments ≡ segment_with 0 1 (value_with (0x304d ∷ []) 5500 ∷ value_without (0x30ad ∷ []) ∷ value_without (0xff77 ∷ []) ∷ []) ∷ segment_with 1 2 (value_with (0x3087 ∷ []) 5800 ∷ value_without (0x30e7 ∷ []) ∷ value_without (0xff6e ∷ []) ∷ []) ∷ segment_with 2 4 (value_with (0x3046 ∷ 0x306f ∷ []) 5750 ∷ value_with (0x3046 ∷ 0x8449 ∷ []) 6500 ∷ value_without (0x30a6 ∷ 0x30cf ∷ []) ∷ value_without (0xff73 ∷ 0xff8a ∷ []) ∷ []) ∷ []

-- the newest pair of this key whose value is in the list is 京は; 教 is in no list, and も another key
abbrev pub chosen_before_kyouha : List Pair
chosen_before_kyouha =
    pair_with kyouha (0x6559 ∷ []) ∷ pair_with mo (0x4eca ∷ 0x65e5 ∷ 0x306f ∷ []) ∷ pair_with kyouha (0x4eac ∷ 0x306f ∷ []) ∷ pair_with kyouha (0x4eca ∷ 0x65e5 ∷ 0x8449 ∷ []) ∷ []

-- so 京は goes to the front
abbrev pub KyouhaChosen : Type 0
KyouhaChosen =
    (answer set [] chosen_before_kyouha (1 ∷ []) kyouha []).segments ≡ segment_with 0 4 (value_with (0x4eac ∷ 0x306f ∷ []) 800 ∷ value_with (0x4eca ∷ 0x65e5 ∷ 0x306f ∷ []) 750 ∷ value_with (0x4eca ∷ 0x65e5 ∷ 0x8449 ∷ []) 1500 ∷ value_with (0x4eac ∷ 0x8449 ∷ []) 1550 ∷ value_with (0x304d ∷ 0x3087 ∷ 0x3046 ∷ 0x306f ∷ []) 16250 ∷ value_with (0x304d ∷ 0x3087 ∷ 0x3046 ∷ 0x8449 ∷ []) 17000 ∷ []) ∷ []

-- 1203 is １２０３, 一二〇三 and 千二百三 too
abbrev pub DigitsAnswer : Type 0
DigitsAnswer =
    (answer set [] [] all_rules digits []).segments ≡ segment_with 0 4 (value_with digits 6200 ∷ value_without (0xff11 ∷ 0xff12 ∷ 0xff10 ∷ 0xff13 ∷ []) ∷ value_without (0x4e00 ∷ 0x4e8c ∷ 0x3007 ∷ 0x4e09 ∷ []) ∷ value_without (0x5343 ∷ 0x4e8c ∷ 0x767e ∷ 0x4e09 ∷ []) ∷ []) ∷ []

-- 10000 is 一万, 11110000 is 千百十一万
pub record Spelled : Type 0 where
  pub units : spelled 10000 ≡ 0x4e00 ∷ 0x4e07 ∷ []
  pub groups : spelled 11110000 ≡ 0x5343 ∷ 0x767e ∷ 0x5341 ∷ 0x4e00 ∷ 0x4e07 ∷ []

-- きょ
abbrev pub kyo : List ℕ
kyo = 0x304d ∷ 0x3087 ∷ []

-- for きょ the words 今日 and 京, the cheaper one first
abbrev pub KyoSuggestions : Type 0
KyoSuggestions =
    suggestions set [] kyo ≡ pair_with (0x304d ∷ 0x3087 ∷ 0x3046 ∷ []) (0x4eca ∷ 0x65e5 ∷ []) ∷ pair_with (0x304d ∷ 0x3087 ∷ 0x3046 ∷ []) (0x4eac ∷ []) ∷ []
