-- The user that the tests convert for.
use Rattle.std.specs.Prelude.{ℕ, List, [], ◌∷◌}
use Rattle.mz_base.specs.declared.user.UserRow.{UserRow}
use Rattle.conversion_meaning.specs.Entries.{suppressed}
use Rattle.conversion_meaning.specs.Examples.{noun}

-- a user's row for きょう
abbrev pub kyou_row : List ℕ → List ℕ → ℕ → UserRow
kyou_row word part line =
    record { reading = 0x304d ∷ 0x3087 ∷ 0x3046 ∷ []; word = word; pos = part; line = line }

-- きょう 強 名詞, きょう 今日 抑制単語, きょう 狂 動詞, きょう 卿 名詞
abbrev pub four_rows : List UserRow
four_rows =
    kyou_row (0x5f37 ∷ []) noun.name 1 ∷ kyou_row (0x4eca ∷ 0x65e5 ∷ []) suppressed 2 ∷ kyou_row (0x72c2 ∷ []) (0x52d5 ∷ 0x8a5e ∷ []) 3 ∷ kyou_row (0x537f ∷ []) noun.name 4 ∷ []
