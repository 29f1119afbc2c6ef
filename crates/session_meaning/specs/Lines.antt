-- The line of a command: docs/FORMATS.md, "Report".
use Rattle.std.specs.Prelude.{ℕ, ◌+◌, ◌*◌, ◌/◌, List, [], ◌∷◌, ◌++◌, drop, length, map, take}
use Rattle.std.specs.Fmt.{decimal}
use Rattle.mz_base.specs.declared.lattice.Candidate.{Candidate}
use Rattle.mz_base.specs.declared.lattice.Pair.{Pair}
use Rattle.mz_base.specs.declared.report.Line.{Line}
use Rattle.mz_base.specs.declared.report.Word.{Word}
use Rattle.session_meaning.specs.Stages.{Choice, Composition, Stage, C, P, V, chosen_in_focus, chosen_values, cursor, mode_of, preedit, segment_in_focus, suggested, version_of}
use Rattle.session_meaning.specs.declared.page.TheConstants.{PAGE_PLACES}

-- the values of the page on which a place of a list stands
abbrev pub page : List Candidate → ℕ → List (List ℕ)
page candidates place =
    map (λ (candidate : Candidate). candidate.value) (take PAGE_PLACES (drop (place / PAGE_PLACES * PAGE_PLACES) candidates))

-- the preedit, the cursor, and the values that are suggested
abbrev pub composing_rest : Composition → List (List ℕ)
composing_rest c = preedit c ∷ decimal (cursor c) ∷ map (λ (pair : Pair). pair.value) (suggested c)

-- The number of the segment in focus, how many there are, the chosen values, the number of the chosen candidate in focus,
-- how many there are, and its page.
abbrev pub choosing_rest : Choice → List (List ℕ)
choosing_rest v =
    let list = (segment_in_focus v).candidates in
    decimal (v.focus + 1) ∷ decimal (length v.conversion.segments) ∷ (chosen_values v ++ (decimal (chosen_in_focus v + 1) ∷ decimal (length list) ∷ page list (chosen_in_focus v)))

abbrev pub rest_of : Stage → List (List ℕ)
rest_of P = []
rest_of (C c) = composing_rest c
rest_of (V c v) = choosing_rest v

-- a line that shows the stage
abbrev pub line_of : Word → Stage → List ℕ → Line
line_of word stage result =
    record { word = word; mode = mode_of stage; version = version_of stage; result = result; rest = rest_of stage }

-- a line that shows something else
abbrev pub line_with : Word → Stage → List (List ℕ) → Line
line_with word stage rest =
    record { word = word; mode = mode_of stage; version = version_of stage; result = []; rest = rest }
