-- Rules by their inputs.
use Rattle.std.specs.Prelude.{ℕ, Bool, List}
use Rattle.mz_base.specs.ByName.{latest_by_name, same_name, RiseByName}
use Rattle.mz_base.specs.declared.romaji.Rule.{Rule}

abbrev pub input_of : Rule → List ℕ
input_of rule = rule.input

-- the rules have one input
abbrev pub same_input : Rule → Rule → Bool
same_input = same_name input_of

-- of the rules of one input the last, in the order of the inputs
abbrev pub latest_by_input : List Rule → List Rule
latest_by_input = latest_by_name input_of

-- the inputs rise: each comes before all later ones
abbrev pub RiseByInput : List Rule → Type 0
RiseByInput = RiseByName input_of
