-- A script is read line by line, up to the first line that is bad or passes the limit.
use Rattle.std.proofs.Common.{◌≡◌, ◌≢◌, ℕ, zero, suc, ◌+◌, ◌<◌, ◌≤◌, List, [], ◌∷◌, ◌++◌, length, slice_index_or, Option, Some, None, Result, Ok, Err, refl, sym, subst, ◌∙◌, ap, arith, append-nil, append_assoc}
use Rattle.std.specs.Prelude.{IsSome, nat_le, unwrap_or}
use Rattle.std.specs.List.{flat_map}
use Rattle.keys.specs.declared.command.Command.{Command}
use Rattle.mz_base.specs.Answers.{◌>>=◌}
use Rattle.scenario.specs.Scripts.{added, within, commands_of, with_line, script_after}
use Rattle.scenario.specs.ScriptLines.{AreCommandsOf, IsFirstLineAtFault, own_commands}
use Rattle.scenario.specs.declared.script.ScriptError.{ScriptError}
use Rattle.scenario.specs.declared.script.ScriptError.TheVariants.{NoMemory}
use Rattle.scenario.specs.declared.script.TheConstants.{MOST_COMMANDS}
use Rattle.scenario.proofs.AnswerSteps.{after-Ok, if-Ok}

-- what a line that is read adds
added-Ok : (number : ℕ) (before : List Command) (said : Option (List Command)) (all : List Command) → (added number before said >>= within number) ≡ Ok all → (more : List Command) × (said ≡ Some more) × (all ≡ before ++ more) × (length all ≤ MOST_COMMANDS)
added-Ok number before None all is = absurd cc
added-Ok number before (Some more) all is =
    let (few, same) = if-Ok (nat_le (length (before ++ more)) MOST_COMMANDS) (before ++ more) all _ is in
    (more, refl, sym same, subst (λ commands. length commands ≤ MOST_COMMANDS) same (grind (arith, few)))

line-Ok : (number : ℕ) (before : List Command) (line : List ℕ) (all : List Command) → with_line number before line ≡ Ok all → (more : List Command) × (commands_of line ≡ Some more) × (all ≡ before ++ more) × (length all ≤ MOST_COMMANDS)
unfolding with_line
line-Ok number before line all is = added-Ok number before (commands_of line) all is

each-too : (line : List ℕ) (lines : List (List ℕ)) → IsSome (commands_of line) → ((place : ℕ) → place < length lines → IsSome (commands_of (slice_index_or lines place []))) → (place : ℕ) → place < length (line ∷ lines) → IsSome (commands_of (slice_index_or (line ∷ lines) place []))
each-too line lines first rest zero inside = first
each-too line lines first rest (suc place) inside = rest place (omega (arith, inside))

-- a script that reads
pub commands-read : (before : List Command) (first : ℕ) (lines : List (List ℕ)) (all : List Command) → length before ≤ MOST_COMMANDS → script_after before first lines ≡ Ok all → AreCommandsOf before lines all
commands-read before first [] all few is =
    let same : before ≡ all = cc in
    record {
      each = λ place inside. absurd (omega (arith, inside));
      joined = sym same ∙ sym (append-nil before);
      few = subst (λ commands. length commands ≤ MOST_COMMANDS) same few;
    }
commands-read before first (line ∷ lines) all few is =
    let (next, read, later) = after-Ok (with_line first before line) (λ more. script_after more (first + 1) lines) all is in
    let (more, has, joined, short) = line-Ok first before line next read in
    let rest = commands-read next (first + 1) lines all short later in
    let own : own_commands line ≡ more = ap (λ said. unwrap_or said []) has in
    record {
      each = each-too line lines (subst (λ said. IsSome said) (sym has) refl) rest.each;
      joined = rest.joined ∙ (ap (λ commands. commands ++ flat_map own_commands lines) (joined ∙ ap (λ commands. before ++ commands) (sym own)) ∙ append_assoc before (own_commands line) (flat_map own_commands lines));
      few = rest.few;
    }

fault-later : (before more : List Command) (first : ℕ) (line : List ℕ) (lines : List (List ℕ)) (refused : ScriptError) → with_line first before line ≡ Ok more → IsFirstLineAtFault more (first + 1) lines refused → IsFirstLineAtFault before first (line ∷ lines) refused
fault-later before more first line lines refused is later =
    let number : first + suc later.place ≡ (first + 1) + later.place = omega arith in
    record {
      place = suc later.place;
      inside = let there : later.place < length lines = later.inside in omega arith;
      commands = later.commands;
      so_far = rw is later.so_far;
      refuses = rw number later.refuses;
    }

fault-from : (before : List Command) (first : ℕ) (line : List ℕ) (lines : List (List ℕ)) (refused : ScriptError) → ((more : List Command) → script_after more (first + 1) lines ≡ Err refused → IsFirstLineAtFault more (first + 1) lines refused) → (given : Result (List Command) ScriptError) → with_line first before line ≡ given → script_after before first (line ∷ lines) ≡ Err refused → IsFirstLineAtFault before first (line ∷ lines) refused
fault-from before first line lines refused later (Ok more) given is =
    fault-later before more first line lines refused given (later more (rw given at is))
fault-from before first line lines refused later (Err error) given is =
    let here : Err error ≡ Err refused = rw given at is in
    let same : error ≡ refused = cc in
    let number : first + 0 ≡ first = omega arith in
    record { place = 0; inside = omega arith; commands = before; so_far = refl; refuses = rw number (given ∙ ap (λ e. Err e) same) }

-- a script that does not
pub first-fault : (before : List Command) (first : ℕ) (lines : List (List ℕ)) (refused : ScriptError) → script_after before first lines ≡ Err refused → IsFirstLineAtFault before first lines refused
first-fault before first [] refused is = absurd cc
first-fault before first (line ∷ lines) refused is =
    fault-from before first line lines refused (λ more. first-fault more (first + 1) lines refused) (with_line first before line) refl is

-- no line is refused for want of memory
added-told : (number : ℕ) (before : List Command) (said : Option (List Command)) → (added number before said >>= within number) ≢ Err NoMemory
added-told number before None is = absurd cc
added-told number before (Some more) is = grind (arith, is)

line-told : (number : ℕ) (before : List Command) (line : List ℕ) → with_line number before line ≢ Err NoMemory
unfolding with_line
line-told number before line = added-told number before (commands_of line)

pub script-told : (before : List Command) (first : ℕ) (lines : List (List ℕ)) → script_after before first lines ≢ Err NoMemory
script-told before first lines is =
    let fault = first-fault before first lines NoMemory is in line-told (first + fault.place) fault.commands _ fault.refuses
