-- The clients of a manifest: their scripts are read one after the other, and parsed once all are read.
use Rattle.std.specs.Prelude.{ℕ, ◌-◌, List, [], ◌∷◌, ◌++◌, Result, Ok, Err, length}
use Rattle.keys.specs.declared.command.Command.{Command}
use Rattle.mz_base.specs.Answers.{◌>>=◌}
use Rattle.mz_base.specs.Lines.{lines_of}
use Rattle.mz_base.specs.declared.status.Refusal.{Refusal}
use Rattle.mz_base.specs.declared.status.Refusal.TheVariants as refusal
use Rattle.run_meaning.specs.Worlds.{ClientPlan}
use Rattle.scenario.specs.Scripts.{script_of}
use Rattle.scenario.specs.declared.manifest.ClientLine.{ClientLine}
use Rattle.scenario.specs.declared.script.ScriptError.{ScriptError}
use Rattle.scenario.specs.declared.script.ScriptError.TheVariants as error
use Rattle.world_files.specs.Reading.{Files, file}
use Rattle.world_files.specs.declared.scripts.ScriptFile.{ScriptFile}
use Rattle.world_files.specs.declared.scripts.Scripts.{Scripts}

-- the client of a line, and its script
abbrev pub script_file : ClientLine → List ℕ → ScriptFile
script_file line bytes = record { name = line.name; user = line.user; path = line.script; bytes = bytes }

-- The scripts before, and then those of these lines, and how many bytes may still be read; or the first refusal.
abbrev pub scripts_after : Files → List ScriptFile → ℕ → List ClientLine → Result Scripts Refusal
scripts_after files before left [] = Ok (record { scripts = before; left = left })
scripts_after files before left (line ∷ lines) =
    file files left line.script >>= (λ bytes. scripts_after files (before ++ script_file line bytes ∷ []) (left - length bytes) lines)

abbrev pub script_refusal : List ℕ → ScriptError → Refusal
script_refusal path (error.Bad line) = refusal.BadScript path line
script_refusal path (error.TooLarge limit line) = refusal.TooLarge limit
script_refusal path error.NoMemory = refusal.Memory

-- the commands of a script, or the refusal of its first line that is bad or too large
abbrev pub or_refused : List ℕ → Result (List Command) ScriptError → Result (List Command) Refusal
or_refused path (Ok commands) = Ok commands
or_refused path (Err fault) = Err (script_refusal path fault)

-- a client, with the commands of its script
abbrev pub client_in : ScriptFile → Result ClientPlan Refusal
client_in script =
    or_refused script.path (script_of (lines_of script.bytes)) >>= (λ commands. Ok (record { name = script.name; user = script.user; commands = commands }))

-- The clients before, and then those of these scripts; or the first refusal.
abbrev pub clients_after : List ClientPlan → List ScriptFile → Result (List ClientPlan) Refusal
clients_after before [] = Ok before
clients_after before (script ∷ scripts) =
    client_in script >>= (λ client. clients_after (before ++ client ∷ []) scripts)
