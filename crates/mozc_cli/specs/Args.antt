-- What the words of the command line ask for: docs/FORMATS.md, "Order of work" and "Convert and verify".
use Rattle.std.specs.Prelude.{⊤, ℕ, ◌<◌, ◌&&◌, not, List, [], ◌∷◌, Option, Some, None, if◌then◌else◌, codes, bytes_eq, length, nat_lt}
use Rattle.std.specs.Str.{chars}
use Rattle.cert_text.specs.Fields.{bounds_in}
use Rattle.conversion_meaning.specs.Lattices.{AreBounds}
use Rattle.world_files.specs.declared.query.Query.{Query}
use Rattle.mozc_cli.specs.declared.args.Request.{Request}
use Rattle.mozc_cli.specs.declared.args.Request.TheVariants as request

-- a command with a manifest alone
abbrev pub parse_manifest : List ℕ → List ℕ → Option Request
parse_manifest command manifest =
    if bytes_eq command (codes "run") then Some (request.Run (chars manifest)) else
    if bytes_eq command (codes "check") then Some (request.Check (chars manifest)) else
    None

-- a command with a manifest and a schedule
abbrev pub parse_schedule : List ℕ → List ℕ → List ℕ → Option Request
parse_schedule command manifest schedule =
    if bytes_eq command (codes "replay") then Some (request.Replay (chars manifest) (chars schedule)) else None

-- what is asked of one data set
abbrev pub query : List ℕ → List ℕ → List ℕ → Query
query manifest set key = record { manifest = chars manifest; set = chars set; key = chars key }

-- a command with a key, which is not empty: a conversion without bounds
abbrev pub parse_key : List ℕ → Query → Option Request
parse_key command query =
    if nat_lt 0 (length query.key) && bytes_eq command (codes "convert") then Some (request.Convert query []) else None

-- a conversion with bounds
abbrev pub with_bounds : Query → Option (List ℕ) → Option Request
with_bounds query None = None
with_bounds query (Some bounds) = Some (request.Convert query bounds)

-- a command with one word after the key, which is not empty
abbrev pub parse_last : List ℕ → Query → List ℕ → Option Request
parse_last command query last =
    if not (nat_lt 0 (length query.key)) then None else
    if bytes_eq command (codes "convert") then with_bounds query (bounds_in (length query.key) last) else
    if bytes_eq command (codes "verify") then Some (request.Verify query (chars last)) else
    None

-- what the words ask for, where they are a command
abbrev pub parse : List (List ℕ) → Option Request
parse (command ∷ manifest ∷ []) = parse_manifest command manifest
parse (command ∷ manifest ∷ schedule ∷ []) = parse_schedule command manifest schedule
parse (command ∷ manifest ∷ set ∷ key ∷ []) = parse_key command (query manifest set key)
parse (command ∷ manifest ∷ set ∷ key ∷ last ∷ []) = parse_last command (query manifest set key) last
parse _ = None

-- what each request that the words give has: a key that is not empty, and bounds that are bounds of it
abbrev pub IsFit : Request → Type 0
IsFit (request.Run manifest) = ⊤
IsFit (request.Replay manifest schedule) = ⊤
IsFit (request.Check manifest) = ⊤
IsFit (request.Convert query bounds) = (0 < length query.key) × AreBounds query.key bounds
IsFit (request.Verify query certificate) = 0 < length query.key
