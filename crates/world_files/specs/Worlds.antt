-- What the files of a run mean, or the first refusal in the order of work: docs/FORMATS.md, "Order of work".
use Rattle.std.specs.Prelude.{ℕ, ◌-◌, List, [], ◌∷◌, Result, Ok, length}
use Rattle.mz_base.specs.Answers.{◌>>=◌}
use Rattle.mz_base.specs.declared.status.Refusal.{Refusal}
use Rattle.run_meaning.specs.Worlds.{World}
use Rattle.world_files.specs.DataSets.{jobs_of, sets_after}
use Rattle.world_files.specs.Dictionaries.{reloads_after}
use Rattle.world_files.specs.Listings.{limited_text, listing_text}
use Rattle.world_files.specs.Manifests.{manifest_in}
use Rattle.world_files.specs.Reading.{Files, file, files_after}
use Rattle.world_files.specs.Scripts.{clients_after, scripts_after}
use Rattle.world_files.specs.Users.{plans_from}
use Rattle.world_files.specs.declared.reading.TheConstants.{MOST_READ_BYTES}
use Rattle.world_files.specs.declared.world.Opened.{Opened}
use Rattle.world_files.specs.declared.world.Replay.{Replay}
use Rattle.world_files.specs.declared.world.Sources.{Sources}

-- a manifest that is read first, and the bytes that may be read after it
unfoldable pub opened : Files → List ℕ → Result Opened Refusal
opened files name = do
  bytes ← file files MOST_READ_BYTES name
  manifest ← manifest_in bytes
  Ok (record { manifest = manifest; left = MOST_READ_BYTES - length bytes })

-- What is read before the first set is built: the manifest, the scripts, which are parsed once all are read, the data files,
-- and the users' dictionaries.
unfoldable pub sources : Files → List ℕ → Result Sources Refusal
sources files name = do
  start ← opened files name
  scripts ← scripts_after files [] start.left start.manifest.clients
  clients ← clients_after [] scripts.scripts
  found ← files_after files [] scripts.left start.manifest.files
  dicts ← reloads_after files [] found.left start.manifest.dicts
  Ok (record { manifest = start.manifest; clients = clients; files = found.files; reloads = dicts.reloads; left = dicts.left })

-- the world of what was read, where the first set reads
unfoldable pub built : Sources → Result World Refusal
built read = do
  jobs ← jobs_of read.files (length read.manifest.sets)
  Ok (record { jobs = jobs; users = plans_from read.reloads 1 read.manifest.users; clients = read.clients; certificates = read.manifest.certificates })

-- what the files of a run mean
abbrev pub world : Files → List ℕ → Result World Refusal
world files name = sources files name >>= built

-- A run that is given a schedule: its file is read last, and only then the sets are built.
unfoldable pub replay : Files → List ℕ → List ℕ → Result Replay Refusal
replay files name schedule = do
  read ← sources files name
  bytes ← file files read.left schedule
  world ← built read
  Ok (record { world = world; schedule = bytes })

-- The listing of a manifest: it is read, then all data files and all users' dictionaries, and the sets are built in order.
unfoldable pub listing : Files → List ℕ → Result (List ℕ) Refusal
listing files name = do
  start ← opened files name
  found ← files_after files [] start.left start.manifest.files
  dicts ← reloads_after files [] found.left start.manifest.dicts
  sets ← sets_after found.files [] 1 start.manifest.sets
  limited_text (listing_text sets dicts.reloads start.manifest.users)
