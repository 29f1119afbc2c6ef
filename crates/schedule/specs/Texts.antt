-- The text of events: docs/FORMATS.md, "Schedules".
use Rattle.std.specs.Prelude.{ℕ, List, ◌++◌, codes, encode_utf8_all}
use Rattle.std.specs.Fmt.{decimal}
use Rattle.std.specs.List.{flat_map}
use Rattle.mz_base.specs.Reports.{outcome_text}
use Rattle.mz_base.specs.declared.event.Event.{Event}
use Rattle.mz_base.specs.declared.event.Event.TheVariants as event
use Rattle.mz_base.specs.declared.logs.Names.{Names}
use Rattle.schedule.specs.Names.{name_of}

-- the line of an event, with the names that these words give to users and clients
abbrev pub event_line : (ℕ → List ℕ) → (ℕ → List ℕ) → Event → List ℕ
event_line user_name client_name (event.Job job outcome) = codes "job\t" ++ (decimal job ++ (codes "\t" ++ (outcome_text outcome ++ codes "\n")))
event_line user_name client_name (event.Dict user reload) = codes "dict\t" ++ (encode_utf8_all (user_name user) ++ (codes "\t" ++ (decimal reload ++ codes "\n")))
event_line user_name client_name (event.Learn client) = codes "learn\t" ++ (encode_utf8_all (client_name client) ++ codes "\n")
event_line user_name client_name (event.Take client job) = codes "take\t" ++ (encode_utf8_all (client_name client) ++ (codes "\t" ++ (decimal job ++ codes "\n")))
event_line user_name client_name (event.Await client job) = codes "await\t" ++ (encode_utf8_all (client_name client) ++ (codes "\t" ++ (decimal job ++ codes "\n")))
event_line user_name client_name (event.NotYet client) = codes "notyet\t" ++ (encode_utf8_all (client_name client) ++ codes "\n")
event_line user_name client_name (event.Step client) = codes "step\t" ++ (encode_utf8_all (client_name client) ++ codes "\n")
event_line user_name client_name (event.End client) = codes "end\t" ++ (encode_utf8_all (client_name client) ++ codes "\n")
event_line user_name client_name event.Close = codes "close\n"

-- the line of an event
abbrev pub event_text : Names → Event → List ℕ
event_text names event = event_line (name_of names.users) (name_of names.clients) event

-- the lines of events
abbrev pub schedule_text : Names → List Event → List ℕ
schedule_text names events = flat_map (event_text names) events
