-- What a client is told, on which alone its lines and certificates depend; and what of a client alone is legal.
use Rattle.std.specs.Prelude.{◌≡◌, ℕ, IfSome, IsSomeAnd, IsTrue, List, Some, length, take}
use Rattle.mz_base.specs.declared.event.Event.{Event}
use Rattle.mz_base.specs.declared.event.Event.TheVariants as event
use Rattle.mz_base.specs.declared.logs.Own.{Own}
use Rattle.keys.specs.declared.command.Command.{Command}
use Rattle.run_meaning.specs.Numbers.{is_number}
use Rattle.run_meaning.specs.Plays.{apply, is_complete, play}
use Rattle.run_meaning.specs.SoloLaws.{around_in}
use Rattle.run_meaning.specs.Solos.{Answer, Around, Solo, alone, alone_after, answers_of, solo}
use Rattle.run_meaning.specs.States.{Client, State, client_at, client_log_of, journal_of, start}
use Rattle.run_meaning.specs.Worlds.{World, client_plan, user_of}

-- the commands of a client that had their step, await or not-yet: each of these leaves a line
abbrev pub carried_out : World → Client → List Command
carried_out world client = take (length client.log.lines) (client_plan world client.number).commands

-- the lines of a client, and its certificates, where such are kept, are these
pub record HasSolo (client : Client) (result : Solo) : Type 0 where
  pub lines : client.log.lines ≡ result.lines
  pub certificates : IfSome client.certificates (λ kept. kept ≡ result.certificates)

-- what its own events make of a client is `solo` of those commands, with the answers that these events name
abbrev pub AloneIsSolo : Type 0
AloneIsSolo =
    (world : World) (around : Around) (c : ℕ) (own : List Own) (client : Client) → alone world around (client_at (start world) c) own ≡ Some client → IsSomeAnd (solo c (carried_out world client) (answers_of world around own)) (HasSolo client)

-- the answers that a client has in a state
abbrev pub answers_in : World → State → ℕ → List Answer
answers_in world s client = answers_of world (around_in world s client) (client_log_of s client).own

-- so each client of a play is, with its answers
abbrev pub PlayedIsSolo : Type 0
PlayedIsSolo =
    (world : World) (events : List Event) (s : State) (c : ℕ) → play world events ≡ Some s → IsSomeAnd (solo c (carried_out world (client_at s c)) (answers_in world s c)) (HasSolo (client_at s c))

-- ---- The same answers

-- A client in two plays, of one world or of two: it has the same commands, got the same answers, and carried out as many.
pub record AreAnsweredAlike (world other : World) (s t : State) (c : ℕ) : Type 0 where
  pub commands : (client_plan world c).commands ≡ (client_plan other c).commands
  pub answers : answers_in world s c ≡ answers_in other t c
  pub carried : length (client_log_of s c).lines ≡ length (client_log_of t c).lines

-- it has the same lines, and the same certificates, where both keep them
pub record AreServedAlike (s t : State) (c : ℕ) : Type 0 where
  pub lines : (client_log_of s c).lines ≡ (client_log_of t c).lines
  pub certificates : IfSome (client_at s c).certificates (λ kept. IfSome (client_at t c).certificates (λ others. kept ≡ others))

-- Whatever the other events are, and whatever else is in the worlds: answers alike make lines and certificates alike.
abbrev pub AnswersSuffice : Type 0
AnswersSuffice =
    (world other : World) (events others : List Event) (s t : State) (c : ℕ) → play world events ≡ Some s → play other others ≡ Some t → AreAnsweredAlike world other s t c → AreServedAlike s t c

-- a client has the same commands in two worlds, and got the same answers
pub record AreToldAlike (world other : World) (s t : State) (c : ℕ) : Type 0 where
  pub here : IsTrue (is_number world.clients c)
  pub there : IsTrue (is_number other.clients c)
  pub commands : (client_plan world c).commands ≡ (client_plan other c).commands
  pub answers : answers_in world s c ≡ answers_in other t c

-- where both plays are complete, that is enough: all commands were carried out
abbrev pub CompleteAnswersSuffice : Type 0
CompleteAnswersSuffice =
    (world other : World) (events others : List Event) (s t : State) (c : ℕ) → play world events ≡ Some s → play other others ≡ Some t → IsTrue (is_complete world s) → IsTrue (is_complete other t) → AreToldAlike world other s t c → AreServedAlike s t c

-- ---- From a client alone to an event

-- a take notes the length of the journal as it is
abbrev pub SeesAll : World → State → ℕ → Own → Type 0
SeesAll world s client own =
    (job : ℕ) → own.event ≡ event.Take client job → own.prefix ≡ length (journal_of s (user_of world client))

-- the event is legal, and makes this of the client
pub record MakesOf (world : World) (s : State) (c : ℕ) (e : Event) (client : Client) : Type 0 where
  pub state : State
  pub legal : apply world s e ≡ Some state
  pub made : client_at state c ≡ client

-- With the log closed: an event with which a client alone goes on is legal, and makes of the client what it makes alone.
abbrev pub AloneIsLegal : Type 0
AloneIsLegal =
    (world : World) (events : List Event) (s : State) (c : ℕ) (own : Own) (client : Client) → play world events ≡ Some s → IsTrue s.logs.closed → IsTrue (is_number world.clients c) → SeesAll world s c own → alone_after world (around_in world s c) (client_at s c) own ≡ Some client → MakesOf world s c own.event client
