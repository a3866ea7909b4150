-- What a command answers.
use Rattle.std.specs.Prelude.{◌≡◌, ◌⊎◌, ℕ, List, [], ◌∷◌, ◌++◌, length, Contains, Option, Some, None, if◌then◌else◌, false, codes}
use Rattle.std.specs.Fmt.{decimal}
use Rattle.std.specs.Io.KnownBytes.{Appends}
use Rattle.sk_base.specs.declared.number.Trap.{Trap as TrapKind}
use Rattle.sk_base.specs.declared.number.Trap.TheVariants.{Divide, Index, Turns, Shape, Empty}
use Rattle.sk_cli.specs.Sources.{IsReading, Read, Reading, Refused, numbered_line, refused_line}
use Rattle.sk_main_run.specs.MainRun.{run_of_program}
use Rattle.sk_names.specs.Bytes.{same_bytes}
use Rattle.sk_outside.specs.Faults.{Faults, Rose}
use Rattle.sk_outside.specs.Holding.{Contents, Tells, SinkHolding, AppendsPrefix}
use Rattle.sk_world.specs.Runs.{ProgramRun}
use Rattle.sk_world.specs.World.{Container, Ending, End, Trapped, Bound}

-- ---- what is asked

-- a run: the file of its source, how many statements it may execute, and the file that its containers go to, if any
pub record RunCommand : Type 0 where
  pub source : List ℕ
  pub bound : ℕ
  pub dump : Option (List ℕ)

-- what words ask for
pub data Command : Type 0 where
  Usage : Command
  Run : RunCommand → Command

-- how many statements a run may execute, where the words do not say it
abbrev pub statement_limit : ℕ
statement_limit = 1000000

-- the run of a file, where nothing else is asked for
abbrev pub run_of_file : (name : List ℕ) → RunCommand
run_of_file name = record { source = name; bound = statement_limit; dump = None }

-- The words `run` and a name ask to run the file of that name. No other words ask for anything yet.
abbrev pub asked_of : (words : List (List ℕ)) → Command
asked_of (command ∷ name ∷ []) =
    if same_bytes command (codes "run") then Run (run_of_file name) else Usage
asked_of words = Usage

-- the files that a command is given to read, and to write
abbrev pub reads_in : Command → List (List ℕ)
reads_in Usage = []
reads_in (Run run) = run.source ∷ []

abbrev pub writes_in : Command → List (List ℕ)
writes_in Usage = []
writes_in (Run run) = elim run.dump [ Some name ↦ name ∷ [] | None ↦ [] ]

-- ---- what is answered

-- the status of a call, the bytes that it prints, the line that it puts on the error stream, if any, and the containers that
-- go to a file, if any
pub record Answer : Type 0 where
  pub status : ℕ
  pub printed : List ℕ
  pub line : List ℕ
  pub dumped : Option (List ℕ × List Container)

-- an answer that prints nothing
abbrev pub refused : ℕ → List ℕ → Answer
refused status line = record { status = status; printed = []; line = line; dumped = None }

abbrev pub trap_word : TrapKind → List ℕ
trap_word Divide = codes "divide"
trap_word Index = codes "index"
trap_word Turns = codes "turns"
trap_word Shape = codes "shape"
trap_word Empty = codes "empty"

abbrev pub trap_line : TrapKind → (line element : ℕ) → List ℕ
trap_line trap line element =
    codes "trap " ++ trap_word trap ++ codes " line " ++ decimal line ++ codes " element " ++ decimal element ++ codes "\n"

-- the status of a run by its end, and the line that tells it
abbrev pub ended_status : Ending → ℕ
ended_status End = 0
ended_status (Trapped trap line element) = 3
ended_status Bound = 4

abbrev pub ended_line : (bound : ℕ) → Ending → List ℕ
ended_line bound End = []
ended_line bound (Trapped trap line element) = trap_line trap line element
ended_line bound Bound = numbered_line (codes "bound ") bound

-- the answer to a run of a program
abbrev pub ran : RunCommand → ProgramRun → Answer
ran command run = record {
  status = ended_status run.ending;
  printed = run.printed;
  line = ended_line command.bound run.ending;
  dumped = elim command.dump [ Some name ↦ Some (name, run.containers) | None ↦ None ];
}

-- the answer to a run where nothing else is asked for than the run of a file
abbrev pub ran_alone : ProgramRun → Answer
ran_alone = ran (run_of_file [])

-- What a call does to the outside, one step after another: it answers, or it reads a file and goes on with its bytes, or it
-- finds what a source is and goes on with that. So the answer hangs on a later file only where nothing was refused before.
pub data Chain : Type 0 where
  Answers : Answer → Chain
  Reads : (name : List ℕ) → (List ℕ → Chain) → Chain
  Parses : (source : List ℕ) → (Reading → Chain) → Chain

-- a run without inputs, which is what a program of vectors needs; or the refusal of the source
abbrev pub after_reading : RunCommand → Reading → Chain
after_reading command (Read program) = Answers (ran command (run_of_program program [] command.bound false))
after_reading command (Refused cause) = Answers (refused 1 (refused_line cause))

-- the chain behind the bytes of the source
abbrev pub after_source : RunCommand → (source : List ℕ) → Chain
after_source command source = Parses source (after_reading command)

abbrev pub chain_of : Command → Chain
chain_of Usage = Answers (refused 2 (codes "usage\n"))
chain_of (Run command) = Reads command.source (after_source command)

-- The answer at the end of a chain, where the files have these contents: the bytes of a file are those that the files tell,
-- where they tell them.
abbrev pub IsAnswerBy : Option Contents → Chain → Answer → Type 0
IsAnswerBy contents (Answers answer) given = given ≡ answer
IsAnswerBy contents (Reads name next) given = (bytes : List ℕ) × Tells contents name bytes × IsAnswerBy contents (next bytes) given
IsAnswerBy contents (Parses source next) given = (reading : Reading) × IsReading source reading × IsAnswerBy contents (next reading) given

-- the answer to the bytes of a file that is run, whatever its name is and whatever the files tell
abbrev pub IsAnswerToBytes : (source : List ℕ) → Answer → Type 0
IsAnswerToBytes source answer = (contents : Option Contents) (name : List ℕ) → IsAnswerBy contents (after_source (run_of_file name) source) answer

-- the answer to words
abbrev pub IsAnswer : (words : List (List ℕ)) → Option Contents → Answer → Type 0
IsAnswer words contents = IsAnswerBy contents (chain_of (asked_of words))

-- ---- what is left outside

-- what a call leaves of a sink: it took the bytes
abbrev pub Took : (bytes : List ℕ) → (before now : SinkHolding) → Type 0
Took bytes before now = Appends before.taken now.taken bytes

-- it took a prefix of the bytes
abbrev pub TookPrefix : (bytes : List ℕ) → (before now : SinkHolding) → Type 0
TookPrefix bytes before now = AppendsPrefix before.taken now.taken bytes

-- the error stream took the line, or a prefix of it where a put on that stream failed in this call
abbrev pub Told : (line : List ℕ) → (before now : SinkHolding) → Type 0
Told line before now = Took line before now ⊎ (Rose before.faults now.faults × TookPrefix line before now)

-- The call gave the answer: its status, all of its bytes, and its line, as far as the error stream took it.
pub record Gives (answer : Answer) (given : ℕ) (out out' err err' : SinkHolding) : Type 0 where
  pub status : given ≡ answer.status
  pub printed : Took answer.printed out out'
  pub told : Told answer.line err err'

-- the answer to a run, and to no refusal
abbrev pub IsOfRun : Answer → Type 0
IsOfRun answer = (answer.status ≡ 0) ⊎ (answer.status ≡ 3) ⊎ (answer.status ≡ 4)

-- a prefix of what the run prints that is the answer was printed
abbrev pub PrintsPart : (Answer → Type 0) → (out out' : SinkHolding) → Type 0
PrintsPart IsAnswer out out' = (answer : Answer) × IsAnswer answer × IsOfRun answer × TookPrefix answer.printed out out'

abbrev pub read_fault_line : List ℕ → List ℕ
read_fault_line name = codes "read fault " ++ name ++ codes "\n"

abbrev pub write_fault_line : List ℕ
write_fault_line = codes "write fault output\n"

abbrev pub memory_line : List ℕ
memory_line = codes "memory\n"

-- A read has failed in this call, of a file that the command is given to read.
pub record HasReadFault (command : Command) (name : List ℕ) (reads reads' : Faults) : Type 0 where
  pub rose : Rose reads.count reads'.count
  pub named : reads'.name ≡ Some name
  pub given : Contains (reads_in command) name

-- such a read has failed, nothing was printed, and the line says so, as far as the error stream took it
pub record IsReadFault (command : Command) (reads reads' : Faults) (out out' err err' : SinkHolding) : Type 0 where
  pub name : List ℕ
  pub failed : HasReadFault command name reads reads'
  pub silent : Took [] out out'
  pub told : Told (read_fault_line name) err err'

-- a put on the output has failed in this call, and the line says so, as far as the error stream took it
pub record IsWriteFault (out out' err err' : SinkHolding) : Type 0 where
  pub rose : Rose out.faults out'.faults
  pub told : Told write_fault_line err err'

-- Where memory was wanting before the answer was known: nothing was printed, and the error stream took a prefix of the line
-- of the want, or of a read that has failed in this call.
pub record IsWantBefore (command : Command) (reads reads' : Faults) (out out' err err' : SinkHolding) : Type 0 where
  pub silent : Took [] out out'
  pub told : TookPrefix memory_line err err' ⊎ ((name : List ℕ) × HasReadFault command name reads reads' × TookPrefix (read_fault_line name) err err')

-- Where it was wanting with the answer: a prefix of its bytes was printed, and the error stream took a prefix of the line of
-- the want, of the answer's own, or of a put that has failed in this call.
pub record IsWantWith (answer : Answer) (out out' err err' : SinkHolding) : Type 0 where
  pub printed : TookPrefix answer.printed out out'
  pub told : TookPrefix memory_line err err' ⊎ TookPrefix answer.line err err'
      ⊎ (IsOfRun answer × Rose out.faults out'.faults × TookPrefix write_fault_line err err')

-- memory was wanting
abbrev pub IsWant : Command → (Answer → Type 0) → (reads reads' : Faults) → (out out' err err' : SinkHolding) → Type 0
IsWant command IsAnswer reads reads' out out' err err' =
    IsWantBefore command reads reads' out out' err err' ⊎ ((answer : Answer) × IsAnswer answer × IsWantWith answer out out' err err')
