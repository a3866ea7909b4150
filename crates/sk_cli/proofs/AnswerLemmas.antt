-- Answers to what is asked, and what is left of them where memory is wanting.
use Rattle.std.proofs.Common.{◌≡◌, ◌⊎◌, ◌∙◌, ℕ, ◌<◌, ◌+◌, List, [], Option, Some, None, refl, replicate, length, arith, ap, codes, inl, inr, subst, sym}
use Rattle.std.proofs.lemmas.List.{length-replicate}
use Rattle.std.specs.Prelude.{IsSomeAnd}
use Rattle.sk_outside.specs.Faults.{Faults}
use Rattle.sk_outside.specs.Holding.{Contents, SinkHolding, Tells, TellsLonger}
use Rattle.sk_world.specs.World.{Ending, End, Trapped, Bound}
use Rattle.sk_cli.specs.Answer.{Answer, Command, Usage, Run, IsAnswerBy, IsAnswerToBytes, IsWant, Gives, Took, TookPrefix, Told, PrintsPart, after_reading, chain_of, ended_status, refused, run_of_file}
use Rattle.sk_cli.specs.Sources.{Reading, Read, Refused, TooLong}

-- there are bytes of any number
longer-than : (limit : ℕ) → (bytes : List ℕ) × (limit < length bytes)
longer-than limit = (replicate (limit + 1) 0, rw (length-replicate {A = ℕ} (limit + 1) 0) (omega arith))

-- a file that is longer than a source may be
too_long-named : (contents : Option Contents) (name : List ℕ) → TellsLonger contents name 1048576
    → IsAnswerBy contents (chain_of (Run (run_of_file name))) (refused 1 (codes "refused long\n"))
too_long-named None name longer =
    let long = longer-than 1048576 in (long.0, tt, (Refused TooLong, long.1, refl))
too_long-named (Some find) name longer = found (find name) refl longer
  where
    found : (bytes : Option (List ℕ)) → find name ≡ bytes → IsSomeAnd bytes (λ bytes. 1048576 < length bytes)
        → IsAnswerBy (Some find) (chain_of (Run (run_of_file name))) (refused 1 (codes "refused long\n"))
    found None is longer = absurd longer
    found (Some bytes) is longer = (bytes, is, (Refused TooLong, longer, refl))

pub too_long-answer : (command : Command) (contents : Option Contents) (name : List ℕ) → command ≡ Run (run_of_file name)
    → TellsLonger contents name 1048576 → IsAnswerBy contents (chain_of command) (refused 1 (codes "refused long\n"))
too_long-answer command contents name asked longer =
    subst (λ (c : Command). IsAnswerBy contents (chain_of c) (refused 1 (codes "refused long\n"))) (sym asked) (too_long-named contents name longer)

pub usage-answer : (command : Command) (contents : Option Contents) → command ≡ Usage → IsAnswerBy contents (chain_of command) (refused 2 (codes "usage\n"))
usage-answer command contents asked = subst (λ (c : Command). IsAnswerBy contents (chain_of c) (refused 2 (codes "usage\n"))) (sym asked) refl

-- the answer to the bytes of the file that is asked for
pub file-answer : (command : Command) (contents : Option Contents) (name source : List ℕ) (answer : Answer) → command ≡ Run (run_of_file name)
    → Tells contents name source → IsAnswerToBytes source answer → IsAnswerBy contents (chain_of command) answer
file-answer command contents name source answer asked tells is =
    subst (λ (c : Command). IsAnswerBy contents (chain_of c) answer) (sym asked) (source, tells, is contents name)

-- where memory was wanting for the line of an answer that prints nothing
pub want-with : (command : Command) (IsAnswer : Answer → Type 0) (reads reads' : Faults) (out err err' : SinkHolding) (answer : Answer)
    → IsAnswer answer → answer.printed ≡ [] → TookPrefix [] out out → TookPrefix answer.line err err'
    → IsWant command IsAnswer reads reads' out out err err'
want-with command IsAnswer reads reads' out err err' answer is silent printed told =
    inr (answer, is, record { printed = subst (λ (bytes : List ℕ). TookPrefix bytes out out) (sym silent) printed; told = inr (inl told) })

-- what answers the bytes of a file answers what is asked
module _ (IsAnswer Further : Answer → Type 0) (goes : (answer : Answer) → IsAnswer answer → Further answer) (out out' : SinkHolding) where
  pub part-further : PrintsPart IsAnswer out out' → PrintsPart Further out out'
  part-further part = (part.0, goes part.0 part.1, part.2, part.3)

  pub want-further : (command : Command) (reads reads' : Faults) (err err' : SinkHolding)
      → IsWant command IsAnswer reads reads' out out' err err' → IsWant command Further reads reads' out out' err err'
  want-further command reads reads' err err' want = elim want [
    | inl before ↦ inl before
    | inr with_answer ↦ inr (with_answer.0, goes with_answer.0 with_answer.1, with_answer.2)
  ]

-- an answer that prints nothing was given, or memory was wanting for its line
pub silent-answer : (IsAnswer : Answer → Type 0) (answer : Answer) (result : ℕ) (out err err' : SinkHolding) → IsAnswer answer → answer.printed ≡ []
    → Took [] out out → (result ≡ 9) ⊎ ((result ≡ answer.status) × Told answer.line err err')
    → (result ≡ 9) ⊎ ((answer : Answer) × IsAnswer answer × Gives answer result out out err err')
silent-answer IsAnswer answer result out err err' is silent printed told = elim told [
  | inl wanting ↦ inl wanting
  | inr both ↦ inr (
    answer,
    is,
    record { status = both.0; printed = subst (λ (bytes : List ℕ). Took bytes out out) (sym silent) printed; told = both.1 },
  )
]

ended-status : (ending : Ending) → ended_status ending ≡ 7 → ⊥
ended-status End seven = omega arith
ended-status (Trapped trap line element) seven = omega arith
ended-status Bound seven = omega arith

-- a refusal has not the status of a read that failed
refused-status : (answer : Answer) (line : List ℕ) → answer ≡ refused 1 line → answer.status ≡ 7 → ⊥
refused-status answer line same seven = let one : answer.status ≡ 1 = ap (λ (a : Answer). a.status) same in omega (arith, one, seven)

-- no answer to the bytes of a file has it
pub bytes-status : (source : List ℕ) (answer : Answer) → IsAnswerToBytes source answer → answer.status ≡ 7 → ⊥
bytes-status source answer is seven = let read = is None [] in of read.0 read.2
  where
    of : (reading : Reading) → IsAnswerBy None (after_reading (run_of_file []) reading) answer → ⊥
    of (Refused cause) same = refused-status answer _ same seven
    of (Read program) same = ended-status _ (sym (ap (λ (a : Answer). a.status) same) ∙ seven)
