-- The run of a compiled program is answered as that of its source.
use Rattle.std.proofs.Common.{◌≡◌, ◌≤◌, ◌⊎◌, ◌∙◌, ℕ, List, [], ◌∷◌, Option, Some, None, true, false, refl, ap, sym, subst, length, take, inl, inr, arith}
use Rattle.std.specs.Prelude.{unwrap_or}
use Rattle.std.proofs.Math.Seq.{take-length}
use Rattle.std.specs.Io.KnownBytes.{Appends}
use Rattle.sk_cli.specs.Answer.{Answer, Gives, IsAnswerToBytes, IsOfRun, IsWantWith, Took, Told, TookPrefix, ended_line, ended_status, ran_alone, statement_limit}
use Rattle.sk_cli.specs.Sources.{Read, Spells, SpellsTyped, source_limit}
use Rattle.sk_grammar.specs.Limits.{IsFromTextWithin}
use Rattle.sk_host.specs.Outcomes.{HasEnded, told_as}
use Rattle.sk_host.specs.declared.outcome.Outcome.{Outcome}
use Rattle.sk_host.specs.declared.outcome.Outcome.TheVariants as outcome
use Rattle.sk_isa.specs.declared.object.Object.{Object}
use Rattle.sk_main_code.specs.Inputs.{AnswerAll}
use Rattle.sk_main_code.specs.MainSteps.{coded_of}
use Rattle.sk_main_means.specs.MainMeans.{IsSameRun}
use Rattle.sk_main_run.specs.MainRun.{run_of_program}
use Rattle.sk_outside.specs.Holding.{SinkHolding}
use Rattle.sk_tree.specs.declared.declared.Declared.{Declared}
use Rattle.sk_tree.specs.declared.tree.Program.{Program}
use Rattle.sk_vector_laws.specs.Vectors.{IsRunnable}
use Rattle.sk_world.specs.Runs.{ProgramRun}
use Rattle.sk_world.specs.World.{Ending, End, Trapped, Bound}

-- how a run ended that is told so
abbrev ending_back : Outcome → Option Ending
ending_back outcome.End = Some End
ending_back (outcome.Trapped trap line element) = Some (Trapped trap line element)
ending_back outcome.Bound = Some Bound
ending_back outcome.SinkFault = None
ending_back outcome.Memory = None

told-back : (ending : Ending) → ending_back (told_as ending) ≡ Some ending
told-back End = refl
told-back (Trapped trap line element) = refl
told-back Bound = refl

ending-is : (ending other : Ending) → told_as ending ≡ told_as other → ending ≡ other
ending-is ending other same =
    ap (λ (found : Option Ending). unwrap_or found ending) (sym (told-back ending) ∙ ap ending_back same ∙ told-back other)

-- all of the bytes are a prefix of them
pub took-prefix : (bytes : List ℕ) (out out' : SinkHolding) → Took bytes out out' → TookPrefix bytes out out'
took-prefix bytes out out' took =
    (length bytes, omega arith, subst (λ (piece : List ℕ). Appends out.taken out'.taken piece) (sym (take-length bytes)) took)

-- Where memory was wanting for the line of a run that ended so, all that it prints was printed.
pub ended-wants : (run : ProgramRun) (out out' err err' : SinkHolding) (ending : Ending) → HasEnded run (told_as ending) out out'
    → TookPrefix (ended_line statement_limit ending) err err' → IsWantWith (ran_alone run) out out' err err'
ended-wants run out out' err err' ending ended prefix =
    let is : ending ≡ run.ending = ending-is ending run.ending ended.ending in
    record {
      printed = took-prefix run.printed out out' ended.printed;
      told = inr (inl (subst (λ (e : Ending). TookPrefix (ended_line statement_limit e) err err') is prefix));
    }

-- two runs that are alike have one answer
same-answer : (one other : ProgramRun) → IsSameRun one other → ran_alone one ≡ ran_alone other
same-answer one other same =
    let answer : List ℕ → Ending → Answer =
    λ printed ending. record { status = ended_status ending; printed = printed; line = ended_line statement_limit ending; dumped = None } in
    ap (λ (printed : List ℕ). answer printed one.ending) same.printed ∙ ap (λ (ending : Ending). answer other.printed ending) same.ending

-- each run has the status of one
pub ran-of_run : (run : ProgramRun) → IsOfRun (ran_alone run)
ran-of_run run = of run.ending
  where
    of : (ending : Ending) → (ended_status ending ≡ 0) ⊎ (ended_status ending ≡ 3) ⊎ (ended_status ending ≡ 4)
    of End = inl refl
    of (Trapped trap line element) = inr (inl refl)
    of Bound = inr (inr refl)

-- what a source spells is a program that a text has
pub from-source : (source : List ℕ) (program : Program) → Spells source program → IsFromTextWithin program
from-source source program spelled = record { text = source; tokens = spelled.0; lexed = spelled.1; reads = spelled.2 }

-- no inputs are given for none
none-wanted : (inputs : List Declared) → inputs ≡ [] → AnswerAll inputs []
none-wanted [] is = tt
none-wanted (input ∷ inputs) is = let no : ⊥ = cc is in absurd no

-- the run of an object that runs as the program answers the bytes
pub run-answer : (source : List ℕ) (program : Program) (object : Object) → length source ≤ source_limit → SpellsTyped source program true
    → IsRunnable object program → IsAnswerToBytes source (ran_alone (coded_of object [] statement_limit false))
run-answer source program object few typed fine contents name =
    let same : IsSameRun (coded_of object [] statement_limit false) (run_of_program program [] statement_limit false) =
    fine.runs [] (none-wanted object.inputs fine.vectors.inputs) statement_limit false in (
      Read program,
      (few, typed),
      same-answer (coded_of object [] statement_limit false) (run_of_program program [] statement_limit false) same,
    )
