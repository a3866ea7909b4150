-- A source's answer is its run, or the line of its refusal.
use Rattle.std.proofs.Common.{rules, ◌≡◌, ◌⊎◌, ◌≤◌, ℕ, List, [], true, false, Err, length, ap, sym, subst, inl, inr}
use Rattle.sk_cli.specs.Answer.{Answer, IsAnswerToBytes, IsOfRun, Took, ran_alone, statement_limit}
use Rattle.sk_cli.specs.Faults.{TellsSource, cause_of}
use Rattle.sk_cli.specs.Sources.{SpellsTyped, source_limit}
use Rattle.sk_cli.proofs.Refusals.{refusal-answered, told-answer, told-want}
use Rattle.sk_cli.proofs.Runs.{ran-of_run, run-answer}
use Rattle.sk_isa.specs.declared.object.Object.{Object}
use Rattle.sk_main_code.specs.MainSteps.{coded_of}
use Rattle.sk_main_scheme.specs.Objects.{unmarked_of, object_of}
use Rattle.sk_tree.specs.declared.tree.Program.{Program}
use Rattle.sk_vector_laws.specs.Vectors.{IsRunnable}
use Rattle.sk_world.specs.Runs.{ProgramRun}
use Rattle.sk_cli.proofs.command.run_source.Goals as goal

pub run_object-requires-clause-sound : goal.run_object-requires-clause-sound
run_object-requires-clause-sound g c = c.in-Ok.ensures.runs.2.sound

pub run_object-requires-clause-vectors : goal.run_object-requires-clause-vectors
run_object-requires-clause-vectors g c = c.in-Ok.ensures.runs.2.vectors

pub returns-in-Ok-clause-answered : goal.returns-in-Ok-clause-answered
returns-in-Ok-clause-answered g c =
    let run : ProgramRun = coded_of c.in-Ok.object [] statement_limit false in
    elim c.run_object.ensures.answered [
      | inl failed ↦ inl failed
      | inr rest ↦ elim rest [
        | inl wanting ↦ inr (inl wanting)
        | inr given ↦ inr (inr (ran_alone run, run-answer c.args.source.now c.in-Ok.ensures.runs.0 c.in-Ok.object c.requires c.in-Ok.ensures.runs.1 c.in-Ok.ensures.runs.2, given))
      ]
    ]

pub returns-in-Ok-clause-cut_short : goal.returns-in-Ok-clause-cut_short
returns-in-Ok-clause-cut_short g c failed =
    let run : ProgramRun = coded_of c.in-Ok.object [] statement_limit false in
    (ran_alone run, run-answer c.args.source.now c.in-Ok.ensures.runs.0 c.in-Ok.object c.requires c.in-Ok.ensures.runs.1 c.in-Ok.ensures.runs.2, ran-of_run run, c.run_object.ensures.cut_short failed)

pub returns-in-Ok-clause-memory : goal.returns-in-Ok-clause-memory
returns-in-Ok-clause-memory g c wanting command reads reads' =
    let run : ProgramRun = coded_of c.in-Ok.object [] statement_limit false in
    inr (ran_alone run, run-answer c.args.source.now c.in-Ok.ensures.runs.0 c.in-Ok.object c.requires c.in-Ok.ensures.runs.1 c.in-Ok.ensures.runs.2, c.run_object.ensures.memory wanting)

pub returns-in-Err-clause-answered : goal.returns-in-Err-clause-answered
returns-in-Err-clause-answered g c =
    let silent : Took [] (g.O.Sink.holds c.args.out.now) (g.O.Sink.holds c.args.out.now) = search rules in
    inr (told-answer c.args.source.now c.tell_refused.result (g.O.Sink.holds c.args.out.now) (g.E.Sink.holds c.args.err.now)
    (g.E.Sink.holds c.tell_refused.new.err) silent (cause_of c.in-Err.fault)
    (refusal-answered c.args.source.now c.requires c.in-Err.fault c.in-Err.ensures.fault) c.tell_refused.ensures.told)

pub returns-in-Err-clause-memory : goal.returns-in-Err-clause-memory
returns-in-Err-clause-memory g c wanting command reads reads' =
    let silent : Took [] (g.O.Sink.holds c.args.out.now) (g.O.Sink.holds c.args.out.now) = search rules in
    told-want c.args.source.now c.tell_refused.result (g.O.Sink.holds c.args.out.now) (g.E.Sink.holds c.args.err.now)
    (g.E.Sink.holds c.tell_refused.new.err) silent (cause_of c.in-Err.fault)
    (refusal-answered c.args.source.now c.requires c.in-Err.fault c.in-Err.ensures.fault) c.tell_refused.ensures.prefix command reads reads'
