-- The run of main's code, and that of its statements.
use Rattle.std.proofs.Common.{◌≡◌, ℕ, ◌+◌, List, [], ◌∷◌, ◌++◌, length, map, replicate, ℤ, pos, Some, refl, sym, ap, ◌∙◌, subst, arith}
use Rattle.std.proofs.lemmas.List.{length-replicate}
use Rattle.std.specs.List.{list_all}
use Rattle.std.specs.Prelude.{Ok, Err, Result, true, slice_get}
use Rattle.std.proofs.lemmas.List.Elements.{All-nil}
use Rattle.sk_isa.specs.Configurations.{Ended, Outcome}
use Rattle.sk_isa.specs.Coded.{step_limit}
use Rattle.sk_isa.specs.declared.code.Instr.{Instr}
use Rattle.sk_isa.specs.declared.code.Instr.TheVariants as instr
use Rattle.sk_isa.specs.declared.object.Object.{Object}
use Rattle.sk_main_code.specs.MainSoundness.{names_in_main}
use Rattle.sk_main_code.specs.MainSteps.{main_start, next_in_main, over_from}
use Rattle.sk_main_fits.specs.Mains.{known_in, main_body}
use Rattle.sk_main_fits.specs.StatementFits.{all_emits, judged_of, sequence_fits, start_standing}
use Rattle.sk_main_fits.proofs.Emission.{statements_emitted}
use Rattle.sk_main_run.specs.MainNames.{State}
use Rattle.sk_main_run.specs.MainRun.{none_declared, in_sequence, over_of, running_of}
use Rattle.sk_main_runs.proofs.Ends.{ends_alike}
use Rattle.sk_main_runs.proofs.Flows.{Runs}
use Rattle.sk_main_runs.proofs.Runs.{stands, Finishes, last_step}
use Rattle.sk_main_runs.proofs.StatementNodes.{Holds, IsAt}
use Rattle.sk_main_runs.proofs.StatementRuns.{statements_follow}
use Rattle.sk_main_runs.specs.RunsAlike.{IsAlike, MainRunsAlike, judgements_in}
use Rattle.sk_main_runs.specs.SameMeaning.{FunctionsAgree, IsHeld}
use Rattle.sk_main_scheme.specs.MainScheme.{Emitted, Emitting, all_emitted, emitting_of}
use Rattle.sk_meaning.specs.Evaluation.{Callables, callables_of}
use Rattle.sk_safety.specs.Safety.{Judgements}
use Rattle.sk_scheme.specs.Plans.{functions_before_main}
use Rattle.sk_scheme.specs.Scheme.{Known}
use Rattle.sk_scheme_runs.proofs.Runs.{HasAt, has_all, has_front, has_back}
use Rattle.sk_tree.specs.declared.declared.Declared.{Declared}
use Rattle.sk_tree.specs.declared.tree.Program.{Program}
use Rattle.sk_tree.specs.declared.tree.Statement.{Statement}
use Rattle.sk_world.specs.Runs.{run_over, world_before}
use Rattle.sk_world.specs.World.{Input, World, Over, ended}

module _ (object : Object) (functions : List (List ℕ × Known)) (judgements : Judgements) (named : list_all (names_in_main object) object.main.instrs ≡ true) (body : List Statement) where
  abbrev body_at : Emitted
  body_at = all_emitted (all_emits (map judged_of body)) functions start_standing

  -- the code of main's body, which ends with a halt
  pub main_finishes : object.main.instrs ≡ (all_emitted (all_emits (map judged_of body)) functions start_standing).code ++ instr.Halt ∷ []
      → object.main.slots ≡ length (all_emitted (all_emits (map judged_of body)) functions start_standing).behind.slots
      → Holds object functions judgements (all_emitted (all_emits (map judged_of body)) functions start_standing).behind
      → sequence_fits (map judged_of body) functions start_standing ≡ true
      → (callables : Callables) → FunctionsAgree object functions callables → (inputs : List Input) (bound : ℕ)
      → Finishes object (main_start object inputs bound)
      (Err (over_of (in_sequence (map (running_of judgements) body) none_declared (record { callables = callables; scope = []; world = world_before inputs bound }))))
  main_finishes code_is slots_are held fit callables agree inputs bound =
      let state : State = record { callables = callables; scope = []; world = world_before inputs bound } in
      let slots : List ℤ = replicate object.main.slots (pos 0) in
      let f = statements_follow object functions judgements named body in
      let has : HasAt object.main.instrs 0 (body_at.code ++ instr.Halt ∷ []) = subst (λ (l : List Instr). HasAt l 0 (body_at.code ++ instr.Halt ∷ [])) (sym code_is) (has_all (body_at.code ++ instr.Halt ∷ [])) in
      let is : IsAt object functions judgements start_standing state none_declared slots =
      record { agree = tt; callables = agree; tidy = record { each = All-nil (IsHeld object) }; containers = refl; instances = refl } in
      let end_is : body_at.behind.at ≡ 0 + length body_at.code = f.keeps.at start_standing in
      let here : slice_get object.main.instrs body_at.behind.at ≡ Some instr.Halt = subst (λ n. slice_get object.main.instrs n ≡ Some instr.Halt) (sym end_is) (has_back object.main.instrs 0 body_at.code (instr.Halt ∷ []) has).0 in
      let room : length body_at.behind.slots ≡ length slots = sym slots_are ∙ sym (length-replicate object.main.slots (pos 0)) in
      halts slots state.world (in_sequence (map (running_of judgements) body) none_declared state) here
      (f.does start_standing state none_declared slots fit is held (omega (arith, room)) (has_front object.main.instrs 0 body_at.code (instr.Halt ∷ []) has))
    where
      halts : (slots : List ℤ) (world : World) (o : Result State Over) → slice_get object.main.instrs body_at.behind.at ≡ Some instr.Halt
          → Runs object functions slots 0 [] world body_at.behind.at body_at.behind.scope (length body_at.behind.slots) o → Finishes object (stands 0 [] slots world) (Err (over_of o))
      halts slots world (Ok state) here r = r.leads.by _ (last_step object instr.Halt (stands body_at.behind.at [] r.after state.world) (ended state.world) here refl)
      halts slots world (Err over) here r = r

-- what is held of main's body, since the object declares what main declares
held_of : (program : Program) (object : Object) → IsAlike object program
    → Holds object (known_in program) (judgements_in program) (all_emitted (map emitting_of (main_body program)) (known_in program) start_standing).behind
held_of program object alike = record {
  containers = λ number declared e. subst (λ (l : List Declared). slice_get l number ≡ Some declared) (sym alike.containers) e;
  instances = alike.instances;
}

-- the run of main's code ends as that of main
finishes : (program : Program) (object : Object) → IsAlike object program → (inputs : List Input) (bound : ℕ)
    → Finishes object (main_start object inputs bound)
    (Err (over_of (in_sequence (map (running_of (judgements_in program)) (main_body program)) none_declared (record { callables = callables_of (functions_before_main program); scope = []; world = world_before inputs bound }))))
finishes program object alike inputs bound =
    let known : List (List ℕ × Known) = known_in program in
    let body : List Statement = main_body program in
    (subst (λ (es : List Emitting). object.main.instrs ≡ (all_emitted es known start_standing).code ++ instr.Halt ∷ [] → object.main.slots ≡ length (all_emitted es known start_standing).behind.slots
    → Holds object known (judgements_in program) (all_emitted es known start_standing).behind
    → Finishes object (main_start object inputs bound)
    (Err (over_of (in_sequence (map (running_of (judgements_in program)) body) none_declared (record { callables = callables_of (functions_before_main program); scope = []; world = world_before inputs bound })))))
    (statements_emitted body)
    (λ code slots held. main_finishes object known (judgements_in program) alike.names body code slots held alike.fits (callables_of (functions_before_main program)) alike.functions inputs bound))
    alike.code alike.slots (held_of program object alike)

-- the run of a compiled program is that of its source
pub main_runs_alike : MainRunsAlike
main_runs_alike program object alike inputs bound dump over =
    let f = finishes program object alike inputs bound in
    let end : Over = over_of (in_sequence (map (running_of (judgements_in program)) (main_body program)) none_declared (record { callables = callables_of (functions_before_main program); scope = []; world = world_before inputs bound })) in
    let same : over.0 ≡ Err end = ends_alike (next_in_main object) object.main.instrs (step_limit object.main.instrs bound) f.steps (main_start object inputs bound) over.0 (Err end) over.1 f.outcome in
    ap (λ (o : Outcome World Over). run_over dump (over_from (world_before inputs bound) o)) (over.1 ∙ ap Ended same)
