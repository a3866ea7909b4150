-- The main of an object is sound, where its code and what it names are those that the program is compiled to.
use Rattle.std.proofs.Common.{◌≡◌, ℕ, zero, suc, ◌+◌, ◌<◌, ◌≤◌, List, [], ◌∷◌, ◌++◌, length, map, All, IsSomeAnd, Option, Some, None, slice_get, refl, sym, ap, ◌∙◌, subst, arith, length-append}
use Rattle.std.proofs.lemmas.List.{length-map}
use Rattle.std.proofs.lemmas.List.Elements.{All-nil, All-cons, All-head, All-tail}
use Rattle.std.proofs.lemmas.Option.{slice_get_within}
use Rattle.std.specs.Cmp.Lexicographic.{pointwise}
use Rattle.std.specs.List.{list_all}
use Rattle.std.specs.Prelude.{max, true, false, Bool}
use Rattle.sk_base.specs.declared.number.Ty.{Ty}
use Rattle.sk_base.specs.declared.number.Ty.TheVariants.{Int}
use Rattle.sk_isa.specs.Soundness.{HasTypes, IsFineAt, LoopsPass, Types, leads_to, serves}
use Rattle.sk_isa.specs.declared.code.Code.{Code}
use Rattle.sk_isa.specs.declared.code.Instr.{Instr}
use Rattle.sk_isa.specs.declared.code.Instr.TheVariants as instr
use Rattle.sk_isa.specs.declared.object.Object.{Object}
use Rattle.sk_isa.specs.declared.object.Signature.{Signature}
use Rattle.sk_main_code.specs.MainSoundness.{HasLives, IsCount, IsSoundMain, Lives, LivesAt, left_in_main, lives_after, main_signature, names_in_main}
use Rattle.sk_main_fits.specs.Mains.{known_in, main_body, main_of}
use Rattle.sk_main_fits.specs.StatementFits.{judged_of, sequence_fits, start_standing}
use Rattle.sk_main_fits.specs.Vectors.{IsOfVectors}
use Rattle.sk_main_fits.proofs.Emission.{statements_emitted}
use Rattle.sk_main_names.proofs.Functions.{scalar_is}
use Rattle.sk_main_scheme.specs.MainScheme.{Emitted, Emitting, all_emitted, emitting_of}
use Rattle.sk_main_sound.proofs.Bodies.{statements_sound}
use Rattle.sk_main_sound.proofs.Expressions.{HasKnown}
use Rattle.sk_main_sound.proofs.Jumps.{loops_count}
use Rattle.sk_main_sound.proofs.Parts.{Part, halt_part, then_part}
use Rattle.sk_main_sound.proofs.Pieces.{Chosen, FineAt, Fits, IsFineInstr, Serves, Stage, Stages, Suits, fine_some, serves_exact, staged}
use Rattle.sk_main_sound.proofs.Scopes.{live_in}
use Rattle.sk_main_sound.proofs.StatementNodes.{Holds, Sounds}
use Rattle.sk_main_sound.proofs.Statements.{stack_taken}
use Rattle.sk_plain.proofs.Lists.{slice_get-in}
use Rattle.sk_plain.proofs.Truths.{and_left, and_right, some_same}
use Rattle.sk_scheme_sound.proofs.Each.{Each, each_append, each_at, each_back, each_from, each_front}
use Rattle.sk_tree.specs.declared.declared.Declared.{Declared}
use Rattle.sk_tree.specs.declared.tree.ParamKind.{ParamKind}
use Rattle.sk_tree.specs.declared.tree.ParamKind.TheVariants.{Scalar}
use Rattle.sk_tree.specs.declared.tree.Program.{Program}

-- what holds of all elements holds of one
all_at : (test : Instr → Bool) (is : List Instr) (at : ℕ) (i : Instr) → list_all test is ≡ true → slice_get is at ≡ Some i → test i ≡ true
all_at test [] at i all e = let no : ⊥ = cc in absurd no
all_at test (x ∷ is) zero i all e = let same : x ≡ i = cc in subst (λ y. test y ≡ true) same (and_left (test x) (list_all test is) all)
all_at test (x ∷ is) (suc at) i all e = all_at test is at i (and_right (test x) (list_all test is) all) e

all_mapped : {A : Type 0} (P Q : A → Type 0) (xs : List A) → ((x : A) → P x → Q x) → All P xs → All Q xs
all_mapped P Q [] f h = All-nil Q
all_mapped P Q (x ∷ xs) f h =
    All-cons Q x xs (f x (All-head P x xs h)) (all_mapped P Q xs f (All-tail P x xs h))

-- the stage that a list of stages chooses for an address, its types and its live containers
abbrev chosen_of : List Stage → Stages
chosen_of stages at = slice_get stages at

abbrev types_in : Option Stage → Option (List Ty)
types_in (Some stage) = Some stage.types
types_in None = None

abbrev lives_in : Option Stage → Option (ℕ → Bool)
lives_in (Some stage) = Some stage.live
lives_in None = None

abbrev types_of : List Stage → Types
types_of stages at = types_in (slice_get stages at)

abbrev lives_of : List Stage → Lives
lives_of stages at = lives_in (slice_get stages at)

serves_types : (given : Stage) (o : Option Stage) → IsSomeAnd o (λ after. Suits given after) → IsSomeAnd (types_in o) (λ after. pointwise serves given.types after ≡ true)
serves_types given (Some stage) h = h.0
serves_types given None h = h

serves_lives : (given : Stage) (o : Option Stage) → IsSomeAnd o (λ after. Suits given after) → IsSomeAnd (lives_in o) (λ after. (container : ℕ) → after container ≡ given.live container)
serves_lives given (Some stage) h = h.1
serves_lives given None h = h

nothing_first : (before : ℕ → Bool) (o : Option Stage) → IsSomeAnd o (λ after. Suits (staged [] before) after) → types_in o ≡ Some []
nothing_first before (Some stage) h = empty_first stage.types h.0
  where
    empty_first : (types : List Ty) → pointwise serves [] types ≡ true → Some types ≡ Some []
    empty_first [] e = refl
    empty_first (ty ∷ types) e = let no : ⊥ = cc in absurd no
nothing_first before None h = absurd h

-- The body of main's code, which ends with a halt, on all of whose stages it is fine.
module _ (object : Object) (body : List Instr) (mid : ℕ) (before after : ℕ → Bool) (f : Fits object object.main.depth 0 body mid (staged [] before) (staged [] after))
    (code_is : object.main.instrs ≡ body ++ instr.Halt ∷ []) (names : list_all (names_in_main object) object.main.instrs ≡ true) where
  abbrev stages : List Stage
  stages = f.stages ++ staged [] after ∷ []

  abbrev chosen : Stages
  chosen = chosen_of (f.stages ++ staged [] after ∷ [])

  stages_chosen : Chosen (chosen_of (f.stages ++ staged [] after ∷ [])) 0 (f.stages ++ staged [] after ∷ [])
  stages_chosen = each_from (λ k stage. chosen_of stages k ≡ Some stage) 0 stages
      (λ k x e. let here : k ≡ 0 + k = omega arith in subst (λ n. chosen_of stages n ≡ Some x) here e)

  all_fine : Serves (chosen_of (f.stages ++ staged [] after ∷ [])) 0 (staged [] before) × Each (FineAt object object.main.depth (chosen_of (f.stages ++ staged [] after ∷ []))) 0 (body ++ instr.Halt ∷ [])
  all_fine =
      let has_body = each_front (λ k stage. chosen k ≡ Some stage) 0 f.stages (staged [] after ∷ []) stages_chosen in
      let has_halt = each_back (λ k stage. chosen k ≡ Some stage) 0 mid f.stages (staged [] after ∷ []) f.size stages_chosen in
      let r = f.fine chosen has_body (serves_exact chosen mid (staged [] after) has_halt.0) in
      let halt : FineAt object object.main.depth chosen mid instr.Halt =
      fine_some object object.main.depth chosen mid instr.Halt (staged [] after) [] has_halt.0 (omega arith) (λ names. stack_taken [] [] 0 true [] refl refl) (λ container e. let no : ⊥ = cc in absurd no)
      (All-nil (λ container. after container ≡ true)) (All-nil (λ n. Serves chosen n (staged [] after))) in
      (r.0, each_append (FineAt object object.main.depth chosen) 0 mid body (instr.Halt ∷ []) f.long r.1 (halt, tt))

  -- an address with a stage that is chosen for it
  record IsFineThere (at : ℕ) (stage : Stage) : Type 0 where
    instr : Instr
    found : slice_get object.main.instrs at ≡ Some instr
    fine : IsFineInstr object object.main.depth (chosen_of (f.stages ++ staged [] after ∷ [])) at instr stage

  fine_there : (at : ℕ) (stage : Stage) → slice_get (f.stages ++ staged [] after ∷ []) at ≡ Some stage → IsFineThere at stage
  fine_there at stage e =
      let within : at < length (body ++ instr.Halt ∷ []) =
      omega (arith, slice_get_within stages at stage e, length-append f.stages (staged [] after ∷ []), length-append body (instr.Halt ∷ []), f.size, f.long) in
      let i = slice_get-in (body ++ instr.Halt ∷ []) at within in
      let here : 0 + at ≡ at = omega arith in
      let found : slice_get object.main.instrs at ≡ Some i.0 = ap (λ (l : List Instr). slice_get l at) code_is ∙ i.1 in
      let g = subst (λ n. FineAt object object.main.depth chosen n i.0) here (each_at (FineAt object object.main.depth chosen) 0 at i.0 (body ++ instr.Halt ∷ []) all_fine.1 i.1) in
      record { instr = i.0; found = found; fine = g (all_at (names_in_main object) object.main.instrs at i.0 names found) stage e }

  stage_of : (o : Option Stage) (types : List Ty) → types_in o ≡ Some types → (stage : Stage) × (o ≡ Some stage) × (stage.types ≡ types)
  stage_of (Some stage) types e = (stage, refl, some_same stage.types types e)
  stage_of None types e = let no : ⊥ = cc in absurd no

  stage_with : (o : Option Stage) (live : ℕ → Bool) → lives_in o ≡ Some live → (stage : Stage) × (o ≡ Some stage) × (stage.live ≡ live)
  stage_with (Some stage) live e = (stage, refl, some_same stage.live live e)
  stage_with None live e = let no : ⊥ = cc in absurd no

  pub has_types : HasTypes (left_in_main object) object.main
  has_types = record {
    chosen = types_of stages;
    start = nothing_first before (slice_get stages 0) all_fine.0;
    each = λ at types e.
        let s = stage_of (slice_get stages at) types e in
        let r = fine_there at s.0 s.1 in
        subst (λ (t : List Ty). IsFineAt (left_in_main object) object.main (types_of stages) at t) s.2 (record {
          instr = r.instr;
          found = r.found;
          bounded = r.fine.bounded;
          left = r.fine.left;
          effect = r.fine.effect;
          leads = all_mapped (λ to. Serves chosen to (staged r.fine.left (lives_after r.instr s.0.live)))
              (λ to. IsSomeAnd (types_of stages to) (λ after. pointwise serves r.fine.left after ≡ true)) (leads_to r.instr at)
              (λ to h. serves_types (staged r.fine.left (lives_after r.instr s.0.live)) (slice_get stages to) h) r.fine.leads;
        });
  }

  pub has_lives : ((container : ℕ) → before container ≡ false) → HasLives object.main.instrs
  has_lives none = record {
    chosen = lives_of stages;
    start = none_first (slice_get stages 0) all_fine.0;
    each = λ at live e.
        let s = stage_with (slice_get stages at) live e in
        let r = fine_there at s.0 s.1 in
        subst (λ (l : ℕ → Bool). LivesAt object.main.instrs (lives_of stages) at l) s.2 (record {
          instr = r.instr;
          found = r.found;
          made = r.fine.made;
          used = r.fine.used;
          leads = all_mapped (λ to. Serves chosen to (staged r.fine.left (lives_after r.instr s.0.live)))
              (λ to. IsSomeAnd (lives_of stages to) (λ after. (container : ℕ) → after container ≡ lives_after r.instr s.0.live container)) (leads_to r.instr at)
              (λ to h. serves_lives (staged r.fine.left (lives_after r.instr s.0.live)) (slice_get stages to) h) r.fine.leads;
        });
  }
    where
      none_first : (o : Option Stage) → IsSomeAnd o (λ after. Suits (staged [] before) after) → IsSomeAnd (lives_in o) (λ live. (container : ℕ) → live container ≡ false)
      none_first (Some stage) h = λ container. h.1 container ∙ none container
      none_first None h = h

all_scalars : (types : List Ty) → All (λ kind. (ty : Ty) × (kind ≡ Scalar ty)) (map Scalar types)
all_scalars [] = All-nil (λ kind. (ty : Ty) × (kind ≡ Scalar ty))
all_scalars (ty ∷ types) = All-cons (λ kind. (ty : Ty) × (kind ≡ Scalar ty)) (Scalar ty) (map Scalar types) (ty, refl) (all_scalars types)

-- The object has the code, the slots and the containers of the program's main, and its functions' parameters and types.
pub record HasMain (object : Object) (program : Program) : Type 0 where
  pub main : object.main ≡ record { instrs = (main_of program).code; slots = length (main_of program).behind.slots; depth = (main_of program).depth }
  pub signature : main_signature object ≡ record { ret = Int; params = []; slots = map Scalar (main_of program).behind.slots }
  pub containers : object.containers ≡ (main_of program).behind.containers
  pub known : HasKnown object (known_in program)
  pub names : list_all (names_in_main object) object.main.instrs ≡ true

module _ (program : Program) (object : Object) (vectors : IsOfVectors program) (h : HasMain object program) where
  abbrev body_of : Emitted
  body_of = all_emitted (map emitting_of (main_body program)) (known_in program) start_standing

  code_is : object.main.instrs ≡ (all_emitted (map emitting_of (main_body program)) (known_in program) start_standing).code ++ instr.Halt ∷ []
  code_is = ap (λ (c : Code). c.instrs) h.main

  held : Holds object object.main.depth (known_in program) (all_emitted (map emitting_of (main_body program)) (known_in program) start_standing).behind
  held = record {
    slots = scalar_is object (main_of program).behind.slots (ap (λ (s : Signature). s.slots) h.signature);
    containers = λ number declared e. subst (λ (l : List Declared). slice_get l number ≡ Some declared) (sym h.containers) e;
  }

  low : (all_emitted (map emitting_of (main_body program)) (known_in program) start_standing).depth ≤ object.main.depth
  low = let e : object.main.depth ≡ max (all_emitted (map emitting_of (main_body program)) (known_in program) start_standing).depth 0 = ap (λ (c : Code). c.depth) h.main in omega (arith, e)

  sounds : Sounds object object.main.depth (known_in program) (all_emitted (map emitting_of (main_body program))) (sequence_fits (map judged_of (main_body program)))
  sounds = subst (λ (es : List Emitting). Sounds object object.main.depth (known_in program) (all_emitted es) (sequence_fits (map judged_of (main_body program)))) (statements_emitted (main_body program))
      (statements_sound object object.main.depth (known_in program) h.known (main_body program)).part

  part : Part object object.main.depth 0 (all_emitted (map emitting_of (main_body program)) (known_in program) start_standing).code
      (all_emitted (map emitting_of (main_body program)) (known_in program) start_standing).behind.at (live_in [])
      (live_in (all_emitted (map emitting_of (main_body program)) (known_in program) start_standing).behind.scope)
  part = (sounds start_standing vectors.fits (record { scoped = tt; below = tt }) held low).0

  pub main_is_sound : IsSoundMain object
  main_is_sound =
      let mid : ℕ = body_of.behind.at in
      let before : ℕ → Bool = live_in [] in
      let after : ℕ → Bool = live_in body_of.behind.scope in
      let whole = then_part object object.main.depth 0 mid (suc mid) body_of.code (instr.Halt ∷ []) before after after part (halt_part object object.main.depth mid after after) in
      record {
        types = has_types object body_of.code mid before after part.fits code_is h.names;
        names = h.names;
        loops = subst (λ (l : List Instr). LoopsPass IsCount l) (sym code_is) (loops_count (body_of.code ++ instr.Halt ∷ []) (suc mid) whole.jumps);
        lives = has_lives object body_of.code mid before after part.fits code_is h.names (λ container. refl);
        params = ap (λ (s : Signature). s.params) h.signature;
        ret = ap (λ (s : Signature). s.ret) h.signature;
        slots = subst (λ (l : List ParamKind). All (λ kind. (ty : Ty) × (kind ≡ Scalar ty)) l) (sym (ap (λ (s : Signature). s.slots) h.signature)) (all_scalars (main_of program).behind.slots);
        count = ap (λ (c : Code). c.slots) h.main ∙ sym (ap (λ (s : Signature). length s.slots) h.signature ∙ length-map (main_of program).behind.slots Scalar);
      }
