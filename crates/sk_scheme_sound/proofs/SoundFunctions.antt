-- The code of a plain function is sound, and so is that of plain functions in text order.
use Rattle.std.proofs.Common.{◌≡◌, ℕ, zero, suc, ◌+◌, ◌<◌, List, [], ◌∷◌, ◌++◌, length, map, reverse, IsSomeAnd, Option, Some, None, slice_get, refl, sym, ap, ◌∙◌, subst, arith, length-append, append_assoc}
use Rattle.std.proofs.lemmas.Option.{slice_get_within}
use Rattle.std.specs.Prelude.{true, false, Bool}
use Rattle.std.specs.List.{list_all, list_any}
use Rattle.std.specs.Cmp.Lexicographic.{pointwise}
use Rattle.sk_base.specs.declared.number.Ty.{Ty}
use Rattle.sk_tree.specs.declared.tree.Function.{Function}
use Rattle.sk_tree.specs.declared.tree.Param.{Param}
use Rattle.sk_tree.specs.declared.tree.ParamKind.{ParamKind}
use Rattle.sk_tree.specs.declared.tree.ParamKind.TheVariants.{Scalar, Index, Proxy, Region}
use Rattle.sk_scheme.specs.Scheme.{Slot, Known, Within, Standing, Emitted, all_emitted, emitting_of, parameters_from, kinds_of, body_emitted, code_of, signature_of, known_of, codes_after, signatures_after}
use Rattle.sk_isa.specs.Soundness.{AreSlots, HasTypes, IsFineAt, IsSoundCode, Named, Types, is_kind, is_scalar, left_by, names_what_is_there, serves}
use Rattle.sk_isa.specs.declared.code.Code.{Code}
use Rattle.sk_isa.specs.declared.object.Signature.{Signature}
use Rattle.sk_plain.specs.Plain.{Parameters, NamedKinds, IsPlainFunction, ArePlain, all_behind, plainness_of, returns_of}
use Rattle.sk_plain.proofs.Truths.{is_some_is}
use Rattle.sk_plain.proofs.Lists.{slice_get-at, slice_get-in, all_append}
use Rattle.sk_scheme_sound.proofs.Each.{Each, each_at, each_from, each_all}
use Rattle.sk_plain.proofs.Parameters.{kinds_all, kinds-length, params_names}
use Rattle.sk_plain.proofs.Bindings.{names_of}
use Rattle.sk_scheme_sound.proofs.SoundPieces.{Choices, Chosen, Exits, Fits, FineAt}
use Rattle.sk_scheme_sound.proofs.SoundScopes.{AreCallees, IsCallee, HasSlot, InScope, IsGrown, grown_none}
use Rattle.sk_scheme_sound.proofs.SoundJumps.{loops_take_turns}
use Rattle.sk_scheme_sound.proofs.SoundParts.{Part, exit_of}
use Rattle.sk_scheme_sound.proofs.SoundStatements.{IsStatement}
use Rattle.sk_scheme_sound.proofs.SoundBodies.{statements_sound}

-- the parameters in scope have their slots
params_scoped : (params : List Param) (number : ℕ) (before : List ParamKind) (scope : List (List ℕ × Slot)) → length before ≡ number
    → InScope (before ++ kinds_of params) (before ++ kinds_of params) scope → InScope (before ++ kinds_of params) (before ++ kinds_of params) (parameters_from number params scope)
params_scoped [] number before scope n h = h
params_scoped (param ∷ params) number before scope n h =
    let one : List ParamKind = before ++ param.kind ∷ [] in
    let same : one ++ kinds_of params ≡ before ++ param.kind ∷ kinds_of params = append_assoc before (param.kind ∷ []) (kinds_of params) in
    let slot : Slot = record { number = number; kind = param.kind } in
    let there : slice_get (before ++ param.kind ∷ kinds_of params) number ≡ Some param.kind = slice_get-at before param.kind (kinds_of params) number n in
    let has : HasSlot (before ++ param.kind ∷ kinds_of params) (before ++ param.kind ∷ kinds_of params) slot = record { there = there; param = λ other. there } in
    subst (λ (l : List ParamKind). InScope l l (parameters_from (suc number) params ((param.name, slot) ∷ scope))) same
    (params_scoped params (suc number) one ((param.name, slot) ∷ scope) (omega (arith, length-append before (param.kind ∷ []), n))
    (subst (λ (l : List ParamKind). InScope l l ((param.name, slot) ∷ scope)) (sym same) (has, h)))

abbrev flat : Option (Option (List Ty)) → Option (List Ty)
flat (Some types) = types
flat None = None

-- what is chosen at an address by a list of choices
abbrev chosen_of : Choices → Types
chosen_of choices at = flat (slice_get choices at)

chosen_all : (choices : Choices) → Chosen (chosen_of choices) 0 choices
chosen_all choices = each_from (λ k choice. chosen_of choices k ≡ choice) 0 choices
    (λ k x e. let here : k ≡ 0 + k = omega arith in subst (λ n. chosen_of choices n ≡ x) here (ap flat e))

chosen_there : (choices : Choices) (at : ℕ) (types : List Ty) → chosen_of choices at ≡ Some types → at < length choices
chosen_there choices at types e = by_case (slice_get choices at) refl e
  where
    by_case : (o : Option (Option (List Ty))) → slice_get choices at ≡ o → flat o ≡ Some types → at < length choices
    by_case (Some x) is e = slice_get_within choices at x is
    by_case None is e = let no : ⊥ = cc in absurd no

nothing_first : (o : Option (List Ty)) → IsSomeAnd o (λ after. pointwise serves [] after ≡ true) → o ≡ Some []
nothing_first (Some []) h = refl
nothing_first (Some (ty ∷ types)) h = let no : ⊥ = cc in absurd no
nothing_first None h = absurd h

-- a piece of code that begins with an empty stack, and is not left at its end
has_types : (named : Named) (code : Code) (end : ℕ) → Fits named code.depth 0 code.instrs end (Some []) None → HasTypes (left_by named) code
has_types named code end f = record {
  chosen = chosen_of f.choices;
  start = nothing_first (chosen_of f.choices 0) fine.0;
  each = λ at types e. fine_at at types e;
}
  where
    fine : Exits (chosen_of f.choices) 0 (Some []) × Each (FineAt named code.depth (chosen_of f.choices)) 0 code.instrs
    fine = f.fine (chosen_of f.choices) (chosen_all f.choices) tt

    fine_at : (at : ℕ) (types : List Ty) → chosen_of f.choices at ≡ Some types → IsFineAt (left_by named) code (chosen_of f.choices) at types
    fine_at at types e =
        let within : at < length code.instrs = omega (arith, chosen_there f.choices at types e, f.size, f.long) in
        let i = slice_get-in code.instrs at within in
        let here : 0 + at ≡ at = omega arith in
        let g = subst (λ n. FineAt named code.depth (chosen_of f.choices) n i.0) here (each_at (FineAt named code.depth (chosen_of f.choices)) 0 at i.0 code.instrs fine.1 i.1) types e in
        record { instr = i.0; found = i.1; bounded = g.bounded; left = g.left; effect = g.effect; leads = g.leads }

are_slots : (params more : List ParamKind) → list_all is_scalar more ≡ true → AreSlots params (params ++ more)
are_slots [] [] e = tt
are_slots [] (Scalar ty ∷ more) e = are_slots [] more e
are_slots [] (Index dimension ∷ more) e = let no : ⊥ = cc in absurd no
are_slots [] (Proxy dimension ty ∷ more) e = let no : ⊥ = cc in absurd no
are_slots [] (Region dimension ty ∷ more) e = let no : ⊥ = cc in absurd no
are_slots (param ∷ params) more e = (refl, are_slots params more e)

-- a function's code is sound, and its slots are all scalars where its parameters are
pub record IsSoundFunction (signatures : List Signature) (number : ℕ) (own : Signature) (code : Code) : Type 0 where
  pub sound : IsSoundCode signatures number own code
  pub scalars : list_all is_scalar own.params ≡ true → list_all is_scalar own.slots ≡ true

module _ (signatures : List Signature) (number : ℕ) (parameters : Parameters) (known : List (List ℕ × Known)) (function : Function) (callees : AreCallees signatures number parameters known) (plain : IsPlainFunction parameters function) where
  abbrev emitted : Emitted
  emitted = body_emitted known function

  abbrev named : Named
  named = record { signatures = signatures; function = number; own = signature_of known function }

  abbrev begins : Standing
  begins = record { at = 0; scope = parameters_from 0 function.params []; slots = kinds_of function.params }

  abbrev within : Within
  within = record { functions = known; ret = function.ret }

  body : IsStatement named emitted.depth parameters within callees refl (all_emitted (map emitting_of function.body))
      (record { behind = all_behind (map plainness_of function.body); assigns = false; declares = false }) (list_any returns_of function.body)
  body = statements_sound named emitted.depth parameters within callees refl function.body

  grown : IsGrown (kinds_of function.params) emitted.slots
  grown = body.grown begins

  scoped : InScope (kinds_of function.params) (kinds_of function.params) (parameters_from 0 function.params [])
  scoped = params_scoped function.params 0 [] [] refl tt

  part : Part named emitted.depth 0 emitted.code (0 + length emitted.code) None
  part =
      let names : NamedKinds = reverse (map (λ (p : Param). (p.name, p.kind)) function.params) in
      let after = is_some_is (all_behind (map plainness_of function.body) parameters names) plain.body in
      let same : names ≡ names_of begins.scope = params_names function.params 0 [] in
      let plain_here : all_behind (map plainness_of function.body) parameters (names_of begins.scope) ≡ Some after.0 =
      subst (λ (l : NamedKinds). all_behind (map plainness_of function.body) parameters l ≡ Some after.0) same after.1 in
      subst (λ (b : Bool). Part named emitted.depth 0 emitted.code (0 + length emitted.code) (exit_of b)) plain.returns
      (body.part begins after.0 plain_here scoped (grown_none emitted.slots) (omega arith))

  pub function_sound : IsSoundFunction signatures number (signature_of known function) (code_of known function)
  function_sound = record {
    sound = record {
      types = has_types named (code_of known function) (0 + length emitted.code) part.fits;
      names = each_all (names_what_is_there named) 0 emitted.code part.names;
      loops = loops_take_turns emitted.code (0 + length emitted.code) part.jumps;
      slots = subst (λ (l : List ParamKind). AreSlots (kinds_of function.params) l) (sym grown.is) (are_slots (kinds_of function.params) grown.more grown.scalars);
      kinds = kinds_all is_kind function.params plain.kinds;
      count = refl;
      params = omega (arith, kinds-length function.params, plain.few);
    };
    scalars = λ given. ap (list_all is_scalar) grown.is ∙ all_append is_scalar (kinds_of function.params) grown.more given grown.scalars;
  }

-- functions below a number are also below the next
callees_wider : (signatures : List Signature) (number : ℕ) (parameters : Parameters) (known : List (List ℕ × Known)) → AreCallees signatures number parameters known → AreCallees signatures (suc number) parameters known
callees_wider signatures number [] [] h = tt
callees_wider signatures number (c ∷ cs) (k ∷ ks) h =
    let one = h.1 in (
      h.0,
      record {
        kinds_are = one.kinds_are;
        below = omega (arith, one.below);
        signature = one.signature;
        there = one.there;
        params = one.params;
        ret = one.ret;
      },
      callees_wider signatures number cs ks h.2,
    )
callees_wider signatures number parameters known h = absurd h

-- the functions of a list have these signatures among all, from a number on
abbrev pub StandAt : List Signature → ℕ → List Signature → Type 0
StandAt signatures number some = (k : ℕ) (own : Signature) → slice_get some k ≡ Some own → slice_get signatures (number + k) ≡ Some own

pub functions_sound : (signatures : List Signature) (number : ℕ) (parameters : Parameters) (known : List (List ℕ × Known)) (functions : List Function) → AreCallees signatures number parameters known
    → ArePlain parameters functions → StandAt signatures number (signatures_after number known functions) → (k : ℕ) (own : Signature) → slice_get (signatures_after number known functions) k ≡ Some own
    → (code : Code) × (slice_get (codes_after number known functions) k ≡ Some code) × IsSoundFunction signatures (number + k) own code
functions_sound signatures number parameters known [] callees plain stand k own e = let no : ⊥ = cc in absurd no
functions_sound signatures number parameters known (function ∷ functions) callees plain stand zero own e =
    let same : signature_of known function ≡ own = cc in
    let here : number ≡ number + 0 = omega arith in (
      code_of known function,
      refl,
      subst (λ (s : Signature). IsSoundFunction signatures (number + 0) s (code_of known function)) same
          (subst (λ n. IsSoundFunction signatures n (signature_of known function) (code_of known function)) here
          (function_sound signatures number parameters known function callees plain.0)),
    )
functions_sound signatures number parameters known (function ∷ functions) callees plain stand (suc k) own e =
    let here : number + 0 ≡ number = omega arith in
    let there : suc number + k ≡ number + suc k = omega arith in
    let callee : IsCallee signatures (suc number) (kinds_of function.params) (known_of number function) = record {
      kinds_are = refl;
      below = omega arith;
      signature = signature_of known function;
      there = subst (λ n. slice_get signatures n ≡ Some (signature_of known function)) here (stand 0 (signature_of known function) refl);
      params = refl;
      ret = refl;
    } in
    let r = functions_sound signatures (suc number) ((function.name, kinds_of function.params) ∷ parameters) ((function.name, known_of number function) ∷ known) functions
    (refl, callee, callees_wider signatures number parameters known callees) plain.1
    (λ k own e. let there : number + suc k ≡ suc number + k = omega arith in subst (λ n. slice_get signatures n ≡ Some own) there (stand (suc k) own e)) k own e in
    (r.0, r.1, subst (λ n. IsSoundFunction signatures n own r.0) there r.2)
