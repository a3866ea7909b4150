-- The program of two functions of an index is sound.
use Rattle.std.proofs.Common.{◌≡◌, inl, inr, ◌<◌, ◌≤◌, ℕ, zero, suc, List, [], ◌∷◌, length, Bool, true, false, Option, Some, None, pos, slice_get, refl, sym, subst, subst₂, ◌∙◌, arith}
use Rattle.std.specs.Prelude.{All, IsSomeAnd, codes}
use Rattle.std.specs.Cmp.{first_so, second_so}
use Rattle.std.specs.Cmp.Lexicographic.{pointwise}
use Rattle.std.specs.List.{list_all}
use Rattle.std.proofs.lemmas.List.Elements.{All-cons, All-nil}
use Rattle.std.proofs.lemmas.Option.{none-some, same_Some}
use Rattle.sk_base.specs.declared.number.Op.TheVariants.{Add, Sub, Mul, Div}
use Rattle.sk_base.specs.declared.number.Ty.{Ty}
use Rattle.sk_base.specs.declared.number.Ty.TheVariants.{Int}
use Rattle.sk_isa.specs.Objects.{is_marked, operator_at}
use Rattle.sk_isa.specs.SoundObjects.{HasSoundFunctions, IsSoundPlan}
use Rattle.sk_isa.specs.Soundness.{IsFineAt, IsSoundCode, Left, LoopsTakeTurns, leads_to, left_by, serves}
use Rattle.sk_isa.specs.declared.code.Code.{Code}
use Rattle.sk_isa.specs.declared.code.Instr.{Instr}
use Rattle.sk_isa.specs.declared.code.Instr.TheVariants.{Push, Load, Field, Binary, Jump, Zero, Ret}
use Rattle.sk_isa.specs.declared.object.Object.{Object}
use Rattle.sk_isa.specs.declared.object.Signature.{Signature}
use Rattle.sk_vm.specs.Places.{TakesPlaces, takes_places}
use Rattle.sk_index_rows.specs.IndexedObject.{IsIndexed, adding, index_and_int, indexed_object, parting, taking}

-- code without jumps has no loop
abbrev no_jump : Instr → Bool
no_jump (Jump to) = false
no_jump (Zero to) = false
no_jump instr = true

never : (instrs : List Instr) (at : ℕ) (instr : Instr) → list_all no_jump instrs ≡ true → slice_get instrs at ≡ Some instr → no_jump instr ≡ true
never [] at instr all is = absurd (none-some instr is)
never (first ∷ rest) zero instr all is = subst (λ (i : Instr). no_jump i ≡ true) (same_Some first instr is) (first_so (no_jump first) (list_all no_jump rest) all)
never (first ∷ rest) (suc at) instr all is = never rest at instr (second_so (no_jump first) (list_all no_jump rest) all) is

no_loops : (instrs : List Instr) → list_all no_jump instrs ≡ true → LoopsTakeTurns instrs
no_loops instrs all at target jumps behind = elim jumps [
  | inl is ↦ let no : false ≡ true = never instrs at (Jump target) all is in let wrong : ⊥ = cc in absurd wrong
  | inr is ↦ let no : false ≡ true = never instrs at (Zero target) all is in let wrong : ⊥ = cc in absurd wrong
]

-- the types at the addresses of straight code
module _ (effect_of : Instr → List Ty → Left) (code : Code) (stacks : List (List Ty)) where
  fine : (at : ℕ) (types left : List Ty) (instr : Instr) → slice_get stacks at ≡ Some types → slice_get code.instrs at ≡ Some instr
      → length types ≤ code.depth → effect_of instr types ≡ Some left → leads_to instr at ≡ suc at ∷ []
      → slice_get stacks (suc at) ≡ Some left → pointwise serves left left ≡ true
      → (found : List Ty) → slice_get stacks at ≡ Some found → IsFineAt effect_of code (λ at. slice_get stacks at) at found
  fine at types left instr here is bounded effect leads next serve found found_is =
      let P : ℕ → Type 0 = λ to. IsSomeAnd (slice_get stacks to) (λ after. pointwise serves left after ≡ true) in
      subst (λ (t : List Ty). IsFineAt effect_of code (λ at. slice_get stacks at) at t) (same_Some types found (sym here ∙ found_is)) (record {
        instr = instr;
        found = is;
        bounded = bounded;
        left = left;
        effect = effect;
        leads = subst (All P) (sym leads)
            (All-cons P (suc at) [] (subst (λ (o : Option (List Ty)). IsSomeAnd o (λ after. pointwise serves left after ≡ true)) (sym next) serve) (All-nil P));
      })

  ends : (at : ℕ) (types left : List Ty) → slice_get stacks at ≡ Some types → slice_get code.instrs at ≡ Some Ret
      → length types ≤ code.depth → effect_of Ret types ≡ Some left
      → (found : List Ty) → slice_get stacks at ≡ Some found → IsFineAt effect_of code (λ at. slice_get stacks at) at found
  ends at types left here is bounded effect found found_is =
      subst (λ (t : List Ty). IsFineAt effect_of code (λ at. slice_get stacks at) at t) (same_Some types found (sym here ∙ found_is)) (record {
        instr = Ret;
        found = is;
        bounded = bounded;
        left = left;
        effect = effect;
        leads = All-nil (λ (to : ℕ). IsSomeAnd (slice_get stacks to) (λ after. pointwise serves left after ≡ true));
      })

abbrev signatures : List Signature
signatures = indexed_object.signatures

abbrev adding_effect : Instr → List Ty → Left
adding_effect = left_by (record { signatures = signatures; function = 0; own = taking index_and_int })

abbrev adding_stacks : List (List Ty)
adding_stacks = [] ∷ (Int ∷ []) ∷ (Int ∷ Int ∷ []) ∷ (Int ∷ []) ∷ (Int ∷ Int ∷ []) ∷ (Int ∷ []) ∷ []

adding_fine : (at : ℕ) (types : List Ty) → slice_get adding_stacks at ≡ Some types → IsFineAt adding_effect adding (λ at. slice_get adding_stacks at) at types
adding_fine zero = fine adding_effect adding adding_stacks 0 [] (Int ∷ []) (Field 0 (codes "i")) refl refl (omega arith) refl refl refl refl
adding_fine (suc zero) = fine adding_effect adding adding_stacks 1 (Int ∷ []) (Int ∷ Int ∷ []) (Push (pos 2)) refl refl (omega arith) refl refl refl refl
adding_fine (suc (suc zero)) = fine adding_effect adding adding_stacks 2 (Int ∷ Int ∷ []) (Int ∷ []) (Binary Mul Int) refl refl (omega arith) refl refl refl refl
adding_fine (suc (suc (suc zero))) = fine adding_effect adding adding_stacks 3 (Int ∷ []) (Int ∷ Int ∷ []) (Load 1) refl refl (omega arith) refl refl refl refl
adding_fine (suc (suc (suc (suc zero)))) = fine adding_effect adding adding_stacks 4 (Int ∷ Int ∷ []) (Int ∷ []) (Binary Add Int) refl refl (omega arith) refl refl refl refl
adding_fine (suc (suc (suc (suc (suc zero))))) = ends adding_effect adding adding_stacks 5 (Int ∷ []) [] refl refl (omega arith) refl
adding_fine (suc (suc (suc (suc (suc (suc more)))))) = λ types is. absurd (none-some types is)

adding_sound : IsSoundCode signatures 0 (taking index_and_int) adding
adding_sound = record {
  types = record { chosen = λ at. slice_get adding_stacks at; start = refl; each = adding_fine };
  names = refl;
  loops = no_loops adding.instrs refl;
  slots = (refl, (refl, record {}));
  kinds = refl;
  count = refl;
  params = omega arith;
}

abbrev parting_effect : Instr → List Ty → Left
parting_effect = left_by (record { signatures = signatures; function = 1; own = taking index_and_int })

abbrev parting_stacks : List (List Ty)
parting_stacks = [] ∷ (Int ∷ []) ∷ (Int ∷ Int ∷ []) ∷ (Int ∷ Int ∷ Int ∷ []) ∷ (Int ∷ Int ∷ []) ∷ (Int ∷ []) ∷ []

parting_fine : (at : ℕ) (types : List Ty) → slice_get parting_stacks at ≡ Some types → IsFineAt parting_effect parting (λ at. slice_get parting_stacks at) at types
parting_fine zero = fine parting_effect parting parting_stacks 0 [] (Int ∷ []) (Push (pos 100)) refl refl (omega arith) refl refl refl refl
parting_fine (suc zero) = fine parting_effect parting parting_stacks 1 (Int ∷ []) (Int ∷ Int ∷ []) (Field 0 (codes "i")) refl refl (omega arith) refl refl refl refl
parting_fine (suc (suc zero)) = fine parting_effect parting parting_stacks 2 (Int ∷ Int ∷ []) (Int ∷ Int ∷ Int ∷ []) (Push (pos 5)) refl refl (omega arith) refl refl refl refl
parting_fine (suc (suc (suc zero))) = fine parting_effect parting parting_stacks 3 (Int ∷ Int ∷ Int ∷ []) (Int ∷ Int ∷ []) (Binary Sub Int) refl refl (omega arith) refl refl refl refl
parting_fine (suc (suc (suc (suc zero)))) = fine parting_effect parting parting_stacks 4 (Int ∷ Int ∷ []) (Int ∷ []) (Binary Div Int) refl refl (omega arith) refl refl refl refl
parting_fine (suc (suc (suc (suc (suc zero))))) = ends parting_effect parting parting_stacks 5 (Int ∷ []) [] refl refl (omega arith) refl
parting_fine (suc (suc (suc (suc (suc (suc more)))))) = λ types is. absurd (none-some types is)

parting_sound : IsSoundCode signatures 1 (taking index_and_int) parting
parting_sound = record {
  types = record { chosen = λ at. slice_get parting_stacks at; start = refl; each = parting_fine };
  names = refl;
  loops = no_loops parting.instrs refl;
  slots = (refl, (refl, record {}));
  kinds = refl;
  count = refl;
  params = omega arith;
}

sound_code : (function : ℕ) (code : Code) (own : Signature) → slice_get indexed_object.functions function ≡ Some code → slice_get signatures function ≡ Some own
    → IsSoundCode signatures function own code
sound_code zero code own is of =
    subst₂ (λ (c : Code) (o : Signature). IsSoundCode signatures 0 o c) (same_Some adding code is) (same_Some (taking index_and_int) own of) adding_sound
sound_code (suc zero) code own is of =
    subst₂ (λ (c : Code) (o : Signature). IsSoundCode signatures 1 o c) (same_Some parting code is) (same_Some (taking index_and_int) own of) parting_sound
sound_code (suc (suc more)) code own is of = absurd (none-some code is)

unmarked : (function : ℕ) → is_marked indexed_object function ≡ false
unmarked zero = refl
unmarked (suc zero) = refl
unmarked (suc (suc more)) = refl

no_operator : (function : ℕ) → operator_at indexed_object function ≡ None
no_operator zero = refl
no_operator (suc zero) = refl
no_operator (suc (suc more)) = refl

indexed_sound : HasSoundFunctions indexed_object
indexed_sound = record {
  functions = sound_code;
  signatures = refl;
  safe = refl;
  operators = refl;
  names = refl;
  marks = λ function marked. let no : false ≡ true = sym (unmarked function) ∙ marked in let wrong : ⊥ = cc in absurd wrong;
  listed = λ function operator is. absurd (none-some operator (sym (no_operator function) ∙ is));
  instances = All-nil (IsSoundPlan indexed_object);
}

indexed_places : TakesPlaces indexed_object
indexed_places =
    let P : Signature → Type 0 = λ s. takes_places s.slots ≡ true in
    All-cons P (taking index_and_int) (taking index_and_int ∷ taking [] ∷ []) refl
    (All-cons P (taking index_and_int) (taking [] ∷ []) refl (All-cons P (taking []) [] refl (All-nil P)))

pub is-indexed : (object : Object) → object ≡ indexed_object → IsIndexed object
is-indexed object is = record { same = is; sound = subst HasSoundFunctions (sym is) indexed_sound; parameters = subst TakesPlaces (sym is) indexed_places }

-- a function of the program is there
pub indexed-there : (object : Object) (function : ℕ) → IsIndexed object → function < 2 → function < length object.functions
indexed-there object function indexed below = rw (indexed.same) below
