-- The functions of a sound object, each with those before it.
use Rattle.std.proofs.Common.{◌≡◌, ℕ, zero, suc, ◌<◌, ◌≤◌, ◌+◌, ◌⊎◌, List, [], ◌∷◌, ◌++◌, length, map, pos, Option, Some, None, Ok, IsSomeAnd, slice_get, arith, ap, sym, refl, subst, ◌∙◌, inl, inr, length-append}
use Rattle.std.proofs.lemmas.Option.{slice_get_within}
use Rattle.sk_meaning.specs.Evaluation.{Argument, Value}
use Rattle.sk_isa.specs.declared.code.Code.{Code}
use Rattle.sk_isa.specs.declared.object.Object.{Object}
use Rattle.sk_isa.specs.declared.object.Signature.{Signature}
use Rattle.sk_isa.specs.Coded.{Callee, callee_of, callees_below, code_value, function_of, routine_of, start_of, step_limit, with_callee}
use Rattle.sk_isa_laws.specs.Laws.{FunctionsHaveValues, IsReady, RunEnds}
use Rattle.sk_isa.specs.SoundObjects.{HasSoundFunctions}
use Rattle.sk_isa.specs.Soundness.{IsSoundCode, SuitParams}
use Rattle.sk_isa_laws.specs.Steps.{AreSoundCallees, IsSoundCallee}
use Rattle.sk_isa_laws.proofs.Runs.{run_ends}

-- the element at a place
pub there : {A : Type 0} (list : List A) (k : ℕ) → k < length list → (x : A) × (slice_get list k ≡ Some x)
there [] k h = absurd (omega arith)
there (x ∷ list) zero h = (x, refl)
there (x ∷ list) (suc k) h = there list k (omega arith)

earlier : {A : Type 0} (list more : List A) (k : ℕ) → k < length list → slice_get (list ++ more) k ≡ slice_get list k
earlier [] more k h = absurd (omega arith)
earlier (x ∷ list) more zero h = refl
earlier (x ∷ list) more (suc k) h = earlier list more k (omega arith)

last : {A : Type 0} (list : List A) (k : ℕ) (x : A) → length list ≡ k → slice_get (list ++ x ∷ []) k ≡ Some x
last [] zero x h = refl
last [] (suc k) x h = absurd (omega arith)
last (y ∷ list) zero x h = absurd (omega arith)
last (y ∷ list) (suc k) x h = last list k x (omega arith)

last_or_not : (a b : ℕ) → a < suc b → (a < b) ⊎ (a ≡ b)
last_or_not a b h = grind arith

-- one function more
pub callees-next : (signatures : List Signature) (codes : List Code) (below : ℕ) (own : Signature) (code : Code)
    → slice_get signatures below ≡ Some own → slice_get codes below ≡ Some code
    → callees_below signatures codes (suc below)
    ≡ callees_below signatures codes below ++ callee_of (callees_below signatures codes below) own code ∷ []
unfolding callees_below
callees-next signatures codes below own code is_own is_code =
    λ i. with_callee (callees_below signatures codes below) (is_own i) (is_code i)

pub callees-none : (signatures : List Signature) (codes : List Code) → callees_below signatures codes 0 ≡ []
unfolding callees_below
callees-none signatures codes = refl

-- lists of functions, each with a signature of its own
module _ (signatures : List Signature) (codes : List Code) (enough : length codes ≤ length signatures) where
  -- the function of a number
  record IsFunction (function : ℕ) : Type 0 where
    own : Signature
    code : Code
    is_own : slice_get signatures function ≡ Some own
    is_code : slice_get codes function ≡ Some code

  function_at : (function : ℕ) → function < length codes → IsFunction function
  function_at function less =
      let own : (x : Signature) × (slice_get signatures function ≡ Some x) = there signatures function (omega arith) in
      let code : (x : Code) × (slice_get codes function ≡ Some x) = there codes function less in
      record { own = own.0; code = code.0; is_own = own.1; is_code = code.1 }

  callees-length : (below : ℕ) → below ≤ length codes → length (callees_below signatures codes below) ≡ below
  callees-length zero upto = ap length (callees-none signatures codes)
  callees-length (suc below) upto = longer (function_at below (omega arith)) (callees-length below (omega arith))
    where
      longer : IsFunction below → length (callees_below signatures codes below) ≡ below → length (callees_below signatures codes (suc below)) ≡ suc below
      longer f h =
          ap length (callees-next signatures codes below f.own f.code f.is_own f.is_code)
          ∙ length-append (callees_below signatures codes below) (callee_of (callees_below signatures codes below) f.own f.code ∷ [])
          ∙ one (length (callees_below signatures codes below)) h
        where
          one : (n : ℕ) → n ≡ below → n + 1 ≡ suc below
          one n e = omega arith

  -- a function stays where it is
  callees-kept : (below function : ℕ) → function < below → suc below ≤ length codes
      → slice_get (callees_below signatures codes (suc below)) function ≡ slice_get (callees_below signatures codes below) function
  callees-kept below function less upto = kept (function_at below (omega arith))
    where
      within : function < length (callees_below signatures codes below)
      within = subst (λ (n : ℕ). function < n) (sym (callees-length below (omega arith))) less

      kept : IsFunction below → slice_get (callees_below signatures codes (suc below)) function ≡ slice_get (callees_below signatures codes below) function
      kept f = ap (λ (list : List Callee). slice_get list function) (callees-next signatures codes below f.own f.code f.is_own f.is_code)
          ∙ earlier (callees_below signatures codes below) (callee_of (callees_below signatures codes below) f.own f.code ∷ []) function within

  callees-last : (below : ℕ) (own : Signature) (code : Code) → suc below ≤ length codes → slice_get signatures below ≡ Some own → slice_get codes below ≡ Some code
      → slice_get (callees_below signatures codes (suc below)) below ≡ Some (callee_of (callees_below signatures codes below) own code)
  callees-last below own code upto is_own is_code =
      ap (λ (list : List Callee). slice_get list below) (callees-next signatures codes below own code is_own is_code)
      ∙ last (callees_below signatures codes below) below (callee_of (callees_below signatures codes below) own code) (callees-length below (omega arith))

  callees_at : (below function : ℕ) (own : Signature) (code : Code) → function < below → below ≤ length codes
      → slice_get signatures function ≡ Some own → slice_get codes function ≡ Some code
      → slice_get (callees_below signatures codes below) function ≡ Some (callee_of (callees_below signatures codes function) own code)
  callees_at zero function own code less upto is_own is_code = absurd (omega arith)
  callees_at (suc below) function own code less upto is_own is_code = elim (last_or_not function below less) [
    | inl before ↦ callees-kept below function before upto ∙ callees_at below function own code before (omega arith) is_own is_code
    | inr same ↦ subst (λ (f : ℕ). slice_get (callees_below signatures codes (suc below)) f ≡ Some (callee_of (callees_below signatures codes f) own code)) (sym same)
        (callees-last below own code upto (subst (λ (f : ℕ). slice_get signatures f ≡ Some own) same is_own)
        (subst (λ (f : ℕ). slice_get codes f ≡ Some code) same is_code))
  ]

  -- codes of which each is sound
  module _ (sound : (function : ℕ) (code : Code) (own : Signature) → slice_get codes function ≡ Some code → slice_get signatures function ≡ Some own
      → IsSoundCode signatures function own code) where
    callee_is_sound : (function : ℕ) (own : Signature) (code : Code) → AreSoundCallees signatures function (callees_below signatures codes function)
        → slice_get signatures function ≡ Some own → slice_get codes function ≡ Some code
        → IsSoundCallee own (callee_of (callees_below signatures codes function) own code)
    callee_is_sound function own code can_call is_own is_code = record {
      takes = refl;
      gives = λ values turns suits.
          (run_ends signatures function own code (callees_below signatures codes function) (map Value values) turns
          (record { sound = sound function code own is_code is_own; can_call = can_call; suits = suits })).given;
    }

    callees_are_sound : (below : ℕ) → below ≤ length codes → AreSoundCallees signatures below (callees_below signatures codes below)
    callees_are_sound zero upto = record { count = callees-length zero upto; each = λ callee signature less is. absurd (none callee less) }
      where
        none : (k : ℕ) → k < 0 → ⊥
        none k h = omega arith
    callees_are_sound (suc below) upto = one_more (callees_are_sound below (omega arith)) (function_at below (omega arith))
      where
        one_more : AreSoundCallees signatures below (callees_below signatures codes below) → IsFunction below
            → AreSoundCallees signatures (suc below) (callees_below signatures codes (suc below))
        one_more before f = record { count = callees-length (suc below) upto; each = each }
          where
            at_last : (signature : Signature) → slice_get signatures below ≡ Some signature
                → IsSomeAnd (slice_get (callees_below signatures codes (suc below)) below) (IsSoundCallee signature)
            at_last signature is =
                subst (λ (found : Option Callee). IsSomeAnd found (IsSoundCallee signature))
                (sym (callees-last below signature f.code upto is f.is_code))
                (callee_is_sound below signature f.code before is f.is_code)

            each : (callee : ℕ) (signature : Signature) → callee < suc below → slice_get signatures callee ≡ Some signature
                → IsSomeAnd (slice_get (callees_below signatures codes (suc below)) callee) (IsSoundCallee signature)
            each callee signature less is = elim (last_or_not callee below less) [
              | inl lower ↦ subst (λ (found : Option Callee). IsSomeAnd found (IsSoundCallee signature)) (sym (callees-kept below callee lower upto))
                  (before.each callee signature lower is)
              | inr same ↦ subst (λ (c : ℕ). IsSomeAnd (slice_get (callees_below signatures codes (suc below)) c) (IsSoundCallee signature)) (sym same)
                  (at_last signature (subst (λ (c : ℕ). slice_get signatures c ≡ Some signature) same is))
            ]

-- the value of a function of an object
pub function_of-code : (object : Object) (function : ℕ) (code : Code) (arguments : List Argument) (turns : ℕ) → slice_get object.functions function ≡ Some code
    → function_of object function arguments turns ≡ code_value (callees_below object.signatures object.functions function) code arguments turns
function_of-code object function code arguments turns is =
    ap (λ (found : Option Code). elim found [
      | Some code ↦ code_value (callees_below object.signatures object.functions function) code arguments turns
      | None ↦ Ok (pos 0, turns)
    ]) is

enough_signatures : (object : Object) → HasSoundFunctions object → length object.functions ≤ length object.signatures
enough_signatures object sound = let h : length object.signatures ≡ suc (length object.functions) = sound.signatures in omega arith

pub are_ready : (object : Object) → HasSoundFunctions object → (function : ℕ) (own : Signature) (code : Code) (arguments : List Argument)
    → slice_get object.signatures function ≡ Some own → slice_get object.functions function ≡ Some code → SuitParams own.params arguments
    → IsReady object.signatures function own code (callees_below object.signatures object.functions function) arguments
are_ready object sound function own code arguments is_own is_code suits = record {
  sound = sound.functions function code own is_code is_own;
  can_call = callees_are_sound object.signatures object.functions (enough_signatures object sound) sound.functions function
      (upto (slice_get_within object.functions function code is_code));
  suits = suits;
}
  where
    upto : function < length object.functions → function ≤ length object.functions
    upto h = omega arith

pub functions_have_values : (object : Object) → HasSoundFunctions object → FunctionsHaveValues object
functions_have_values object sound = record {
  count = callees-length object.signatures object.functions (enough_signatures object sound);
  each = callees_at object.signatures object.functions (enough_signatures object sound);
  sound = callees_are_sound object.signatures object.functions (enough_signatures object sound) sound.functions;
  values = λ function own code arguments turns is_own is_code suits.
      subst (λ value. RunEnds own (routine_of (callees_below object.signatures object.functions function) code arguments) (start_of code arguments turns)
      (step_limit code.instrs turns) turns value)
      (sym (function_of-code object function code arguments turns is_code))
      (run_ends object.signatures function own code (callees_below object.signatures object.functions function) arguments turns
      (are_ready object sound function own code arguments is_own is_code suits));
}
