-- The object that a program is compiled to has the program's functions, instances and main, with all marks.
use Rattle.std.proofs.Common.{◌≡◌, ℕ, zero, suc, ◌+◌, List, [], ◌∷◌, ◌++◌, length, map, reverse, Option, Some, None, refl, sym, ap, ◌∙◌, subst, arith}
use Rattle.std.proofs.lemmas.List.{length-reverse, reverse-append}
use Rattle.std.proofs.lemmas.Option.{slice_get-map}
use Rattle.std.specs.List.{list_all}
use Rattle.std.specs.Option.{option_map}
use Rattle.std.specs.Prelude.{true, false, Bool, ◌&&◌, slice_get, slice_index_or}
use Rattle.sk_isa.specs.Objects.{function_at, is_marked, no_signature, signature_at}
use Rattle.sk_isa.specs.declared.object.Object.{Object}
use Rattle.sk_isa.specs.declared.object.Signature.{Signature}
use Rattle.sk_main_code.specs.MainSoundness.{names_in_main}
use Rattle.sk_main_fits.specs.Mains.{known_in, main_of}
use Rattle.sk_main_fits.specs.Vectors.{IsMapOf, IsOfVectors}
use Rattle.sk_main_names.proofs.Functions.{main_is}
use Rattle.sk_main_runs.specs.RunsAlike.{judgements_in}
use Rattle.sk_main_runs.specs.Vectors.{IsCompiledFrom, IsPlanOf}
use Rattle.sk_main_scheme.specs.MainScheme.{Emitted, main_emitted}
use Rattle.sk_main_scheme.specs.Objects.{object_of, offering}
use Rattle.sk_names.specs.Bindings.{bound_to}
use Rattle.sk_names.specs.Bytes.{same_bytes}
use Rattle.sk_plain.proofs.Bindings.{bound_to-here}
use Rattle.sk_plain.proofs.Lists.{slice_get-at, slice_get-front}
use Rattle.sk_plain.proofs.Truths.{some_same}
use Rattle.sk_plain.specs.Means.{MeansSource}
use Rattle.sk_safety.specs.Safety.{Judgement, Judgements, judgement_of, judgements_after, safe_functions, safe_in}
use Rattle.sk_scheme.specs.Plans.{first_kinds, functions_before_main, numbers_of, plan_of}
use Rattle.sk_scheme.specs.Scheme.{Known, kinds_of, known_after, known_functions, known_of, signature_of, signatures_after, signatures_of}
use Rattle.sk_tree.specs.Functions.{body_of}
use Rattle.sk_tree.specs.Skeletons.{elements_of}
use Rattle.sk_tree.specs.declared.tree.Function.{Function}
use Rattle.sk_tree.specs.declared.tree.Instance as instances
use Rattle.sk_tree.specs.declared.tree.ParamKind.{ParamKind}
use Rattle.sk_tree.specs.declared.tree.Program.{Program}

-- a function that is known, by its number among the functions and among the judgements
record IsPlaced (functions : List Function) (earlier : Judgements) (name : List ℕ) (known : Known) : Type 0 where
  function : Function
  is : slice_get functions known.number ≡ Some function
  known_is : known ≡ known_of known.number function
  judged : List ℕ × Judgement
  judgement : bound_to name earlier ≡ Some judged.1
  marked : slice_get (reverse earlier) known.number ≡ Some judged

abbrev ArePlaced : List Function → List (List ℕ × Known) → Judgements → Type 0
ArePlaced functions knowns earlier = (name : List ℕ) (known : Known) → bound_to name knowns ≡ Some known → IsPlaced functions earlier name known

module _ (all : List Function) where
  placed_more : (number : ℕ) (function : Function) (judgement : Judgement) (knowns : List (List ℕ × Known)) (earlier : Judgements) → slice_get all number ≡ Some function → length earlier ≡ number
      → ArePlaced all knowns earlier → ArePlaced all ((function.name, known_of number function) ∷ knowns) ((function.name, judgement) ∷ earlier)
  placed_more number function judgement knowns earlier there size placed name known e = by_test (same_bytes function.name name) refl
    where
      turned : reverse ((function.name, judgement) ∷ earlier) ≡ reverse earlier ++ (function.name, judgement) ∷ []
      turned = reverse-append ((function.name, judgement) ∷ []) earlier

      by_test : (b : Bool) → same_bytes function.name name ≡ b → IsPlaced all ((function.name, judgement) ∷ earlier) name known
      by_test true s =
          let same : known_of number function ≡ known = some_same (known_of number function) known (sym (bound_to-here name function.name (function.name, known_of number function) knowns true refl s) ∙ e) in
          let number_is : number ≡ known.number = ap (λ (k : Known). k.number) same in
          record {
            function = function;
            is = ap (slice_get all) (sym number_is) ∙ there;
            known_is = sym same ∙ ap (λ n. known_of n function) number_is;
            judged = (function.name, judgement);
            judgement = bound_to-here name function.name (function.name, judgement) earlier true refl s;
            marked = ap (λ (l : Judgements). slice_get l known.number) turned ∙ slice_get-at (reverse earlier) (function.name, judgement) [] known.number (length-reverse earlier ∙ size ∙ number_is);
          }
      by_test false s =
          let p = placed name known (sym (bound_to-here name function.name (function.name, known_of number function) knowns false refl s) ∙ e) in
          record {
            function = p.function;
            is = p.is;
            known_is = p.known_is;
            judged = p.judged;
            judgement = bound_to-here name function.name (function.name, judgement) earlier false refl s ∙ p.judgement;
            marked = ap (λ (l : Judgements). slice_get l known.number) turned ∙ slice_get-front (reverse earlier) ((function.name, judgement) ∷ []) known.number p.judged p.marked;
          }

  placed_after : (functions : List Function) (number : ℕ) (knowns : List (List ℕ × Known)) (earlier : Judgements) → length earlier ≡ number
      → ((n : ℕ) (function : Function) → slice_get functions n ≡ Some function → slice_get all (number + n) ≡ Some function)
      → ArePlaced all knowns earlier → ArePlaced all (known_after number knowns functions) (judgements_after earlier functions)
  placed_after [] number knowns earlier size there placed = placed
  placed_after (first ∷ functions) number knowns earlier size there placed =
      let z : number + 0 ≡ number = omega arith in
      let here : slice_get all number ≡ Some first = ap (slice_get all) (sym z) ∙ there 0 first refl in
      placed_after functions (suc number) ((first.name, known_of number first) ∷ knowns) ((first.name, judgement_of earlier first) ∷ earlier) (ap suc size)
      (λ n function e. let m : suc number + n ≡ number + suc n = omega arith in ap (slice_get all) m ∙ there (suc n) function e)
      (placed_more number first (judgement_of earlier first) knowns earlier here size placed)

  all_placed : ArePlaced all (known_functions all) (judgements_after [] all)
  all_placed =
      placed_after all 0 [] [] refl (λ n function e. let z : 0 + n ≡ n = omega arith in ap (slice_get all) z ∙ e)
      (λ name known e. let no : ⊥ = cc in absurd no)

-- each function has its signature
record HasSignature (signatures : List Signature) (number : ℕ) (function : Function) : Type 0 where
  knowns : List (List ℕ × Known)
  is : slice_get signatures number ≡ Some (signature_of knowns function)

signature_there : (functions : List Function) (number : ℕ) (knowns : List (List ℕ × Known)) (n : ℕ) (function : Function) → slice_get functions n ≡ Some function
    → HasSignature (signatures_after number knowns functions) n function
signature_there [] number knowns n function e = let no : ⊥ = cc in absurd no
signature_there (first ∷ functions) number knowns zero function e =
    let same : first ≡ function = cc in record { knowns = knowns; is = ap (λ (f : Function). Some (signature_of knowns f)) same }
signature_there (first ∷ functions) number knowns (suc n) function e =
    let r = signature_there functions (suc number) ((first.name, known_of number first) ∷ knowns) n function e in record { knowns = r.knowns; is = r.is }

module _ (program : Program) where
  abbrev before : List Function
  before = functions_before_main program

  signature_is : (number : ℕ) (function : Function) → slice_get (functions_before_main program) number ≡ Some function
      → ((signature_at (object_of program) number).params ≡ kinds_of function.params) × ((signature_at (object_of program) number).ret ≡ function.ret)
  signature_is number function e =
      let r = signature_there (functions_before_main program) 0 [] number function e in
      let found : slice_get (object_of program).signatures number ≡ Some (signature_of r.knowns function) =
      slice_get-front (signatures_of (functions_before_main program)) _ number (signature_of r.knowns function) r.is in
      let at : signature_at (object_of program) number ≡ signature_of r.knowns function =
      ap (λ (o : Option Signature). elim o as (λ x. Signature) [ Some signature ↦ signature | None ↦ no_signature ]) found in
      (ap (λ (s : Signature). s.params) at, ap (λ (s : Signature). s.ret) at)

  -- a function that is known, in the object
  record IsThere (name : List ℕ) (known : Known) : Type 0 where
    params : (signature_at (object_of program) known.number).params ≡ known.kinds
    ret : (signature_at (object_of program) known.number).ret ≡ known.ret
    marked : is_marked (object_of program) known.number ≡ safe_in (judgements_in program) name

  there_of : (name : List ℕ) (known : Known) → bound_to name (known_in program) ≡ Some known → IsThere name known
  there_of name known e =
      let p = all_placed (functions_before_main program) name known e in
      let s = signature_is known.number p.function p.is in
      let mark : slice_get (safe_functions (functions_before_main program)) known.number ≡ Some p.judged.1.is_safe =
      slice_get-map (λ judged. judged.1.is_safe) (reverse (judgements_after [] (functions_before_main program))) known.number
      ∙ ap (option_map (λ (judged : List ℕ × Judgement). judged.1.is_safe)) p.marked in
      record {
        params = s.0 ∙ sym (ap (λ (k : Known). k.kinds) p.known_is);
        ret = s.1 ∙ sym (ap (λ (k : Known). k.ret) p.known_is);
        marked = ap (λ (o : Option Bool). elim o as (λ x. Bool) [ Some marked ↦ marked | None ↦ false ]) mark
            ∙ sym (ap (λ (o : Option Judgement). elim o as (λ x. Bool) [ Some judgement ↦ judgement.is_safe | None ↦ false ]) p.judgement);
      }

  plan_is : (number : ℕ) (instance : instances.Instance) → slice_get (main_of program).behind.instances number ≡ Some instance → IsMapOf (known_in program) instance
      → IsPlanOf (object_of program) program number instance
  plan_is number instance e m =
      let known : List (List ℕ × Known) = known_in program in
      let list : List instances.Instance = (main_emitted (known_functions (functions_before_main program)) (body_of (slice_get program.functions (length (functions_before_main program))))).behind.instances in
      let e1 : slice_get list number ≡ Some instance = ap (λ (x : Emitted). slice_get x.behind.instances number) (main_is program) ∙ e in
      let e2 : slice_get (map (plan_of known) list) number ≡ Some (plan_of known instance) = slice_get-map (plan_of known) list number ∙ ap (option_map (plan_of known)) e1 in
      let bare : Object = record (object_of program) { instances = map (plan_of known) list } in
      let e3 : slice_get (object_of program).instances number ≡ Some (offering bare (plan_of known instance)) =
      slice_get-map (offering bare) (map (plan_of known) list) number ∙ ap (option_map (offering bare)) e2 in
      let functions_are : numbers_of known instance.functions ≡ m.known.number ∷ [] =
      ap (numbers_of known) m.one ∙ ap (λ (o : Option Known). elim o as (λ x. List ℕ) [ Some function ↦ function.number ∷ [] | None ↦ [] ]) m.found in
      let kinds_are : first_kinds known instance.functions ≡ m.known.kinds =
      ap (first_kinds known) m.one ∙ ap (λ (o : Option Known). elim o as (λ x. List ParamKind) [ Some function ↦ function.kinds | None ↦ [] ]) m.found in
      let t = there_of m.name m.known m.found in
      record {
        plan = offering bare (plan_of known instance);
        there = e3;
        skeleton = refl;
        function = λ name k first found.
            let name_is : m.name ≡ name = some_same m.name name (sym (ap (λ (l : List (List ℕ)). slice_get l 0) m.one) ∙ first) in
            let same : m.known ≡ k = some_same m.known k (sym m.found ∙ ap (λ (n : List ℕ). bound_to n known) name_is ∙ found) in
            subst (λ (k : Known). (function_at (plan_of known instance) 0 ≡ k.number) × (elements_of instance.skeleton instance.numbers (first_kinds known instance.functions) ≡ elements_of instance.skeleton instance.numbers k.kinds)
            × ((signature_at (object_of program) k.number).params ≡ k.kinds) × ((signature_at (object_of program) k.number).ret ≡ k.ret)) same
            (ap (λ (l : List ℕ). slice_index_or l 0 0) functions_are, ap (elements_of instance.skeleton instance.numbers) kinds_are, t.params, t.ret);
        safe = ap (list_all (is_marked (object_of program))) functions_are ∙ ap (λ b. b && true) t.marked ∙ sym (ap (list_all (safe_in (judgements_in program))) m.one);
      }

  -- the object of a program of vectors, where its functions mean what their sources mean and main names what is there
  pub compiled_from : IsOfVectors program → MeansSource program (object_of program) → list_all (names_in_main (object_of program)) (object_of program).main.instrs ≡ true → IsCompiledFrom program (object_of program)
  compiled_from vectors means names = record {
    code = ap (λ (x : Emitted). x.code) (main_is program);
    slots = ap (λ (x : Emitted). length x.behind.slots) (main_is program);
    containers = ap (λ (x : Emitted). x.behind.containers) (main_is program);
    names = names;
    means = means;
    signatures = record { each = signature_is };
    plans = λ number instance e. plan_is number instance e (vectors.maps number instance e);
  }
