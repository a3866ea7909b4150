-- The values of expressions one after another, and the code that pushes them.
use Rattle.std.proofs.Common.{◌≡◌, ℕ, suc, ◌+◌, List, [], ◌∷◌, ◌++◌, length, map, reverse, ℤ, refl, sym, ap, ◌∙◌, subst}
use Rattle.std.proofs.lemmas.List.{reverse-append}
use Rattle.std.specs.Prelude.{Result, Ok, Err, true, slice_index_or}
use Rattle.sk_base.specs.Arithmetic.{wrapped}
use Rattle.sk_base.specs.ArithmeticLaws.{wrapped-in_range, wrapped-same}
use Rattle.sk_base.specs.declared.number.Ty.{Ty}
use Rattle.sk_isa.specs.declared.object.Object.{Object}
use Rattle.sk_main_fits.specs.Fits.{fits, all_fit}
use Rattle.sk_main_run.specs.MainNames.{main_names}
use Rattle.sk_main_runs.proofs.Arguments.{GivesMany}
use Rattle.sk_main_runs.proofs.ExpressionRuns.{IsRun, Situation, around_of, expression_runs, arguments_compiled, places_compiled}
use Rattle.sk_main_runs.proofs.Runs.{IsLike}
use Rattle.sk_main_runs.specs.SameMeaning.{fitted}
use Rattle.sk_main_scheme.specs.MainScheme.{main_piece}
use Rattle.sk_meaning.specs.Expressions.{Names, meaning_of, values_of, then_do}
use Rattle.sk_plain.proofs.Parts.{exprs_of}
use Rattle.sk_scheme.specs.Pieces.{places_code, arguments_code}
use Rattle.sk_scheme.specs.Scheme.{Known}
use Rattle.sk_scheme_runs.proofs.Runs.{HasAt}
use Rattle.sk_tree.specs.declared.tree.Expr.{Expr}
use Rattle.sk_tree.specs.declared.tree.ParamKind.{ParamKind}
use Rattle.sk_world.specs.World.{World, Over}

-- a value that was converted is converted to the same
pub wrapped-twice : (ty : Ty) (v : ℤ) → wrapped ty (wrapped ty v) ≡ wrapped ty v
wrapped-twice ty v = wrapped-same ty (wrapped ty v) (wrapped-in_range ty v)

-- the element behind others
pub at-seam : (vs : List ℤ) (v d : ℤ) → slice_index_or (vs ++ v ∷ []) (length vs) d ≡ v
at-seam [] v d = refl
at-seam (x ∷ vs) v d = at-seam vs v d

-- one more value on the stack
pub pushed-last : (vs stack : List ℤ) (v : ℤ) → v ∷ (reverse vs ++ stack) ≡ reverse (vs ++ v ∷ []) ++ stack
pushed-last vs stack v = ap (λ (l : List ℤ). l ++ stack) (sym (reverse-append vs (v ∷ [])))

abbrev Evaluated : Type 0
Evaluated = Result (List ℤ × World) Over

then-same : (o : Evaluated) → then_do o (λ us w. Ok (us, w)) ≡ o
then-same (Ok done) = refl
then-same (Err over) = refl

-- values in front of values
abbrev pub values_then : Evaluated → (World → Evaluated) → Evaluated
values_then o next = then_do o (λ vs w. then_do (next w) (λ us w. Ok (vs ++ us, w)))

front : (v : ℤ) (o : Evaluated) (next : World → Evaluated)
    → then_do (values_then o next) (λ vs w. Ok (v ∷ vs, w)) ≡ values_then (then_do o (λ vs w. Ok (v ∷ vs, w))) next
front v (Ok done) next = by (next done.1)
  where
    by : (q : Evaluated) → then_do (then_do q (λ us w. Ok (done.0 ++ us, w))) (λ vs w. Ok (v ∷ vs, w)) ≡ then_do q (λ us w. Ok ((v ∷ done.0) ++ us, w))
    by (Ok one) = refl
    by (Err over) = refl
front v (Err over) next = refl

-- the values of expressions, and of others behind them
pub values-append : (xs ys : List Expr) (names : Names World Over) (world : World)
    → values_of (map meaning_of (xs ++ ys)) names world ≡ values_then (values_of (map meaning_of xs) names world) (values_of (map meaning_of ys) names)
values-append [] ys names world = sym (then-same (values_of (map meaning_of ys) names world))
values-append (x ∷ xs) ys names world = by ((meaning_of x).value names world) (λ w. values-append xs ys names w)
  where
    by : (o : Result (ℤ × World) Over)
        → ((w : World) → values_of (map meaning_of (xs ++ ys)) names w ≡ values_then (values_of (map meaning_of xs) names w) (values_of (map meaning_of ys) names))
        → then_do o (λ v w. then_do (values_of (map meaning_of (xs ++ ys)) names w) (λ vs w. Ok (v ∷ vs, w)))
        ≡ values_then (then_do o (λ v w. then_do (values_of (map meaning_of xs) names w) (λ vs w. Ok (v ∷ vs, w)))) (values_of (map meaning_of ys) names)
    by (Ok done) same =
        ap (λ (r : Evaluated). then_do r (λ vs w. Ok (done.0 ∷ vs, w))) (same done.1)
        ∙ front done.0 (values_of (map meaning_of xs) names done.1) (values_of (map meaning_of ys) names)
    by (Err over) same = refl

module _ (object : Object) (functions : List (List ℕ × Known)) where
  abbrev Parts : Type 0
  Parts = List ((e : Expr) × IsRun object functions e)

  with_runs : List Expr → Parts
  with_runs [] = []
  with_runs (e ∷ es) = (e, expression_runs object functions e) ∷ with_runs es

  without_runs : (es : List Expr) → exprs_of (with_runs es) ≡ es
  unfolding with_runs
  without_runs [] = refl
  without_runs (e ∷ es) = ap (λ l. e ∷ l) (without_runs es)

  runs-length : (es : List Expr) → length (with_runs es) ≡ length es
  unfolding with_runs
  runs-length [] = refl
  runs-length (e ∷ es) = ap suc (runs-length es)

  -- expressions, each as it is
  pub places_give : (es : List Expr) (s : Situation object functions) → all_fit (map fits es) (around_of object functions s) ≡ true
      → (at : ℕ) (stack : List ℤ) (world : World) → IsLike s.state.world world → HasAt object.main.instrs at (places_code (map main_piece es) (around_of object functions s) at)
      → GivesMany object (λ vs. vs) (length es) s.slots at stack world (at + length (places_code (map main_piece es) (around_of object functions s) at)) (values_of (map meaning_of es) (main_names s.state) world)
  places_give es s fit at stack world like has =
      subst (λ n. GivesMany object (λ vs. vs) n s.slots at stack world (at + length (places_code (map main_piece es) (around_of object functions s) at)) (values_of (map meaning_of es) (main_names s.state) world)) (runs-length es)
      ((subst (λ (l : List Expr). all_fit (map fits l) (around_of object functions s) ≡ true → HasAt object.main.instrs at (places_code (map main_piece l) (around_of object functions s) at)
      → GivesMany object (λ vs. vs) (length (with_runs es)) s.slots at stack world (at + length (places_code (map main_piece l) (around_of object functions s) at)) (values_of (map meaning_of l) (main_names s.state) world))
      (without_runs es) (λ fit has. places_compiled object functions (with_runs es) s fit at stack world like has)) fit has)

  -- arguments for parameters
  pub arguments_give : (es : List Expr) (kinds : List ParamKind) (s : Situation object functions) → all_fit (map fits es) (around_of object functions s) ≡ true → length kinds ≡ length es
      → (at : ℕ) (stack : List ℤ) (world : World) → IsLike s.state.world world → HasAt object.main.instrs at (arguments_code kinds (map main_piece es) (around_of object functions s) at)
      → GivesMany object (fitted kinds) (length kinds) s.slots at stack world (at + length (arguments_code kinds (map main_piece es) (around_of object functions s) at)) (values_of (map meaning_of es) (main_names s.state) world)
  arguments_give es kinds s fit n at stack world like has =
      (subst (λ (l : List Expr). all_fit (map fits l) (around_of object functions s) ≡ true → HasAt object.main.instrs at (arguments_code kinds (map main_piece l) (around_of object functions s) at)
      → GivesMany object (fitted kinds) (length kinds) s.slots at stack world (at + length (arguments_code kinds (map main_piece l) (around_of object functions s) at)) (values_of (map meaning_of l) (main_names s.state) world))
      (without_runs es) (λ fit has. arguments_compiled object functions (with_runs es) kinds s fit (n ∙ sym (runs-length es)) at stack world like has)) fit has
