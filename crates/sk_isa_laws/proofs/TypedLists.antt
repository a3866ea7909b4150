-- Lists of numbers and of arguments that are of given types.
use Rattle.std.proofs.Common.{◌≡◌, ℕ, zero, suc, ◌-◌, true, List, [], ◌∷◌, ◌++◌, length, take, drop, map, reverse, replicate, ℤ, pos, Some, IsSomeAnd, slice_get, slice_set, arith, ap, sym, refl, subst, subst₂}
use Rattle.std.specs.Cmp.{first_so, second_so}
use Rattle.std.proofs.lemmas.List.{reverse-append}
use Rattle.std.specs.Cmp.Lexicographic.{pointwise}
use Rattle.sk_base.specs.declared.number.Ty.{Ty}
use Rattle.sk_base.specs.Arithmetic.{InRange}
use Rattle.sk_meaning.specs.Evaluation.{Argument, Value, Place, Whole, Neighbours, number_in, kind_type}
use Rattle.sk_tree.specs.declared.tree.ParamKind.{ParamKind}
use Rattle.sk_tree.specs.declared.tree.ParamKind.TheVariants.{Scalar, Index, Proxy, Region}
use Rattle.sk_kernel.specs.Kernels.{AreOfTypes}
use Rattle.sk_isa.specs.Soundness.{serves, serve_for, AreSlots, SuitsParam, SuitParams}
use Rattle.sk_isa_laws.proofs.Values.{served, zero-in_range}

pub typed-length : (types : List Ty) (numbers : List ℤ) → AreOfTypes types numbers → length types ≡ length numbers
typed-length [] [] h = refl
typed-length [] (number ∷ numbers) h = absurd h
typed-length (ty ∷ types) [] h = absurd h
typed-length (ty ∷ types) (number ∷ numbers) h = ap suc (typed-length types numbers h.1)

pub typed-take : (count : ℕ) (types : List Ty) (numbers : List ℤ) → AreOfTypes types numbers → AreOfTypes (take count types) (take count numbers)
typed-take zero types numbers h = tt
typed-take (suc count) [] [] h = tt
typed-take (suc count) [] (number ∷ numbers) h = absurd h
typed-take (suc count) (ty ∷ types) [] h = absurd h
typed-take (suc count) (ty ∷ types) (number ∷ numbers) h = (h.0, typed-take count types numbers h.1)

pub typed-drop : (count : ℕ) (types : List Ty) (numbers : List ℤ) → AreOfTypes types numbers → AreOfTypes (drop count types) (drop count numbers)
typed-drop zero types numbers h = h
typed-drop (suc count) [] [] h = tt
typed-drop (suc count) [] (number ∷ numbers) h = absurd h
typed-drop (suc count) (ty ∷ types) [] h = absurd h
typed-drop (suc count) (ty ∷ types) (number ∷ numbers) h = typed-drop count types numbers h.1

pub typed-append : (types others : List Ty) (numbers more : List ℤ) → AreOfTypes types numbers → AreOfTypes others more → AreOfTypes (types ++ others) (numbers ++ more)
typed-append [] others [] more h g = g
typed-append [] others (number ∷ numbers) more h g = absurd h
typed-append (ty ∷ types) others [] more h g = absurd h
typed-append (ty ∷ types) others (number ∷ numbers) more h g = (h.0, typed-append types others numbers more h.1 g)

pub typed-reverse : (types : List Ty) (numbers : List ℤ) → AreOfTypes types numbers → AreOfTypes (reverse types) (reverse numbers)
typed-reverse [] [] h = tt
typed-reverse [] (number ∷ numbers) h = absurd h
typed-reverse (ty ∷ types) [] h = absurd h
typed-reverse (ty ∷ types) (number ∷ numbers) h =
    subst₂ AreOfTypes (sym (reverse-append (ty ∷ []) types)) (sym (reverse-append (number ∷ []) numbers))
    (typed-append (reverse types) (ty ∷ []) (reverse numbers) (number ∷ []) (typed-reverse types numbers h.1) (h.0, tt))

pub typed_at : (types : List Ty) (numbers : List ℤ) (k : ℕ) (ty : Ty) → AreOfTypes types numbers → slice_get types k ≡ Some ty
    → IsSomeAnd (slice_get numbers k) (InRange ty)
typed_at [] numbers k ty h e = cc
typed_at (own ∷ types) [] k ty h e = absurd h
typed_at (own ∷ types) (number ∷ numbers) zero ty h e = let same : own ≡ ty = cc in subst (λ (t : Ty). InRange t number) same h.0
typed_at (own ∷ types) (number ∷ numbers) (suc k) ty h e = typed_at types numbers k ty h.1 e

pub typed-set : (types : List Ty) (numbers : List ℤ) (k : ℕ) (ty : Ty) (value : ℤ) → AreOfTypes types numbers → slice_get types k ≡ Some ty
    → InRange ty value → AreOfTypes types (slice_set numbers k value)
typed-set [] numbers k ty value h e fits = cc
typed-set (own ∷ types) [] k ty value h e fits = absurd h
typed-set (own ∷ types) (number ∷ numbers) zero ty value h e fits =
    let same : own ≡ ty = cc in (subst (λ (t : Ty). InRange t value) (sym same) fits, h.1)
typed-set (own ∷ types) (number ∷ numbers) (suc k) ty value h e fits = (h.0, typed-set types numbers k ty value h.1 e fits)

-- types that serve
pub typed-served : (types wanted : List Ty) (numbers : List ℤ) → pointwise serves types wanted ≡ true → AreOfTypes types numbers → AreOfTypes wanted numbers
typed-served [] [] numbers s h = h
typed-served [] (want ∷ wanted) numbers s h = cc
typed-served (ty ∷ types) [] numbers s h = cc
typed-served (ty ∷ types) (want ∷ wanted) [] s h = absurd h
typed-served (ty ∷ types) (want ∷ wanted) (number ∷ numbers) s h = (
  served ty want number (first_so (serves ty want) (pointwise serves types wanted) s) h.0,
  typed-served types wanted numbers (second_so (serves ty want) (pointwise serves types wanted) s) h.1,
)

pub typed_arguments : (types : List Ty) (kinds : List ParamKind) (numbers : List ℤ) → serve_for types kinds ≡ true → AreOfTypes types numbers
    → SuitParams kinds (map Value numbers)
typed_arguments [] [] [] s h = tt
typed_arguments [] [] (number ∷ numbers) s h = absurd h
typed_arguments [] (kind ∷ kinds) numbers s h = cc
typed_arguments (ty ∷ types) [] numbers s h = cc
typed_arguments (ty ∷ types) (kind ∷ kinds) [] s h = absurd h
typed_arguments (ty ∷ types) (Scalar wanted ∷ kinds) (number ∷ numbers) s h = (
  served ty wanted number (first_so (serves ty wanted) (serve_for types kinds) s) h.0,
  typed_arguments types kinds numbers (second_so (serves ty wanted) (serve_for types kinds) s) h.1,
)
typed_arguments (ty ∷ types) (Index dimension ∷ kinds) (number ∷ numbers) s h = cc
typed_arguments (ty ∷ types) (Proxy dimension element ∷ kinds) (number ∷ numbers) s h = cc
typed_arguments (ty ∷ types) (Region dimension element ∷ kinds) (number ∷ numbers) s h = cc

-- the argument of a parameter
pub suited_at : (kinds : List ParamKind) (arguments : List Argument) (k : ℕ) (kind : ParamKind) → SuitParams kinds arguments
    → slice_get kinds k ≡ Some kind → IsSomeAnd (slice_get arguments k) (SuitsParam kind)
suited_at [] arguments k kind h e = cc
suited_at (own ∷ kinds) [] k kind h e = absurd h
suited_at (own ∷ kinds) (argument ∷ arguments) zero kind h e =
    let same : own ≡ kind = cc in subst (λ (p : ParamKind). SuitsParam p argument) same h.0
suited_at (own ∷ kinds) (argument ∷ arguments) (suc k) kind h e = suited_at kinds arguments k kind h.1 e

pub suited-length : (kinds : List ParamKind) (arguments : List Argument) → SuitParams kinds arguments → length kinds ≡ length arguments
suited-length [] [] h = refl
suited-length [] (argument ∷ arguments) h = absurd h
suited-length (kind ∷ kinds) [] h = absurd h
suited-length (kind ∷ kinds) (argument ∷ arguments) h = ap suc (suited-length kinds arguments h.1)

-- the slots at the start
suited_number : (kind : ParamKind) (argument : Argument) → SuitsParam kind argument → InRange (kind_type kind) (number_in argument)
suited_number (Scalar ty) (Value value) h = h
suited_number (Index dimension) (Place place) h = zero-in_range (kind_type (Index dimension))
suited_number (Proxy dimension ty) (Whole sizes cells) h = zero-in_range ty
suited_number (Region dimension ty) (Neighbours overlaps at) h = zero-in_range ty
suited_number kind argument h = absurd h

zeros : (slots : List ParamKind) → AreOfTypes (map kind_type slots) (replicate (length slots) (pos 0))
zeros [] = tt
zeros (slot ∷ slots) = (zero-in_range (kind_type slot), zeros slots)

pub first_slots : (params slots : List ParamKind) (arguments : List Argument) → AreSlots params slots → SuitParams params arguments
    → AreOfTypes (map kind_type slots) (map number_in arguments ++ replicate (length slots - length arguments) (pos 0))
first_slots [] slots [] are h =
    subst (λ (count : ℕ). AreOfTypes (map kind_type slots) (replicate count (pos 0))) (none (length slots)) (zeros slots)
  where
    none : (a : ℕ) → a ≡ a - 0
    none a = omega arith
first_slots [] slots (argument ∷ arguments) are h = absurd h
first_slots (param ∷ params) [] arguments are h = absurd are
first_slots (param ∷ params) (slot ∷ slots) [] are h = absurd h
first_slots (param ∷ params) (slot ∷ slots) (argument ∷ arguments) are h = (
  subst (λ (kind : ParamKind). InRange (kind_type kind) (number_in argument)) are.0 (suited_number param argument h.0),
  subst (λ (rest : ℕ). AreOfTypes (map kind_type slots) (map number_in arguments ++ replicate rest (pos 0)))
      (less (length slots) (length arguments)) (first_slots params slots arguments are.1 h.1),
)
  where
    less : (a b : ℕ) → a - b ≡ suc a - suc b
    less a b = omega arith
