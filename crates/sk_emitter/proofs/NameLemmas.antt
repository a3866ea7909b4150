-- What names are bound to, and which are left, where what they stand for is replaced.
use Rattle.std.proofs.Common.{◌≡◌, ◌-◌, length, drop, ℕ, Bool, true, false, List, [], ◌∷◌, Some, if◌then◌else◌, map, refl, sym, ◌∙◌, ap}
use Rattle.std.specs.Option.{option_map}
use Rattle.std.proofs.lemmas.List.{drop-map, length-map}
use Rattle.sk_names.specs.Bindings.{bound_to}
use Rattle.sk_names.specs.Bytes.{same_bytes}

-- what a name is bound to where each is replaced
pub bound_to-map : {X Y : Type 0} (f : X → Y) (name : List ℕ) (scope : List (List ℕ × X))
    → option_map f (bound_to name scope) ≡ bound_to name (map (λ binding. (binding.0, f binding.1)) scope)
bound_to-map f name [] = refl
bound_to-map {X} {Y} f name (binding ∷ earlier) = by (same_bytes binding.0 name) (bound_to-map f name earlier)
  where
    by : (t : Bool)
        → option_map f (bound_to name earlier) ≡ bound_to name (map (λ (b : List ℕ × X). (b.0, f b.1)) earlier)
        → option_map f (if t then Some binding.1 else bound_to name earlier)
        ≡ (if t then Some (f binding.1) else bound_to name (map (λ (b : List ℕ × X). (b.0, f b.1)) earlier))
    by true rest = refl
    by false rest = rest

-- what is left of a list where each is replaced
pub left-map : {X Y : Type 0} (f : X → Y) (depth : ℕ) (xs : List X)
    → map f (drop (length xs - depth) xs) ≡ drop (length (map f xs) - depth) (map f xs)
left-map f depth xs =
    sym (drop-map f (length xs - depth) xs) ∙ ap (λ n. drop (n - depth) (map f xs)) (sym (length-map xs f))
