-- Names of main, and what stands for them in text order.
use Rattle.std.proofs.Common.{◌≡◌, ◌≤◌, ◌<◌, ◌⊎◌, inl, inr, ℕ, zero, suc, ◌+◌, ◌-◌, List, [], ◌∷◌, ◌++◌, length, take, drop, map, refl, sym, ap, ◌∙◌, arith, append-nil, length-append}
use Rattle.std.proofs.lemmas.Bool.{cases_lt}
use Rattle.std.proofs.lemmas.Grind.{flat_map-append}
use Rattle.std.proofs.lemmas.List.{drop-append-le, drop_all, take-append-le, take_all, length-map}
use Rattle.std.specs.List.{flat_map}
use Rattle.sk_isa.specs.declared.code.Instr.{Instr}
use Rattle.sk_isa.specs.declared.code.Instr.TheVariants as instr
use Rattle.sk_main_scheme.specs.MainScheme as scheme
use Rattle.sk_main_scheme.specs.MainScheme.{dropped}
use Rattle.sk_main_emitter.specs.Names.{named_of, named_in, in_order, drop_code}
use Rattle.sk_main_emitter.specs.declared.named.Named.{Named}
use Rattle.sk_main_emitter.specs.declared.named.Named.TheVariants.{Number, Whole, Called}

abbrev Scope : Type 0
Scope = List (List ℕ × Named)

in_order-length : (scope : Scope) → length (in_order scope) ≡ length scope
in_order-length [] = refl
in_order-length (binding ∷ earlier) =
    omega (arith, length-append (in_order earlier) (binding.1 ∷ []), in_order-length earlier)

-- the latest name is left out
latest : (n depth : ℕ) → depth ≤ n → suc n - depth ≡ suc (n - depth)
latest n depth fits = omega arith

-- of nothing nothing is left out
none : (n : ℕ) → 0 ≡ zero - suc n
none n = omega arith

-- the earliest names in text order are those of the earliest declarations
pub order_left : (scope : Scope) (depth : ℕ) → take depth (in_order scope) ≡ in_order (drop (length scope - depth) scope)
order_left [] depth = by depth
  where
    by : (depth : ℕ) → take depth [] ≡ in_order (drop (zero - depth) [])
    by zero = refl
    by (suc n) = ap (λ (k : ℕ). in_order (drop k [])) (none n)
order_left (binding ∷ earlier) depth = elim (cases_lt (length earlier) depth) [
  | inl above ↦
      (let all : length (in_order (binding ∷ earlier)) ≤ depth = omega (arith, in_order-length (binding ∷ earlier)) in
      let over : suc (length earlier) - depth ≡ 0 = omega arith in
      take_all depth (in_order (binding ∷ earlier)) all ∙ ap (λ n. in_order (drop n (binding ∷ earlier))) (sym over))
  | inr within ↦
      (let fits : depth ≤ length (in_order earlier) = omega (arith, in_order-length earlier) in
      take-append-le depth (in_order earlier) (binding.1 ∷ []) fits
      ∙ order_left earlier depth
      ∙ ap (λ n. in_order (drop n (binding ∷ earlier))) (sym (latest (length earlier) depth within)))
]

-- the end of one name more
one_more : (named : Named) (name : List ℕ) (more : List (List ℕ × scheme.Named))
    → dropped more ++ flat_map drop_code (named ∷ []) ≡ dropped ((name, named_of named) ∷ more)
one_more (Number slot ty) name more = append-nil (dropped more)
one_more (Whole container ty) name more = refl
one_more (Called made) name more = append-nil (dropped more)

-- the containers of the latest names end in text order
pub order_dropped : (scope : Scope) (depth : ℕ)
    → flat_map drop_code (drop depth (in_order scope)) ≡ dropped (take (length scope - depth) (named_in scope))
order_dropped [] depth = by depth
  where
    by : (depth : ℕ) → flat_map drop_code (drop depth []) ≡ dropped (take (zero - depth) (named_in []))
    by zero = refl
    by (suc n) = ap (λ (k : ℕ). dropped (take k (named_in []))) (none n)
order_dropped (binding ∷ earlier) depth = elim (cases_lt (length earlier) depth) [
  | inl above ↦
      (let all : length (in_order (binding ∷ earlier)) ≤ depth = omega (arith, in_order-length (binding ∷ earlier)) in
      let over : suc (length earlier) - depth ≡ 0 = omega arith in
      ap (flat_map drop_code) (drop_all depth (in_order (binding ∷ earlier)) all)
      ∙ ap (λ n. dropped (take n (named_in (binding ∷ earlier)))) (sym over))
  | inr within ↦
      (let fits : depth ≤ length (in_order earlier) = omega (arith, in_order-length earlier) in
      ap (flat_map drop_code) (drop-append-le depth (in_order earlier) (binding.1 ∷ []) fits)
      ∙ flat_map-append drop_code (drop depth (in_order earlier)) (binding.1 ∷ [])
      ∙ ap (λ l. l ++ flat_map drop_code (binding.1 ∷ [])) (order_dropped earlier depth)
      ∙ one_more binding.1 binding.0 (take (length earlier - depth) (named_in earlier))
      ∙ ap (λ n. dropped (take n (named_in (binding ∷ earlier)))) (sym (latest (length earlier) depth within)))
]
