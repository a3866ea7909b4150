-- The values that statements of main take.
use Rattle.std.proofs.Common.{◌≡◌, ℕ, zero, suc, ◌+◌, max, List, [], ◌∷◌, ◌++◌, length, map, take, drop, Option, Some, None, refl, sym, ap, ◌∙◌, arith, pos, length-append, append_assoc}
use Rattle.std.proofs.lemmas.List.{map-append, take-append-drop, length-map}
use Rattle.sk_base.specs.declared.number.Ty.{Ty}
use Rattle.sk_isa.specs.declared.code.Instr.{Instr}
use Rattle.sk_isa.specs.declared.code.Instr.TheVariants as instr
use Rattle.sk_main_scheme.specs.MainScheme.{Around, Named, Number, Whole, Called, Made, main_piece, make_code, operands_of, containers_of}
use Rattle.sk_main_emitter.specs.Statements.{fill_code, do_made, do_named_depth}
use Rattle.sk_main_emitter.specs.Names.{uniform_kinds}
use Rattle.sk_scheme.specs.Pieces.{Placed, Piece, then_code, places_code, wanted_code, arguments_code, parts_depth}
use Rattle.sk_tree.specs.declared.tree.Expr.{Expr}
use Rattle.sk_tree.specs.declared.tree.ParamKind.{ParamKind}

-- code behind code
pub joined-code : (base one c1 c2 : List Instr) (rest : Placed) → c1 ≡ base ++ one → c2 ≡ c1 ++ rest (length c1)
    → c2 ≡ base ++ then_code one rest (length base)
joined-code base one c1 c2 rest e1 e2 =
    e2 ∙ ap (λ n. c1 ++ rest n) (ap length e1 ∙ length-append base one) ∙ ap (λ l. l ++ rest (length base + length one)) e1
    ∙ append_assoc base one (rest (length base + length one))

nothing : (n : ℕ) → n ≡ max 0 (0 + n)
nothing n = omega arith

-- the depth of values with further ones behind them
pub parts-behind : (front back : List (Piece Around)) (around : Around)
    → parts_depth (front ++ back) around ≡ max (parts_depth front around) (length front + parts_depth back around)
parts-behind [] back around = nothing (parts_depth back around)
parts-behind (part ∷ front) back around =
    deeper (part.depth around) (parts_depth front around) (length front) (parts_depth back around) (parts_depth (front ++ back) around)
    (parts-behind front back around)
  where
    deeper : (own inner n back all : ℕ) → all ≡ max inner (n + back) → max own (suc all) ≡ max (max own (suc inner)) (suc n + back)
    deeper own inner n back all is = omega (arith, is)

-- places, and a value behind them
pub poked-depth : (places : List Expr) (value : Expr) (around : Around) (first last above depth : ℕ)
    → first ≡ parts_depth (map main_piece places) around → last ≡ (main_piece value).depth around
    → above ≡ length places + max last 1 → depth ≡ max first above
    → depth ≡ parts_depth (map main_piece (places ++ value ∷ [])) around
poked-depth places value around first last above depth is_first is_last is_above deepest =
    deepest ∙ ap (λ n. max n above) is_first ∙ ap (λ n. max (parts_depth (map main_piece places) around) n) is_above
    ∙ ap (λ n. max (parts_depth (map main_piece places) around) (length places + max n 1)) is_last
    ∙ ap (λ n. max (parts_depth (map main_piece places) around) (n + max ((main_piece value).depth around) 1)) (sym (length-map places main_piece))
    ∙ sym (parts-behind (map main_piece places) (main_piece value ∷ []) around)
    ∙ ap (λ (parts : List (Piece Around)). parts_depth parts around) (sym (map-append main_piece places (value ∷ [])))

-- sizes, and a fill value or nothing behind them
pub sized-code : (ty : Ty) (kind : ℕ) (arguments : List Expr) (around : Around) (at : ℕ)
    → then_code (places_code (map main_piece (take kind arguments)) around at) (fill_code ty (drop kind arguments) around) at
    ≡ make_code ty kind arguments around at
sized-code ty kind arguments around at = by (drop kind arguments)
  where
    sizes : List Instr
    sizes = places_code (map main_piece (take kind arguments)) around at

    by : (left : List Expr) → then_code sizes (fill_code ty left around) at ≡ elim left [
      | [] ↦ sizes ++ instr.Push (pos 0) ∷ []
      | fill ∷ more ↦ then_code sizes (wanted_code ty (main_piece fill) around) at
    ]
    by [] = refl
    by (fill ∷ more) = refl

pub sized-depth : (kind : ℕ) (arguments : List Expr) (around : Around) (first last sum above depth deepest : ℕ)
    → first ≡ parts_depth (map main_piece (take kind arguments)) around
    → last ≡ parts_depth (map main_piece (drop kind arguments)) around
    → sum ≡ length (take kind arguments) + last → depth ≡ max first sum → above ≡ suc kind → deepest ≡ max above depth
    → deepest ≡ max (suc kind) (parts_depth (map main_piece arguments) around)
sized-depth kind arguments around first last sum above depth deepest is_first is_last is_sum is_depth is_above is_deepest =
    let front : List (Piece Around) = map main_piece (take kind arguments) in
    let back : List (Piece Around) = map main_piece (drop kind arguments) in
    let whole : map main_piece arguments ≡ front ++ back =
    ap (map main_piece) (sym (take-append-drop kind arguments)) ∙ map-append main_piece (take kind arguments) (drop kind arguments) in
    let all : parts_depth (map main_piece arguments) around ≡ max (parts_depth front around) (length front + parts_depth back around) =
    ap (λ (parts : List (Piece Around)). parts_depth parts around) whole ∙ parts-behind front back around in
    let sizes : length front ≡ length (take kind arguments) = length-map (take kind arguments) main_piece in
    joined kind (parts_depth (map main_piece arguments) around) (parts_depth front around) (parts_depth back around) (length front)
    (length (take kind arguments)) first last sum above depth deepest all sizes is_first is_last is_sum is_depth is_above is_deepest
  where
    joined : (kind all f b n m first last sum above depth deepest : ℕ) → all ≡ max f (n + b) → n ≡ m → first ≡ f → last ≡ b
        → sum ≡ m + last → depth ≡ max first sum → above ≡ suc kind → deepest ≡ max above depth → deepest ≡ max (suc kind) all
    joined kind all f b n m first last sum above depth deepest e1 e2 e3 e4 e5 e6 e7 e8 = omega arith

-- the most values on the stack in a call statement
pub done-depth : (named : Option Named) (parts : List (Piece Around)) (around : Around) → do_named_depth named parts around ≡ elim named [
  | Some named ↦ elim named [
    | Called made ↦ parts_depth (drop (suc (operands_of made)) parts) around
    | Number slot ty ↦ 0
    | Whole container ty ↦ 0
  ]
  | None ↦ 0
]
done-depth (Some (Called made)) parts around = refl
done-depth (Some (Number slot ty)) parts around = refl
done-depth (Some (Whole container ty)) parts around = refl
done-depth None parts around = refl

-- a call statement of an instance
pub called-code : (made : Made) (parts passed values : List (Piece Around)) (around : Around) (old middle new : List Instr) (count : ℕ)
    (kinds : List ParamKind) (numbers : List ℕ) (uniforms : ℕ)
    → count ≡ suc (operands_of made) → kinds ≡ uniform_kinds made → passed ≡ take count parts → values ≡ drop count parts
    → middle ≡ old ++ arguments_code kinds values around (length old)
    → numbers ≡ containers_of around passed → uniforms ≡ length values
    → new ≡ middle ++ instr.Do made.number numbers uniforms ∷ []
    → new ≡ old ++ do_made made parts around (length old)
called-code made parts passed values around old middle new count kinds numbers uniforms e1 e2 e3 e4 e5 e6 e7 e8 =
    let k : ℕ = suc (operands_of made) in
    let front : passed ≡ take k parts = e3 ∙ ap (λ n. take n parts) e1 in
    let back : values ≡ drop k parts = e4 ∙ ap (λ n. drop n parts) e1 in
    let arguments : List Instr = arguments_code (uniform_kinds made) (drop k parts) around (length old) in
    let containers : List ℕ = containers_of around (take k parts) in
    let appended : middle ≡ old ++ arguments =
    e5 ∙ ap (λ (ks : List ParamKind). old ++ arguments_code ks values around (length old)) e2
    ∙ ap (λ (vs : List (Piece Around)). old ++ arguments_code (uniform_kinds made) vs around (length old)) back in
    e8 ∙ ap (λ l. l ++ instr.Do made.number numbers uniforms ∷ []) appended
    ∙ ap (λ c. (old ++ arguments) ++ instr.Do made.number c uniforms ∷ []) (e6 ∙ ap (containers_of around) front)
    ∙ ap (λ n. (old ++ arguments) ++ instr.Do made.number containers n ∷ []) (e7 ∙ ap length back)
    ∙ append_assoc old arguments (instr.Do made.number containers (length (drop k parts)) ∷ [])
