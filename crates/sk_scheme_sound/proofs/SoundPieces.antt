-- Pieces of code that stand at an address: the types of the stack that can be chosen for each of their addresses.
use Rattle.std.proofs.Common.{◌≡◌, ℕ, suc, ◌+◌, ◌≤◌, true, List, [], ◌∷◌, ◌++◌, length, map, All, IsSomeAnd, Option, Some, None, refl, sym, ap, subst, arith, length-append}
use Rattle.std.proofs.lemmas.Bool.{and_from}
use Rattle.std.proofs.lemmas.List.Elements.{All-nil}
use Rattle.std.specs.Cmp.Lexicographic.{pointwise}
use Rattle.sk_base.specs.declared.number.Ty.{Ty}
use Rattle.sk_base.specs.declared.number.Ty.TheVariants.{Int, Long}
use Rattle.sk_isa.specs.declared.code.Instr.{Instr}
use Rattle.sk_isa.specs.declared.code.Instr.TheVariants as instr
use Rattle.sk_isa.specs.Soundness.{Named, Types, leads_to, left_by, serves}
use Rattle.sk_plain.proofs.Truths.{and_left, and_right}
use Rattle.sk_plain.proofs.Lists.{all_one, all_two}
use Rattle.sk_scheme_sound.proofs.Each.{Each, each_append, each_front, each_back}

-- the types serve for those that are chosen at an address
abbrev pub Serves : Types → ℕ → List Ty → Type 0
Serves chosen to types = IsSomeAnd (chosen to) (λ after. pointwise serves types after ≡ true)

-- the same, unless nothing comes to the address
abbrev pub Exits : Types → ℕ → Option (List Ty) → Type 0
Exits chosen to None = Unit {0}
Exits chosen to (Some types) = Serves chosen to types

pub type_serves : (ty : Ty) → serves ty ty ≡ true
type_serves Int = refl
type_serves Long = refl

pub types_serve : (types : List Ty) → pointwise serves types types ≡ true
types_serve [] = refl
types_serve (ty ∷ types) = and_from (serves ty ty) (pointwise serves types types) (type_serves ty) (types_serve types)

type_serves_on : (a b c : Ty) → serves a b ≡ true → serves b c ≡ true → serves a c ≡ true
type_serves_on Int b c e f = refl
type_serves_on Long Int c e f = let no : ⊥ = cc in absurd no
type_serves_on Long Long c e f = f

types_serve_on : (a b c : List Ty) → pointwise serves a b ≡ true → pointwise serves b c ≡ true → pointwise serves a c ≡ true
types_serve_on [] [] c e f = f
types_serve_on [] (y ∷ b) c e f = let no : ⊥ = cc in absurd no
types_serve_on (x ∷ a) [] c e f = let no : ⊥ = cc in absurd no
types_serve_on (x ∷ a) (y ∷ b) [] e f = let no : ⊥ = cc in absurd no
types_serve_on (x ∷ a) (y ∷ b) (z ∷ c) e f =
    and_from (serves x z) (pointwise serves a c)
    (type_serves_on x y z (and_left (serves x y) (pointwise serves a b) e) (and_left (serves y z) (pointwise serves b c) f))
    (types_serve_on a b c (and_right (serves x y) (pointwise serves a b) e) (and_right (serves y z) (pointwise serves b c) f))

served_by : (a b : List Ty) (o : Option (List Ty)) → pointwise serves a b ≡ true → IsSomeAnd o (λ after. pointwise serves b after ≡ true) → IsSomeAnd o (λ after. pointwise serves a after ≡ true)
served_by a b (Some c) e h = types_serve_on a b c e h
served_by a b None e h = h

pub serves_on : (chosen : Types) (to : ℕ) (a b : List Ty) → pointwise serves a b ≡ true → Serves chosen to b → Serves chosen to a
serves_on chosen to a b e h = served_by a b (chosen to) e h

pub serves_exact : (chosen : Types) (to : ℕ) (types : List Ty) → chosen to ≡ Some types → Serves chosen to types
serves_exact chosen to types e =
    subst (λ (o : Option (List Ty)). IsSomeAnd o (λ after. pointwise serves types after ≡ true)) (sym e) (types_serve types)

pub exits_exact : (chosen : Types) (to : ℕ) (types : Option (List Ty)) → chosen to ≡ types → Exits chosen to types
exits_exact chosen to None e = tt
exits_exact chosen to (Some types) e = serves_exact chosen to types e

-- the address to which an instruction jumps, if it is a jump
abbrev pub Aims : (ℕ → Type 0) → Instr → Type 0
Aims R (instr.Jump to) = R to
Aims R (instr.Zero to) = R to
Aims R i = Unit {0}

pub aims_map : (R S : ℕ → Type 0) (i : Instr) → ((to : ℕ) → R to → S to) → Aims R i → Aims S i
aims_map R S (instr.Jump to) f h = f to h
aims_map R S (instr.Zero to) f h = f to h
aims_map R S i f h = tt

abbrev pub Choices : Type 0
Choices = List (Option (List Ty))

-- the types are chosen from an address on
abbrev pub Chosen : Types → ℕ → Choices → Type 0
Chosen chosen at choices = Each (λ k choice. chosen k ≡ choice) at choices

module _ (named : Named) (depth : ℕ) where
  -- an instruction finds what it needs on a stack of these types, and leads on to addresses that are chosen so
  pub record IsFineInstr (chosen : Types) (at : ℕ) (i : Instr) (types : List Ty) : Type 0 where
    pub bounded : length types ≤ depth
    pub left : List Ty
    pub effect : left_by named i types ≡ Some left
    pub leads : All (λ to. Serves chosen to left) (leads_to i at)

  abbrev pub FineAt : Types → ℕ → Instr → Type 0
  FineAt chosen at i = (types : List Ty) → chosen at ≡ Some types → IsFineInstr chosen at i types

  pub fine_some : (chosen : Types) (at : ℕ) (i : Instr) (types left : List Ty) → chosen at ≡ Some types → length types ≤ depth
      → left_by named i types ≡ Some left → All (λ to. Serves chosen to left) (leads_to i at) → FineAt chosen at i
  fine_some chosen at i types left here low effect leads other e =
      let same : types ≡ other = cc in
      subst (λ (t : List Ty). IsFineInstr chosen at i t) same (record { bounded = low; left = left; effect = effect; leads = leads })

  pub fine_none : (chosen : Types) (at : ℕ) (i : Instr) → chosen at ≡ None → FineAt chosen at i
  fine_none chosen at i here types e = let no : ⊥ = cc in absurd no

  pub fine_zero : (chosen : Types) (at to : ℕ) (ty : Ty) (types : List Ty) → chosen at ≡ Some (ty ∷ types) → suc (length types) ≤ depth
      → Serves chosen (suc at) types → Serves chosen to types → FineAt chosen at (instr.Zero to)
  fine_zero chosen at to ty types here low next jump = fine_some chosen at (instr.Zero to) (ty ∷ types) types here low refl (all_two (λ n. Serves chosen n types) (suc at) to next jump)

  -- a stack that may be so high, if the address is reached
  abbrev pub IsLow : Option (List Ty) → Type 0
  IsLow None = Unit {0}
  IsLow (Some types) = length types ≤ depth

  pub fine_jump : (chosen : Types) (at to : ℕ) (types : Option (List Ty)) → chosen at ≡ types → IsLow types → Exits chosen to types → FineAt chosen at (instr.Jump to)
  fine_jump chosen at to None here low jump = fine_none chosen at (instr.Jump to) here
  fine_jump chosen at to (Some types) here low jump = fine_some chosen at (instr.Jump to) types types here low refl (all_one (λ n. Serves chosen n types) to jump)

  -- Types of the stack can be chosen for the addresses of a piece of code, from those before it to those behind it, where
  -- none stands for what is not reached.
  pub record Fits (at : ℕ) (code : List Instr) (end : ℕ) (entry exit : Option (List Ty)) : Type 0 where
    pub choices : Choices
    pub size : at + length choices ≡ end
    pub long : at + length code ≡ end
    pub fine : (chosen : Types) → Chosen chosen at choices → Exits chosen end exit → Exits chosen at entry × Each (FineAt chosen) at code

  pub then_fits : (at mid end : ℕ) (a b : List Instr) (entry between exit : Option (List Ty)) → Fits at a mid entry between → Fits mid b end between exit → Fits at (a ++ b) end entry exit
  then_fits at mid end a b entry between exit f g = record {
    choices = f.choices ++ g.choices;
    size = omega (arith, length-append f.choices g.choices, f.size, g.size);
    long = omega (arith, length-append a b, f.long, g.long);
    fine = λ chosen has exits.
        let two = g.fine chosen (each_back (λ k choice. chosen k ≡ choice) at mid f.choices g.choices f.size has) exits in
        let one = f.fine chosen (each_front (λ k choice. chosen k ≡ choice) at f.choices g.choices has) two.0 in
        (one.0, each_append (FineAt chosen) at mid a b f.long one.1 two.1);
  }

  pub nothing_fits : (at : ℕ) (types : Option (List Ty)) → Fits at [] at types types
  nothing_fits at types = record { choices = []; size = omega arith; long = omega arith; fine = λ chosen has exits. (exits, tt) }

  pub one_fits : (i : Instr) (at : ℕ) (types left : List Ty) → left_by named i types ≡ Some left → length types ≤ depth → leads_to i at ≡ suc at ∷ []
      → Fits at (i ∷ []) (suc at) (Some types) (Some left)
  one_fits i at types left effect low leads = record {
    choices = Some types ∷ [];
    size = omega arith;
    long = omega arith;
    fine = λ chosen has exits. (
      serves_exact chosen at types has.0,
      (fine_some chosen at i types left has.0 low effect (subst (λ (l : List ℕ). All (λ to. Serves chosen to left) l) (sym leads) (all_one (λ n. Serves chosen n left) (suc at) exits)), tt),
    );
  }

  -- an instruction that leads nowhere
  pub last_fits : (i : Instr) (at : ℕ) (types left : List Ty) → left_by named i types ≡ Some left → length types ≤ depth → leads_to i at ≡ []
      → Fits at (i ∷ []) (suc at) (Some types) None
  last_fits i at types left effect low leads = record {
    choices = Some types ∷ [];
    size = omega arith;
    long = omega arith;
    fine = λ chosen has exits. (
      serves_exact chosen at types has.0,
      (fine_some chosen at i types left has.0 low effect (subst (λ (l : List ℕ). All (λ to. Serves chosen to left) l) (sym leads) (All-nil (λ n. Serves chosen n left))), tt),
    );
  }

  none_size : (code : List Instr) → length (map (λ i. let none : Option (List Ty) = None in none) code) ≡ length code
  none_size [] = refl
  none_size (i ∷ code) = ap suc (none_size code)

  none_fine : (chosen : Types) (at : ℕ) (code : List Instr) → Chosen chosen at (map (λ i. let none : Option (List Ty) = None in none) code) → Each (FineAt chosen) at code
  none_fine chosen at [] has = tt
  none_fine chosen at (i ∷ code) has = (fine_none chosen at i has.0, none_fine chosen (suc at) code has.1)

  -- code that is not reached
  pub never_fits : (at end : ℕ) (code : List Instr) (exit : Option (List Ty)) → at + length code ≡ end → Fits at code end None exit
  never_fits at end code exit long = record {
    choices = map (λ i. let none : Option (List Ty) = None in none) code;
    size = omega (arith, none_size code, long);
    long = long;
    fine = λ chosen has exits. (tt, none_fine chosen at code has);
  }

  pub wider_fits : (at end : ℕ) (code : List Instr) (entry : Option (List Ty)) (a b : List Ty) → pointwise serves a b ≡ true → Fits at code end entry (Some a) → Fits at code end entry (Some b)
  wider_fits at end code entry a b e f =
      record { choices = f.choices; size = f.size; long = f.long; fine = λ chosen has exits. f.fine chosen has (serves_on chosen end a b e exits) }

  pub left_fits : (at end : ℕ) (code : List Instr) (entry exit : Option (List Ty)) → Fits at code end entry None → Fits at code end entry exit
  left_fits at end code entry exit f = record { choices = f.choices; size = f.size; long = f.long; fine = λ chosen has exits. f.fine chosen has tt }
