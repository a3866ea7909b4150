-- Pieces of main's code that stand at an address: the types of the stack and the live containers that can be chosen for each
-- of their addresses.
use Rattle.std.proofs.Common.{◌≡◌, ℕ, suc, ◌+◌, ◌≤◌, List, [], ◌∷◌, ◌++◌, length, All, IsSomeAnd, Option, Some, None, refl, sym, ap, ◌∙◌, subst, arith, length-append}
use Rattle.std.proofs.lemmas.Bool.{and_from, le-leb}
use Rattle.std.proofs.lemmas.List.Elements.{All-nil}
use Rattle.std.specs.Prelude.{true, false, Bool, if◌then◌else◌}
use Rattle.std.specs.Cmp.Lexicographic.{pointwise}
use Rattle.sk_base.specs.declared.number.Ty.{Ty}
use Rattle.sk_base.specs.declared.number.Ty.TheVariants.{Int, Long}
use Rattle.sk_isa.specs.Soundness.{leads_to, serves}
use Rattle.sk_isa.specs.declared.code.Instr.{Instr}
use Rattle.sk_isa.specs.declared.code.Instr.TheVariants as instr
use Rattle.sk_isa.specs.declared.object.Object.{Object}
use Rattle.sk_main_code.specs.MainSoundness.{left_in_main, lives_after, made_by, names_in_main, used_by}
use Rattle.sk_plain.proofs.Lists.{all_one, all_two}
use Rattle.sk_plain.proofs.Truths.{and_left, and_right}
use Rattle.sk_scheme_sound.proofs.Each.{Each, each_append, each_front, each_back}
use Rattle.sk_scheme_sound.proofs.SoundPieces.{types_serve}

-- the types on the stack, the latest first, and which containers are live
pub record Stage : Type 0 where
  pub types : List Ty
  pub live : ℕ → Bool

abbrev pub staged : List Ty → (ℕ → Bool) → Stage
staged types live = record { types = types; live = live }

-- the stage that is chosen for an address
abbrev pub Stages : Type 0
Stages = ℕ → Option Stage

-- a stage does where another one is chosen
abbrev pub Suits : (given chosen : Stage) → Type 0
Suits given chosen = (pointwise serves given.types chosen.types ≡ true) × ((container : ℕ) → chosen.live container ≡ given.live container)

-- it does for the one that is chosen at an address
abbrev pub Serves : Stages → ℕ → Stage → Type 0
Serves chosen to stage = IsSomeAnd (chosen to) (λ after. Suits stage after)

pub suits_itself : (stage : Stage) → Suits stage stage
suits_itself stage = (types_serve stage.types, λ container. refl)

type_serves_on : (a b c : Ty) → serves a b ≡ true → serves b c ≡ true → serves a c ≡ true
type_serves_on Int b c e f = refl
type_serves_on Long Int c e f = let no : ⊥ = cc in absurd no
type_serves_on Long Long c e f = f

types_serve_on : (a b c : List Ty) → pointwise serves a b ≡ true → pointwise serves b c ≡ true → pointwise serves a c ≡ true
types_serve_on [] [] c e f = f
types_serve_on [] (y ∷ b) c e f = let no : ⊥ = cc in absurd no
types_serve_on (x ∷ a) [] c e f = let no : ⊥ = cc in absurd no
types_serve_on (x ∷ a) (y ∷ b) [] e f = let no : ⊥ = cc in absurd no
types_serve_on (x ∷ a) (y ∷ b) (z ∷ c) e f =
    and_from (serves x z) (pointwise serves a c)
    (type_serves_on x y z (and_left (serves x y) (pointwise serves a b) e) (and_left (serves y z) (pointwise serves b c) f))
    (types_serve_on a b c (and_right (serves x y) (pointwise serves a b) e) (and_right (serves y z) (pointwise serves b c) f))

served_by : (a b : Stage) (o : Option Stage) → Suits a b → IsSomeAnd o (λ after. Suits b after) → IsSomeAnd o (λ after. Suits a after)
served_by a b (Some c) e h = (types_serve_on a.types b.types c.types e.0 h.0, λ container. h.1 container ∙ e.1 container)
served_by a b None e h = h

pub serves_on : (chosen : Stages) (to : ℕ) (a b : Stage) → Suits a b → Serves chosen to b → Serves chosen to a
serves_on chosen to a b e h = served_by a b (chosen to) e h

pub serves_exact : (chosen : Stages) (to : ℕ) (stage : Stage) → chosen to ≡ Some stage → Serves chosen to stage
serves_exact chosen to stage e = subst (λ (o : Option Stage). IsSomeAnd o (λ after. Suits stage after)) (sym e) (suits_itself stage)

-- the stages are chosen from an address on
abbrev pub Chosen : Stages → ℕ → List Stage → Type 0
Chosen chosen at stages = Each (λ k stage. chosen k ≡ Some stage) at stages

pub nothing_made : (o : Option ℕ) (container : ℕ) (live : ℕ → Bool) → o ≡ None → o ≡ Some container → live container ≡ false
nothing_made o container live e f = let no : ⊥ = cc in absurd no

module _ (object : Object) (depth : ℕ) where
  -- an instruction finds what it needs at a stage, and leads on to addresses that are chosen so
  pub record IsFineInstr (chosen : Stages) (at : ℕ) (i : Instr) (stage : Stage) : Type 0 where
    pub bounded : length stage.types ≤ depth
    pub left : List Ty
    pub effect : left_in_main object i stage.types ≡ Some left
    pub made : (container : ℕ) → made_by i ≡ Some container → stage.live container ≡ false
    pub used : All (λ container. stage.live container ≡ true) (used_by i)
    pub leads : All (λ to. Serves chosen to (staged left (lives_after i stage.live))) (leads_to i at)

  -- it does so if what it names is there
  abbrev pub FineAt : Stages → ℕ → Instr → Type 0
  FineAt chosen at i = names_in_main object i ≡ true → (stage : Stage) → chosen at ≡ Some stage → IsFineInstr chosen at i stage

  pub fine_some : (chosen : Stages) (at : ℕ) (i : Instr) (stage : Stage) (left : List Ty) → chosen at ≡ Some stage → length stage.types ≤ depth
      → (names_in_main object i ≡ true → left_in_main object i stage.types ≡ Some left)
      → ((container : ℕ) → made_by i ≡ Some container → stage.live container ≡ false) → All (λ container. stage.live container ≡ true) (used_by i)
      → All (λ to. Serves chosen to (staged left (lives_after i stage.live))) (leads_to i at) → FineAt chosen at i
  fine_some chosen at i stage left here low effect made used leads names other e =
      let same : stage ≡ other = cc in
      subst (λ (s : Stage). IsFineInstr chosen at i s) same
      (record { bounded = low; left = left; effect = effect names; made = made; used = used; leads = leads })

  pub fine_zero : (chosen : Stages) (at to : ℕ) (ty : Ty) (types : List Ty) (live : ℕ → Bool) → chosen at ≡ Some (staged (ty ∷ types) live) → suc (length types) ≤ depth
      → Serves chosen (suc at) (staged types live) → Serves chosen to (staged types live) → FineAt chosen at (instr.Zero to)
  fine_zero chosen at to ty types live here low next jump =
      fine_some chosen at (instr.Zero to) (staged (ty ∷ types) live) types here low (λ names. refl) (λ container e. let no : ⊥ = cc in absurd no)
      (All-nil (λ container. live container ≡ true)) (all_two (λ n. Serves chosen n (staged types live)) (suc at) to next jump)

  pub fine_jump : (chosen : Stages) (at to : ℕ) (stage : Stage) → chosen at ≡ Some stage → length stage.types ≤ depth → Serves chosen to stage → FineAt chosen at (instr.Jump to)
  fine_jump chosen at to stage here low jump =
      fine_some chosen at (instr.Jump to) stage stage.types here low (λ names. refl) (λ container e. let no : ⊥ = cc in absurd no)
      (All-nil (λ container. stage.live container ≡ true)) (all_one (λ n. Serves chosen n stage) to jump)

  -- Stages can be chosen for the addresses of a piece of code, from the one before it to the one behind it.
  pub record Fits (at : ℕ) (code : List Instr) (end : ℕ) (entry exit : Stage) : Type 0 where
    pub stages : List Stage
    pub size : at + length stages ≡ end
    pub long : at + length code ≡ end
    pub fine : (chosen : Stages) → Chosen chosen at stages → Serves chosen end exit → Serves chosen at entry × Each (FineAt chosen) at code

  pub then_fits : (at mid end : ℕ) (a b : List Instr) (entry between exit : Stage) → Fits at a mid entry between → Fits mid b end between exit → Fits at (a ++ b) end entry exit
  then_fits at mid end a b entry between exit f g = record {
    stages = f.stages ++ g.stages;
    size = omega (arith, length-append f.stages g.stages, f.size, g.size);
    long = omega (arith, length-append a b, f.long, g.long);
    fine = λ chosen has exits.
        let two = g.fine chosen (each_back (λ k stage. chosen k ≡ Some stage) at mid f.stages g.stages f.size has) exits in
        let one = f.fine chosen (each_front (λ k stage. chosen k ≡ Some stage) at f.stages g.stages has) two.0 in
        (one.0, each_append (FineAt chosen) at mid a b f.long one.1 two.1);
  }

  pub nothing_fits : (at : ℕ) (stage : Stage) → Fits at [] at stage stage
  nothing_fits at stage = record { stages = []; size = omega arith; long = omega arith; fine = λ chosen has exits. (exits, tt) }

  -- an instruction that goes on to the next
  pub one_fits : (i : Instr) (at : ℕ) (stage after : Stage) → (names_in_main object i ≡ true → left_in_main object i stage.types ≡ Some after.types) → length stage.types ≤ depth
      → ((container : ℕ) → made_by i ≡ Some container → stage.live container ≡ false) → All (λ container. stage.live container ≡ true) (used_by i)
      → ((container : ℕ) → after.live container ≡ lives_after i stage.live container) → leads_to i at ≡ suc at ∷ [] → Fits at (i ∷ []) (suc at) stage after
  one_fits i at stage after effect low made used lives leads = record {
    stages = stage ∷ [];
    size = omega arith;
    long = omega arith;
    fine = λ chosen has exits.
        let next : Serves chosen (suc at) (staged after.types (lives_after i stage.live)) =
        serves_on chosen (suc at) (staged after.types (lives_after i stage.live)) after (types_serve after.types, lives) exits in (
          serves_exact chosen at stage has.0,
          (
            fine_some chosen at i stage after.types has.0 low effect made used
                (subst (λ (l : List ℕ). All (λ to. Serves chosen to (staged after.types (lives_after i stage.live))) l) (sym leads)
                (all_one (λ n. Serves chosen n (staged after.types (lives_after i stage.live))) (suc at) next)),
            tt,
          ),
        );
  }

  halt_left : (types : List Ty) → left_in_main object instr.Halt types ≡ Some types
  halt_left types = ap (λ (b : Bool). if b then Some types else None) (le-leb 0 (length types) (omega arith))

  -- the end of the run, behind which anything may be chosen
  pub halt_fits : (at : ℕ) (types : List Ty) (live : ℕ → Bool) (exit : Stage) → length types ≤ depth → Fits at (instr.Halt ∷ []) (suc at) (staged types live) exit
  halt_fits at types live exit low = record {
    stages = staged types live ∷ [];
    size = omega arith;
    long = omega arith;
    fine = λ chosen has exits. (
      serves_exact chosen at (staged types live) has.0,
      (
        fine_some chosen at instr.Halt (staged types live) types has.0 low (λ names. halt_left types) (λ container e. let no : ⊥ = cc in absurd no)
            (All-nil (λ container. live container ≡ true)) (All-nil (λ n. Serves chosen n (staged types live))),
        tt,
      ),
    );
  }

  -- another stage behind a piece, for which the one there does
  pub wider_fits : (at end : ℕ) (code : List Instr) (entry a b : Stage) → Suits a b → Fits at code end entry a → Fits at code end entry b
  wider_fits at end code entry a b e f =
      record { stages = f.stages; size = f.size; long = f.long; fine = λ chosen has exits. f.fine chosen has (serves_on chosen end a b e exits) }

  -- another stage before a piece, which does for the one there
  pub entry_fits : (at end : ℕ) (code : List Instr) (a b exit : Stage) → Suits a b → Fits at code end b exit → Fits at code end a exit
  entry_fits at end code a b exit e f = record {
    stages = f.stages;
    size = f.size;
    long = f.long;
    fine = λ chosen has exits. let r = f.fine chosen has exits in (serves_on chosen at a b e r.0, r.1);
  }
