-- Each instruction of main, where it finds what it needs, and each step from a fine point.
use Rattle.std.proofs.Common.{◌≡◌, ℕ, Bool, true, false, List, [], ◌++◌, map, All, Option, Some, None, Ok, Err, IsSomeAnd, slice_get, sym, refl, subst, ◌∙◌}
use Rattle.std.proofs.lemmas.Option.{same_Some}
use Rattle.std.specs.Cmp.Lexicographic.{pointwise}
use Rattle.sk_base.specs.declared.number.Ty.{Ty}
use Rattle.sk_isa.specs.Configurations.{Ends, Goes, Stuck}
use Rattle.sk_isa.specs.Soundness.{Types, leads_to, left_if, of_many, serves}
use Rattle.sk_isa.specs.declared.code.Instr.{Instr}
use Rattle.sk_isa.specs.declared.code.Instr.TheVariants.{Push, Pop, Load, Store, Neg, Inv, Not, Wrap, Binary, Jump, Zero, Field, Region, Turn, Ret, Size, Item, Call, Count, Make, Take, Drop, Set, Do, Get, Poke, Print, Text, Endl, Halt}
use Rattle.sk_isa.specs.declared.object.Object.{Object}
use Rattle.sk_isa_laws.proofs.TypedLists.{typed-served}
use Rattle.sk_kernel.specs.Kernels.{AreOfTypes}
use Rattle.sk_main_code.specs.MainSoundness.{Lives, left_in_main, lives_after, main_signature, used_by}
use Rattle.sk_main_code.specs.MainSteps.{MainNext, MainPoint, next_in_main}
use Rattle.sk_main_code.specs.Sound.{IsSound}
use Rattle.sk_main_laws.proofs.Called.{calls_are_fine}
use Rattle.sk_main_laws.proofs.Names.{names_so}
use Rattle.sk_main_laws.proofs.Own.{call_so, count_so, do_so, drop_so, endl_so, get_so, halt_so, item_so, make_so, poke_so, print_so, set_so, size_so, take_so, text_so}
use Rattle.sk_main_laws.proofs.Shared.{binary_so, inverted_so, jump_so, load_so, negated_so, not_so, pop_so, push_so, store_so, wrap_so, zero_so}
use Rattle.sk_main_laws.proofs.Steps.{IsLeftBy}
use Rattle.sk_main_laws.proofs.Worlds.{fine_alike}
use Rattle.sk_main_laws.specs.Calls.{HasFineCalls}
use Rattle.sk_main_laws.specs.FinePoints.{Counts, IsFineNext, IsFinePoint}
use Rattle.sk_main_laws.specs.FineWorlds.{IsFineWorld}
use Rattle.sk_main_laws.specs.Laws.{StepsAreFine}
use Rattle.sk_meaning.specs.Evaluation.{kind_type}

-- instructions of functions alone leave nothing
never : (types left more : List Ty) → of_many 0 types (λ given rest. left_if false (more ++ rest)) ≡ Some left → ⊥
never types left more e = no (names_so 0 types left more false e)
  where
    no : (false ≡ true) → ⊥
    no e = cc

pub instruction_so : (object : Object) (sound : IsSound object) → HasFineCalls object → (point : MainPoint) (live : ℕ → Bool)
    → AreOfTypes (map kind_type (main_signature object).slots) point.slots → IsFineWorld object live point.kept
    → (types left : List Ty) → AreOfTypes types point.stack → (instr : Instr) → left_in_main object instr types ≡ Some left
    → All (λ container. live container ≡ true) (used_by instr)
    → IsLeftBy object left (leads_to instr point.at) (lives_after instr live) (Counts instr) point (next_in_main object instr point)
instruction_so object sound calls point live slots fine types left typed (Push number) e used = push_so object point live slots fine types left typed number e
instruction_so object sound calls point live slots fine types left typed Pop e used = pop_so object point live slots fine types left typed e
instruction_so object sound calls point live slots fine types left typed (Load slot) e used = load_so object point live slots fine types left typed slot e
instruction_so object sound calls point live slots fine types left typed (Store slot) e used = store_so object point live slots fine types left typed slot e
instruction_so object sound calls point live slots fine types left typed (Neg ty) e used = negated_so object point live slots fine types left typed ty e
instruction_so object sound calls point live slots fine types left typed (Inv ty) e used = inverted_so object point live slots fine types left typed ty e
instruction_so object sound calls point live slots fine types left typed Not e used = not_so object point live slots fine types left typed e
instruction_so object sound calls point live slots fine types left typed Wrap e used = wrap_so object point live slots fine types left typed e
instruction_so object sound calls point live slots fine types left typed (Binary op ty) e used = binary_so object point live slots fine types left typed op ty e
instruction_so object sound calls point live slots fine types left typed (Jump to) e used = jump_so object point live slots fine types left typed to e
instruction_so object sound calls point live slots fine types left typed (Zero to) e used = zero_so object point live slots fine types left typed to e
instruction_so object sound calls point live slots fine types left typed (Size container name) e used =
    size_so object sound point live slots fine types left typed container name e used
instruction_so object sound calls point live slots fine types left typed (Item container places) e used =
    item_so object sound point live slots fine types left typed container places e used
instruction_so object sound calls point live slots fine types left typed (Call function) e used =
    call_so object sound point live slots fine types left typed function e used
instruction_so object sound calls point live slots fine types left typed (Count line) e used =
    count_so object sound point live slots fine types left typed line e used
instruction_so object sound calls point live slots fine types left typed (Make container kind ty sizes) e used =
    make_so object sound point live slots fine types left typed container kind ty sizes e used
instruction_so object sound calls point live slots fine types left typed (Take container kind ty input) e used =
    take_so object sound point live slots fine types left typed container kind ty input e used
instruction_so object sound calls point live slots fine types left typed (Drop container) e used =
    drop_so object sound point live slots fine types left typed container e used
instruction_so object sound calls point live slots fine types left typed (Set instance word values) e used =
    set_so object sound point live slots fine types left typed instance word values e used
instruction_so object sound calls point live slots fine types left typed (Do instance containers uniforms) e used =
    do_so object sound point live slots fine types left typed calls instance containers uniforms e used
instruction_so object sound calls point live slots fine types left typed (Get instance containers uniforms) e used =
    get_so object sound point live slots fine types left typed calls instance containers uniforms e used
instruction_so object sound calls point live slots fine types left typed (Poke container places) e used =
    poke_so object sound point live slots fine types left typed container places e used
instruction_so object sound calls point live slots fine types left typed Print e used = print_so object sound point live slots fine types left typed e used
instruction_so object sound calls point live slots fine types left typed (Text text) e used = text_so object sound point live slots fine types left typed text e used
instruction_so object sound calls point live slots fine types left typed Endl e used = endl_so object sound point live slots fine types left typed e used
instruction_so object sound calls point live slots fine types left typed Halt e used = halt_so object sound point live slots fine types left typed e used
instruction_so object sound calls point live slots fine types left typed (Field slot name) e used = absurd (never types left [] e)
instruction_so object sound calls point live slots fine types left typed (Region slot places) e used = absurd (never types left [] e)
instruction_so object sound calls point live slots fine types left typed Turn e used = absurd (never types left [] e)
instruction_so object sound calls point live slots fine types left typed Ret e used = absurd (never types left [] e)

-- where the types that were left serve for those that are chosen, and the same containers are live
fine_behind : (object : Object) (chosen : Types) (lives : Lives) (left : List Ty) (after : ℕ → Bool) (behind : MainPoint) → AreOfTypes left behind.stack
    → AreOfTypes (map kind_type (main_signature object).slots) behind.slots → IsFineWorld object after behind.kept
    → (found : Option (List Ty)) → chosen behind.at ≡ found → IsSomeAnd found (λ wanted. pointwise serves left wanted ≡ true)
    → (alive : Option (ℕ → Bool)) → lives behind.at ≡ alive → IsSomeAnd alive (λ live. (container : ℕ) → live container ≡ after container)
    → IsFinePoint object chosen lives behind
fine_behind object chosen lives left after behind stack slots fine None is h alive are g = absurd h
fine_behind object chosen lives left after behind stack slots fine (Some wanted) is h None are g = absurd g
fine_behind object chosen lives left after behind stack slots fine (Some wanted) is h (Some live) are g = record {
  types = wanted;
  there = is;
  stack = typed-served left wanted behind.stack h stack;
  slots = slots;
  live = live;
  lives_there = are;
  world = fine_alike object after live behind.kept g fine;
}

fine_next : (object : Object) (chosen : Types) (lives : Lives) (left : List Ty) (live : ℕ → Bool) (instr : Instr) (before : MainPoint)
    → All (λ to. IsSomeAnd (chosen to) (λ wanted. pointwise serves left wanted ≡ true)) (leads_to instr before.at)
    → All (λ to. IsSomeAnd (lives to) (λ after. (container : ℕ) → after container ≡ lives_after instr live container)) (leads_to instr before.at)
    → (next : MainNext) → IsLeftBy object left (leads_to instr before.at) (lives_after instr live) (Counts instr) before next
    → IsFineNext object chosen lives instr before next
fine_next object chosen lives left live instr before leads alive (Goes behind) h = record {
  point = fine_behind object chosen lives left (lives_after instr live) behind h.stack h.slots h.world (chosen behind.at) refl
      (subst (λ (to : ℕ). IsSomeAnd (chosen to) (λ wanted. pointwise serves left wanted ≡ true)) h.led.2 (leads h.led.0 behind.at h.led.1))
      (lives behind.at) refl
      (subst (λ (to : ℕ). IsSomeAnd (lives to) (λ after. (container : ℕ) → after container ≡ lives_after instr live container)) h.led.2
      (alive h.led.0 behind.at h.led.1));
  led = h.led;
  statements = h.statements;
}
fine_next object chosen lives left live instr before leads alive (Ends (Ok done)) h = absurd h
fine_next object chosen lives left live instr before leads alive (Ends (Err over)) h = h
fine_next object chosen lives left live instr before leads alive Stuck h = absurd h

-- the containers that are live at an instruction, and behind it
record LivesThere (lives : Lives) (live : ℕ → Bool) (at : ℕ) (instr : Instr) : Type 0 where
  used : All (λ container. live container ≡ true) (used_by instr)
  leads : All (λ to. IsSomeAnd (lives to) (λ after. (container : ℕ) → after container ≡ lives_after instr live container)) (leads_to instr at)

pub steps_are_fine : (object : Object) → (sound : IsSound object) → StepsAreFine object sound.main
steps_are_fine object sound point fine =
    let here = sound.main.types.each point.at fine.types fine.there in
    let alive = sound.main.lives.each point.at fine.live fine.lives_there in
    stepped here.instr here.found here.left here.effect here.leads
    (subst (λ (instr : Instr). LivesThere sound.main.lives.chosen fine.live point.at instr) (same_Some alive.instr here.instr (sym alive.found ∙ here.found))
    (record { used = alive.used; leads = alive.leads }))
  where
    stepped : (instr : Instr) → slice_get object.main.instrs point.at ≡ Some instr → (left : List Ty) → left_in_main object instr fine.types ≡ Some left
        → All (λ to. IsSomeAnd (sound.main.types.chosen to) (λ wanted. pointwise serves left wanted ≡ true)) (leads_to instr point.at)
        → LivesThere sound.main.lives.chosen fine.live point.at instr
        → IsSomeAnd (slice_get object.main.instrs point.at) (λ instr.
        IsFineNext object sound.main.types.chosen sound.main.lives.chosen instr point (next_in_main object instr point))
    stepped instr found left effect leads alive =
        subst (λ (one : Option Instr). IsSomeAnd one (λ instr.
        IsFineNext object sound.main.types.chosen sound.main.lives.chosen instr point (next_in_main object instr point))) (sym found)
        (fine_next object sound.main.types.chosen sound.main.lives.chosen left fine.live instr point leads alive.leads (next_in_main object instr point)
        (instruction_so object sound (calls_are_fine object sound.functions) point fine.live fine.slots fine.world fine.types left fine.stack instr effect alive.used))
