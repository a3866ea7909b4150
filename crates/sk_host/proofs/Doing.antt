-- What a call statement of a Map leads to, where it was computed what its call comes to.
use Rattle.std.proofs.Common.{◌≡◌, ℕ, suc, ◌+◌, ◌-◌, ◌≤◌, List, length, take, drop, ℤ, pos, Option, Some, IsSome, Ok, Err, Result, slice_get, slice_set, arith, ap, sym, refl, subst, ◌∙◌, length-take-le}
use Rattle.std.proofs.lemmas.List.{length-drop}
use Rattle.sk_base.specs.declared.number.Trap.{Trap}
use Rattle.sk_host.proofs.Given.{some-within}
use Rattle.sk_host.proofs.Kept.{found-in, goes-to, many-in, stays_told}
use Rattle.sk_host.proofs.Stores.{mirrors_put}
use Rattle.sk_host.specs.MapCalls.{IsMapCall}
use Rattle.sk_host.specs.Points.{Does, point_at}
use Rattle.sk_host.specs.Stores.{Kept, Mirrors, kept_at, kept_of}
use Rattle.sk_host.specs.declared.machine.Lead.TheVariants as lead
use Rattle.sk_host.specs.declared.machine.Stand.{Stand}
use Rattle.sk_isa.specs.declared.code.Instr.TheVariants.{Do}
use Rattle.sk_isa.specs.declared.object.Object.{Object}
use Rattle.sk_isa.specs.declared.object.Plan.{Plan}
use Rattle.sk_main_code.specs.MainSteps.{MainPoint, done_by, going_in, linked_plan, next_in_main, world_after}
use Rattle.sk_vm.specs.Points.{values_in}
use Rattle.sk_world.specs.Calls.{call_of}
use Rattle.sk_world.specs.Events.{Event}
use Rattle.sk_world.specs.World.{Container, Over, Trapped, World, container_at, putting, told}

-- a container is kept
pub kept-some : (store : List (Option Kept)) (number : ℕ) (kept : Kept) → kept_at store number ≡ Some kept → IsSome (kept_at store number)
kept-some store number kept is = subst (λ (found : Option Kept). IsSome found) (sym is) refl

-- the uniform arguments of a call, as they lie in the buffer
pub given-count : (uniforms top : ℕ) (stack : List ℤ) → uniforms ≤ top → top ≤ length stack
    → length (take (top - (top - uniforms)) (drop (top - uniforms) stack)) ≡ uniforms
given-count uniforms top stack enough inside =
    let same : top - (top - uniforms) ≡ uniforms = omega arith in
    let dropped = length-drop (top - uniforms) stack in
    length-take-le (top - (top - uniforms)) (drop (top - uniforms) stack) (omega arith) ∙ same

module _ (object : Object) (instance : ℕ) (containers : List ℕ) (uniforms : ℕ) (store : List (Option Kept)) (call : IsMapCall object instance containers uniforms store)
    (stand : Stand) (stack slots : List ℤ) (world : World) (mirrors : Mirrors store world)
    (enough : uniforms ≤ stand.top) (inside : stand.top ≤ length stack) where
  abbrev base : ℕ
  base = stand.top - uniforms

  abbrev given : List ℤ
  given = take (stand.top - base) (drop base stack)

  abbrev point : MainPoint
  point = point_at stand stack slots world

  abbrev called : Result (ℤ × World) Over
  called = call_of (linked_plan object instance call.plan) (Some call.result) call.operands given world

  do-next : next_in_main object (Do instance containers uniforms) point ≡ going_in point (values_in stack base) (world_after called)
  do-next =
      let tall : base + uniforms ≡ stand.top = omega arith in
      let count : uniforms ≡ stand.top - base = omega arith in
      many-in uniforms base stand.top stack (λ given rest. done_by (slice_get object.instances instance) object instance containers given point rest) tall inside
      ∙ ap (λ (n : ℕ). done_by (slice_get object.instances instance) object instance containers (take n (drop base stack)) point (values_in stack base)) count
      ∙ ap (λ (found : Option Plan). done_by found object instance containers given point (values_in stack base)) call.plan_is
      ∙ ap (λ (numbers : List ℕ). done_by (Some call.plan) object instance numbers given point (values_in stack base)) call.containers_are

  pub do-goes : (next : Stand) (store_after : List (Option Kept)) (cells : List ℤ) (event : Event)
      → called ≡ Ok (pos 0, putting (record (container_at world call.result) { cells = cells }) (told event world))
      → store_after ≡ slice_set store call.result (Some (record call.kept { cells = cells }))
      → next.at ≡ suc stand.at → next.top ≡ base
      → Does object (Do instance containers uniforms) point (lead.Goes next) stack slots store_after
  do-goes next store_after cells event is set_is at top =
      let f = found-in store world call.result call.kept mirrors call.kept_is in
      let one : Container = record (container_at world call.result) { cells = cells } in
      let now = putting one (told event world) in
      let number : (container_at world call.result).number ≡ call.result = ap (λ (c : Container). c.number) f.at_is ∙ f.number_is in
      let same : kept_of one ≡ record call.kept { cells = cells } =
      ap (λ (c : Container). kept_of (record c { cells = cells })) f.at_is ∙ ap (λ (k : Kept). record k { cells = cells }) f.kept_is in (
        now,
        do-next ∙ ap (λ (r : Result (ℤ × World) Over). going_in point (values_in stack base) (world_after r)) is
            ∙ goes-to stand next stack stack slots (values_in stack base) world now at (ap (λ (n : ℕ). values_in stack n) top),
        subst (λ (s : List (Option Kept)). Mirrors s now)
            (ap (λ (k : Kept). slice_set store call.result (Some k)) same ∙ sym set_is)
            (mirrors_put store (told event world) one call.result mirrors number (some-within store call.result (kept-some store call.result call.kept call.kept_is))),
        stays_told world now refl refl refl refl,
      )

  pub do-traps : (trap : Trap) (element : ℕ) (over : Over) → called ≡ Err over → over.ending ≡ Trapped trap world.line element → over.world.printed ≡ world.printed
      → (store_after : List (Option Kept)) → Does object (Do instance containers uniforms) point (lead.Traps trap element) stack slots store_after
  do-traps trap element over is ending printed store_after = (
    over,
    do-next ∙ ap (λ (r : Result (ℤ × World) Over). going_in point (values_in stack base) (world_after r)) is,
    ending,
    printed,
  )
