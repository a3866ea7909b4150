use Rattle.std.proofs.Common.{rules, ◌≡◌, ◌∙◌, ◌-◌, ◌+◌, ◌<◌, ◌≤◌, length, take, true, ℕ, ℤ, Some, Ok, refl, ap, sym, subst, arith, FitsSigned, w64}
use Rattle.std.proofs.lemmas.Int.{to_z-of_z}
use Rattle.sk_base.specs.Arithmetic.{InRange}
use Rattle.sk_isa.specs.Objects.{signature_at}
use Rattle.sk_meaning.specs.Evaluation.{value_only}
use Rattle.sk_vm.proofs.Begun.{Started, containers_there, started}
use Rattle.sk_vm.proofs.Calls.{params_fit}
use Rattle.sk_vm.proofs.Chains.{slots-within}
use Rattle.sk_vm.proofs.Given.{places_only, value-in_range}
use Rattle.sk_vm.proofs.Places.{place_counted}
use Rattle.sk_vm.specs.Frames.{reading_by}
use Rattle.sk_vm.specs.Places.{counted_at, indices_in, takes_places}
use Rattle.sk_vm.specs.Rooms.{slots_at}
use Rattle.sk_vm.specs.Surroundings.{other_in, skipped_by}
use Rattle.sk_tree.specs.Parameters.{leading_scalars}
use Rattle.sk_vm.proofs.Coordinates.{leading_within}
use Rattle.sk_vm.proofs.start.start.Given.{Over}
use Rattle.sk_vm.proofs.start.start.Goals as goal
use Rattle.sk_vm.proofs.start.start.Goals.{After-saturating_sub}

pub split_at_mut-own-requires : goal.split_at_mut-own-requires
split_at_mut-own-requires g c =
    let own = slots-within c.args.entry.now.object.functions c.args.entry.now.function in
    let count = c.slot_count.ensures.count in
    let room = c.requires.space.slots in
    omega arith

pub count_place-count-requires : goal.count_place-count-requires
count_place-count-requires g c = record {
  counted = λ some.
      place_counted (signature_at c.args.entry.now.object c.args.entry.now.function).params c.args.reading.pairs (g.D.Data.means c.args.source.now).over (g.D.Data.means c.args.source.now) c.args.at.place refl c.requires.suits.over
      (subst (λ (n : ℕ). 0 < n) c.requires.indices some);
}

pub overflow_add-given : goal.overflow_add-given
overflow_add-given g c =
    let entered = c.slot_count.ensures.entered in
    let few = (places_only c.args.entry.now.object entered.sound entered.parameters c.args.entry.now.function entered.there).1 in
    let within = leading_within (signature_at c.args.entry.now.object c.args.entry.now.function).params in
    let indices = c.requires.indices in
    let leading = c.requires.leading in
    let less = c.saturating_sub.ensures in
    record { fits = omega arith }

pub overflow_cast-given-2 : goal.overflow_cast-given-2
overflow_cast-given-2 g c =
    let entered = c.slot_count.ensures.entered in
    let few = (places_only c.args.entry.now.object entered.sound entered.parameters c.args.entry.now.function entered.there).1 in
    let within = leading_within (signature_at c.args.entry.now.object c.args.entry.now.function).params in
    let indices = c.requires.indices in
    let leading = c.requires.leading in
    let less = c.saturating_sub.ensures in
    record { fits = omega arith }

-- what the lemmas on the start of a function ask
takes : (g : Over) (c : After-saturating_sub g) → takes_places (signature_at c.args.entry.now.object c.args.entry.now.function).params ≡ true
takes g c =
    let entered = c.slot_count.ensures.entered in
    (places_only c.args.entry.now.object entered.sound entered.parameters c.args.entry.now.function entered.there).0

placed : (g : Over) (c : After-saturating_sub g) → 0 < c.args.reading.indices
    → take c.count_place-count.result c.count_place-count.new.out ≡ counted_at (g.D.Data.means c.args.source.now) c.args.reading.pairs c.args.at.place c.args.at.pair
placed g c some = c.count_place-count.ensures.place some

skipped : (g : Over) (c : After-saturating_sub g) → c.args.reading.indices + c.saturating_sub.result
    ≡ skipped_by (indices_in (signature_at c.args.entry.now.object c.args.entry.now.function).params) (leading_scalars (signature_at c.args.entry.now.object c.args.entry.now.function).params) c.args.reading.elements
skipped g c =
    let indices = c.requires.indices in
    let leading = c.requires.leading in
    let less = c.saturating_sub.ensures in
    omega arith

counted : (g : Over) (c : After-saturating_sub g) → length (signature_at c.args.entry.now.object c.args.entry.now.function).params
    + (length c.split_at_mut-own.result.0.now - length (signature_at c.args.entry.now.object c.args.entry.now.function).params) ≡ slots_at c.args.entry.now.object.functions c.args.entry.now.function
counted g c =
    let entered = c.slot_count.ensures.entered in
    let fit = params_fit c.args.entry.now.object entered.sound c.args.entry.now.function entered.there in
    let front = c.split_at_mut-own.ensures.front_len in
    let count = c.slot_count.ensures.count in
    omega arith

-- the function's arguments, as the machine gives them
abbrev IsBegun : (g : Over) (c : After-saturating_sub g) → Type 0
IsBegun g c =
    Started c.args.entry.now.object c.args.entry.now.function (reading_by c.args.reading.elements c.args.reading.pairs) (g.D.Data.means c.args.source.now) c.args.at.place c.args.at.pair
    (other_in (Some (g.D.Data.means c.args.source.now)) (take c.count_place-count.result c.count_place-count.new.out) c.args.reading.indices (c.args.reading.indices + c.saturating_sub.result))
    c.begin.new.slots

begun : (g : Over) (c : After-saturating_sub g) → IsBegun g c
begun g c =
    started c.args.entry.now.object c.args.entry.now.function (takes g c) (reading_by c.args.reading.elements c.args.reading.pairs) (g.D.Data.means c.args.source.now) c.args.at.place c.args.at.pair
    c.requires.pairs c.requires.suits (take c.count_place-count.result c.count_place-count.new.out) c.args.reading.indices (c.args.reading.indices + c.saturating_sub.result)
    (placed g c) c.requires.indices (skipped g c) c.begin.new.slots _ (length c.split_at_mut-own.result.0.now - length (signature_at c.args.entry.now.object c.args.entry.now.function).params)
    c.begin.ensures refl (counted g c)

pub run_code-requires-clause-begins : goal.run_code-requires-clause-begins
run_code-requires-clause-begins g c = (begun g (goal.at.run_code-requires-clause-begins g c).After-saturating_sub).begins

pub run_code-requires-clause-readable : goal.run_code-requires-clause-readable
run_code-requires-clause-readable g c =
    containers_there c.args.entry.now.object c.args.entry.now.function (takes g (goal.at.run_code-requires-clause-readable g c).After-saturating_sub)
    (reading_by c.args.reading.elements c.args.reading.pairs) (g.D.Data.means c.args.source.now) c.args.at.place c.args.at.pair
    c.requires.pairs c.requires.suits (take c.count_place-count.result c.count_place-count.new.out) c.args.reading.indices (c.args.reading.indices + c.saturating_sub.result)
    (placed g (goal.at.run_code-requires-clause-readable g c).After-saturating_sub) c.requires.indices (skipped g (goal.at.run_code-requires-clause-readable g c).After-saturating_sub)

pub returns-in-Ok-clause-value : goal.returns-in-Ok-clause-value
returns-in-Ok-clause-value g c cells agree =
    let at = (goal.at.returns-in-Ok-clause-value g c).After-saturating_sub in
    let fits : FitsSigned w64 c.in-Ok.value = search rules in
    ap (λ (x : ℤ). Ok x) (to_z-of_z w64 c.in-Ok.value fits)
    ∙ ap value_only (sym c.in-Ok.is ∙ c.run_code.ensures) ∙ (begun g at).value cells agree

pub returns-in-Ok-clause-range : goal.returns-in-Ok-clause-range
returns-in-Ok-clause-range g c =
    let at = (goal.at.returns-in-Ok-clause-range g c).After-saturating_sub in
    let entered = c.slot_count.ensures.entered in
    let fits : FitsSigned w64 c.in-Ok.value = search rules in
    subst (λ (x : ℤ). InRange (signature_at c.args.entry.now.object c.args.entry.now.function).ret x) (sym (to_z-of_z w64 c.in-Ok.value fits))
    (value-in_range c.args.entry.now.object entered.sound c.args.entry.now.function entered.there _ (begun g at).begins.suited c.in-Ok.value c.in-Ok.field-0-1 (sym c.run_code.ensures ∙ c.in-Ok.is))

pub returns-in-Err-clause-value : goal.returns-in-Err-clause-value
returns-in-Err-clause-value g c cells agree =
    let at = (goal.at.returns-in-Err-clause-value g c).After-saturating_sub in
    ap value_only (sym c.in-Err.is ∙ c.run_code.ensures) ∙ (begun g at).value cells agree
