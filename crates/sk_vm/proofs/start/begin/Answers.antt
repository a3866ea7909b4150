use Rattle.std.proofs.Common.{◌≡◌, ◌∙◌, ◌++◌, ◌-◌, ◌+◌, ◌≤◌, ap, sym, subst, arith, ℕ, ℤ, List, length, map, pos, replicate}
use Rattle.sk_arguments.specs.Arguments.{arguments_of}
use Rattle.sk_isa.specs.Objects.{signature_at}
use Rattle.sk_meaning.specs.Evaluation.{number_in}
use Rattle.sk_tree.specs.declared.tree.ParamKind.{ParamKind}
use Rattle.sk_vm.specs.Frames.{reading_by}
use Rattle.sk_vm.specs.Surroundings.{CanRead, held_by, taken_by}
use Rattle.sk_vm.proofs.Begun.{readable}
use Rattle.sk_vm.proofs.Calls.{params_fit}
use Rattle.sk_vm.proofs.Given.{places_only}
use Rattle.sk_vm.proofs.start.begin.Goals as goal

pub split_at_mut-numbers-requires : goal.split_at_mut-numbers-requires
split_at_mut-numbers-requires g c =
    let entered = c.params-params.ensures.entered in
    let fit = params_fit c.args.entry.now.object entered.sound c.args.entry.now.function entered.there in
    let count : length c.params-params.result.now ≡ length (signature_at c.args.entry.now.object c.args.entry.now.function).params = ap length c.params-params.ensures.params in
    let size = c.requires.count in
    omega arith

pub read-requires : goal.read-requires
read-requires g c =
    let entered = c.params-params.ensures.entered in
    let only = places_only c.args.entry.now.object entered.sound entered.parameters c.args.entry.now.function entered.there in
    let few = only.1 in
    let count : length c.params-params.result.now ≡ length (signature_at c.args.entry.now.object c.args.entry.now.function).params = ap length c.params-params.ensures.params in
    record {
      count = c.split_at_mut-numbers.ensures.front_len;
      operands = omega arith;
      uniforms = omega arith;
      there =
          subst (λ (kinds : List ParamKind). CanRead (g.D.Data.means c.args.source.now) (reading_by c.args.reading.elements c.args.reading.pairs) (record { place = c.args.at.place; pair = c.args.at.pair })
          (record { elements = c.args.reading.elements; operands = 0; uniforms = 0 }) kinds) (sym c.params-params.ensures.params)
          (readable c.args.entry.now.object c.args.entry.now.function only.0 (reading_by c.args.reading.elements c.args.reading.pairs) (g.D.Data.means c.args.source.now) c.args.at.place c.args.at.pair
          c.requires.pairs c.requires.suits);
    }

pub returns : goal.returns
returns g c =
    let reading = reading_by c.args.reading.elements c.args.reading.pairs in
    let given = held_by (g.D.Data.means c.args.source.now) in
    let params = (signature_at c.args.entry.now.object c.args.entry.now.function).params in
    let count : length c.params-params.result.now ≡ length params = ap length c.params-params.ensures.params in
    let back = c.split_at_mut-numbers.ensures.back_len in
    let others : length c.split_at_mut-numbers.result.1.now ≡ length c.args.slots.now - length params = omega arith in
    ap (λ (xs : List ℤ). xs ++ c.clear.new.slots) c.read.ensures
    ∙ ap (λ (kinds : List ParamKind). map number_in (arguments_of reading kinds given (record { place = c.args.at.place; pair = c.args.at.pair })) ++ c.clear.new.slots) c.params-params.ensures.params
    ∙ ap (λ (xs : List ℤ). map number_in (arguments_of reading params given (record { place = c.args.at.place; pair = c.args.at.pair })) ++ xs) c.clear.ensures
    ∙ ap (λ (n : ℕ). map number_in (arguments_of reading params given (record { place = c.args.at.place; pair = c.args.at.pair })) ++ replicate n (pos 0)) others
