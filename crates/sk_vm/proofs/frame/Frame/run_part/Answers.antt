use Rattle.std.proofs.Common.{◌≡◌, ◌∙◌, ◌+◌, ◌≤◌, arith, Bool, length, ap, refl}
use Rattle.sk_isa.specs.Objects.{signature_at}
use Rattle.sk_kernel.specs.Instances.{function_meaning}
use Rattle.sk_kernel.specs.Kernels.{given_by}
use Rattle.sk_vm.specs.Frames.{Framed}
use Rattle.sk_vm.specs.Lent.{pair_at, place_at}
use Rattle.sk_vm.proofs.PlaceParts.{agree_part, part_done, part_range, part_trapped, suits_part}
use Rattle.sk_vm.proofs.frame.Frame.run_part.Goals as goal

pub run_block-requires-clause-suits : goal.run_block-requires-clause-suits
run_block-requires-clause-suits g c =
    let pairs : c.run_block.inside.pairs ≡ c.args.self.now.reading.pairs = ap (λ (f : Framed). f.reading.pairs) c.run_block.view_is in
    let size : length c.split_at_mut-block.result.0.now ≡ c.args.count = c.split_at_mut-block.ensures.front_len in
    let within : c.args.done + length c.split_at_mut-block.result.0.now ≤ length c.args.out.now = omega arith in
    suits_part (function_meaning c.args.object.now c.args.self.now.function c.args.self.now.reading) (g.D.Data.means c.args.source.now) c.args.at.place c.args.at.pair (length c.args.out.now)
    c.args.done (length c.split_at_mut-block.result.0.now) c.place_behind.result.place c.place_behind.result.pair within
    (c.place_behind.ensures.place ∙ ap (λ (p : Bool). place_at p c.args.at.place c.args.done) pairs)
    (c.place_behind.ensures.pair ∙ ap (λ (p : Bool). pair_at p c.args.at.pair c.args.done) pairs) c.requires.suits

pub overflow_add-result : goal.overflow_add-result
overflow_add-result g c =
    let size : length c.split_at_mut-block.result.0.now ≡ c.args.count = c.split_at_mut-block.ensures.front_len in
    record { fits = omega (arith, c.in-Err.ensures.inside) }

pub returns-in-Ok-clause-values : goal.returns-in-Ok-clause-values
returns-in-Ok-clause-values g c cells agree =
    let pairs : c.run_block.inside.pairs ≡ c.args.self.now.reading.pairs = ap (λ (f : Framed). f.reading.pairs) c.run_block.view_is in
    let meaning = function_meaning c.args.object.now c.args.self.now.function c.args.self.now.reading in
    let source = g.D.Data.means c.args.source.now in
    let size : length c.split_at_mut-block.result.0.now ≡ c.args.count = c.split_at_mut-block.ensures.front_len in
    let first = c.place_behind.ensures.place ∙ ap (λ (p : Bool). place_at p c.args.at.place c.args.done) pairs in
    let second = c.place_behind.ensures.pair ∙ ap (λ (p : Bool). pair_at p c.args.at.pair c.args.done) pairs in
    let within : c.args.done + length c.split_at_mut-block.result.0.now ≤ length c.args.out.now = omega arith in
    part_done meaning source c.args.at.place c.args.at.pair (length c.args.out.now) c.args.done c.args.count c.place_behind.result.place c.place_behind.result.pair c.requires.within first second
    c.split_at_mut-rest.result.0.now c.run_block-2.new.out c.split_at_mut-block.result.1.now _ c.split_at_mut-rest.ensures.front_len (c.in-Ok.ensures.count ∙ size) refl
    (given_by source cells)
    (c.in-Ok.ensures.values cells
    (agree_part meaning source c.args.at.place c.args.at.pair (length c.args.out.now) c.args.done (length c.split_at_mut-block.result.0.now) c.place_behind.result.place c.place_behind.result.pair within first second cells agree))

pub returns-in-Ok-clause-range : goal.returns-in-Ok-clause-range
returns-in-Ok-clause-range g c =
    let pairs : c.run_block.inside.pairs ≡ c.args.self.now.reading.pairs = ap (λ (f : Framed). f.reading.pairs) c.run_block.view_is in
    let size : length c.split_at_mut-block.result.0.now ≡ c.args.count = c.split_at_mut-block.ensures.front_len in
    let first = c.place_behind.ensures.place ∙ ap (λ (p : Bool). place_at p c.args.at.place c.args.done) pairs in
    let second = c.place_behind.ensures.pair ∙ ap (λ (p : Bool). pair_at p c.args.at.pair c.args.done) pairs in
    part_range (function_meaning c.args.object.now c.args.self.now.function c.args.self.now.reading) (g.D.Data.means c.args.source.now) c.args.at.place c.args.at.pair (length c.args.out.now)
    c.args.done c.args.count c.place_behind.result.place c.place_behind.result.pair c.requires.within first second
    c.split_at_mut-rest.result.0.now c.run_block-2.new.out c.split_at_mut-block.result.1.now _ c.split_at_mut-rest.ensures.front_len (c.in-Ok.ensures.count ∙ size) refl
    (signature_at c.args.object.now c.args.self.now.function).ret c.in-Ok.ensures.range

pub returns-in-Err-clause-values : goal.returns-in-Err-clause-values
returns-in-Err-clause-values g c cells agree =
    let pairs : c.run_block.inside.pairs ≡ c.args.self.now.reading.pairs = ap (λ (f : Framed). f.reading.pairs) c.run_block.view_is in
    let meaning = function_meaning c.args.object.now c.args.self.now.function c.args.self.now.reading in
    let source = g.D.Data.means c.args.source.now in
    let size : length c.split_at_mut-block.result.0.now ≡ c.args.count = c.split_at_mut-block.ensures.front_len in
    let first = c.place_behind.ensures.place ∙ ap (λ (p : Bool). place_at p c.args.at.place c.args.done) pairs in
    let second = c.place_behind.ensures.pair ∙ ap (λ (p : Bool). pair_at p c.args.at.pair c.args.done) pairs in
    let within : c.args.done + length c.split_at_mut-block.result.0.now ≤ length c.args.out.now = omega arith in
    part_trapped meaning source c.args.at.place c.args.at.pair (length c.args.out.now) c.args.done c.args.count c.place_behind.result.place c.place_behind.result.pair c.requires.within first second
    c.split_at_mut-rest.result.0.now c.run_block-2.new.out c.split_at_mut-block.result.1.now _ c.split_at_mut-rest.ensures.front_len (c.in-Err.ensures.count ∙ size) refl
    (given_by source cells) c.in-Err.trapped (c.args.done + c.in-Err.trapped.offset) refl
    (c.in-Err.ensures.values cells
    (agree_part meaning source c.args.at.place c.args.at.pair (length c.args.out.now) c.args.done (length c.split_at_mut-block.result.0.now) c.place_behind.result.place c.place_behind.result.pair within first second cells agree))
