use Rattle.std.proofs.Common.{◌≡◌, ◌∙◌, ◌+◌, ◌-◌, ◌<◌, arith, true, pos, ℕ, List, length, ap, subst, subst₂, sym, slice_index_or}
use Rattle.std.proofs.lemmas.List.Elements.{All-from_get_or}
use Rattle.sk_arguments.specs.Arguments.{Reading}
use Rattle.sk_base.specs.Arithmetic.{InRange}
use Rattle.sk_columns.specs.Blocks.{Gives}
use Rattle.sk_isa.specs.Objects.{signature_at}
use Rattle.sk_isa.specs.declared.code.Instr.{Instr}
use Rattle.sk_kernel.specs.Instances.{function_meaning}
use Rattle.sk_kernel.specs.Kernels.{AgreeRun, SuitsRun}
use Rattle.sk_tree.specs.Parameters.{index_dimension}
use Rattle.sk_vm.specs.Frames.{CountsPlaces, Framed, reading_by}
use Rattle.sk_vm.specs.Lent.{begun_at, lent_at}
use Rattle.sk_vm.specs.Places.{count_of, indices_in}
use Rattle.sk_vm.specs.Rooms.{instrs_at, slots_at}
use Rattle.sk_vm.proofs.Evaluated.{AllEvaluated, all_evaluated, lends}
use Rattle.sk_vm.proofs.Calls.{params_fit}
use Rattle.sk_vm.proofs.Given.{places_only}
use Rattle.sk_vm.proofs.Places.{indices_few}
use Rattle.sk_vm.proofs.frame.Frame.evaluate_block.Given.{Over}
use Rattle.sk_vm.proofs.frame.Frame.evaluate_block.Goals as goal
use Rattle.sk_vm.proofs.frame.Frame.evaluate_block.Goals.{After-evaluate}

pub overflow_cast-lent-3 : goal.overflow_cast-lent-3
overflow_cast-lent-3 g c =
    let entered = c.requires.room.entered in
    let few = (places_only c.args.object.now entered.sound entered.parameters c.args.self.now.function entered.there).1 in
    let count : c.param_count.result ≡ length (signature_at c.args.object.now c.args.self.now.function).params =
    c.param_count.ensures ∙ ap (λ (f : Framed). length (signature_at c.args.object.now f.function).params) c.self.view_is in
    record { fits = omega arith }

pub overflow_sub-lent-2 : goal.overflow_sub-lent-2
overflow_sub-lent-2 g c =
    let entered = c.requires.room.entered in
    let params = (signature_at c.args.object.now c.args.self.now.function).params in
    let indices : c.count_of-indices.result ≡ indices_in params = c.count_of-indices.ensures ∙ ap count_of (ap (λ (f : Framed). f.index) c.self.view_is ∙ c.requires.room.index) in
    let few = indices_few params in
    let enough = params_fit c.args.object.now entered.sound c.args.self.now.function entered.there in
    let size : c.slot_count.result ≡ slots_at c.args.object.now.functions c.args.self.now.function =
    c.slot_count.ensures.count ∙ ap (λ (f : Framed). slots_at c.args.object.now.functions f.function) c.self.view_is in
    omega arith

pub evaluate-requires : goal.evaluate-requires
evaluate-requires g c =
    let entered = c.requires.room.entered in
    let inside = c.self.inside in
    let params = (signature_at c.args.object.now c.args.self.now.function).params in
    let indices : c.count_of-indices.result ≡ indices_in params = c.count_of-indices.ensures ∙ ap count_of (ap (λ (f : Framed). f.index) c.self.view_is ∙ c.requires.room.index) in
    let count : c.param_count.result ≡ length params =
    c.param_count.ensures ∙ ap (λ (f : Framed). length (signature_at c.args.object.now f.function).params) c.self.view_is in
    let scalars : c.param_count.result - c.count_of-indices.result ≡ length params - indices_in params =
    ap (λ (n : ℕ). n - c.count_of-indices.result) count ∙ ap (λ (n : ℕ). length params - n) indices in
    let counts : CountsPlaces (index_dimension params) inside.pairs =
    subst₂ CountsPlaces c.requires.room.index (sym (ap (λ (f : Framed). f.reading.pairs) c.self.view_is)) c.requires.counts in
    let reading : c.args.self.now.reading ≡ reading_by inside.elements inside.pairs = sym (ap (λ (f : Framed). f.reading) c.self.view_is) in
    let suits = subst (λ (r : Reading). SuitsRun (function_meaning c.args.object.now c.args.self.now.function r) (g.D.Data.means c.args.source.now) c.args.at.place c.args.at.pair (length c.args.out.now)) reading c.requires.suits in
    record {
      lends = λ behind less k small.
          lends c.args.object.now entered.sound c.args.self.now.function entered.there c.requires.columns inside.elements inside.pairs counts (g.D.Data.means c.args.source.now)
          c.args.at.place c.args.at.pair (length c.args.out.now) suits behind less k (subst (λ (n : ℕ). k < n) scalars small);
    }

evaluated : (g : Over) (c : After-evaluate g) → c.evaluate.result ≡ true
    → AllEvaluated (function_meaning c.args.object.now c.args.self.now.function c.args.self.now.reading) (g.D.Data.means c.args.source.now) c.args.at.place c.args.at.pair c.evaluate.new.out
evaluated g c done =
    let entered = c.requires.room.entered in
    let inside = c.self.inside in
    let source = g.D.Data.means c.args.source.now in
    let params = (signature_at c.args.object.now c.args.self.now.function).params in
    let indices : c.count_of-indices.result ≡ indices_in params = c.count_of-indices.ensures ∙ ap count_of (ap (λ (f : Framed). f.index) c.self.view_is ∙ c.requires.room.index) in
    let count : c.param_count.result ≡ length params =
    c.param_count.ensures ∙ ap (λ (f : Framed). length (signature_at c.args.object.now f.function).params) c.self.view_is in
    let scalars : c.param_count.result - c.count_of-indices.result ≡ length params - indices_in params =
    ap (λ (n : ℕ). n - c.count_of-indices.result) count ∙ ap (λ (n : ℕ). length params - n) indices in
    let counts : CountsPlaces (index_dimension params) inside.pairs =
    subst₂ CountsPlaces c.requires.room.index (sym (ap (λ (f : Framed). f.reading.pairs) c.self.view_is)) c.requires.counts in
    let size : length c.evaluate.new.out ≡ length c.args.out.now = c.evaluate.auto.out in
    let instrs : c.instrs.result.now ≡ instrs_at c.args.object.now.functions c.args.self.now.function =
    c.instrs.ensures.instrs ∙ ap (λ (f : Framed). instrs_at c.args.object.now.functions f.function) c.self.view_is in
    let size_of : c.slot_count.result - c.count_of-indices.result ≡ slots_at c.args.object.now.functions c.args.self.now.function - indices_in params =
    ap (λ (n : ℕ). n - c.count_of-indices.result) (c.slot_count.ensures.count ∙ ap (λ (f : Framed). slots_at c.args.object.now.functions f.function) c.self.view_is)
    ∙ ap (λ (n : ℕ). slots_at c.args.object.now.functions c.args.self.now.function - n) indices in
    let reading : reading_by inside.elements inside.pairs ≡ c.args.self.now.reading = ap (λ (f : Framed). f.reading) c.self.view_is in
    let suits : SuitsRun (function_meaning c.args.object.now c.args.self.now.function (reading_by inside.elements inside.pairs)) source c.args.at.place c.args.at.pair (length c.evaluate.new.out) =
    subst (λ (r : Reading). SuitsRun (function_meaning c.args.object.now c.args.self.now.function r) source c.args.at.place c.args.at.pair (length c.evaluate.new.out)) (sym reading)
    (subst (λ (n : ℕ). SuitsRun (function_meaning c.args.object.now c.args.self.now.function c.args.self.now.reading) source c.args.at.place c.args.at.pair n) (sym size) c.requires.suits) in
    subst (λ (r : Reading). AllEvaluated (function_meaning c.args.object.now c.args.self.now.function r) source c.args.at.place c.args.at.pair c.evaluate.new.out) reading
    (all_evaluated c.args.object.now entered.sound c.args.self.now.function entered.there c.requires.columns inside.elements inside.pairs counts source c.args.at.place c.args.at.pair c.evaluate.new.out suits
    (λ behind less.
    subst₂ (λ (is : List Instr) (m : ℕ). Gives is
    (begun_at m (length params - indices_in params) (slots_at c.args.object.now.functions c.args.self.now.function - indices_in params) (c.args.at.place + behind)
    (lent_at source inside.elements inside.pairs c.args.at.place c.args.at.pair (length params - indices_in params) behind))
    (slice_index_or c.evaluate.new.out behind (pos 0))) instrs indices
    (subst₂ (λ (n m : ℕ). Gives c.instrs.result.now
    (begun_at c.count_of-indices.result n m (c.args.at.place + behind)
    (lent_at source inside.elements inside.pairs c.args.at.place c.args.at.pair n behind))
    (slice_index_or c.evaluate.new.out behind (pos 0))) scalars size_of
    (c.evaluate.ensures done behind (subst (λ (n : ℕ). behind < n) size less)))))

pub returns-clause-values : goal.returns-clause-values
returns-clause-values g c done cells agree =
    let at = (goal.at.returns-clause-values g c).After-evaluate in
    (evaluated g at done).values cells
    (subst (λ (n : ℕ). AgreeRun (function_meaning c.args.object.now c.args.self.now.function c.args.self.now.reading) (g.D.Data.means c.args.source.now) c.args.at.place c.args.at.pair n cells)
    (sym c.evaluate.auto.out) agree)

pub returns-clause-range : goal.returns-clause-range
returns-clause-range g c done =
    let at = (goal.at.returns-clause-range g c).After-evaluate in
    All-from_get_or (InRange (signature_at c.args.object.now c.args.self.now.function).ret) c.evaluate.new.out (pos 0) (evaluated g at done).range
