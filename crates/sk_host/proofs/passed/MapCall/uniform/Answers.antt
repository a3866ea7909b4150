use Rattle.std.proofs.Common.{rules, ◌∙◌, ap, sym, ℤ, pos, Some, FitsSigned, w64, slice_index_or}
use Rattle.std.proofs.lemmas.Int.{to_z-of_z}
use Rattle.sk_base.specs.Arithmetic.{wrapped}
use Rattle.sk_base.specs.declared.number.Ty.{Ty}
use Rattle.sk_host.proofs.Given.{converted-at, converted-within}
use Rattle.sk_host.proofs.passed.MapCall.uniform.Goals as goal

pub kind_at-requires : goal.kind_at-requires
kind_at-requires c = (converted-within c.args.self.now.kinds.now c.args.self.now.uniforms.now c.args.k c.requires.there).0

pub bounds-self-k : goal.bounds-self-k
bounds-self-k c = (converted-within c.args.self.now.kinds.now c.args.self.now.uniforms.now c.args.k c.requires.there).1

pub returns : goal.returns
returns c =
    let value = slice_index_or c.args.self.now.uniforms.now c.args.k (pos 0) in
    let fits : FitsSigned w64 value = search rules in
    let result_fits : FitsSigned w64 c.convert.result = search rules in
    let within = (converted-within c.args.self.now.kinds.now c.args.self.now.uniforms.now c.args.k c.requires.there).1 in
    converted-at c.args.self.now.kinds.now c.args.self.now.uniforms.now c.args.k c.kind_at.result.now c.kind_at.ensures within
    ∙ ap (λ (x : ℤ). Some x)
    (ap (λ (t : Ty). wrapped t value) (sym c.kind_type.ensures) ∙ ap (wrapped c.kind_type.result) (sym (to_z-of_z w64 value fits))
    ∙ sym c.convert.ensures ∙ sym (to_z-of_z w64 c.convert.result result_fits))
