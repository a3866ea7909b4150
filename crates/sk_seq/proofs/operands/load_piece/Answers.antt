use Rattle.std.proofs.Common.{◌≡◌, ◌∙◌, ◌-◌, ◌+◌, ◌<◌, ℕ, List, ◌++◌, ℤ, pos, length, ap, sym, subst, arith}
use Rattle.std.specs.Prelude.{Some, IsSome, slice_index_or}
use Rattle.std.proofs.lemmas.List.{get_or_append_left, get_or-append_right}
use Rattle.std.proofs.lemmas.Option.{slice_get-get_or}
use Rattle.sk_seq.proofs.operands.load_piece.Goals as goal

pub column-piece-requires-clause-held : goal.column-piece-requires-clause-held
column-piece-requires-clause-held g c index from less =
    let size = c.split_at_mut-rest.ensures.back_len in
    let back : c.args.first + (index - c.args.first) ≡ index = omega arith in
    let within : index - c.args.first < length c.args.out.now = omega (arith, size) in
    subst (λ (n : ℕ). IsSome ((g.D.Data.means c.args.source.now).held 0 n)) back (c.requires.held (index - c.args.first) within)

pub returns-clause-cells : goal.returns-clause-cells
returns-clause-cells g c behind from less =
    let piece = c.column-piece.result.now in
    let size = c.split_at_mut-rest.ensures.front_len in
    let copied : c.copy_from_slice.new.self ≡ piece = c.copy_from_slice.ensures.after in
    let long : length c.copy_from_slice.new.self ≡ length piece = ap length copied in
    let small : behind - c.args.done < length piece = omega arith in
    let there : behind - c.args.done < length c.copy_from_slice.new.self = omega arith in
    let back : c.args.first + behind ≡ c.args.first + c.args.done + (behind - c.args.done) = omega arith in
    ap (λ (n : ℕ). (g.D.Data.means c.args.source.now).held 0 n) back
    ∙ c.column-piece.ensures.cells (behind - c.args.done) small
    ∙ slice_get-get_or piece (behind - c.args.done) (pos 0) small
    ∙ ap (λ (xs : List ℤ). Some (slice_index_or xs (behind - c.args.done) (pos 0))) (sym copied)
    ∙ ap Some (sym (get_or-append_right c.split_at_mut-rest.result.0.now (c.copy_from_slice.new.self ++ c.split_at_mut-place.result.1.now) c.args.done behind (pos 0) size from
    ∙ get_or_append_left c.copy_from_slice.new.self c.split_at_mut-place.result.1.now (pos 0) (behind - c.args.done) there))
