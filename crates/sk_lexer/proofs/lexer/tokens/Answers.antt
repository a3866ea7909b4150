use Rattle.std.proofs.Common.{◌∙◌, ℕ, ◌+◌, ◌++◌, ◌∷◌, [], refl, sym, subst, ap, arith}
use Rattle.std.proofs.lemmas.List.{take_rest}
use Rattle.sk_tokens.specs.declared.token.Token.{Token}
use Rattle.sk_lexer.specs.declared.place.Place.{Place}
use Rattle.sk_lexer.specs.declared.piece.Piece.TheVariants as code
use Rattle.sk_token_laws.proofs.Progress.{HasLexed, HasLexed-none, HasLexed-passed, HasLexed-found, bytes_within, found_within}
use Rattle.sk_lexer.proofs.Reached.{piece_at-place, IsPast-fold, length-front}
use Rattle.sk_lexer.proofs.lexer.tokens.Goals as goal

pub loop-place-init : goal.loop-place-init
loop-place-init c = (rw c.new-tokens.ensures.items (HasLexed-none c.args.text.now), refl)

pub slice_bounds-past-end : goal.slice_bounds-past-end
slice_bounds-past-end c =
    let text = c.args.text.now in
    let place = c.loop-place.place in
    let rest = take_rest text place.at in
    let told = c.in_ok-piece.ensures {u = tt} in
    let here = piece_at-place text _ place c.in_ok-piece.piece (code.Passed c.in-Passed.bytes) rest c.loop-place.invariant.1 told c.in-Passed.is in
    let within = bytes_within text place.at c.in-Passed.bytes _ c.loop-place-test.true here in
    length-front text _ place.at c.in-Passed.bytes rest within.1

pub loop-place-preserved-in-Passed : goal.loop-place-preserved-in-Passed
loop-place-preserved-in-Passed c =
    let text = c.args.text.now in
    let place = c.loop-place.place in
    let rest = take_rest text place.at in
    let told = c.in_ok-piece.ensures {u = tt} in
    let here = piece_at-place text _ place c.in_ok-piece.piece (code.Passed c.in-Passed.bytes) rest c.loop-place.invariant.1 told c.in-Passed.is in
    let within = bytes_within text place.at c.in-Passed.bytes _ c.loop-place-test.true here in
    let past = IsPast-fold text _ place c.past-place.result c.in-Passed.bytes rest c.loop-place.invariant.1 within.1 c.past-place.ensures in
    let lexed = HasLexed-passed text place.at c.in-Passed.bytes c.loop-place.tokens.items c.loop-place.invariant.0 c.loop-place-test.true here in
    (subst (λ at. HasLexed text at c.loop-place.tokens.items) (sym past.at) lexed, past.stands)

pub loop-place-smaller-in-Passed : goal.loop-place-smaller-in-Passed
loop-place-smaller-in-Passed c =
    let text = c.args.text.now in
    let place = c.loop-place.place in
    let rest = take_rest text place.at in
    let told = c.in_ok-piece.ensures {u = tt} in
    let here = piece_at-place text _ place c.in_ok-piece.piece (code.Passed c.in-Passed.bytes) rest c.loop-place.invariant.1 told c.in-Passed.is in
    let within = bytes_within text place.at c.in-Passed.bytes _ c.loop-place-test.true here in
    let past = IsPast-fold text _ place c.past-place.result c.in-Passed.bytes rest c.loop-place.invariant.1 within.1 c.past-place.ensures in
    omega (arith, within.0, within.1, past.at)

pub slice_bounds-past-end-in-Found : goal.slice_bounds-past-end-in-Found
slice_bounds-past-end-in-Found c =
    let text = c.args.text.now in
    let place = c.loop-place.place in
    let rest = take_rest text place.at in
    let told = c.in_ok-piece.ensures {u = tt} in
    let here = piece_at-place text _ place c.in_ok-piece.piece (code.Found c.in-Found.bytes c.in-Found.what) rest c.loop-place.invariant.1 told c.in-Found.is in
    let within = found_within text place.at c.in-Found.bytes c.in-Found.what _ c.loop-place-test.true here in
    length-front text _ place.at c.in-Found.bytes rest within.1

pub loop-place-preserved : goal.loop-place-preserved
loop-place-preserved c =
    let text = c.args.text.now in
    let place = c.loop-place.place in
    let rest = take_rest text place.at in
    let told = c.in_ok-piece.ensures {u = tt} in
    let here = piece_at-place text _ place c.in_ok-piece.piece (code.Found c.in-Found.bytes c.in-Found.what) rest c.loop-place.invariant.1 told c.in-Found.is in
    let within = found_within text place.at c.in-Found.bytes c.in-Found.what _ c.loop-place-test.true here in
    let past = IsPast-fold text _ place c.past-place-in-Found.result c.in-Found.bytes rest c.loop-place.invariant.1 within.1 c.past-place-in-Found.ensures in
    let lexed = HasLexed-found text place.at c.in-Found.bytes c.in-Found.what c.loop-place.tokens.items c.loop-place.invariant.0 c.loop-place-test.true here in
    let pushed = c.in_ok-push-in-Found.ensures {u = tt} in
    let line = ap (λ (p : Place). p.line) c.loop-place.invariant.1 in
    let token : ℕ → Token = λ line. record { what = c.in-Found.what; line = line } in
    let all = ap (λ line. c.loop-place.tokens.items ++ (token line ∷ [])) (sym line) ∙ sym pushed.items in
    (subst (λ at. HasLexed text at c.push.new.self.items) (sym past.at) (subst (λ items. HasLexed text (place.at + c.in-Found.bytes) items) all lexed), past.stands)

pub loop-place-smaller : goal.loop-place-smaller
loop-place-smaller c =
    let text = c.args.text.now in
    let place = c.loop-place.place in
    let rest = take_rest text place.at in
    let told = c.in_ok-piece.ensures {u = tt} in
    let here = piece_at-place text _ place c.in_ok-piece.piece (code.Found c.in-Found.bytes c.in-Found.what) rest c.loop-place.invariant.1 told c.in-Found.is in
    let within = found_within text place.at c.in-Found.bytes c.in-Found.what _ c.loop-place-test.true here in
    let past = IsPast-fold text _ place c.past-place-in-Found.result c.in-Found.bytes rest c.loop-place.invariant.1 within.1 c.past-place-in-Found.ensures in
    omega (arith, within.0, within.1, past.at)
