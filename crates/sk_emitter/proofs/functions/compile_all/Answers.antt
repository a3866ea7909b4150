use Rattle.std.proofs.Common.{◌≡◌, ◌∙◌, ◌+◌, ◌++◌, ℕ, List, ◌∷◌, suc, drop, ap, sym, arith, add-one}
use Rattle.sk_tree.specs.declared.tree.Function.{Function}
use Rattle.sk_scheme.specs.Scheme.{Known, Around, known_of, known_after, codes_after, signatures_after, code_of, signature_of}
use Rattle.sk_emitter.proofs.Lists.{left_cons, appended_more}
use Rattle.sk_emitter.proofs.functions.compile_all.Goals as goal

pub loop-i-preserved : goal.loop-i-preserved
loop-i-preserved c =
    let i = c.loop-i.i in
    let function = c.index-functions-i.result in
    let rest = drop (i + 1) c.args.functions.now in
    let old = c.loop-i.made in
    let made = c.in_ok-made.made in
    let before = old.names.functions in
    let known : List (List ℕ × Known) = (function.name, known_of i function) ∷ before in
    let first : drop i c.args.functions.now ≡ function ∷ rest =
    left_cons c.args.functions.now i function (omega arith) c.index-functions-i.is in
    let behind : made.names.functions ≡ known =
    ap (λ (around : Around). around.functions) c.in_ok-made.ensures.names
    ∙ ap (λ (n : ℕ). (function.name, known_of n function) ∷ before) c.in_ok-address.ensures in (
      ap (λ (around : Around). around.scope) c.in_ok-made.ensures.names,
      ap (λ n. known_after n made.names.functions rest) (add-one i) ∙ ap (λ k. known_after (suc i) k rest) behind
          ∙ ap (λ (l : List Function). known_after i before l) (sym first) ∙ c.loop-i.invariant.1,
      appended_more old.codes made.codes (codes_after (suc i) known rest) (codes_after (i + 1) made.names.functions rest) (code_of before function)
          c.in_ok-made.ensures.codes
          (ap (λ n. codes_after n made.names.functions rest) (add-one i) ∙ ap (λ k. codes_after (suc i) k rest) behind)
          ∙ ap (λ (l : List Function). old.codes ++ codes_after i before l) (sym first) ∙ c.loop-i.invariant.2,
      appended_more old.signatures made.signatures (signatures_after (suc i) known rest) (signatures_after (i + 1) made.names.functions rest)
          (signature_of before function) c.in_ok-made.ensures.signatures
          (ap (λ n. signatures_after n made.names.functions rest) (add-one i) ∙ ap (λ k. signatures_after (suc i) k rest) behind)
          ∙ ap (λ (l : List Function). old.signatures ++ signatures_after i before l) (sym first) ∙ c.loop-i.invariant.3,
    )
