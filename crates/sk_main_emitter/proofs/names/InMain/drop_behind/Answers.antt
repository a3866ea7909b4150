use Rattle.std.proofs.Common.{◌≡◌, ◌∙◌, ◌-◌, ◌++◌, List, ap, sym, length, drop, take, rules}
use Rattle.std.proofs.lemmas.List.{length-map}
use Rattle.std.specs.List.{flat_map}
use Rattle.sk_main_scheme.specs.MainScheme.{Around, dropped}
use Rattle.sk_main_emitter.specs.Names.{drop_code, in_order, named_of, named_in}
use Rattle.sk_main_emitter.specs.declared.named.Named.{Named}
use Rattle.sk_main_emitter.proofs.NameLemmas.{order_dropped}
use Rattle.sk_main_emitter.proofs.names.InMain.drop_behind.Goals as goal

pub returns : goal.returns
returns c =
    let old = c.args.code.now.items in
    let scope = c.self.inside.scope in
    let depth = c.args.depth in
    let declared : c.as_slice.result.now ≡ in_order scope = search rules in
    c.in_ok-drop_all.ensures
    ∙ ap (λ (l : List Named). old ++ flat_map drop_code l) (c.behind.ensures ∙ ap (drop depth) declared)
    ∙ ap (λ l. old ++ l) (order_dropped scope depth)
    ∙ ap (λ n. old ++ dropped (take (n - depth) (named_in scope))) (sym (length-map scope (λ binding. (binding.0, named_of binding.1))))
    ∙ ap (λ (around : Around). old ++ dropped (take (length around.scope - depth) around.scope)) c.self.view_is
