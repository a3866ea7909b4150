use Rattle.std.proofs.Common.{◌≡◌, List, Ok, Err, subst}
use Rattle.std.specs.Prelude.{◌≢◌, IfOk, IfErr}
use Rattle.sk_data.specs.Held.{Held, IsGivenBy}
use Rattle.sk_data.specs.Records.{Record, given_to}
use Rattle.sk_data.specs.declared.fault.InputFault.TheVariants.{Memory}
use Rattle.sk_data.proofs.Slots.{finish-ok, finish-err}
use Rattle.sk_data.proofs.inputs.Inputs.finish.Goals as goal

pub returns-clause-given : goal.returns-clause-given
returns-clause-given c =
    let inside : Held = record { declared = c.self.inside.declared.now; given = c.self.inside.given.items } in
    let same : inside ≡ c.args.self = cc (c.self.view_is) in
    let P : Held → Type 0 = λ h. IfOk c.all_given.result (λ given. (all : List Record) → IsGivenBy all h → given_to all h.declared ≡ Ok given.items) in
    subst P same (finish-ok (λ made. made.items) inside c.all_given.result c.all_given.ensures.given)

pub returns-clause-absent : goal.returns-clause-absent
returns-clause-absent c =
    let inside : Held = record { declared = c.self.inside.declared.now; given = c.self.inside.given.items } in
    let same : inside ≡ c.args.self = cc (c.self.view_is) in
    let P : Held → Type 0 = λ h. IfErr c.all_given.result (λ told. told ≢ Memory → (all : List Record) → IsGivenBy all h → given_to all h.declared ≡ Err told) in
    subst P same (finish-err inside c.all_given.result c.all_given.ensures.absent)
