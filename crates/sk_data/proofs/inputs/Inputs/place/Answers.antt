use Rattle.std.proofs.Common.{◌≡◌, ap, ◌∙◌}
use Rattle.std.specs.Prelude.{position}
use Rattle.sk_data.specs.RecordText.{fields_of, most_of}
use Rattle.sk_data.specs.Held.{Held}
use Rattle.sk_data.specs.Records.{is_named}
use Rattle.sk_data.proofs.Places.{place_named}
use Rattle.sk_data.proofs.Short.{name_short, short_some}
use Rattle.sk_data.proofs.inputs.Inputs.place.Goals as goal

pub returns-in-None : goal.returns-in-None
returns-in-None c = name_short c.args.self.now.declared (most_of c.args.fields.now) (fields_of c.args.fields.now) c.requires (rw c.in-None.is at c.name.ensures)

pub returns-in-Some : goal.returns-in-Some
returns-in-Some c =
    let found = short_some (most_of c.args.fields.now) (fields_of c.args.fields.now) 0 c.in-Some.name.now (rw c.in-Some.is at c.name.ensures) in
    let same : c.self.inside.declared.now ≡ c.args.self.now.declared = cc (ap (λ (h : Held). h.declared) c.self.view_is) in
    place_named c.self.inside.declared.now c.self.inside.names (fields_of c.args.fields.now) c.in-Some.name.now c.place.result c.self.invariant.0 found c.place.ensures
    ∙ ap (position (λ input. is_named input.name (fields_of c.args.fields.now))) same
