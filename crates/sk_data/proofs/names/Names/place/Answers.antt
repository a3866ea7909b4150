use Rattle.std.proofs.Common.{◌≡◌, sym, ap, ◌∙◌, map}
use Rattle.std.specs.Prelude.{position}
use Rattle.sk_data.specs.Records.{same_name}
use Rattle.sk_data.proofs.Places.{position-map}
use Rattle.sk_data.proofs.names.Names.place.Goals as goal

pub returns : goal.returns
returns c =
    let keys : map (λ key. key.now) c.self.inside.names.keys ≡ c.args.self.now = cc (c.self.view_is) in
    c.get_index_of.ensures.index ∙ sym (position-map (same_name c.args.name.now) (λ key. key.now) c.self.inside.names.keys)
    ∙ ap (position (same_name c.args.name.now)) keys
